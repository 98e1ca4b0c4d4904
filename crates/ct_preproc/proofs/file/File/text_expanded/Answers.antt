use Rattle.std.proofs.Common.{rules, false, arith, ◌≡◌, ◌++◌}
use Rattle.std.specs.Prelude.{Ok}
use Rattle.std.proofs.lemmas.Grind.{common_steps}
use Rattle.ct_preproc.specs.Reading as spec
use Rattle.ct_preproc.proofs.Stopping.{on_passed}
use Rattle.ct_preproc.proofs.file.File.text_expanded.Goals as goal

pub returns-in_err-expanded : goal.returns-in_err-expanded
returns-in_err-expanded c =
    on_passed c.from_residual.result c.in_err-expanded.field-0.0 (spec.Expands false c.args.self.now.place.now c.args.self.now.limit c.args.state c.args.tokens.now)
    (λ answer found. answer ≡ Ok (record found.1 { tokens = found.1.tokens ++ found.0 })) (search rules) c.in_err-expanded.ensures

pub returns : goal.returns
returns c =
    (Ok (c.in_ok-expanded.expanded, c.in_ok-expanded.state), c.in_ok-expanded.ensures, first_of (search rules, cc, grind (arith, common_steps)))
