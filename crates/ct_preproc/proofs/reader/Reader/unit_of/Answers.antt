use Rattle.std.proofs.Common.{rules, ◌≡◌}
use Rattle.std.specs.Prelude.{Ok}
use Rattle.ct_directive.specs.Headers.{built_in_headers}
use Rattle.ct_preproc.specs.Files.{ReadsFile, Enters}
use Rattle.ct_preproc.specs.Units as spec
use Rattle.ct_preproc.proofs.Stopping.{on_passed}
use Rattle.ct_preproc.proofs.reader.Reader.unit_of.Goals as goal

pub returns-in_err-state : goal.returns-in_err-state
returns-in_err-state g c =
    let search_in = c.args.self.now.search in
    on_passed c.from_residual.result c.in_err-state.field-0.0
    (ReadsFile (spec.most_tokens c.args.tool) (Enters (g.F.Finder.texts search_in.finder.now) search_in.folders.now search_in.heads.now built_in_headers (spec.most_tokens c.args.tool) (spec.most_includes c.args.tool))
    c.args.place.now c.args.text.now (spec.empty c.args.macros))
    (λ answer state. answer ≡ Ok (spec.unit_of state)) (search rules) c.in_err-state.ensures
