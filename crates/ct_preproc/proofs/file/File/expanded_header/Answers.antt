use Rattle.std.proofs.Common.{rules, false, ◌≡◌, Some, None, sym, ap}
use Rattle.std.specs.Prelude.{Ok, Err}
use Rattle.ct_directive.specs.declared.faults.PreKind.TheVariants as pre
use Rattle.ct_directive.specs.Forms.{quoted_header}
use Rattle.ct_preproc.specs.Reading as spec
use Rattle.ct_preproc.proofs.Choices.{on_next}
use Rattle.ct_preproc.proofs.Replacing.{on_fault}
use Rattle.ct_preproc.proofs.Stopping.{on_passed}
use Rattle.ct_preproc.proofs.file.File.expanded_header.Goals as goal

pub returns-in_err-expanded : goal.returns-in_err-expanded
returns-in_err-expanded c =
    on_passed c.from_residual.result c.in_err-expanded.field-0.0 (spec.Expands false c.args.self.now.place.now c.args.self.now.limit c.args.state c.args.tokens.now)
    (λ answer found. answer ≡ spec.quoted_answer c.args.self.now.place.now c.args.line found.1 (quoted_header found.0)) (search rules) c.in_err-expanded.ensures

pub returns-in-Some : goal.returns-in-Some
returns-in-Some c =
    let some : quoted_header c.in_ok-expanded.expanded ≡ Some c.in-Some.header = search rules in (
      Ok (c.in_ok-expanded.expanded, c.in_ok-expanded.state),
      c.in_ok-expanded.ensures,
      sym (ap (spec.quoted_answer c.args.self.now.place.now c.args.line c.in_ok-expanded.state) some),
    )

pub returns : goal.returns
returns c =
    let none : quoted_header c.in_ok-expanded.expanded ≡ None = search rules in
    on_next (spec.Expands false c.args.self.now.place.now c.args.self.now.limit c.args.state c.args.tokens.now) (c.in_ok-expanded.expanded, c.in_ok-expanded.state) (Err c.fault.result)
    (λ found answer. answer ≡ spec.quoted_answer c.args.self.now.place.now c.args.line found.1 (quoted_header found.0)) c.in_ok-expanded.ensures
    (on_fault c.fault.result (spec.fault_at c.args.self.now.place.now c.args.line pre.BadDirective)
    (λ answer. answer ≡ spec.quoted_answer c.args.self.now.place.now c.args.line c.in_ok-expanded.state (quoted_header c.in_ok-expanded.expanded)) c.fault.ensures
    (sym (ap (spec.quoted_answer c.args.self.now.place.now c.args.line c.in_ok-expanded.state) none)))
