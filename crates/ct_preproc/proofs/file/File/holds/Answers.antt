use Rattle.std.proofs.Common.{rules, true, ◌≡◌}
use Rattle.ct_directive.specs.Forms as forms
use Rattle.ct_preproc.specs.Reading as spec
use Rattle.ct_preproc.proofs.Choices.{on_next, on_same}
use Rattle.ct_preproc.proofs.Stopping.{on_passed}
use Rattle.ct_preproc.proofs.file.File.holds.Goals as goal

pub returns : goal.returns
returns c =
    let words : c.as_slice-2.result.now ≡ forms.without_defined c.in_ok-expanded.state.macros c.in_ok-expanded.expanded = search rules in
    on_next (spec.Expands true c.args.self.now.place.now c.args.self.now.limit c.args.state (forms.without_defined c.args.state.macros c.args.tokens.now))
    (c.in_ok-expanded.expanded, c.in_ok-expanded.state) c.judged.result
    (λ found answer. spec.Judged c.args.self.now.place.now c.args.line found.1 (forms.without_defined found.1.macros found.0) answer)
    c.in_ok-expanded.ensures
    (on_same c.judged.result (λ tokens answer. spec.Judged c.args.self.now.place.now c.args.line c.in_ok-expanded.state tokens answer) c.as_slice-2.result.now
    (forms.without_defined c.in_ok-expanded.state.macros c.in_ok-expanded.expanded) words c.judged.ensures)

pub returns-in_err-expanded : goal.returns-in_err-expanded
returns-in_err-expanded c =
    on_passed c.from_residual.result c.in_err-expanded.field-0.0
    (spec.Expands true c.args.self.now.place.now c.args.self.now.limit c.args.state (forms.without_defined c.args.state.macros c.args.tokens.now))
    (λ answer found. spec.Judged c.args.self.now.place.now c.args.line found.1 (forms.without_defined found.1.macros found.0) answer) (search rules) c.in_err-expanded.ensures
