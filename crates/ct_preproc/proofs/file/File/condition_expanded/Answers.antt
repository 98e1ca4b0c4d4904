use Rattle.std.proofs.Common.{rules, true, ◌≡◌}
use Rattle.ct_directive.specs.Forms as forms
use Rattle.ct_preproc.specs.Reading as spec
use Rattle.ct_preproc.proofs.Choices.{on_same}
use Rattle.ct_preproc.proofs.file.File.condition_expanded.Goals as goal

pub returns : goal.returns
returns c =
    let words : c.as_slice.result.now ≡ forms.without_defined c.args.state.macros c.args.tokens.now = search rules in
    on_same c.expanded.result (λ tokens answer. spec.Expands true c.args.self.now.place.now c.args.self.now.limit c.args.state tokens answer) c.as_slice.result.now
    (forms.without_defined c.args.state.macros c.args.tokens.now) words c.expanded.ensures
