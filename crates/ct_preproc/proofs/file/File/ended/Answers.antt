use Rattle.std.proofs.Common.{rules, ◌≡◌}
use Rattle.ct_preproc.specs.Reading as spec
use Rattle.ct_preproc.proofs.Choices.{on_same}
use Rattle.ct_preproc.proofs.file.File.ended.Goals as goal

pub returns : goal.returns
returns c =
    let tokens : c.as_slice.result.now ≡ c.args.text = search rules in
    on_same c.text_expanded.result (λ tokens answer. spec.Ends c.args.self.now.place.now c.args.self.now.limit c.args.state tokens answer) c.as_slice.result.now c.args.text
    tokens c.text_expanded.ensures
