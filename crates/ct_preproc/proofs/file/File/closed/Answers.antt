use Rattle.std.proofs.Common.{◌≡◌}
use Rattle.ct_preproc.specs.Steps as spec
use Rattle.ct_preproc.specs.Reading as steps
use Rattle.ct_preproc.proofs.Choices.{on_next}
use Rattle.ct_preproc.proofs.file.File.closed.Goals as goal

pub returns : goal.returns
returns c =
    on_next (steps.Ends c.args.self.now.place.now c.args.self.now.limit c.args.reading.state c.args.reading.text) c.in_ok-state.state c.end.result
    (λ after answer. answer ≡ spec.closed c.args.self.now.place.now c.args.reading.opens after)
    c.in_ok-state.ensures c.end.ensures
