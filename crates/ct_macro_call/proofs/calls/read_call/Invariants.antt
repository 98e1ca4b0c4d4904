use Rattle.std.proofs.Common.{length}
use Rattle.ct_macro_call.specs.Collected.{Collected}
use Rattle.ct_macro_call.proofs.calls.read_call.Given as goal

abbrev pub invariant-loop-token : goal.invariant-loop-token
invariant-loop-token l =
    Collected l.fn.most l.initial.source l.source l.collector.arguments l.collector.last l.collector.depth l.collector.left

abbrev pub decreases-loop-token : goal.decreases-loop-token
decreases-loop-token l = length l.source
