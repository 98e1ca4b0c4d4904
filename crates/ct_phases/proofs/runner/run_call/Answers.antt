use Rattle.std.proofs.Common.{ap}
use Rattle.ct_core.specs.declared.trees.CoreExpression.TheVariants.{Function}
use Rattle.ct_phases.proofs.RunnerMade.{one_pushed, same_call}
use Rattle.ct_phases.proofs.runner.run_call.Goals as goal

pub returns : goal.returns
returns c =
    same_call _ _ _ _ _ _ _ c.in_ok-kind.ensures c.as_slice.ensures
    (one_pushed _ _ _ _ c.new-arguments.ensures c.in_ok-push.ensures.ok (ap Function c.in_ok-from_slice.ensures)) c.call_statement.ensures
