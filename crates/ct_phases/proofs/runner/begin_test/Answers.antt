use Rattle.std.proofs.Common.{refl}
use Rattle.ct_phases.proofs.RunnerMade.{two_pushed, same_call}
use Rattle.ct_phases.proofs.runner.begin_test.Goals as goal

pub returns : goal.returns
returns c =
    same_call _ _ _ _ _ _ _ c.in_ok-kind.ensures c.as_slice.ensures
    (two_pushed _ _ _ _ _ _ _ c.new-arguments.ensures c.in_ok-push.ensures.ok c.in_ok-push-2.ensures.ok refl c.line_argument.ensures) c.call_statement.ensures
