use Rattle.std.proofs.Common.{ap, ◌∙◌}
use Rattle.ct_phases.specs.Runner.{run_call}
use Rattle.ct_phases.proofs.RunnerMade.{six}
use Rattle.ct_phases.proofs.runner.test_statements.Goals as goal

pub returns : goal.returns
returns c =
    c.from_vec.ensures ∙ c.in_ok-all.ensures.items
    ∙ six _ _ _ _ _ _ _ _ _ _ _ _ c.in_ok-begin_test.ensures (c.in_ok-run_call.ensures ∙ ap run_call c.as_slice.ensures)
    (c.in_ok-run_call-2.ensures ∙ ap run_call c.as_slice-2.ensures) c.in_ok-run_phase.ensures
    (c.in_ok-run_call-3.ensures ∙ ap run_call c.as_slice-3.ensures) c.in_ok-run_end.ensures
