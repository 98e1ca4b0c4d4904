use Rattle.ct_phases.proofs.RunnerMade.{same_call}
use Rattle.ct_phases.proofs.runner.run_end.Goals as goal

pub returns : goal.returns
returns c = same_call _ _ _ _ _ _ _ c.procedure.ensures c.as_slice-name.ensures c.new.ensures c.call_statement.ensures
