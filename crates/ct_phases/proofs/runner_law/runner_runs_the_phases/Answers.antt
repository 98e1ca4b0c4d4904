use Rattle.ct_phases.proofs.RunnerWhole.{log_same}
use Rattle.ct_phases.proofs.runner_law.runner_runs_the_phases.Goals as goal

pub returns : goal.returns
returns c = log_same
