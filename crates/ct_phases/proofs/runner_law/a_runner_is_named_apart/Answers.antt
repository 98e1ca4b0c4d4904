use Rattle.ct_phases.proofs.RunnerApart.{runner_apart}
use Rattle.ct_phases.proofs.runner_law.a_runner_is_named_apart.Goals as goal

pub returns : goal.returns
returns c = runner_apart
