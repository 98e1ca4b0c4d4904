use Rattle.ct_phases.proofs.RunnerLog.{written_so}
use Rattle.ct_phases.proofs.runner.test_log.Goals as goal

pub returns : goal.returns
returns c = written_so c.args.unit _ c.args.budget c.requires.project c.requires.names c.requires.main _ c.log_by_runner.ensures
