use Rattle.ct_yaml.proofs.RunLemmas as run
use Rattle.ct_yaml.proofs.one_node.Goals as goal

pub returns : goal.returns
returns c = run.one_node
