use Rattle.ct_grammar_laws.proofs.Units.{one_unit}
use Rattle.ct_grammar_laws.proofs.one_tree.Goals as goal

pub returns : goal.returns
returns c = λ ws is js h k. one_unit ws is js h k
