use Rattle.ct_grammar_laws.proofs.Units.{one_list}
use Rattle.ct_grammar_laws.proofs.one_list.Goals as goal

pub returns : goal.returns
returns c = λ scope ws is js h k. one_list scope ws is js h k
