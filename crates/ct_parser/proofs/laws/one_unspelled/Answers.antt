use Rattle.ct_parser.proofs.Loop.{unspelled_once}
use Rattle.ct_parser.proofs.laws.one_unspelled.Goals as goal

pub returns : goal.returns
returns c = λ before after before' after' token token' e h k. unspelled_once before after before' after' token token' e h k
