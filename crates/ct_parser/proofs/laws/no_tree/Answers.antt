use Rattle.ct_parser.proofs.Loop.{unspelled_none}
use Rattle.ct_parser.proofs.laws.no_tree.Goals as goal

pub returns : goal.returns
returns c = λ before after token h is k. unspelled_none before after token h is k
