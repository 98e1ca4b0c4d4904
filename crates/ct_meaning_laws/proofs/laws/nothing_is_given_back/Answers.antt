use Rattle.ct_meaning_laws.proofs.Numbers as numbers
use Rattle.ct_meaning_laws.proofs.laws.nothing_is_given_back.Goals as goal

pub returns : goal.returns
returns c = numbers.nothing_given_back
