use Rattle.ct_meaning_laws.proofs.Numbers as numbers
use Rattle.ct_meaning_laws.proofs.laws.any_numbers.Goals as goal

pub returns : goal.returns
returns c = numbers.any_numbers
