use Rattle.ct_meaning_laws.proofs.Steps as lemmas
use Rattle.ct_meaning_laws.proofs.laws.a_test_takes_at_most_the_budget.Goals as goal

pub returns-clause-left : goal.returns-clause-left
returns-clause-left c = lemmas.test_falls
