use Rattle.ct_meaning_laws.proofs.Verdicts as lemmas
use Rattle.ct_meaning_laws.proofs.laws.a_first_failure_stays.Goals as goal

pub returns-clause-functions : goal.returns-clause-functions
returns-clause-functions c = lemmas.calls_stay

pub returns-clause-statements : goal.returns-clause-statements
returns-clause-statements c = lemmas.statements_stay

pub returns-clause-expressions : goal.returns-clause-expressions
returns-clause-expressions c = lemmas.expressions_stay

pub returns-clause-phases : goal.returns-clause-phases
returns-clause-phases c = lemmas.phases_stay

pub returns-clause-same_test : goal.returns-clause-same_test
returns-clause-same_test c = lemmas.same_test_stays
