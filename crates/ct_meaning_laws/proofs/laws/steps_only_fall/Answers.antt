use Rattle.ct_meaning_laws.proofs.Steps as lemmas
use Rattle.ct_meaning_laws.proofs.laws.steps_only_fall.Goals as goal

pub returns-clause-functions : goal.returns-clause-functions
returns-clause-functions c = lemmas.calls_fall

pub returns-clause-statements : goal.returns-clause-statements
returns-clause-statements c = lemmas.statements_fall

pub returns-clause-expressions : goal.returns-clause-expressions
returns-clause-expressions c = lemmas.expressions_fall

pub returns-clause-same_test : goal.returns-clause-same_test
returns-clause-same_test c = lemmas.same_test_falls
