use Rattle.ct_meaning_laws.proofs.Levels as lemmas
use Rattle.ct_meaning_laws.proofs.laws.no_deeper_calls.Goals as goal

pub returns-clause-limit : goal.returns-clause-limit
returns-clause-limit c = λ w call number values h s above. lemmas.no_call w call number values h s above

pub returns-clause-expressions : goal.returns-clause-expressions
returns-clause-expressions c = λ w f g e h s same. lemmas.same_expression w f g same e h s

pub returns-clause-statements : goal.returns-clause-statements
returns-clause-statements c = λ w n f g b h s same. lemmas.same_statement w f g same n b h s

pub returns-clause-functions : goal.returns-clause-functions
returns-clause-functions c = λ w n f g t values h s same. lemmas.same_body w f g same n t values h s
