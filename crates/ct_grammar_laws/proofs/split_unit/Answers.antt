use Rattle.ct_grammar_laws.proofs.Units as units
use Rattle.ct_grammar_laws.proofs.split_unit.Goals as goal

pub returns-clause-joined : goal.returns-clause-joined
returns-clause-joined c = units.joined

pub returns-clause-words : goal.returns-clause-words
returns-clause-words c = units.in_two

pub returns-clause-front : goal.returns-clause-front
returns-clause-front c = units.front

pub returns-clause-back : goal.returns-clause-back
returns-clause-back c = units.back
