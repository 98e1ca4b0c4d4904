use Rattle.ct_meaning_laws.proofs.Steps as lemmas
use Rattle.ct_meaning_laws.proofs.laws.a_turn_takes_a_step.Goals as goal

pub returns-clause-one : goal.returns-clause-one
returns-clause-one c = lemmas.turn_takes

pub returns-clause-fewer : goal.returns-clause-fewer
returns-clause-fewer c = lemmas.turn_lowers

pub returns-clause-none : goal.returns-clause-none
returns-clause-none c = lemmas.turn_stops
