use Rattle.ct_syntax.specs.Words.{words}
use Rattle.ct_grammar_laws.proofs.Units.{one_unit}
use Rattle.ct_print_laws.proofs.Reading.{spells_own, not_refused, not_unspelled}
use Rattle.ct_print_laws.proofs.printed_is_read.Goals as goal

pub returns-clause-itself : goal.returns-clause-itself
returns-clause-itself c = λ items others tokens own h. one_unit (words tokens) others items h.0 (spells_own items tokens own)

pub returns-clause-shallow : goal.returns-clause-shallow
returns-clause-shallow c = λ items tokens span limit own shallow h. not_refused items tokens span limit (spells_own items tokens own) shallow h

pub returns-clause-deep : goal.returns-clause-deep
returns-clause-deep c = λ items tokens span own h. not_unspelled items tokens span (spells_own items tokens own) h
