use Rattle.ct_form.specs.Expressions.{plus, minus}
use Rattle.ct_form.proofs.OneExpression.{no_sign}
use Rattle.ct_form.proofs.expressions.sign.Goals as goal

pub returns-in-Ok-clause-found : goal.returns-in-Ok-clause-found
returns-in-Ok-clause-found c = plus c.in-Ok.ensures.found

pub returns-in-Ok-word-clause-found : goal.returns-in-Ok-word-clause-found
returns-in-Ok-word-clause-found c = minus c.in-Ok-word.ensures.found

pub returns-in-Err-clause-none : goal.returns-in-Err-clause-none
returns-in-Err-clause-none c = no_sign c.in_default.ensures.absent c.in-Err.ensures.absent
