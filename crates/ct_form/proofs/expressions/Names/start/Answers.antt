use Rattle.ct_form.specs.Statements.{absent, present}
use Rattle.ct_form.proofs.expressions.Names.start.Goals as goal

pub returns-in_default : goal.returns-in_default
returns-in_default c = absent c.in_default.ensures.absent

pub returns : goal.returns
returns c = present c.in-Ok.ensures.found c.in_ok-core.ensures
