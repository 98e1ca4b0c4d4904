use Rattle.ct_form.specs.Functions.{external, internal}
use Rattle.ct_form.proofs.functions.linkage.Goals as goal

pub returns-in-Ok : goal.returns-in-Ok
returns-in-Ok c = internal c.in-Ok.ensures.found

pub returns-in-Err : goal.returns-in-Err
returns-in-Err c = external c.in-Err.ensures.absent
