use Rattle.std.proofs.Common.{rules}
use Rattle.std.specs.Prelude.{Ok, Err}
use Rattle.ct_top.proofs.top.answer_to.Goals as goal

pub returns-in-Ok-report-clause-ok : goal.returns-in-Ok-report-clause-ok
returns-in-Ok-report-clause-ok g c = (Ok c.in-Ok.logs.items, search rules, search rules, (λ files told. c.in-Ok.ensures.ok files told))

pub returns-in-Ok-refusal_text-clause-ok : goal.returns-in-Ok-refusal_text-clause-ok
returns-in-Ok-refusal_text-clause-ok g c =
    (Err c.in-Err-Refused.refusal, search rules, search rules, (λ files told. rw c.in-Err-Refused.field-0-is at (c.in-Err-Refused.ensures.refused files told)))
