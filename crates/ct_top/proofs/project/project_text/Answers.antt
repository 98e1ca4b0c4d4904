use Rattle.ct_top.proofs.Projects.{too_large}
use Rattle.ct_top.proofs.project.project_text.Goals as goal

pub returns-in_ok-limit_passed-in-TooLarge-clause-refused : goal.returns-in_ok-limit_passed-in-TooLarge-clause-refused
returns-in_ok-limit_passed-in-TooLarge-clause-refused g c files told =
    too_large _ files c.in_ok-read.field-0 c.new-text.result.items c.read.new.into.items c.in_ok-limit_passed-in-TooLarge.field-0 told c.in-TooLarge.is
    c.in_ok-read.ensures.told c.in_ok-limit_passed-in-TooLarge.ensures
