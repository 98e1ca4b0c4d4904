use Rattle.ct_top.proofs.Projects.{text_goes_on}
use Rattle.ct_top.proofs.project.settings_of_text.Goals as goal

pub returns-clause-ok : goal.returns-clause-ok
returns-clause-ok c = text_goes_on c.args.text.now c.in_ok-node.node c.settings_of.result c.in_ok-node.ensures.ok c.settings_of.ensures.ok
