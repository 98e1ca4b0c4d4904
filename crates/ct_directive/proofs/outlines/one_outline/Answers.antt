use Rattle.ct_directive.proofs.OneOutline.{one_outline_group, one_outline_broken}
use Rattle.ct_directive.proofs.outlines.one_outline.Goals as goal

pub returns-clause-group : goal.returns-clause-group
returns-clause-group c = one_outline_group

pub returns-clause-broken : goal.returns-clause-broken
returns-clause-broken c = one_outline_broken
