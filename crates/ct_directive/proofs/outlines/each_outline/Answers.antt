use Rattle.ct_directive.proofs.OneOutline.{outline_exists}
use Rattle.ct_directive.proofs.outlines.each_outline.Goals as goal

pub returns : goal.returns
returns c = outline_exists
