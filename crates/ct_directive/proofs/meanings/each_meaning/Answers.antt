use Rattle.ct_directive.proofs.EachMeaning.{each_means}
use Rattle.ct_directive.proofs.meanings.each_meaning.Goals as goal

pub returns : goal.returns
returns c = each_means
