use Rattle.ct_ctype.proofs.OneExtent.{no_extent, one_extent}
use Rattle.ct_ctype.proofs.Sizes.{each_extent, each_offset}
use Rattle.ct_ctype.proofs.structs.exact_sizes.Goals as goal

pub returns-clause-sized : goal.returns-clause-sized
returns-clause-sized c = each_extent

pub returns-clause-no_size : goal.returns-clause-no_size
returns-clause-no_size c = λ s t e x h. no_extent s t x h e

pub returns-clause-one : goal.returns-clause-one
returns-clause-one c = one_extent

pub returns-clause-offsets : goal.returns-clause-offsets
returns-clause-offsets c = each_offset
