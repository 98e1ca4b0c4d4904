use Rattle.ct_ctype.proofs.InRanges.{passed_floor}
use Rattle.ct_ctype.proofs.operations.shift_right.Goals as goal

pub returns-then-is_count-clause-in_range : goal.returns-then-is_count-clause-in_range
returns-then-is_count-clause-in_range c = passed_floor c.args.k c.args.left c.power.result c.div_euclid.result _ c.ranges.left c.power.type_inv c.div_euclid.type_inv c.power.ensures c.div_euclid.ensures c.requires
