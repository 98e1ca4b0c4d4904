use Rattle.ct_ctype.proofs.Exact.{narrow, scaled_fits, scaled_exact}
use Rattle.ct_ctype.proofs.operations.scaled.Goals as goal

pub overflow_mul-result : goal.overflow_mul-result
overflow_mul-result c = scaled_fits c.args.left c.power.result c.args.n c.ranges.left (record { sfits = c.power.type_inv }) (narrow c.args.k c.args.left c.requires.left) c.requires.below c.power.ensures

pub returns : goal.returns
returns c = scaled_exact c.args.left c.power.result c.args.n c.ranges.left (record { sfits = c.power.type_inv }) (narrow c.args.k c.args.left c.requires.left) c.requires.below c.power.ensures
