use Rattle.std.proofs.lemmas.Int.{quot_is}
use Rattle.std.specs.Int.{w128}
use Rattle.ct_ctype.proofs.Exact.{narrow, quotient_fits, divides}
use Rattle.ct_ctype.proofs.operations.quotient.Goals as goal

pub nonzero_div-result : goal.nonzero_div-result
nonzero_div-result c = divides c.args.left c.args.right c.ranges.left c.ranges.right (narrow c.args.k c.args.left c.requires.left) c.requires.nonzero

pub returns : goal.returns
returns c = quot_is w128 c.args.left c.args.right c.ranges.left c.ranges.right (quotient_fits c.args.left c.args.right (narrow c.args.k c.args.left c.requires.left))
