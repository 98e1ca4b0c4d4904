use Rattle.std.proofs.Common.{subst, sym}
use Rattle.ct_ctype.specs.Ranges.{InRange}
use Rattle.ct_ctype.proofs.InRanges.{rem_in}
use Rattle.std.proofs.lemmas.Int.{rem_is}
use Rattle.std.specs.Int.{w128}
use Rattle.ct_ctype.proofs.Exact.{narrow, divides}
use Rattle.ct_ctype.proofs.operations.rest.Goals as goal

pub nonzero_rem-result : goal.nonzero_rem-result
nonzero_rem-result c = divides c.args.left c.args.right c.ranges.left c.ranges.right (narrow c.args.k c.args.left c.requires.left) c.requires.nonzero

pub returns-clause-value : goal.returns-clause-value
returns-clause-value c = rem_is w128 c.args.left c.args.right c.ranges.left c.ranges.right

pub returns-clause-in_range : goal.returns-clause-in_range
returns-clause-in_range c = subst (InRange c.args.k) (sym (rem_is w128 c.args.left c.args.right c.ranges.left c.ranges.right)) (rem_in c.args.k c.args.left c.args.right c.requires.left)
