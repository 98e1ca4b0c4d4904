use Rattle.std.proofs.Common.{ap, ◌∙◌}
use Rattle.ct_ctype.specs.Operation as spec
use Rattle.ct_ctype.proofs.Exact.{narrow, sum_exact}
use Rattle.ct_ctype.proofs.operations.add.Goals as goal

pub returns-clause-value : goal.returns-clause-value
returns-clause-value c =
    let k = c.args.k in
    c.arithmetic.ensures.value ∙ ap (spec.arithmetic k) (sum_exact c.args.left c.args.right (narrow k c.args.left c.requires.left) (narrow k c.args.right c.requires.right))
