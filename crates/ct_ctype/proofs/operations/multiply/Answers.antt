use Rattle.std.proofs.Common.{sym, ap, ◌∙◌}
use Rattle.ct_ctype.specs.Operation as spec
use Rattle.ct_ctype.proofs.Exact.{product_fits, product_exact}
use Rattle.ct_ctype.proofs.operations.multiply.Goals as goal

pub returns-then-is_signed-clause-value : goal.returns-then-is_signed-clause-value
returns-then-is_signed-clause-value c =
    let k = c.args.k in
    let a = c.args.left in
    let b = c.args.right in
    c.arithmetic.ensures.value ∙ ap (spec.arithmetic k) (product_exact a b c.ranges.left c.ranges.right (product_fits k a b (sym c.is_signed.ensures ∙ c.if-is_signed.true) c.requires.left c.requires.right))
