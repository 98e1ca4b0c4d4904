use Rattle.std.proofs.Common.{int_div, sym, ap, ◌∙◌, Ok}
use Rattle.ct_ctype.specs.Ranges.{is_in_range}
use Rattle.ct_ctype.proofs.Exact.{passed_division, bits_nonzero}
use Rattle.ct_ctype.proofs.Dividing.{divided-in, divided-out}
use Rattle.ct_ctype.proofs.operations.divide.Goals as goal

pub returns-then-holds-clause-value : goal.returns-then-holds-clause-value
returns-then-holds-clause-value c =
    let k = c.args.k in
    let a = c.args.left in
    let b = c.args.right in
    let q = passed_division int_div a b c.quotient-quotient.result c.ranges.left c.ranges.right c.quotient-quotient.type_inv c.quotient-quotient.ensures in
    let e = ap (is_in_range k) (sym q) ∙ sym c.holds.ensures.value ∙ c.if-holds.true in
    ap Ok q ∙ sym (divided-in k a b (int_div a b) (bits_nonzero b c.if-right-eq0.false) e)

pub returns-else-holds-clause-value : goal.returns-else-holds-clause-value
returns-else-holds-clause-value c =
    let k = c.args.k in
    let a = c.args.left in
    let b = c.args.right in
    let q = passed_division int_div a b c.quotient-quotient.result c.ranges.left c.ranges.right c.quotient-quotient.type_inv c.quotient-quotient.ensures in
    let e = ap (is_in_range k) (sym q) ∙ sym c.holds.ensures.value ∙ c.if-holds.false in
    sym (divided-out k a b (int_div a b) (bits_nonzero b c.if-right-eq0.false) e)
