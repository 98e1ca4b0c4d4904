use Rattle.std.proofs.Common.{int_div, int_rem, sym, ap, ◌∙◌, Ok}
use Rattle.ct_ctype.specs.Ranges.{is_in_range}
use Rattle.ct_ctype.proofs.Exact.{passed_division, bits_nonzero}
use Rattle.ct_ctype.proofs.Dividing.{divided-in, divided-out}
use Rattle.ct_ctype.proofs.operations.remainder.Goals as goal

pub returns-clause-value : goal.returns-clause-value
returns-clause-value c =
    let k = c.args.k in
    let a = c.args.left in
    let b = c.args.right in
    let q = passed_division int_div a b c.quotient.result c.ranges.left c.ranges.right c.quotient.type_inv c.quotient.ensures in
    let z = passed_division int_rem a b c.rest.result c.ranges.left c.ranges.right c.rest.type_inv c.rest.ensures.value in
    let e = ap (is_in_range k) (sym q) ∙ sym c.holds.ensures.value ∙ c.if-not-holds.false in
    ap Ok z ∙ sym (divided-in k a b (int_rem a b) (bits_nonzero b c.if-right-eq0.false) e)

pub returns-then-not-holds-clause-value : goal.returns-then-not-holds-clause-value
returns-then-not-holds-clause-value c =
    let k = c.args.k in
    let a = c.args.left in
    let b = c.args.right in
    let q = passed_division int_div a b c.quotient.result c.ranges.left c.ranges.right c.quotient.type_inv c.quotient.ensures in
    let e = ap (is_in_range k) (sym q) ∙ sym c.holds.ensures.value ∙ c.if-not-holds.true in
    sym (divided-out k a b (int_rem a b) (bits_nonzero b c.if-right-eq0.false) e)
