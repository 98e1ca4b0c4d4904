use Rattle.std.proofs.Common.{◌*◌, ◌≤◌, ◌^◌, ◌∙◌, get_or, fold, ap, arith, mul_comm}
use Rattle.std.proofs.lemmas.List.{drop_all}
use Rattle.ct_token.specs.Constants.{number_in, radix}
use Rattle.ct_token.proofs.Numbers.{with_digit, too_large, fits, fits_not}
use Rattle.ct_token.proofs.constants.number_in.Goals as goal

pub returns-in_err-checked_mul : goal.returns-in_err-checked_mul
returns-in_err-checked_mul c =
    let base = c.args.base in
    let digits = c.args.digits.now in
    let value = c.loop-digit.value in
    let large : 2 ^ 64 ≤ radix base * value =
    omega (arith, mul_comm (radix base) value, ap (λ n. value * n) c.radix.ensures, c.in_err-checked_mul.ensures) in
    c.from_residual.ensures ∙ fits_not (number_in base digits)
    (too_large base digits c.loop-digit.digit-index value (radix base * value) (omega arith) c.loop-digit.invariant.0 (omega arith) large)

pub returns-in_err-value : goal.returns-in_err-value
returns-in_err-value c =
    let base = c.args.base in
    let digits = c.args.digits.now in
    let value = c.loop-digit.value in
    let next = with_digit base value (get_or digits c.loop-digit.digit-index 0) in
    let large : 2 ^ 64 ≤ next =
    omega (arith, mul_comm (radix base) value, ap (λ n. value * n) c.radix.ensures, c.in_ok-checked_mul.ensures, c.digit_value.ensures, c.from.ensures, c.in_err-value.ensures) in
    c.from_residual-in_err-value.ensures ∙ fits_not (number_in base digits)
    (too_large base digits c.loop-digit.digit-index value next (omega arith) c.loop-digit.invariant.0 (omega arith) large)

pub returns : goal.returns
returns c =
    let base = c.args.base in
    let digits = c.args.digits.now in
    fits (number_in base digits) c.loop-digit.value
    (c.loop-digit.invariant.0 ∙ ap (fold (with_digit base) c.loop-digit.value) (drop_all c.loop-digit.digit-index digits (omega arith)))
    c.loop-digit.invariant.1
