-- What digits stand for, digit after digit.
use Rattle.std.proofs.Common.{◌≡◌, ℕ, ◌+◌, ◌*◌, ◌^◌, ◌<◌, ◌≤◌, Bool, List, [], ◌∷◌, length, get_or, drop, fold, sym, ap, ◌∙◌, Option, None, Some, arith}
use Rattle.std.specs.Prelude.{if◌then◌else◌, nat_lt}
use Rattle.std.proofs.lemmas.List.{drop_more}
use Rattle.std.proofs.lemmas.Bool.{lt-ltb, le-ltb}
use Rattle.ct_token.specs.declared.constants.Base.{Base}
use Rattle.ct_token.specs.declared.constants.Base.TheVariants.{Octal, Decimal, Hexadecimal}
use Rattle.ct_token.specs.Constants.{radix, digit_value, number_in}

-- one more digit
abbrev pub with_digit : Base → ℕ → ℕ → ℕ
with_digit base value digit = radix base * value + digit_value digit

grows : (base : Base) (value digit : ℕ) → value ≤ with_digit base value digit
grows Octal value digit = omega arith
grows Decimal value digit = omega arith
grows Hexadecimal value digit = omega arith

-- more digits stand for no less
pub at_least : (base : Base) (value : ℕ) (digits : List ℕ) → value ≤ fold (with_digit base) value digits
at_least base value [] = omega arith
at_least base value (digit ∷ digits) = omega (arith, grows base value digit, at_least base (with_digit base value digit) digits)

-- where the digits so far with the next one have more than 64 bits, so have all
pub too_large : (base : Base) (digits : List ℕ) (index value least : ℕ) → index < length digits → number_in base digits ≡ fold (with_digit base) value (drop index digits) → least ≤ with_digit base value (get_or digits index 0) → 2 ^ 64 ≤ least → 2 ^ 64 ≤ number_in base digits
too_large base digits index value least lt so_far reached large =
    let next = with_digit base value (get_or digits index 0) in
    let whole : number_in base digits ≡ fold (with_digit base) next (drop (index + 1) digits) = so_far ∙ ap (fold (with_digit base) value) (drop_more digits index 0 lt) in
    omega (arith, whole, at_least base next (drop (index + 1) digits), reached, large)

-- the number, where it has 64 bits
abbrev pub fitting : ℕ → Option ℕ
fitting n = if nat_lt n (2 ^ 64) then Some n else None

pub fits : (n value : ℕ) → n ≡ value → value < 2 ^ 64 → Some value ≡ fitting n
fits n value e lt = sym (ap (λ (b : Bool). if b then Some n else None) (lt-ltb n (2 ^ 64) (omega (arith, e, lt))) ∙ ap Some e)

pub fits_not : (n : ℕ) → 2 ^ 64 ≤ n → None ≡ fitting n
fits_not n large = sym (ap (λ (b : Bool). if b then Some n else None) (le-ltb n (2 ^ 64) large))
