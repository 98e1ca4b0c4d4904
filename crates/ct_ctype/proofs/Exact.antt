-- Numbers in the range of a kind have results that 128 bits hold, so that the code computes them exactly.
use Rattle.std.proofs.Common.{◌≢◌, subst, ◌≡◌, ℕ, ◌^◌, ◌<◌, ◌≤◌, true, ℤ, pos, negsuc, neg_ℤ, ◌+ℤ◌, ◌-ℤ◌, ◌*ℤ◌, ◌≤ℤ◌, unsigned_abs, int_div, FitsSigned, zero, suc, lit<, refl, sym, ap, ◌∙◌, arith}
use Rattle.std.proofs.lemmas.Int.{ints, to_z-of_z, fits_signed_mul, fits_signed_from_abs}
use mathlib.Core.Path.{ap₂}
use Rattle.std.proofs.Math.Nat.{pow-le-pow_right, div-le_self}
use lib.Signed.{mag}
use Rattle.std.specs.Int.{w128, cast_signed, cast_unsigned}
use Rattle.ct_ctype.specs.declared.kinds.IntKind.{IntKind}
use Rattle.ct_ctype.specs.declared.kinds.IntKind.TheVariants.{Bool as Boolean, Char, SignedChar, UnsignedChar, Short, UnsignedShort, Int, UnsignedInt, Long, UnsignedLong, LongLong, UnsignedLongLong}
use Rattle.ct_ctype.specs.Ranges.{InRange, is_signed}

-- from the least `long long` to the greatest `unsigned long long`
pub record IsNarrow (z : ℤ) : Type 0 where
  pub low : negsuc 9223372036854775807 ≤ℤ z
  pub high : z ≤ℤ pos 18446744073709551615

pub narrow : (k : IntKind) (z : ℤ) → InRange k z → IsNarrow z
narrow Boolean z h = record { low = omega (arith, ints); high = omega (arith, ints) }
narrow Char z h = record { low = omega (arith, ints); high = omega (arith, ints) }
narrow SignedChar z h = record { low = omega (arith, ints); high = omega (arith, ints) }
narrow UnsignedChar z h = record { low = omega (arith, ints); high = omega (arith, ints) }
narrow Short z h = record { low = omega (arith, ints); high = omega (arith, ints) }
narrow UnsignedShort z h = record { low = omega (arith, ints); high = omega (arith, ints) }
narrow Int z h = record { low = omega (arith, ints); high = omega (arith, ints) }
narrow UnsignedInt z h = record { low = omega (arith, ints); high = omega (arith, ints) }
narrow Long z h = record { low = omega (arith, ints); high = omega (arith, ints) }
narrow UnsignedLong z h = record { low = omega (arith, ints); high = omega (arith, ints) }
narrow LongLong z h = record { low = omega (arith, ints); high = omega (arith, ints) }
narrow UnsignedLongLong z h = record { low = omega (arith, ints); high = omega (arith, ints) }

-- what the code's `a + b`, `a - b`, `a * b` and `-a` give
abbrev pub passed : ℤ → ℤ
passed z = cast_signed w128 (cast_unsigned w128 z)

pub sum_exact : (a b : ℤ) → IsNarrow a → IsNarrow b → passed (passed a +ℤ passed b) ≡ a +ℤ b
sum_exact a b h i = omega (arith, ints)

pub difference_exact : (a b : ℤ) → IsNarrow a → IsNarrow b → passed (passed a -ℤ passed b) ≡ a -ℤ b
difference_exact a b h i = omega (arith, ints)

pub negative_exact : (a : ℤ) → IsNarrow a → passed (pos 0 -ℤ passed a) ≡ neg_ℤ a
negative_exact a h = omega (arith, ints)

pub absolute_bound : (z : ℤ) → IsNarrow z → unsigned_abs z ≤ 18446744073709551615
absolute_bound (pos n) h = omega (arith, ints)
absolute_bound (negsuc n) h = omega (arith, ints)

signed_narrow : (k : IntKind) (z : ℤ) → is_signed k ≡ true → InRange k z → z ≤ℤ pos 9223372036854775807
signed_narrow Char z s h = omega (arith, ints)
signed_narrow SignedChar z s h = omega (arith, ints)
signed_narrow Short z s h = omega (arith, ints)
signed_narrow Int z s h = omega (arith, ints)
signed_narrow Long z s h = omega (arith, ints)
signed_narrow LongLong z s h = omega (arith, ints)
signed_narrow Boolean z s h = absurd (cc)
signed_narrow UnsignedChar z s h = absurd (cc)
signed_narrow UnsignedShort z s h = absurd (cc)
signed_narrow UnsignedInt z s h = absurd (cc)
signed_narrow UnsignedLong z s h = absurd (cc)
signed_narrow UnsignedLongLong z s h = absurd (cc)

signed_bound : (k : IntKind) (z : ℤ) → is_signed k ≡ true → InRange k z → unsigned_abs z ≤ 9223372036854775808
signed_bound k (pos n) s h = let i = signed_narrow k (pos n) s h in omega (arith, ints)
signed_bound k (negsuc n) s h = let i = narrow k (negsuc n) h in omega (arith, ints)

-- a product of two numbers of a signed kind
pub product_fits : (k : IntKind) (a b : ℤ) → is_signed k ≡ true → InRange k a → InRange k b → FitsSigned w128 (a *ℤ b)
product_fits k a b s h i = fits_signed_mul w128 a b 9223372036854775808 9223372036854775808 (signed_bound k a s h) (signed_bound k b s i) (lit< tt)

-- a product with a power of 2 below 2 ^ 64
pub shifted_fits : (a : ℤ) (n : ℕ) → IsNarrow a → n < 64 → FitsSigned w128 (a *ℤ pos (2 ^ n))
shifted_fits a n h below = fits_signed_mul w128 a (pos (2 ^ n)) 18446744073709551615 9223372036854775808 (absolute_bound a h) ((let top : n ≤ 63 = omega arith in pow-le-pow_right {n = 2} (lit< tt) top)) (lit< tt)

pub product_exact : (a b : ℤ) → FitsSigned w128 a → FitsSigned w128 b → FitsSigned w128 (a *ℤ b) → passed (passed a *ℤ passed b) ≡ a *ℤ b
product_exact a b f g h = simp to_z-of_z

unsigned_abs-neg : (n : ℕ) → unsigned_abs (neg_ℤ (pos n)) ≡ n
unsigned_abs-neg zero = refl
unsigned_abs-neg (suc n) = refl

quotient_bound : (a d : ℤ) → unsigned_abs (int_div a d) ≤ unsigned_abs a
quotient_bound (pos a) (pos d) = div-le_self a d
quotient_bound (pos a) (negsuc d) = rw unsigned_abs-neg (div-le_self a (suc d))
quotient_bound (negsuc a) (pos d) = rw unsigned_abs-neg (div-le_self (suc a) d)
quotient_bound (negsuc a) (negsuc d) = div-le_self (suc a) (suc d)

pub quotient_fits : (a d : ℤ) → IsNarrow a → FitsSigned w128 (int_div a d)
quotient_fits a d h = fits_signed_from_abs w128 (int_div a d) (let b = quotient_bound a d in let u = absolute_bound a h in omega arith)

-- a divisor that is not 0, with a quotient that fits, may divide
pub divides : (a d : ℤ) → FitsSigned w128 a → FitsSigned w128 d → IsNarrow a → d ≢ pos 0 → (0 < cast_unsigned w128 d) × FitsSigned w128 (int_div (passed a) (passed d))
divides a d f g h n = (nonzero_bits d n g, subst (FitsSigned w128) (sym (ap₂ int_div (to_z-of_z w128 a f) (to_z-of_z w128 d g))) (quotient_fits a d h))
  where
    nonzero_bits : (d : ℤ) → d ≢ pos 0 → FitsSigned w128 d → 0 < cast_unsigned w128 d
    nonzero_bits (pos zero) n g = absurd (n refl)
    nonzero_bits (pos (suc d)) n g = omega arith
    nonzero_bits (negsuc d) n g = let s = g.sfits in omega arith

scaled_is : (a p : ℤ) (n : ℕ) → FitsSigned w128 a → FitsSigned w128 p → p ≡ pos (2 ^ n) → passed a *ℤ passed p ≡ a *ℤ pos (2 ^ n)
scaled_is a p n f g e = ap₂ ◌*ℤ◌ (to_z-of_z w128 a f) (to_z-of_z w128 p g ∙ e)

pub scaled_fits : (a p : ℤ) (n : ℕ) → FitsSigned w128 a → FitsSigned w128 p → IsNarrow a → n < 64 → p ≡ pos (2 ^ n) → FitsSigned w128 (passed a *ℤ passed p)
scaled_fits a p n f g h below e = subst (FitsSigned w128) (sym (scaled_is a p n f g e)) (shifted_fits a n h below)

pub scaled_exact : (a p : ℤ) (n : ℕ) → FitsSigned w128 a → FitsSigned w128 p → IsNarrow a → n < 64 → p ≡ pos (2 ^ n) → passed (passed a *ℤ passed p) ≡ a *ℤ pos (2 ^ n)
scaled_exact a p n f g h below e = ap passed (scaled_is a p n f g e) ∙ to_z-of_z w128 (a *ℤ pos (2 ^ n)) (shifted_fits a n h below)

-- what a call hands on is the quotient or the remainder itself
pub passed_division : (f : ℤ → ℤ → ℤ) (a b q : ℤ) → FitsSigned w128 a → FitsSigned w128 b → mag q < 2 ^ 127 → q ≡ f (passed a) (passed b) → passed q ≡ f a b
passed_division f a b q g h i e = to_z-of_z w128 q (record { sfits = i }) ∙ e ∙ ap₂ f (to_z-of_z w128 a g) (to_z-of_z w128 b h)

pub bits_nonzero : (b : ℤ) → (cast_unsigned w128 b ≡ 0 → ⊥) → b ≢ pos 0
bits_nonzero b h e = h (ap (cast_unsigned w128) e)
