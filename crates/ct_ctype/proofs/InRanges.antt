-- Results that stay in the range of their kind.
use Rattle.std.proofs.Common.{◌≡◌, ℕ, suc, ◌<◌, ◌≤◌, ◌%◌, ◌/◌, Bool, true, false, ℤ, pos, negsuc, neg_ℤ, ◌≤ℤ◌, unsigned_abs, int_rem, subst, sym, ◌^◌, ◌∙◌, FitsSigned, Ok, arith}
use mathlib.Core.Path.{ap₂}
use lib.Signed.{mag}
use Rattle.std.proofs.Math.Nat.{div-le_self, mod-le}
use Rattle.std.proofs.lemmas.Int.{ints, to_z-of_z}
use Rattle.std.specs.Int.{int_div_euclid, w128}
use Rattle.ct_ctype.specs.declared.kinds.IntKind.{IntKind}
use Rattle.ct_ctype.specs.declared.kinds.IntKind.TheVariants.{Bool as Boolean, Char, SignedChar, UnsignedChar, Short, UnsignedShort, Int, UnsignedInt, Long, UnsignedLong, LongLong, UnsignedLongLong}
use Rattle.ct_ctype.specs.Ranges.{InRange, least, greatest}
use Rattle.ct_ctype.specs.Operation.{truth}
use Rattle.ct_ctype.proofs.Exact.{passed}

-- each kind holds 0 and 1
pub record HoldsBits (k : IntKind) : Type 0 where
  pub low : least k ≤ℤ pos 0
  pub high : pos 1 ≤ℤ greatest k

pub holds_bits : (k : IntKind) → HoldsBits k
holds_bits Boolean = record { low = omega (arith, ints); high = omega (arith, ints) }
holds_bits Char = record { low = omega (arith, ints); high = omega (arith, ints) }
holds_bits SignedChar = record { low = omega (arith, ints); high = omega (arith, ints) }
holds_bits UnsignedChar = record { low = omega (arith, ints); high = omega (arith, ints) }
holds_bits Short = record { low = omega (arith, ints); high = omega (arith, ints) }
holds_bits UnsignedShort = record { low = omega (arith, ints); high = omega (arith, ints) }
holds_bits Int = record { low = omega (arith, ints); high = omega (arith, ints) }
holds_bits UnsignedInt = record { low = omega (arith, ints); high = omega (arith, ints) }
holds_bits Long = record { low = omega (arith, ints); high = omega (arith, ints) }
holds_bits UnsignedLong = record { low = omega (arith, ints); high = omega (arith, ints) }
holds_bits LongLong = record { low = omega (arith, ints); high = omega (arith, ints) }
holds_bits UnsignedLongLong = record { low = omega (arith, ints); high = omega (arith, ints) }

-- between a number of the kind and 0 each number is of the kind
pub below_in : (k : IntKind) (a n : ℕ) → InRange k (pos a) → n ≤ a → InRange k (pos n)
below_in k a n h le = let b = holds_bits k in record { low = omega (arith, ints); high = omega (arith, ints) }

above_in : (k : IntKind) (a n : ℕ) → InRange k (negsuc a) → n ≤ suc a → InRange k (neg_ℤ (pos n))
above_in k a n h le = let b = holds_bits k in record { low = omega (arith, ints); high = omega (arith, ints) }

pub rem_in : (k : IntKind) (a d : ℤ) → InRange k a → InRange k (int_rem a d)
rem_in k (pos a) d h = below_in k a (a % unsigned_abs d) h (mod-le a (unsigned_abs d))
rem_in k (negsuc a) d h = above_in k a (suc a % unsigned_abs d) h (mod-le (suc a) (unsigned_abs d))

pub floor_in : (k : IntKind) (a : ℤ) (m : ℕ) → InRange k a → InRange k (int_div_euclid a (pos m))
floor_in k (pos a) m h = below_in k a (a / m) h (div-le_self a m)
floor_in k (negsuc a) m h = above_in k a (suc (a / m)) h (let le = div-le_self a m in omega arith)

pub truth_in : (k : IntKind) (holds : Bool) (z : ℤ) → Ok z ≡ truth holds → InRange k z
truth_in k true z e = let b = holds_bits k in let is : z ≡ pos 1 = cc in record { low = omega (arith, ints); high = omega (arith, ints) }
truth_in k false z e = let b = holds_bits k in let is : z ≡ pos 0 = cc in record { low = omega (arith, ints); high = omega (arith, ints) }

-- what a call hands on
pub passed_truth : (k : IntKind) (holds : Bool) (z : ℤ) → mag z < 2 ^ 127 → Ok z ≡ truth holds → InRange k (passed z)
passed_truth k holds z h e = subst (InRange k) (sym (to_z-of_z w128 z (record { sfits = h }))) (truth_in k holds z e)

pub passed_floor : (k : IntKind) (a p q : ℤ) (n : ℕ) → FitsSigned w128 a → mag p < 2 ^ 127 → mag q < 2 ^ 127 → p ≡ pos n → q ≡ int_div_euclid (passed a) (passed p) → InRange k a → InRange k (passed q)
passed_floor k a p q n f g h e d i =
    let is : passed q ≡ int_div_euclid a (pos n) = to_z-of_z w128 q (record { sfits = h }) ∙ d ∙ ap₂ int_div_euclid (to_z-of_z w128 a f) (to_z-of_z w128 p (record { sfits = g }) ∙ e) in
    subst (InRange k) (sym is) (floor_in k a n i)
