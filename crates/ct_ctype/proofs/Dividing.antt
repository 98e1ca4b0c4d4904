-- The cases of a division and of a shift.
use Rattle.std.proofs.Common.{◌≡◌, ◌≢◌, zero, suc, true, false, ℤ, pos, negsuc, int_div, refl, Ok, Err}
use Rattle.ct_base.specs.declared.faults.FaultKind.TheVariants.{SignedOverflow}
use Rattle.ct_ctype.specs.declared.kinds.IntKind.{IntKind}
use Rattle.ct_ctype.specs.Ranges.{is_in_range}
use Rattle.ct_ctype.specs.Operation.{divided, is_zero}

is_zero-no : (b : ℤ) → b ≢ pos 0 → is_zero b ≡ false
is_zero-no (pos zero) h = absurd (h refl)
is_zero-no (pos (suc n)) h = refl
is_zero-no (negsuc n) h = refl

pub divided-in : (k : IntKind) (a b z : ℤ) → b ≢ pos 0 → is_in_range k (int_div a b) ≡ true → divided k a b z ≡ Ok z
divided-in k a b z h e = let n = is_zero-no b h in simp (n, e)

pub divided-out : (k : IntKind) (a b z : ℤ) → b ≢ pos 0 → is_in_range k (int_div a b) ≡ false → divided k a b z ≡ Err SignedOverflow
divided-out k a b z h e = let n = is_zero-no b h in simp (n, e)
