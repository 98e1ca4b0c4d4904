use Rattle.std.proofs.Common.{◌≤◌, length}
use Rattle.ct_outside.specs.Matching.{FitsByte, is_star}
use Rattle.ct_outside.specs.Skipping.{FitsUpTo}
use Rattle.ct_outside.proofs.matching.skip_bytes.Given as goal

-- the bytes so far fit one to one
abbrev pub invariant-loop-part : goal.invariant-loop-part
invariant-loop-part l = FitsUpTo is_star FitsByte l.pattern l.name l.parts l.bytes × (length l.parts ≤ length l.pattern) × (length l.bytes ≤ length l.name)

abbrev pub decreases-loop-part : goal.decreases-loop-part
decreases-loop-part l = length l.parts
