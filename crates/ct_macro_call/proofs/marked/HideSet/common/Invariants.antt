use Rattle.std.proofs.Common.{◌≡◌, ◌++◌, length}
use Rattle.std.specs.Prelude.{filter}
use Rattle.ct_macro_call.specs.Sets.{is_in, common}
use Rattle.ct_macro_call.proofs.marked.HideSet.common.Given as goal

abbrev pub invariant-loop-place : goal.invariant-loop-place
invariant-loop-place l = l.set ++ filter (λ place. is_in place l.other) l.rest ≡ common l.self l.other

abbrev pub decreases-loop-place : goal.decreases-loop-place
decreases-loop-place l = length l.rest
