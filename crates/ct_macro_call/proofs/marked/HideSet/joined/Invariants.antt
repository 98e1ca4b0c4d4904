use Rattle.std.proofs.Common.{◌≡◌, ◌++◌, not, length}
use Rattle.std.specs.Prelude.{filter}
use Rattle.ct_macro_call.specs.Sets.{is_in, joined}
use Rattle.ct_macro_call.proofs.marked.HideSet.joined.Given as goal

abbrev pub invariant-loop-place : goal.invariant-loop-place
invariant-loop-place l = l.set ++ filter (λ place. not (is_in place l.self)) l.rest ≡ joined l.self l.other

abbrev pub decreases-loop-place : goal.decreases-loop-place
decreases-loop-place l = length l.rest
