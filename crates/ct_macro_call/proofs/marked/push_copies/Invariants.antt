use Rattle.std.proofs.Common.{◌≡◌, ◌++◌, length}
use Rattle.ct_macro_call.proofs.marked.push_copies.Given as goal

abbrev pub invariant-loop-token : goal.invariant-loop-token
invariant-loop-token l = l.into ++ l.rest ≡ l.initial.into ++ l.initial.rest

abbrev pub decreases-loop-token : goal.decreases-loop-token
decreases-loop-token l = length l.rest
