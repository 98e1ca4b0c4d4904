use Rattle.std.proofs.Common.{◌≡◌, ◌++◌, length}
use Rattle.ct_macro_call.proofs.call.push_names.Given as goal

abbrev pub invariant-loop-name : goal.invariant-loop-name
invariant-loop-name l = l.into ++ l.rest ≡ l.initial.into ++ l.initial.rest

abbrev pub decreases-loop-name : goal.decreases-loop-name
decreases-loop-name l = length l.rest
