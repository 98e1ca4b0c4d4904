use Rattle.std.proofs.Common.{◌≡◌, ◌++◌, length}
use Rattle.ct_macro_call.specs.Spelled.{spelled_behind}
use Rattle.ct_macro_call.proofs.stringize.push_behind.Given as goal

abbrev pub invariant-loop-marked : goal.invariant-loop-marked
invariant-loop-marked l = l.into.items ++ spelled_behind l.rest ≡ l.initial.into.items ++ spelled_behind l.initial.rest

abbrev pub decreases-loop-marked : goal.decreases-loop-marked
decreases-loop-marked l = length l.rest
