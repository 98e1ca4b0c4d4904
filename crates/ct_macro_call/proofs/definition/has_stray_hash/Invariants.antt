use Rattle.std.proofs.Common.{◌≡◌, length}
use Rattle.ct_macro_call.specs.Words.{with_variable}
use Rattle.ct_macro_call.specs.Definition.{has_stray_hash}
use Rattle.ct_macro_call.proofs.definition.has_stray_hash.Given as goal

abbrev pub invariant-loop-token : goal.invariant-loop-token
invariant-loop-token l =
    has_stray_hash (with_variable l.variadic l.names) l.body ≡ has_stray_hash (with_variable l.variadic l.names) l.rest

abbrev pub decreases-loop-token : goal.decreases-loop-token
decreases-loop-token l = length l.rest
