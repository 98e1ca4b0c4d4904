use Rattle.std.proofs.Common.{◌≡◌, length}
use Rattle.ct_macro_call.specs.Definition.{has_double}
use Rattle.ct_macro_call.proofs.definition.has_double.Given as goal

abbrev pub invariant-loop-name : goal.invariant-loop-name
invariant-loop-name l = has_double l.names ≡ has_double l.rest

abbrev pub decreases-loop-name : goal.decreases-loop-name
decreases-loop-name l = length l.rest
