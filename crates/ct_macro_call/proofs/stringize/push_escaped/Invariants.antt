use Rattle.std.proofs.Common.{◌≡◌, ◌++◌, length}
use Rattle.std.specs.List.{flat_map}
use Rattle.ct_macro_call.specs.Spelled.{escaped_byte}
use Rattle.ct_macro_call.proofs.stringize.push_escaped.Given as goal

abbrev pub invariant-loop-byte : goal.invariant-loop-byte
invariant-loop-byte l =
    l.into.items ++ flat_map escaped_byte l.rest ≡ l.initial.into.items ++ flat_map escaped_byte l.initial.rest

abbrev pub decreases-loop-byte : goal.decreases-loop-byte
decreases-loop-byte l = length l.rest
