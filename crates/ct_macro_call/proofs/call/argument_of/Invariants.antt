use Rattle.std.proofs.Common.{◌≡◌, length}
use Rattle.ct_macro_call.specs.Substitution.{argument_of}
use Rattle.ct_macro_call.proofs.call.argument_of.Given as goal

abbrev pub invariant-loop-name : goal.invariant-loop-name
invariant-loop-name l = argument_of l.text l.rest l.left ≡ argument_of l.text l.names l.arguments

abbrev pub decreases-loop-name : goal.decreases-loop-name
decreases-loop-name l = length l.rest
