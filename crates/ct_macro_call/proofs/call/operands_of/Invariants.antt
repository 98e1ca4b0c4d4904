use Rattle.std.proofs.Common.{◌≡◌, ◌++◌, length}
use Rattle.ct_macro_call.specs.Substitution.{operands, operands_of}
use Rattle.ct_macro_call.proofs.call.operands_of.Given as goal

abbrev pub invariant-loop-token : goal.invariant-loop-token
invariant-loop-token l =
    l.operands ++ operands l.function l.behind_paste l.hash l.rest ≡ operands_of l.macro_

abbrev pub decreases-loop-token : goal.decreases-loop-token
decreases-loop-token l = length l.rest
