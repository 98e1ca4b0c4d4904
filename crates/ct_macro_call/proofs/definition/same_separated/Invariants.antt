use Rattle.std.proofs.Common.{◌≡◌, ◌↔◌, map, length}
use Rattle.ct_macro_call.specs.Definition.{separated}
use Rattle.ct_macro_call.proofs.definition.same_separated.Given as goal

abbrev pub invariant-loop-token : goal.invariant-loop-token
invariant-loop-token l = (map separated l.one ≡ map separated l.other) ↔ (map separated l.left ≡ map separated l.right)

abbrev pub decreases-loop-token : goal.decreases-loop-token
decreases-loop-token l = length l.left
