use Rattle.std.proofs.Common.{◌≡◌, ◌↔◌, length}
use Rattle.ct_macro_call.proofs.definition.same_names.Given as goal

abbrev pub invariant-loop-name : goal.invariant-loop-name
invariant-loop-name l = (l.one ≡ l.other) ↔ (l.left ≡ l.right)

abbrev pub decreases-loop-name : goal.decreases-loop-name
decreases-loop-name l = length l.left
