use Rattle.std.proofs.Common.{◌≡◌, ◌++◌, take, drop}
use Rattle.ct_macro.proofs.keeping.move_front.Given as goal

abbrev pub invariant-loop-left : goal.invariant-loop-left
invariant-loop-left l =
    (l.into ++ take l.left l.from ≡ l.initial.into ++ take l.initial.count l.initial.from) × (drop l.left l.from ≡ drop l.initial.count l.initial.from)

abbrev pub decreases-loop-left : goal.decreases-loop-left
decreases-loop-left l = l.left
