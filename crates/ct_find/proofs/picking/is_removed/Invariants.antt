use Rattle.std.proofs.Common.{take}
use Rattle.ct_find.specs.Folders.{IsRemoved}
use Rattle.ct_find.proofs.picking.is_removed.Given as goal

-- none so far
abbrev pub invariant-loop-pattern : goal.invariant-loop-pattern
invariant-loop-pattern l = IsRemoved (take l.pattern-index l.patterns) l.folder → ⊥
