use Rattle.std.proofs.Common.{take}
use Rattle.ct_find.specs.Order.{IsDeepStart}
use Rattle.ct_find.proofs.starts.is_deep_start.Given as goal

abbrev pub invariant-loop-pattern : goal.invariant-loop-pattern
invariant-loop-pattern l = IsDeepStart (take l.pattern-index l.patterns) l.folder → ⊥
