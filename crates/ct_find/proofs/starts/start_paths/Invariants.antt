use Rattle.std.proofs.Common.{ℕ, List, ◌↔◌, take}
use Rattle.std.specs.List.{Contains}
use Rattle.ct_find.specs.Order.{IsStart}
use Rattle.ct_find.specs.Rows.{texts_of}
use Rattle.ct_find.proofs.starts.start_paths.Given as goal

abbrev pub invariant-loop-pattern : goal.invariant-loop-pattern
invariant-loop-pattern l = (path : List ℕ) → Contains (texts_of l.paths.items) path ↔ IsStart (take l.pattern-index l.patterns) path
