use Rattle.std.proofs.Common.{ℕ, List, ◌↔◌, take}
use Rattle.std.specs.List.{Contains}
use Rattle.ct_find.specs.Rows.{IsMatchedRow, texts_of}
use Rattle.ct_find.proofs.picking.folders_of.Given as goal

abbrev pub invariant-loop-row : goal.invariant-loop-row
invariant-loop-row l = (path : List ℕ) → Contains (texts_of l.paths.items) path ↔ IsMatchedRow (take l.row-index l.rows) l.patterns path
