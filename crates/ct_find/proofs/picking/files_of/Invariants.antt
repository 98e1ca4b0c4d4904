use Rattle.std.proofs.Common.{ℕ, List, ◌↔◌, take}
use Rattle.std.specs.List.{Contains}
use Rattle.ct_find.specs.Rows.{HaveGroups, IsPicked, texts_of}
use Rattle.ct_find.proofs.picking.files_of.Given as goal

abbrev pub invariant-loop-row : goal.invariant-loop-row
invariant-loop-row l =
    ((path : List ℕ) → Contains (texts_of l.paths.items) path ↔ IsPicked (take l.row-index l.rows) l.settings l.kind path)
    × HaveGroups l.settings (take l.row-index l.rows)
