use Rattle.std.proofs.Common.{ℕ, List, ◌↔◌, ◌⊎◌, take}
use Rattle.std.specs.List.{Contains}
use Rattle.ct_find.specs.Rows.{IsPickedBy, texts_of}
use Rattle.ct_find.proofs.picking.add_files.Given as goal

abbrev pub invariant-loop-entry : goal.invariant-loop-entry
invariant-loop-entry l =
    (path : List ℕ) → Contains (texts_of l.into.items) path
    ↔ (Contains (texts_of l.initial.into.items) path ⊎ IsPickedBy l.settings l.kind l.groups l.row.folder (take l.entry-index l.entry-items) path)
