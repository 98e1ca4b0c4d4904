use Rattle.std.proofs.Common.{ℕ, List, ◌↔◌, take}
use Rattle.std.specs.List.{Contains}
use Rattle.ct_outside.specs.declared.tree.Entry.{Entry}
use Rattle.ct_find.specs.Rows.{IsChildOf, texts_of}
use Rattle.ct_find.proofs.walking.children.Given as goal

abbrev pub invariant-loop-entry : goal.invariant-loop-entry
invariant-loop-entry l =
    (path : List ℕ) → Contains (texts_of l.paths.items) path ↔ ((entry : Entry) × Contains (take l.entry-index l.entry-items) entry × IsChildOf l.row.folder entry path)
