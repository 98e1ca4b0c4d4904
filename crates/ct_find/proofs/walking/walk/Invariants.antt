use Rattle.std.proofs.Common.{◌≡◌, ◌≤◌, Some}
use Rattle.std.specs.Prelude.{reverse}
use Rattle.ct_outside.specs.Files.{Files}
use Rattle.ct_find.specs.Limits.{most_entries}
use Rattle.ct_find.specs.Rows.{IsWalked}
use Rattle.ct_find.proofs.walking.walk.Given as goal

abbrev pub invariant-loop : goal.invariant-loop
invariant-loop g l =
    ((files : Files) → g.T.Tree.files l.initial.tree ≡ Some files → IsWalked files l.build (reverse l.initial.left.items) (reverse l.left.items) l.listing.rows l.listing.entries)
    × (l.listing.entries ≤ most_entries)
    × (g.T.Tree.files l.tree ≡ g.T.Tree.files l.initial.tree)
    × (g.T.Tree.read_faults l.tree ≡ g.T.Tree.read_faults l.initial.tree)
    × (g.T.Tree.write_faults l.tree ≡ g.T.Tree.write_faults l.initial.tree)
