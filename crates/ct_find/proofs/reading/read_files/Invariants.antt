use Rattle.std.proofs.Common.{◌≡◌, ◌≤◌, Some}
use Rattle.ct_outside.specs.Files.{Files}
use Rattle.ct_find.specs.Limits.{most_bytes}
use Rattle.ct_find.specs.Rows.{AreSmall, AreThere, HasReadSome}
use Rattle.ct_find.proofs.reading.read_files.Given as goal

abbrev pub invariant-loop-path : goal.invariant-loop-path
invariant-loop-path g l =
    ((files : Files) → g.T.Tree.files l.initial.tree ≡ Some files → AreThere files l.paths → HasReadSome files l.paths l.path-index l.read l.texts)
    × (l.read ≤ most_bytes)
    × AreSmall l.texts
    × (g.T.Tree.files l.tree ≡ g.T.Tree.files l.initial.tree)
    × (g.T.Tree.read_faults l.tree ≡ g.T.Tree.read_faults l.initial.tree)
    × (g.T.Tree.write_faults l.tree ≡ g.T.Tree.write_faults l.initial.tree)
