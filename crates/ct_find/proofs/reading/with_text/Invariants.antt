use Rattle.std.proofs.Common.{◌≡◌, take}
use Rattle.ct_find.specs.Rows.{with_text}
use Rattle.ct_find.proofs.reading.with_text.Given as goal

abbrev pub invariant-loop-path : goal.invariant-loop-path
invariant-loop-path l = l.kept ≡ with_text l.texts (take l.path-index l.paths)
