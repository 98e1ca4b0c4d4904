use Rattle.std.proofs.Common.{◌≡◌, ◌++◌}
use Rattle.ct_find.specs.Rows.{texts_of}
use Rattle.ct_find.proofs.sets.as_texts.Given as goal

abbrev pub invariant-loop-path : goal.invariant-loop-path
invariant-loop-path l = l.texts ++ texts_of l.path-iterator.rest.items ≡ texts_of l.fn.paths.items
