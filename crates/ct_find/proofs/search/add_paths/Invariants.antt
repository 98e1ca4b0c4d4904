use Rattle.std.proofs.Common.{◌≡◌, ◌++◌, take}
use Rattle.ct_find.specs.Rows.{texts_of}
use Rattle.ct_find.proofs.search.add_paths.Given as goal

abbrev pub invariant-loop-path : goal.invariant-loop-path
invariant-loop-path l = texts_of l.into.items ≡ texts_of l.initial.into.items ++ take l.path-index l.paths
