use Rattle.std.proofs.Common.{map, take}
use Rattle.ct_outside.specs.Files.{EachOnce}
use Rattle.ct_top.specs.Project as spec
use Rattle.ct_top.proofs.NameLemmas.{HasNames}
use Rattle.ct_top.proofs.names.check_names.Given as goal

-- the names so far are apart, and are those of the set
abbrev pub invariant-loop-path : goal.invariant-loop-path
invariant-loop-path l = EachOnce (map spec.base_name (take l.path-index l.paths)) × HasNames l.names (take l.path-index l.paths)
