use Rattle.std.proofs.Common.{◌≡◌, cond, length}
use Rattle.std.specs.List.{list_any}
use Rattle.ct_outside.specs.Files.{is_slash}
use Rattle.ct_top.specs.Project as spec
use Rattle.ct_top.proofs.names.base_name.Given as goal

abbrev pub invariant-loop-byte : goal.invariant-loop-byte
invariant-loop-byte l = cond (list_any is_slash l.rest) (spec.base_name l.rest) l.name ≡ spec.base_name l.fn.path

abbrev pub decreases-loop-byte : goal.decreases-loop-byte
decreases-loop-byte l = length l.rest
