use Rattle.std.proofs.Common.{◌≡◌, ◌++◌, drop}
use Rattle.ct_phases.specs.Linked.{definitions_from}
use Rattle.ct_phases.proofs.table.push_unit.Given as goal

abbrev pub invariant-loop-place : goal.invariant-loop-place
invariant-loop-place l =
    l.fn.all ++ definitions_from l.number 0 l.unit.functions ≡ l.all ++ definitions_from l.number l.place (drop l.place l.unit.functions)
