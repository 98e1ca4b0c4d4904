use Rattle.std.proofs.Common.{◌≡◌, ◌++◌, drop}
use Rattle.ct_phases.specs.Linked.{unit_definitions}
use Rattle.ct_phases.proofs.table.table.Given as goal

abbrev pub invariant-loop-number : goal.invariant-loop-number
invariant-loop-number l = unit_definitions 0 l.units ≡ l.functions ++ unit_definitions l.number (drop l.number l.units)
