use Rattle.std.proofs.Common.{◌≡◌, replicate}
use Rattle.ct_core.specs.declared.values.Cell.TheVariants.{Nothing}
use Rattle.ct_memory.proofs.access.new_cells.Given as goal

abbrev pub invariant-loop-i : goal.invariant-loop-i
invariant-loop-i l = l.cells ≡ replicate l._i Nothing
