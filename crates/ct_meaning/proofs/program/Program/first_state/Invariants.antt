use Rattle.std.proofs.Common.{◌≡◌, drop}
use Rattle.ct_core.specs.Memory.{no_objects}
use Rattle.ct_meaning.specs.Program.{with_units}
use Rattle.ct_meaning.proofs.program.Program.first_state.Given as goal

abbrev pub invariant-loop-unit : goal.invariant-loop-unit
invariant-loop-unit l = with_units (drop l.unit-index l.self.units.now) l.memory ≡ with_units l.self.units.now no_objects
