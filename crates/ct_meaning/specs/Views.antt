-- What the code's values stand for, and what a function of the evaluator gives.
use Rattle.std.specs.Prelude.{ℕ, ◌≡◌, List, Some, None, Result, Ok, Err}
use Rattle.ct_core.specs.declared.values.Pointer.{Pointer}
use Rattle.ct_meaning.specs.declared.program.Program.{Program}
use Rattle.ct_meaning.specs.declared.program.Called.{Called}
use Rattle.ct_meaning.specs.declared.program.Called.TheVariants as called
use Rattle.ct_meaning.specs.declared.state.State.{State}
use Rattle.ct_meaning.specs.declared.state.Position.{Position}
use Rattle.ct_meaning.specs.declared.state.Stop.{Stop}
use Rattle.ct_meaning.specs.declared.state.Stop.TheVariants.{Aborted, OutOfMemory}
use Rattle.ct_meaning.specs.Doing.{ValueAndState}
use Rattle.ct_meaning.specs.World.{World, Target, Defined, Given}
use Rattle.ct_meaning.specs.World as spec
use Rattle.ct_meaning.specs.declared.state.Where.{Where}
use Rattle.ct_meaning.specs.Program.{plain_world}

abbrev pub world_of : Program → World
world_of p = plain_world p.units.now p.functions.now p.budget

abbrev pub target_in : Called → Target
target_in (called.Defined unit place f) = Defined unit place f.now
target_in (called.Given b) = Given b

abbrev pub position_of : Position → List (ℕ × Pointer) → spec.Where
position_of at frame = record { level = at.level; unit = at.unit; function = at.function; frame = frame; place = at.place }

abbrev pub where_of : Where → spec.Where
where_of h = position_of h.at h.frame.now

-- this outcome, unless memory runs out
abbrev pub Gives : {A : Type 0} → ValueAndState A → Result A Stop → State → Type 0
Gives outcome (Ok a) new = outcome ≡ (Some a, new)
Gives outcome (Err Aborted) new = outcome ≡ (None, new)
Gives outcome (Err OutOfMemory) new = Unit {0}
