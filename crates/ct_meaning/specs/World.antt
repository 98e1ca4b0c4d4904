-- What a run does not change: the units, their link and the budget; and where in the program a part is evaluated.
use Rattle.std.specs.Prelude.{ℕ, ◌+◌, ◌==◌, Bool, true, false, ◌&&◌, if◌then◌else◌, List, length, find, position, bytes_eq, take, sum_by, slice_get, Option, Some, None, option_map, option_and_then}
use Rattle.ct_core.specs.declared.values.Space.{Space}
use Rattle.ct_core.specs.declared.values.Space.TheVariants.{Project, Tool}
use Rattle.ct_core.specs.declared.values.Pointer.{Pointer}
use Rattle.ct_core.specs.declared.built_ins.BuiltIn.{BuiltIn}
use Rattle.ct_core.specs.declared.units.CoreUnit.{CoreUnit}
use Rattle.ct_core.specs.declared.units.CoreFunction.{CoreFunction}
use Rattle.ct_core.specs.declared.units.Variable.{Variable}
use Rattle.ct_core.specs.declared.units.Definition.{Definition}
use Rattle.ct_core.specs.declared.units.Linkage.{Linkage}
use Rattle.ct_core.specs.declared.units.Linkage.TheVariants.{External, Internal, Absent}
use Rattle.ct_core.specs.BuiltIns.{built_in_of}
use Rattle.ct_meaning.specs.declared.state.Place.{Place}

-- What answers a function in place of its definition. `Empty` ends at once.
pub data Row : Type 0 where
  Empty : Row

-- `outside` names the functions that are answered by a row
pub record World : Type 0 where
  pub units : List CoreUnit
  pub functions : List Definition
  pub outside : List (ℕ × Row)
  pub budget : ℕ

-- Where a part is evaluated: the level of calls, the unit and the function in it, the objects of the function's variables
-- that exist, the newest first, and the innermost begun statement of the innermost running function of a Project unit.
pub record Where : Type 0 where
  pub level : ℕ
  pub unit : ℕ
  pub function : ℕ
  pub frame : List (ℕ × Pointer)
  pub place : Option Place

-- ---- units and their functions

abbrev pub space_of : Option CoreUnit → Space
space_of (Some unit) = unit.space
space_of None = Tool

-- where the objects of a unit lie
abbrev pub unit_space : World → ℕ → Space
unit_space w unit = space_of (slice_get w.units unit)

abbrev pub function_at : World → ℕ → ℕ → Option CoreFunction
function_at w unit place = option_and_then (λ (u : CoreUnit). slice_get u.functions place) (slice_get w.units unit)

-- the variable of this place in the function that is running
abbrev pub variable_of : Option CoreFunction → ℕ → Option Variable
variable_of f place = option_and_then (λ (f : CoreFunction). slice_get f.variables place) f

abbrev pub variable_at : World → Where → ℕ → Option Variable
variable_at w h place = variable_of (function_at w h.unit h.function) place

-- the object of a variable
abbrev pub object_in : List (ℕ × Pointer) → ℕ → Option Pointer
object_in frame place = option_map (λ (entry : ℕ × Pointer). entry.1) (find (λ (entry : ℕ × Pointer). entry.0 == place) frame)

-- ---- the functions of the program, by number

abbrev pub is_external : Linkage → Bool
is_external External = true
is_external Internal = false
is_external Absent = false

-- a definition that each unit may name: of external linkage, built in, or of a unit that is not in this world (the runner's
-- `setUp` and `tearDown` in the written meaning, which rows answer)
abbrev pub is_common : World → Definition → Bool
is_common w d = elim (function_at w d.unit d.place) [ Some f ↦ is_external f.linkage | None ↦ true ]

-- the number of the function that a name means in each unit which has none of its own
abbrev pub common_number : World → List ℕ → Option ℕ
common_number w name = position (λ (d : Definition). bytes_eq d.name name && is_common w d) w.functions

abbrev pub or_else : Option ℕ → Option ℕ → Option ℕ
or_else (Some n) m = Some n
or_else None m = m

-- the number of the unit's own function of a name
abbrev pub own_number : World → ℕ → List ℕ → Option ℕ
own_number w unit name = position (λ (d : Definition). bytes_eq d.name name && d.unit == unit) w.functions

-- the number of the function that a name means in a unit: the unit's own function of that name, else the common one
abbrev pub function_number : World → ℕ → List ℕ → Option ℕ
function_number w unit name = or_else (own_number w unit name) (common_number w name)

-- what a number means: a function that a row answers, one that a unit defines, or one that is built in
pub data Target : Type 0 where
  Outside : Row → Target
  Defined : ℕ → ℕ → CoreFunction → Target
  Given : BuiltIn → Target

abbrev pub defined_target : World → Definition → Option CoreFunction → Option Target
defined_target w d (Some f) = Some (Defined d.unit d.place f)
defined_target w d None = option_map Given (built_in_of d.name)

abbrev pub inner_target : World → Option Definition → Option Target
inner_target w None = None
inner_target w (Some d) = defined_target w d (function_at w d.unit d.place)

abbrev pub outer_target : Option (ℕ × Row) → Option Target → Option Target
outer_target (Some entry) inner = Some (Outside entry.1)
outer_target None inner = inner

abbrev pub target_of : World → ℕ → Option Target
target_of w number =
    outer_target (find (λ (entry : ℕ × Row). entry.0 == number) w.outside) (inner_target w (slice_get w.functions number))

-- ---- string literals: those of all units of a space, in the order of the units, are the first objects of the space

abbrev pub same_space : Space → Space → Bool
same_space Project Project = true
same_space Project Tool = false
same_space Tool Project = false
same_space Tool Tool = true

-- how many string literals these units have in a space
abbrev pub text_count : Space → List CoreUnit → ℕ
text_count space units = sum_by (λ (u : CoreUnit). if same_space u.space space then length u.texts else 0) units

-- the first byte of a string literal
abbrev pub text_pointer : World → ℕ → ℕ → Pointer
text_pointer w unit text =
    let space = unit_space w unit in
    record { space = space; number = text_count space (take unit w.units) + text; offset = 0 }
