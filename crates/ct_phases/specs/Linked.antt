-- What a table of definitions says of units, and what the units of a test project are.
use Rattle.std.specs.Prelude.{◌≡◌, ◌≢◌, ℕ, suc, ◌<◌, ◌≤◌, Bool, true, false, not, ◌&&◌, List, [], ◌∷◌, ◌++◌, map, All, length, filter, bytes_eq, slice_get, Option, Some, None, option_and_then, codes}
use Rattle.std.specs.Prelude.{nat_eq}
use Rattle.std.specs.List.{list_any, starts_with}
use Rattle.ct_core.specs.declared.values.Space.TheVariants.{Project}
use Rattle.ct_core.specs.declared.built_ins.BuiltIn.{BuiltIn}
use Rattle.ct_core.specs.declared.units.CoreUnit.{CoreUnit}
use Rattle.ct_core.specs.declared.units.CoreFunction.{CoreFunction}
use Rattle.ct_core.specs.declared.units.Definition.{Definition}
use Rattle.ct_core.specs.BuiltIns.{built_in_rows, built_in_of}
use Rattle.ct_core.specs.BuiltIns.{Row as BuiltInRow}
use Rattle.ct_meaning.specs.World.{is_external}
use Rattle.ct_meaning_laws.specs.Names.{statement_names}
use Rattle.ct_meaning.specs.Written.{is_test, functions_of, defines}
use Rattle.ct_phases.specs.Runner.{runner_unit}

-- ---- the link of units

-- the function at a place of a unit
abbrev pub function_in : List CoreUnit → ℕ → ℕ → Option CoreFunction
function_in units unit place = option_and_then (λ (u : CoreUnit). slice_get u.functions place) (slice_get units unit)

-- a definition that each unit may name: of a function of external linkage, or built in
abbrev pub is_shared : List CoreUnit → Definition → Bool
is_shared units d = elim (function_in units d.unit d.place) [ Some f ↦ is_external f.linkage | None ↦ true ]

abbrev pub definition_of : CoreFunction → ℕ → ℕ → Definition
definition_of f unit place = record { name = f.name; unit = unit; place = place }

-- a definition of this name that each unit may name, and its number
pub record Shares (units : List CoreUnit) (functions : List Definition) (name : List ℕ) : Type 0 where
  pub number : ℕ
  pub definition : Definition
  pub stands : slice_get functions number ≡ Some definition
  pub named : definition.name ≡ name
  pub shared : is_shared units definition ≡ true

-- what a definition of this name stands for
abbrev pub Says : List ℕ → Option CoreFunction → Type 0
Says name (Some f) = f.name ≡ name
Says name None = (b : BuiltIn) × (built_in_of name ≡ Some b)

-- the table links the units
pub record IsLinked (units : List CoreUnit) (functions : List Definition) : Type 0 where
  -- each function of a unit has a number
  pub listed : (unit place : ℕ) (f : CoreFunction) → function_in units unit place ≡ Some f
      → (number : ℕ) × (slice_get functions number ≡ Some (definition_of f unit place))
  -- each name of a built-in function has one, which is a unit's own where a unit defines it
  pub offered : (name : List ℕ) (b : BuiltIn) → built_in_of name ≡ Some b → Shares units functions name
  -- each definition is that of a function of its unit, or of one that is built in
  pub known : (number : ℕ) (d : Definition) → slice_get functions number ≡ Some d → Says d.name (function_in units d.unit d.place)
  -- a name that each unit may name has one definition
  pub one : (i j : ℕ) (d e : Definition) → slice_get functions i ≡ Some d → slice_get functions j ≡ Some e
      → d.name ≡ e.name → is_shared units d ≡ true → is_shared units e ≡ true → i ≡ j

-- ---- a table in order: the functions of each unit, and then what is built in and no unit defines

abbrev pub definitions_from : ℕ → ℕ → List CoreFunction → List Definition
definitions_from unit place [] = []
definitions_from unit place (f ∷ fs) = definition_of f unit place ∷ definitions_from unit (suc place) fs

abbrev pub unit_definitions : ℕ → List CoreUnit → List Definition
unit_definitions unit [] = []
unit_definitions unit (u ∷ units) = definitions_from unit 0 u.functions ++ unit_definitions (suc unit) units

-- whether a unit defines a function of this name with external linkage
abbrev pub is_defined : List CoreUnit → List ℕ → Bool
is_defined units name = list_any (λ (u : CoreUnit). list_any (λ (f : CoreFunction). bytes_eq f.name name && is_external f.linkage) u.functions) units

abbrev pub built_in_definitions : List CoreUnit → List Definition
built_in_definitions units =
    map (λ (row : BuiltInRow). record { name = row.0; unit = length units; place = 0 }) (filter (λ (row : BuiltInRow). not (is_defined units row.0)) built_in_rows)

abbrev pub table_in_order : List CoreUnit → List Definition
table_in_order units = unit_definitions 0 units ++ built_in_definitions units

-- no two functions of external linkage have one name
abbrev pub AreNamedApart : List CoreUnit → Type 0
AreNamedApart units =
    (unit place other at : ℕ) (f g : CoreFunction) → function_in units unit place ≡ Some f → function_in units other at ≡ Some g
    → is_external f.linkage ≡ true → is_external g.linkage ≡ true → f.name ≡ g.name → (unit ≡ other) × (place ≡ at)

-- ---- the units of a test project

-- Only the runner's functions are named so.
abbrev pub is_ordinary : List ℕ → Bool
is_ordinary name = not (bytes_eq name (codes "main"))

-- a function of a test file or of a source
pub record IsProjectFunction (f : CoreFunction) : Type 0 where
  pub whole : All (λ (b : ℕ). b ≢ 0) f.name
  pub line : f.span.line < 4294967296
  pub unreserved : starts_with nat_eq f.name (codes "ceedling_run_") ≡ false
  pub names : statement_names is_ordinary f.body ≡ true

pub record IsProjectUnit (unit : CoreUnit) : Type 0 where
  pub space : unit.space ≡ Project
  pub functions : All IsProjectFunction unit.functions

-- the units of a test file, which is the first, and of its sources
pub record IsTestProject (units : List CoreUnit) : Type 0 where
  pub first : CoreUnit
  pub is_first : slice_get units 0 ≡ Some first
  pub own : All IsProjectUnit units
  -- no test program begins more tests
  pub few : length (filter is_test first.functions) ≤ 1000

-- the tests among these functions: their names and lines
abbrev pub tests_in : List CoreFunction → List (List ℕ × ℕ)
tests_in functions = map (λ (f : CoreFunction). (f.name, f.span.line)) (filter is_test functions)

-- the runner of a test file, which is the first unit
abbrev pub runner_of : List ℕ → List CoreUnit → CoreUnit
runner_of path units =
    runner_unit path (tests_in (functions_of (slice_get units 0))) (defines units (codes "setUp")) (defines units (codes "tearDown"))
