-- The written meaning of a test file: which tests it has, and how each is run in two phases.
use Rattle.std.specs.Prelude.{ℕ, ◌==◌, Bool, true, false, ◌&&◌, ◌||◌, if◌then◌else◌, List, [], ◌∷◌, ◌++◌, map, filter, bytes_eq, Option, Some, None, unwrap_or, codes, slice_get}
use Rattle.std.specs.Prelude.{nat_eq}
use Rattle.std.specs.List.{list_any, starts_with}
use Rattle.ct_ctype.specs.declared.types.CType.{CType, out-CType}
use Rattle.ct_ctype.specs.declared.types.CType.TheOpen.{CType-F}
use Rattle.ct_core.specs.declared.units.CoreUnit.{CoreUnit}
use Rattle.ct_core.specs.declared.units.CoreFunction.{CoreFunction}
use Rattle.ct_core.specs.declared.units.Definition.{Definition}
use Rattle.ct_report.specs.declared.logs.RunLog.{RunLog}
use Rattle.ct_meaning.specs.declared.state.State.{State}
use Rattle.ct_meaning.specs.Doing.{Does, ◌>>◌, pure}
use Rattle.ct_meaning.specs.World.{World, Row, Empty, is_external, common_number}
use Rattle.ct_meaning.specs.Rules.{test_file, with_test, without_test}
use Rattle.ct_meaning.specs.Meaning.{Calls, calls, enter}
use Rattle.ct_meaning.specs.Program.{first_state, outermost, enough}

-- ---- the tests of a file

-- a test: its name, its line, and the number of its function
pub record Test : Type 0 where
  pub name : List ℕ
  pub line : ℕ
  pub number : ℕ

abbrev pub is_void_step : {X Y : Type 0} → CType-F X Y → Bool
is_void_step CType-F.Void = true
is_void_step (CType-F.Int k) = false
is_void_step (CType-F.Pointer pointee constant) = false
is_void_step (CType-F.Array element count) = false
is_void_step (CType-F.Struct which) = false
is_void_step (CType-F.Function f) = false

abbrev pub is_void : CType → Bool
is_void t = is_void_step (out-CType t)

abbrev pub has_test_name : List ℕ → Bool
has_test_name name = starts_with nat_eq name (codes "test") || starts_with nat_eq name (codes "spec") || starts_with nat_eq name (codes "should")

-- a function of external linkage, `void` and without parameters, whose name begins with `test`, `spec` or `should`
abbrev pub is_test : CoreFunction → Bool
is_test f = is_external f.linkage && is_void f.kind.result && f.parameters == 0 && has_test_name f.name

-- its line is that of its name
abbrev pub test_of : World → CoreFunction → Test
test_of w f = record { name = f.name; line = f.span.line; number = unwrap_or (common_number w f.name) 0 }

abbrev pub functions_of : Option CoreUnit → List CoreFunction
functions_of (Some unit) = unit.functions
functions_of None = []

-- the tests of the first unit, in the order of the text
abbrev pub tests_of : World → List Test
tests_of w = map (test_of w) (filter is_test (functions_of (slice_get w.units 0)))

-- ---- a phase calls functions that take and give nothing, in order; an abort ends it

abbrev pub in_order : World → Calls → List ℕ → Does (Unit {0})
in_order w call [] = pure tt
in_order w call (number ∷ numbers) = enter w outermost call number [] >> in_order w call numbers

abbrev pub phase : World → Calls → List ℕ → State → State
phase w call numbers s = (in_order w call numbers s).1

-- ---- a test begins with no verdict and the budget: `setUp` and the test, and then `tearDown`

abbrev pub phases_state : World → Calls → ℕ → ℕ → Test → State → State
phases_state w call set_up tear_down test s =
    phase w call (tear_down ∷ []) (phase w call (set_up ∷ test.number ∷ []) (with_test w test.name test.line s))

abbrev pub test_state : World → Calls → ℕ → ℕ → Test → State → State
test_state w call set_up tear_down test s = without_test (phases_state w call set_up tear_down test s)

abbrev pub tests_state : World → Calls → ℕ → ℕ → List Test → State → State
tests_state w call set_up tear_down [] s = s
tests_state w call set_up tear_down (test ∷ tests) s = tests_state w call set_up tear_down tests (test_state w call set_up tear_down test s)

-- ---- the log of a test file, with one entry for each test

-- whether the first unit defines a function of this name with external linkage
abbrev pub defines : List CoreUnit → List ℕ → Bool
defines units name = list_any (λ (f : CoreFunction). bytes_eq f.name name && is_external f.linkage) (functions_of (slice_get units 0))

-- a function that the test file does not define is empty, and is called all the same
abbrev pub empty_row : World → List ℕ → List (ℕ × Row)
empty_row w name = if defines w.units name then [] else elim (common_number w name) [ Some n ↦ (n, Empty) ∷ [] | None ↦ [] ]

abbrev pub with_rows : World → World
with_rows w = record w { outside = empty_row w (codes "setUp") ++ empty_row w (codes "tearDown") }

-- the units of the project, the test file first, without the runner; the functions are numbered as with it
abbrev pub written_world : List CoreUnit → List Definition → ℕ → World
written_world units functions budget = with_rows (record { units = units; functions = functions; outside = []; budget = budget })

unfoldable pub last_written_state : World → State
last_written_state w =
    tests_state w (calls w (enough w.budget)) (unwrap_or (common_number w (codes "setUp")) 0) (unwrap_or (common_number w (codes "tearDown")) 0) (tests_of w) (first_state w)

unfoldable pub written_log : World → RunLog
written_log w = record { file = test_file w; tests = (last_written_state w).log }
