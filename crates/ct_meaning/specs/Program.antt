-- The log of a test program: its runner's `main` is run.
use Rattle.std.specs.Prelude.{ℕ, ◌+◌, ◌-◌, ◌*◌, true, false, List, [], ◌∷◌, ◌++◌, map, Option, Some, None, codes}
use Rattle.ct_core.specs.declared.values.Space.{Space}
use Rattle.ct_core.specs.declared.values.Cell.TheVariants.{Byte}
use Rattle.ct_core.specs.declared.objects.Object.{Object}
use Rattle.ct_core.specs.declared.objects.Kind.TheVariants.{Text}
use Rattle.ct_core.specs.declared.testing.TestState.{TestState}
use Rattle.ct_core.specs.declared.units.CoreUnit.{CoreUnit}
use Rattle.ct_core.specs.declared.units.Definition.{Definition}
use Rattle.ct_core.specs.Memory.{Memory, no_objects, with_new}
use Rattle.ct_report.specs.declared.logs.RunLog.{RunLog}
use Rattle.ct_meaning.specs.declared.state.State.{State}
use Rattle.ct_meaning.specs.World.{World, Where, common_number}
use Rattle.ct_meaning.specs.Rules.{test_file}
use Rattle.ct_meaning.specs.Meaning.{calls}

-- ---- string literals are set before `main` (5.1.2)

-- a string literal ends in a zero byte (6.4.5p6). Its declared name is its place in the unit
abbrev pub text_object : ℕ → List ℕ → Object
text_object place bytes = record { kind = Text; name = place; cells = map Byte (bytes ++ 0 ∷ []); alive = true; constant = true }

abbrev pub with_texts : Space → ℕ → List (List ℕ) → Memory → Memory
with_texts space place [] m = m
with_texts space place (bytes ∷ texts) m = with_texts space (place + 1) texts (with_new space (text_object place bytes) m)

abbrev pub with_units : List CoreUnit → Memory → Memory
with_units [] m = m
with_units (unit ∷ units) m = with_units units (with_texts unit.space 0 unit.texts m)

-- the state in which `main` begins
abbrev pub first_state : World → State
first_state w =
    record { memory = with_units w.units no_objects; steps = 1000000; test = None; aborted = false; begun = 0; log = [] }

-- `main` is no call: it takes no level and no step
abbrev pub outermost : Where
outermost = record { level = 0; unit = 0; function = 0; frame = []; place = None }

abbrev pub main_number : World → Option ℕ
main_number w = common_number w (codes "main")

-- How many steps, tests and ends of tests a run can still take: at most 1,000 tests begin, each with the budget, and outside a
-- test there are at most 1,000,000 steps.
abbrev pub left_in_test : Option TestState → ℕ
left_in_test None = 0
left_in_test (Some test) = 1000001

abbrev pub left_in : ℕ → State → ℕ
left_in budget s = s.steps + (1000 - s.begun) * (budget + 1000002) + left_in_test s.test

-- more than is left where `main` begins
unfoldable pub enough : ℕ → ℕ
enough budget = 1000 * (budget + 1000002) + 1000002

-- the state at the end; without a `main` nothing is run
abbrev pub last_state_by : World → Option ℕ → State
last_state_by w (Some number) = (calls w (enough w.budget) number [] outermost (first_state w)).1
last_state_by w None = first_state w

unfoldable pub last_state : World → State
last_state w = last_state_by w (main_number w)

unfoldable pub log_of : World → RunLog
log_of w = record { file = test_file w; tests = (last_state w).log }

-- the meaning of units by their text alone: no row answers a function
abbrev pub plain_world : List CoreUnit → List Definition → ℕ → World
plain_world units functions budget = record { units = units; functions = functions; outside = []; budget = budget }
