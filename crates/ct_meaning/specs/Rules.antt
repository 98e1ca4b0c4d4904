-- The rules that evaluate no part. Only they read or change the state.
use Rattle.std.specs.Prelude.{ℕ, ◌+◌, ◌-◌, ◌==◌, nat_lt, Bool, true, false, not, ◌&&◌, if◌then◌else◌, ℤ, unsigned_abs, List, [], ◌∷◌, ◌++◌, take, min, max, slice_get, Option, Some, None, is_some, is_none, option_map, option_and_then, unwrap_or, Result, Ok, Err}
use Rattle.ct_base.specs.Limits.{mebibyte}
use Rattle.ct_base.specs.declared.faults.FaultKind.{FaultKind}
use Rattle.ct_base.specs.declared.faults.FaultKind.TheVariants.{NullPointer, DeadObject, OutOfBounds, BadCall, MissingReturn, CallDepth, StepBudget}
use Rattle.ct_base.specs.declared.operators.BinaryOp.{BinaryOp}
use Rattle.ct_ctype.specs.declared.kinds.IntKind.{IntKind}
use Rattle.ct_ctype.specs.declared.kinds.IntKind.TheVariants.{UnsignedInt, LongLong}
use Rattle.ct_ctype.specs.declared.types.CType.{CType, out-CType}
use Rattle.ct_ctype.specs.declared.types.CType.TheOpen.{CType-F}
use Rattle.ct_ctype.specs.Ranges.{is_in_range}
use Rattle.ct_ctype.specs.Conversion.{converted}
use Rattle.ct_ctype.specs.Operation.{binary_result, is_shift, is_zero}
use Rattle.ct_ctype.specs.Layout.{Table, extent_of}
use Rattle.ct_report.specs.declared.logs.Verdict.TheVariants.{Fail}
use Rattle.ct_core.specs.declared.values.Space.{Space}
use Rattle.ct_core.specs.declared.values.Space.TheVariants.{Project, Tool}
use Rattle.ct_core.specs.declared.values.Pointer.{Pointer}
use Rattle.ct_core.specs.declared.values.Value.{Value}
use Rattle.ct_core.specs.declared.values.Value.TheVariants.{Void, Int, Null, Object, Function, Struct}
use Rattle.ct_core.specs.declared.objects.Kind.TheVariants.{Automatic}
use Rattle.ct_core.specs.declared.objects.Scalar.{Scalar}
use Rattle.ct_core.specs.declared.objects.Scalar.TheVariants as scalar
use Rattle.ct_core.specs.declared.trees.Mark.{Mark}
use Rattle.ct_core.specs.declared.testing.TestState.{TestState}
use Rattle.ct_core.specs.declared.units.CoreUnit.{CoreUnit}
use Rattle.ct_core.specs.declared.units.Variable.{Variable}
use Rattle.ct_core.specs.Memory.{Memory, new_object, next_pointer, with_new}
use Rattle.ct_core.specs.Access.{load_result, store_result, initialise_result, end_result, and_then, string_at}
use Rattle.ct_core.specs.Testing.{begun_test, judged, finished, faulted}
use Rattle.ct_core.specs.BuiltIns.{equal_failure}
use Rattle.ct_meaning.specs.declared.state.State.{State}
use Rattle.ct_meaning.specs.declared.state.Place.{Place}
use Rattle.ct_meaning.specs.Doing.{ValueAndState, Does, ◌>>=◌, pure}
use Rattle.ct_meaning.specs.World.{World, Where, unit_space, variable_at, object_in, function_number, text_pointer}

-- the path of the test file
abbrev pub path_of : Option CoreUnit → List ℕ
path_of (Some unit) = unwrap_or (slice_get unit.files 0) []
path_of None = []

abbrev pub test_file : World → List ℕ
test_file w = path_of (slice_get w.units 0)

-- ---- faults

-- the path of the file of a statement
abbrev pub file_of : World → Place → List ℕ
file_of w place = unwrap_or (option_and_then (λ (u : CoreUnit). slice_get u.files place.span.file) (slice_get w.units place.unit)) []

-- A fault fails the test. It names the innermost begun statement of a Project unit, or the test where none runs.
abbrev pub failed_test : World → Option Place → FaultKind → TestState → TestState
failed_test w (Some place) fault test = faulted fault (file_of w place) place.span.line test
failed_test w None fault test = faulted fault test.file test.line test

-- the test that runs, if one does, has failed
unfoldable pub failed : World → Where → FaultKind → State → State
failed w h fault s = record s { test = option_map (failed_test w h.place fault) s.test }

-- a fault aborts
abbrev pub stop : {A : Type 0} → World → Where → FaultKind → Does A
stop w h fault = λ s. (None, failed w h fault s)

-- the answer of a rule, or its fault
unfoldable pub given : {A : Type 0} → World → Where → Result A FaultKind → Does A
given w h (Ok a) = pure a
given w h (Err fault) = stop w h fault

-- ---- values. Of the faults MissingReturn is for a function that ended without the value that is used here (6.9.1p12);
-- typed trees give values of the right types.

-- a value that is used
abbrev pub used : Value → Result Value FaultKind
used Void = Err MissingReturn
used v = Ok v

abbrev pub pointer_in : Value → Result Pointer FaultKind
pointer_in (Object p) = Ok p
pointer_in Null = Err NullPointer
pointer_in (Function n) = Err OutOfBounds
pointer_in Void = Err MissingReturn
pointer_in (Int z) = Err MissingReturn
pointer_in (Struct cells) = Err MissingReturn

-- a number of this kind
abbrev pub number_in : IntKind → Value → Result ℤ FaultKind
number_in k (Int z) = if is_in_range k z then Ok z else Err MissingReturn
number_in k Void = Err MissingReturn
number_in k Null = Err MissingReturn
number_in k (Object p) = Err MissingReturn
number_in k (Function n) = Err MissingReturn
number_in k (Struct cells) = Err MissingReturn

abbrev pub any_number_in : Value → Result ℤ FaultKind
any_number_in (Int z) = Ok z
any_number_in Void = Err MissingReturn
any_number_in Null = Err MissingReturn
any_number_in (Object p) = Err MissingReturn
any_number_in (Function n) = Err MissingReturn
any_number_in (Struct cells) = Err MissingReturn

-- whether a value compares unequal to 0 (6.8.4.1p2, 6.8.5p4)
abbrev pub truth_in : Value → Result Bool FaultKind
truth_in (Int z) = Ok (not (is_zero z))
truth_in Null = Ok false
truth_in (Object p) = Ok true
truth_in (Function n) = Ok true
truth_in Void = Err MissingReturn
truth_in (Struct cells) = Err MissingReturn

-- the value as one of the scalar type
abbrev pub scalar_in : Scalar → Value → Result Value FaultKind
scalar_in (scalar.Int k) v = and_then (number_in k v) (λ z. Ok (Int z))

abbrev pub number_value : Result ℤ FaultKind → Result Value FaultKind
number_value (Ok z) = Ok (Int z)
number_value (Err fault) = Err fault

-- the right operand of an operator: the count of a shift is of any kind
abbrev pub right_number : BinaryOp → IntKind → Value → Result ℤ FaultKind
right_number op k v = if is_shift op then any_number_in v else number_in k v

unfoldable pub binary_value : BinaryOp → IntKind → Value → Value → Result Value FaultKind
binary_value op k x y =
    and_then (number_in k x) (λ a. and_then (right_number op k y) (λ b. number_value (binary_result op k a b)))

unfoldable pub converted_value : IntKind → Value → Result Value FaultKind
converted_value k v = and_then (any_number_in v) (λ z. Ok (Int (converted z k)))

abbrev pub apply_binary : World → Where → BinaryOp → IntKind → Value → Value → Does Value
apply_binary w h op k x y = given w h (binary_value op k x y)

abbrev pub apply_conversion : World → Where → IntKind → Value → Does Value
apply_conversion w h k v = given w h (converted_value k v)

-- ---- objects

abbrev pub address_in : List (ℕ × Pointer) → ℕ → Result Value FaultKind
address_in frame place = elim (object_in frame place) [ Some p ↦ Ok (Object p) | None ↦ Err DeadObject ]

unfoldable pub variable : World → Where → ℕ → Does Value
variable w h place = given w h (address_in h.frame place)

unfoldable pub literal : World → Where → ℕ → Does Value
literal w h text = pure (Object (text_pointer w h.unit text))

abbrev pub function_value : Option ℕ → Result Value FaultKind
function_value (Some n) = Ok (Function n)
function_value None = Err BadCall

unfoldable pub designator : World → Where → List ℕ → Does Value
designator w h name = given w h (function_value (function_number w h.unit name))

abbrev pub value_from : Value → Scalar → Memory → Result Value FaultKind
value_from address t m = and_then (pointer_in address) (λ p. load_result p t m)

unfoldable pub load : World → Where → Scalar → Value → Does Value
load w h t address = λ s. given w h (value_from address t s.memory) s

-- a value and the memory in which it is stored
abbrev pub with_value : Value → Result Memory FaultKind → Result (Value × Memory) FaultKind
with_value v (Ok m) = Ok (v, m)
with_value v (Err fault) = Err fault

abbrev pub stored_value : Value → Scalar → Value → Memory → Result (Value × Memory) FaultKind
stored_value address t v m = and_then (pointer_in address) (λ p. and_then (scalar_in t v) (λ x. with_value x (store_result p t x m)))

abbrev pub first_value : Value → Scalar → Value → Memory → Result (Value × Memory) FaultKind
first_value address t v m = and_then (pointer_in address) (λ p. and_then (scalar_in t v) (λ x. with_value x (initialise_result p t x m)))

-- the value as it was stored (6.5.16p3)
unfoldable pub changed : World → Where → State → Result (Value × Memory) FaultKind → ValueAndState Value
changed w h s (Ok stored) = (Some stored.0, record s { memory = stored.1 })
changed w h s (Err fault) = stop w h fault s

unfoldable pub store : World → Where → Scalar → Value → Value → Does Value
store w h t address v = λ s. changed w h s (stored_value address t v s.memory)

-- the first value of a variable (6.7.9p11)
unfoldable pub initialise : World → Where → ℕ → Scalar → Value → Does Value
initialise w h place t v = λ s. changed w h s (and_then (address_in h.frame place) (λ address. first_value address t v s.memory))

-- the scalar type that an object's type is
abbrev pub scalar_step : {X Y : Type 0} → CType-F X Y → Option Scalar
scalar_step (CType-F.Int k) = Some (scalar.Int k)
scalar_step CType-F.Void = None
scalar_step (CType-F.Pointer pointee constant) = None
scalar_step (CType-F.Array element count) = None
scalar_step (CType-F.Struct which) = None
scalar_step (CType-F.Function f) = None

abbrev pub scalar_of : CType → Option Scalar
scalar_of t = scalar_step (out-CType t)

-- the bytes of an object, from 1 to 1 MiB: typing gives no other type to one
abbrev pub object_bytes : Table → CType → ℕ
object_bytes structs t = max 1 (min mebibyte (elim (extent_of structs t) [ Some e ↦ e.size | None ↦ 1 ]))

abbrev pub structs_of : Option CoreUnit → Table
structs_of (Some unit) = unit.structs
structs_of None = []

-- a new object for a variable. Its declared name is the variable's place in its function
abbrev pub variable_memory : World → Where → ℕ → Option Variable → Memory → Memory
variable_memory w h place (Some v) m =
    with_new (unit_space w h.unit) (new_object Automatic place (object_bytes (structs_of (slice_get w.units h.unit)) v.kind) v.constant) m
variable_memory w h place None m = with_new (unit_space w h.unit) (new_object Automatic place 1 false) m

-- makes the objects of variables, and gives the frame with them
unfoldable pub begin_objects : World → Where → List ℕ → List (ℕ × Pointer) → Does (List (ℕ × Pointer))
begin_objects w h [] frame = pure frame
begin_objects w h (place ∷ places) frame = λ s.
    begin_objects w h places ((place, next_pointer (unit_space w h.unit) s.memory) ∷ frame)
    (record s { memory = variable_memory w h place (variable_at w h place) s.memory })

abbrev pub result_or : {A : Type 0} → Result A FaultKind → A → A
result_or (Ok a) b = a
result_or (Err fault) b = b

-- the memory in which these objects have ended
abbrev pub without_objects : List (ℕ × Pointer) → Memory → Memory
without_objects [] m = m
without_objects (entry ∷ entries) m = without_objects entries (result_or (end_result entry.1 m) m)

-- ends the newest objects of a frame
unfoldable pub end_objects : ℕ → List (ℕ × Pointer) → State → State
end_objects count frame s = record s { memory = without_objects (take count frame) s.memory }

-- ---- steps and levels

-- the number of levels that calls may nest
abbrev pub level_limit : ℕ
level_limit = 64

unfoldable pub check_level : World → Where → Does (Unit {0})
check_level w h = if nat_lt h.level level_limit then pure tt else stop w h CallDepth

unfoldable pub take_step : World → Where → Does (Unit {0})
take_step w h = λ s. if nat_lt 0 s.steps then (Some tt, record s { steps = s.steps - 1 }) else stop w h StepBudget s

-- ---- statements

-- where a statement's parts are evaluated: of a Project unit the statement is the place
abbrev pub begun_in : Space → Where → Mark → Where
begun_in Project h mark = record h { place = Some (record { unit = h.unit; span = mark.span }) }
begun_in Tool h mark = h

abbrev pub begun : World → Where → Mark → Where
begun w h mark = begun_in (unit_space w h.unit) h mark

-- ---- the functions that are built in

-- the first argument of a call, the second and so on
abbrev pub argument : ℕ → List Value → Result Value FaultKind
argument n values = elim (slice_get values n) [ Some v ↦ Ok v | None ↦ Err BadCall ]

abbrev pub number_argument : IntKind → ℕ → List Value → Result ℤ FaultKind
number_argument k n values = and_then (argument n values) (number_in k)

-- an assertion: where it fails, so does the test at this line, and the phase is aborted
unfoldable pub failed_at : ℤ → Option (List ℕ) → Does Value
failed_at line None = pure Void
failed_at line (Some text) = λ s. (None, record s { test = option_map (judged Fail (unsigned_abs line) text) s.test })

-- the line of an assertion, and how it fails
abbrev pub equal_check : List Value → Result (ℤ × Option (List ℕ)) FaultKind
equal_check values =
    and_then (number_argument UnsignedInt 0 values) (λ line. and_then (number_argument LongLong 1 values) (λ expected.
    and_then (number_argument LongLong 2 values) (λ actual. Ok (line, equal_failure expected actual))))

unfoldable pub assert_equal_int : World → Where → List Value → Does Value
assert_equal_int w h values = given w h (equal_check values) >>= (λ check. failed_at check.0 check.1)

-- ---- the phases of a test. The functions below act at level 0 alone.

-- a test begins where none runs, and fewer than 1,000 have begun
abbrev pub can_begin : World → Where → State → Bool
can_begin w h s = h.level == 0 && is_none s.test && nat_lt s.begun 1000

abbrev pub with_test : World → List ℕ → ℕ → State → State
with_test w name line s =
    record s { test = Some (begun_test (test_file w) name line); steps = w.budget; aborted = false; begun = s.begun + 1 }

-- the name of a test and its line
abbrev pub test_check : List Value → Memory → Result (List ℕ × ℤ) FaultKind
test_check values m =
    and_then (and_then (argument 0 values) pointer_in) (λ p. and_then (string_at p m) (λ name.
    and_then (number_argument UnsignedInt 1 values) (λ line. Ok (name, line))))

unfoldable pub begun_test_by : World → Where → State → Result (List ℕ × ℤ) FaultKind → ValueAndState Value
begun_test_by w h s (Ok test) = (Some Void, with_test w test.0 (unsigned_abs test.1) s)
begun_test_by w h s (Err fault) = stop w h fault s

unfoldable pub run_test : World → Where → List Value → Does Value
run_test w h values = λ s. if can_begin w h s then begun_test_by w h s (test_check values s.memory) else (Some Void, s)

-- whether a test runs, and this is its function `main`
abbrev pub in_test : Where → State → Bool
in_test h s = h.level == 0 && is_some s.test

-- a test ends: it has its line of the log
abbrev pub without_test : State → State
without_test s =
    record s { test = None; steps = 1000000; aborted = false; log = s.log ++ elim s.test [ Some test ↦ finished test ∷ [] | None ↦ [] ] }

unfoldable pub run_end : Where → Does Value
run_end h = λ s. (Some Void, if in_test h s then without_test s else s)

unfoldable pub run_phase : Where → Does Value
run_phase h = λ s. (Some Void, if in_test h s then record s { aborted = false } else s)

-- an abort ends the phase
abbrev pub caught : {A : Type 0} → ValueAndState A → ValueAndState Value
caught (Some a, s) = (Some Void, s)
caught (None, s) = (Some Void, record s { aborted = true })

-- a call in a phase that was not aborted
unfoldable pub run_call : Where → Does Value → Does Value
run_call h call = λ s. if in_test h s && not s.aborted then caught (call s) else (Some Void, s)
