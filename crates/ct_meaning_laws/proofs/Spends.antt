-- Nothing raises what a run can still take.
use Rattle.std.proofs.Common.{◌≡◌, ℕ, suc, ◌+◌, ◌-◌, ◌*◌, ◌<◌, ◌≤◌, List, [], ◌∷◌, Bool, true, false, ℤ, Option, Some, None, Result, Ok, Err, refl, ap, ◌∙◌, arith, nat_lt, ltb-true}
use Rattle.std.specs.Prelude.{if◌then◌else◌, option_map, is_none, is_some, ◌&&◌}
use Rattle.ct_base.specs.declared.faults.FaultKind.{FaultKind}
use Rattle.ct_base.specs.declared.faults.FaultKind.TheVariants.{CallDepth}
use Rattle.ct_base.specs.declared.operators.BinaryOp.{BinaryOp}
use Rattle.ct_ctype.specs.declared.kinds.IntKind.{IntKind}
use Rattle.ct_core.specs.declared.testing.TestState.{TestState}
use Rattle.ct_core.specs.declared.values.Pointer.{Pointer}
use Rattle.ct_core.specs.declared.values.Value.{Value}
use Rattle.ct_core.specs.declared.objects.Scalar.{Scalar}
use Rattle.ct_core.specs.Memory.{Memory}
use Rattle.ct_meaning.specs.declared.state.State.{State}
use Rattle.ct_meaning.specs.Doing.{ValueAndState, Does, onwards, ◌>>=◌, pure}
use Rattle.ct_meaning.specs.World.{World, Where}
use Rattle.ct_report.specs.declared.logs.Verdict.TheVariants.{Fail}
use Rattle.std.specs.Prelude.{unsigned_abs}
use Rattle.std.proofs.Math.Nat.{suc-mul}
use Rattle.ct_core.specs.declared.values.Value.TheVariants.{Void}
use Rattle.ct_core.specs.Testing.{judged}
use Rattle.ct_meaning.specs.Rules.{value_from, stored_value, equal_check, test_check, begun_test_by, failed_test, stop, failed, given, changed, apply_binary, apply_conversion, variable, literal, designator, load, store, initialise, begin_objects, check_level, level_limit, failed_at, assert_equal_int, can_begin, run_test, run_end, run_phase, in_test, with_test, without_test}
use Rattle.ct_meaning.specs.Meaning.{initialise_parameter}
use Rattle.ct_meaning.specs.Program.{left_in, left_in_test}

-- what is left after a part is at most what was left before it
pub record Spends {A : Type 0} (budget : ℕ) (p : Does A) : Type 0 where
  pub at : (s : State) → left_in budget (p s).1 ≤ left_in budget s

then_spends : {A B : Type 0} (budget : ℕ) (o : ValueAndState A) (f : A → Does B) (n : ℕ) → left_in budget o.1 ≤ n → ((a : A) → Spends budget (f a)) → left_in budget (onwards o f).1 ≤ n
then_spends budget (Some a, s) f n h k = let g = (k a).at s in omega arith
then_spends budget (None, s) f n h k = h

pub bind : {A B : Type 0} (budget : ℕ) (p : Does A) (f : A → Does B) → Spends budget p → ((a : A) → Spends budget (f a)) → Spends budget (p >>= f)
bind budget p f h k = record { at = λ s. then_spends budget (p s) f (left_in budget s) (h.at s) k }

pub pure_spends : {A : Type 0} (budget : ℕ) (a : A) → Spends budget (pure a)
pure_spends budget a = record { at = λ s. omega arith }

pub same_left : (f : TestState → TestState) (t : Option TestState) → left_in_test (option_map f t) ≡ left_in_test t
same_left f None = refl
same_left f (Some t) = refl

pub stop_spends : {A : Type 0} (budget : ℕ) (w : World) (h : Where) (fault : FaultKind) → Spends budget (stop {A = A} w h fault)
unfolding failed
stop_spends budget w h fault = record { at = λ s. let e = same_left (failed_test w h.place fault) s.test in omega (arith, e) }

pub given_spends : {A : Type 0} (budget : ℕ) (w : World) (h : Where) (r : Result A FaultKind) → Spends budget (given w h r)
unfolding given
given_spends budget w h (Ok a) = pure_spends budget a
given_spends budget w h (Err fault) = stop_spends budget w h fault

changed_left : (budget : ℕ) (w : World) (h : Where) (s : State) (r : Result (Value × Memory) FaultKind) → left_in budget (changed w h s r).1 ≤ left_in budget s
unfolding changed
changed_left budget w h s (Ok m) = omega arith
changed_left budget w h s (Err fault) = (stop_spends {A = Unit {0}} budget w h fault).at s

pub if_spends : {A : Type 0} (budget : ℕ) (b : Bool) (p q : Does A) → Spends budget p → Spends budget q → Spends budget (if b then p else q)
if_spends budget true p q h k = h
if_spends budget false p q h k = k

module _ (budget : ℕ) (w : World) (h : Where) where
  pub variable_spends : (place : ℕ) → Spends budget (variable w h place)
  unfolding variable
  variable_spends place = given_spends budget w h _

  pub literal_spends : (text : ℕ) → Spends budget (literal w h text)
  unfolding literal
  literal_spends text = pure_spends budget _

  pub designator_spends : (name : List ℕ) → Spends budget (designator w h name)
  unfolding designator
  designator_spends name = given_spends budget w h _

  pub load_spends : (t : Scalar) (a : Value) → Spends budget (load w h t a)
  unfolding load
  load_spends t a = record { at = λ s. (given_spends budget w h (value_from a t s.memory)).at s }

  pub store_spends : (t : Scalar) (a x : Value) → Spends budget (store w h t a x)
  unfolding store
  store_spends t a x = record { at = λ s. changed_left budget w h s (stored_value a t x s.memory) }

  pub initialise_spends : (place : ℕ) (t : Scalar) (x : Value) → Spends budget (initialise w h place t x)
  unfolding initialise
  initialise_spends place t x = record { at = λ s. changed_left budget w h s _ }

  pub parameter_spends : (place : ℕ) (x : Value) (t : Option Scalar) → Spends budget (initialise_parameter w h place x t)
  parameter_spends place x (Some t) = initialise_spends place t x
  parameter_spends place x None = stop_spends budget w h _

  pub conversion_spends : (k : IntKind) (x : Value) → Spends budget (apply_conversion w h k x)
  conversion_spends k x = given_spends budget w h _

  pub binary_spends : (op : BinaryOp) (k : IntKind) (x y : Value) → Spends budget (apply_binary w h op k x y)
  binary_spends op k x y = given_spends budget w h _

  pub begin_spends : (places : List ℕ) (frame : List (ℕ × Pointer)) → Spends budget (begin_objects w h places frame)
  unfolding begin_objects
  begin_spends [] frame = pure_spends budget frame
  begin_spends (place ∷ places) frame = record { at = λ s. (begin_spends places _).at _ }

  pub level_spends : Spends budget (check_level w h)
  unfolding check_level
  level_spends = if_spends budget (nat_lt h.level level_limit) (pure tt) (stop w h CallDepth) (pure_spends budget tt) (stop_spends budget w h CallDepth)

  failed_spends : (line : ℤ) (text : Option (List ℕ)) → Spends budget (failed_at line text)
  unfolding failed_at
  failed_spends line None = pure_spends budget _
  failed_spends line (Some text) = record { at = λ s. let e = same_left (judged Fail (unsigned_abs line) text) s.test in omega (arith, e) }

  pub assert_spends : (values : List Value) → Spends budget (assert_equal_int w h values)
  unfolding assert_equal_int
  assert_spends values = bind budget (given w h (equal_check values)) _ (given_spends budget w h (equal_check values)) (λ check. failed_spends check.0 check.1)

-- ---- the phases of a test

-- a test that begins takes one of those that are left
one_test : (begun budget : ℕ) → begun < 1000 → (1000 - begun) * (budget + 1000002) ≡ (1000 - (begun + 1)) * (budget + 1000002) + (budget + 1000002)
one_test begun budget few =
    let e : 1000 - begun ≡ suc (1000 - (begun + 1)) = omega arith in
    ap (λ n. n * (budget + 1000002)) e ∙ suc-mul (1000 - (begun + 1)) (budget + 1000002)

none_left : (t : Option TestState) → is_none t ≡ true → left_in_test t ≡ 0
none_left None e = refl
none_left (Some t) e = cc

some_left : (t : Option TestState) → is_some t ≡ true → left_in_test t ≡ 1000001
some_left (Some t) e = refl
some_left None e = cc

pub first_true : (a b : Bool) → (a && b) ≡ true → a ≡ true
first_true true b e = refl
first_true false b e = cc

pub second_true : (a b : Bool) → (a && b) ≡ true → b ≡ true
second_true true b e = e
second_true false b e = cc

module _ (w : World) (h : Where) where
  pub began : (name : List ℕ) (line : ℕ) (s : State) → can_begin w h s ≡ true → left_in w.budget (with_test w name line s) ≤ left_in w.budget s
  began name line s e =
      let none : is_none s.test ≡ true = second_true _ _ (first_true _ _ e) in
      let few : s.begun < 1000 = ltb-true s.begun 1000 (second_true _ _ e) in
      let one = one_test s.begun w.budget few in
      let zero_left = none_left s.test none in
      omega (arith, one, zero_left)

  begun_left : (s : State) (r : Result (List ℕ × ℤ) FaultKind) → can_begin w h s ≡ true → left_in w.budget (begun_test_by w h s r).1 ≤ left_in w.budget s
  unfolding begun_test_by
  begun_left s (Ok test) e = began test.0 (unsigned_abs test.1) s e
  begun_left s (Err fault) e = (stop_spends {A = Unit {0}} w.budget w h fault).at s

  run_test_at : (b : Bool) (s : State) (r : Result (List ℕ × ℤ) FaultKind) → can_begin w h s ≡ b
      → left_in w.budget (if b then begun_test_by w h s r else (Some Void, s)).1 ≤ left_in w.budget s
  run_test_at false s r e = omega arith
  run_test_at true s r e = begun_left s r e

  pub run_test_spends : (values : List Value) → Spends w.budget (run_test w h values)
  unfolding run_test
  run_test_spends values = record { at = λ s. run_test_at (can_begin w h s) s (test_check values s.memory) refl }

  pub end_at : (b : Bool) (s : State) → in_test h s ≡ b → left_in w.budget (if b then without_test s else s) ≤ left_in w.budget s
  end_at false s e = omega arith
  end_at true s e = let open_test = some_left s.test (second_true _ _ e) in omega (arith, open_test)

  pub run_end_spends : Spends w.budget (run_end h)
  unfolding run_end
  run_end_spends = record { at = λ s. end_at (in_test h s) s refl }

  phase_at : (b : Bool) (s : State) → left_in w.budget (if b then record s { aborted = false } else s) ≤ left_in w.budget s
  phase_at false s = omega arith
  phase_at true s = omega arith

  pub run_phase_spends : Spends w.budget (run_phase h)
  unfolding run_phase
  run_phase_spends = record { at = λ s. phase_at (in_test h s) s }
