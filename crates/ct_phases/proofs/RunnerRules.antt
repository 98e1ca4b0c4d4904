-- Two worlds in which the code of the Project units is the same, and two runs of it: one with what lies in the Tool space.
use Rattle.std.proofs.Common.{◌≡◌, ℕ, suc, ◌-◌, ◌<◌, List, Bool, true, false, Option, Some, None, Result, Ok, Err, refl, sym, ap, subst, ◌∙◌, arith, nat_lt, ltb-true}
use Rattle.std.specs.Prelude.{if◌then◌else◌, option_map, is_some, slice_get}
use Rattle.ct_base.specs.declared.faults.FaultKind.{FaultKind}
use Rattle.ct_base.specs.declared.faults.FaultKind.TheVariants.{BadCall, StepBudget, CallDepth}
use Rattle.ct_core.specs.declared.values.Space.TheVariants.{Project}
use Rattle.ct_core.specs.declared.values.Value.{Value}
use Rattle.ct_core.specs.declared.objects.Object.{Object as Stored}
use Rattle.ct_core.specs.declared.objects.Scalar.{Scalar}
use Rattle.ct_core.specs.declared.testing.TestState.{TestState}
use Rattle.ct_core.specs.declared.units.CoreFunction.{CoreFunction}
use Rattle.ct_core.specs.declared.built_ins.BuiltIn.{BuiltIn}
use Rattle.ct_core.specs.Memory.{Memory}
use Rattle.ct_core.specs.Access.{and_then}
use Rattle.ct_meaning.specs.declared.state.State.{State}
use Rattle.ct_meaning.specs.declared.state.Place.{Place}
use Rattle.ct_meaning.specs.Doing.{ValueAndState, Does, pure}
use Rattle.ct_meaning.specs.World.{World, Where, Empty, Target, Outside, Defined, Given, target_of, unit_space, function_at, function_number, text_pointer}
use Rattle.ct_meaning.specs.Rules.{stop, failed, failed_test, given, address_in, value_from, load, stored_value, first_value, changed, store, initialise, check_level, level_limit, take_step}
use Rattle.ct_meaning.specs.Meaning.{initialise_parameter}
use Rattle.ct_meaning.specs.Program.{left_in}
use Rattle.ct_phases.specs.Runner.{empty_function}
use Rattle.ct_meaning_laws.specs.Names.{statement_names}
use Rattle.ct_phases.specs.Linked.{is_ordinary}
use Rattle.ct_meaning_laws.proofs.Related.{Agree, Lower, Keeps, Always, PlaceIn, SameCall, done}
use Rattle.ct_meaning_laws.proofs.Spends.{stop_spends}
use Rattle.ct_phases.proofs.ToolMemory.{Own, put}
use Rattle.ct_phases.proofs.RunnerValues.{Safe, SameValue, SafeResult, SafeStored, safe_address, safe_loaded, safe_stored, safe_first, put_stored, from_put, stored_put, first_put}

-- ---- two worlds

-- What the number of a function means in the world with the runner and in that without it: the same, or an empty function of
-- the runner and the row that stands for it.
pub data Targets (plain : World) (U : ℕ → Type 0) : Option Target → Option Target → Type 0 where
  Functions : (unit place : ℕ) (f : CoreFunction) → U unit → statement_names is_ordinary f.body ≡ true
      → Targets plain U (Some (Defined unit place f)) (Some (Defined unit place f))
  Empties : (unit place : ℕ) (name : List ℕ) → function_at plain unit place ≡ Some (empty_function name)
      → Targets plain U (Some (Defined unit place (empty_function name))) (Some (Outside Empty))
  BuiltIns : (b : BuiltIn) → Targets plain U (Some (Given b)) (Some (Given b))
  Nothings : Targets plain U None None

-- The units of U are the same Project units in both, and by their names functions of N are reached.
pub record Twins (plain written : World) (U N : ℕ → Type 0) : Type 0 where
  pub unit : (unit : ℕ) → U unit → slice_get plain.units unit ≡ slice_get written.units unit
  pub space : (unit : ℕ) → U unit → unit_space written unit ≡ Project
  pub text : (unit text : ℕ) → U unit → text_pointer plain unit text ≡ text_pointer written unit text
  pub numbers : (unit : ℕ) (name : List ℕ) → function_number plain unit name ≡ function_number written unit name
  pub reached : (unit : ℕ) (name : List ℕ) (number : ℕ) → is_ordinary name ≡ true → function_number written unit name ≡ Some number → N number
  pub targets : (number : ℕ) → N number → Targets plain U (target_of plain number) (target_of written number)

-- ---- two runs

-- a test runs, the so many-th, and its phase was not aborted
pub record Going (begun : ℕ) (s : State) : Type 0 where
  pub running : is_some s.test ≡ true
  pub unaborted : s.aborted ≡ false
  pub count : s.begun ≡ begun

-- the state with these objects in the Tool space
abbrev pub with_tool : List Stored → State → State
with_tool T s = record s { memory = put T s.memory }

-- The states are equal but for the objects in the Tool space, and less than m is left.
pub record SameRun (T : List Stored) (budget begun m : ℕ) (s t : State) : Type 0 where
  pub same : s ≡ with_tool T t
  pub below : left_in budget t < m
  pub going : Going begun t

pub still_running : (f : TestState → TestState) (t : Option TestState) → is_some t ≡ true → is_some (option_map f t) ≡ true
still_running f (Some t) e = refl
still_running f None e = cc

module _ (plain written : World) (U N : ℕ → Type 0) (T : List Stored) (begun : ℕ) (twins : Twins plain written U N) where
  abbrev pub R : ℕ → State → State → Type 0
  R = SameRun T written.budget begun

  abbrev pub V : Value → Value → Type 0
  V = SameValue N

  -- what holds of each written state, and the plain state with it
  pub by_tool : {A B : Type 0} (W : A → B → Type 0) (n : ℕ) (p : Does A) (q : Does B)
      → ((m : ℕ) (t : State) → left_in written.budget t < m → Going begun t → Agree W (R m) (p (with_tool T t)) (q t)) → Keeps R W n p q
  by_tool W n p q f = record {
    at = λ m le s t r. let P : State → Type 0 = λ x. Agree W (R m) (p x) (q t) in subst P (sym r.same) (f m t r.below r.going);
  }

  -- ---- faults

  same_file : (h : Option Place) → PlaceIn U h → (fault : FaultKind) (test : TestState) → failed_test plain h fault test ≡ failed_test written h fault test
  same_file None known fault test = refl
  same_file (Some place) known fault test = rw (twins.unit place.unit known) refl

  same_failed : (h : Option Place) → PlaceIn U h → (fault : FaultKind) (test : Option TestState)
      → option_map (failed_test plain h fault) test ≡ option_map (failed_test written h fault) test
  same_failed h known fault None = refl
  same_failed h known fault (Some test) = ap (λ (x : TestState). Some x) (same_file h known fault test)

  pub tool_failed : (h k : Where) → SameCall U h k → (fault : FaultKind) (t : State) → failed plain h fault (with_tool T t) ≡ with_tool T (failed written k fault t)
  unfolding failed
  tool_failed h k same fault t =
      ap (λ x. record (with_tool T t) { test = x }) (same_failed h.place same.known fault t.test
      ∙ ap (λ p. option_map (failed_test written p fault) t.test) same.place)

  going_failed : (k : Where) (fault : FaultKind) (t : State) → Going begun t → Going begun (failed written k fault t)
  unfolding failed
  going_failed k fault t going = record { running = still_running _ _ going.running; unaborted = going.unaborted; count = going.count }

  pub stopped_run : (h k : Where) → SameCall U h k → (fault : FaultKind) (m : ℕ) (t : State) → left_in written.budget t < m → Going begun t
      → R m (failed plain h fault (with_tool T t)) (failed written k fault t)
  stopped_run h k same fault m t below going = record {
    same = tool_failed h k same fault t;
    below = (let less = (stop_spends {A = Unit {0}} written.budget written k fault).at t in omega arith);
    going = going_failed k fault t going;
  }

  pub stops : (h k : Where) → SameCall U h k → (fault : FaultKind) (m : ℕ) (s t : State) → R m s t → R m (failed plain h fault s) (failed written k fault t)
  stops h k same fault m s t r =
      let P : State → Type 0 = λ x. R m (failed plain h fault x) (failed written k fault t) in
      subst P (sym r.same) (stopped_run h k same fault m t r.below r.going)

  pub stop_keeps : {A B : Type 0} (W : A → B → Type 0) (n : ℕ) (h k : Where) → SameCall U h k → (fault : FaultKind) → Keeps R W n (stop plain h fault) (stop written k fault)
  stop_keeps W n h k same fault = record { at = λ m le s t r. stops h k same fault m s t r }

  -- ---- answers that the states do not change

  pub given_keeps : {A : Type 0} (W : A → A → Type 0) (n : ℕ) (h k : Where) → SameCall U h k → (r : Result A FaultKind) → ((a : A) → W a a) → Keeps R W n (given plain h r) (given written k r)
  unfolding given
  given_keeps W n h k same (Ok a) all = done R W n a a (all a)
  given_keeps W n h k same (Err fault) all = stop_keeps W n h k same fault

  pub safe_keeps : (n : ℕ) (h k : Where) → SameCall U h k → (r : Result Value FaultKind) → SafeResult N r → Keeps R V n (given plain h r) (given written k r)
  unfolding given
  safe_keeps n h k same (Ok x) safe = done R V n x x (record { same = refl; safe = safe })
  safe_keeps n h k same (Err fault) safe = stop_keeps V n h k same fault

  -- ---- steps and levels

  stepped : World → Where → State → Bool → ValueAndState (Unit {0})
  stepped w h s b = if b then (Some tt, record s { steps = s.steps - 1 }) else stop w h StepBudget s

  step_taken : (b : Bool) (h k : Where) → SameCall U h k → (m : ℕ) (t : State) → nat_lt 0 t.steps ≡ b → left_in written.budget t < suc m → Going begun t
      → Lower (R m) (R (suc m)) (stepped plain h (with_tool T t) b) (stepped written k t b)
  unfolding stepped
  step_taken true h k same m t is below going =
      let some : 0 < t.steps = ltb-true 0 t.steps is in
      record { same = refl; below = omega arith; going = record { running = going.running; unaborted = going.unaborted; count = going.count } }
  step_taken false h k same m t is below going = stopped_run h k same StepBudget (suc m) t below going

  pub steps : (h k : Where) → SameCall U h k → (m : ℕ) (s t : State) → R (suc m) s t → Lower (R m) (R (suc m)) (take_step plain h s) (take_step written k t)
  unfolding take_step stepped
  steps h k same m s t r =
      let P : State → Type 0 = λ x. Lower (R m) (R (suc m)) (take_step plain h x) (take_step written k t) in
      subst P (sym r.same) (step_taken (nat_lt 0 t.steps) h k same m t refl r.below r.going)

  checked : World → Where → Bool → Does (Unit {0})
  checked w h b = if b then pure tt else stop w h CallDepth

  checked_keeps : (b : Bool) (h k : Where) → SameCall U h k → (n : ℕ) → Keeps R Always n (checked plain h b) (checked written k b)
  unfolding checked
  checked_keeps true h k same n = done R Always n tt tt tt
  checked_keeps false h k same n = stop_keeps Always n h k same CallDepth

  pub levels : (h k : Where) → SameCall U h k → (n : ℕ) → Keeps R Always n (check_level plain h) (check_level written k)
  unfolding check_level checked
  levels h k same n =
      let P : ℕ → Type 0 = λ l. Keeps R Always n (checked plain h (nat_lt h.level level_limit)) (checked written k (nat_lt l level_limit)) in
      subst P same.level (checked_keeps (nat_lt h.level level_limit) h k same n)

  -- ---- objects

  held : (m : ℕ) (t : State) → left_in written.budget t < m → Going begun t → R m (with_tool T t) t
  held m t below going = record { same = refl; below = below; going = going }

  pub loads : (n : ℕ) (h : Where) → SameCall U h h → (t : Scalar) (a : Value) → Safe N a → Keeps R V n (load plain h t a) (load written h t a)
  unfolding load
  loads n h same t a safe = by_tool V n _ _ (λ m s below going.
      let P : Result Value FaultKind → Type 0 = λ r. Agree V (R m) (given plain h r (with_tool T s)) (given written h (value_from a t s.memory) s) in
      subst P (sym (from_put N T a safe t s.memory))
      ((safe_keeps m h h same (value_from a t s.memory) (safe_loaded N a t s.memory)).at m (omega arith) (with_tool T s) s (held m s below going)))

  changed_keeps : (h : Where) → SameCall U h h → (m : ℕ) (s : State) → left_in written.budget s < m → Going begun s
      → (r : Result (Value × Memory) FaultKind) → SafeStored N r → Agree V (R m) (changed plain h (with_tool T s) (put_stored N T r)) (changed written h s r)
  unfolding changed
  changed_keeps h same m s below going (Ok stored) safe =
      (record { same = refl; safe = safe }, record { same = refl; below = below; going = record { running = going.running; unaborted = going.unaborted; count = going.count } })
  changed_keeps h same m s below going (Err fault) safe = stopped_run h h same fault m s below going

  pub stores : (n : ℕ) (h : Where) → SameCall U h h → (t : Scalar) (a x : Value) → Safe N a → Keeps R V n (store plain h t a x) (store written h t a x)
  unfolding store
  stores n h same t a x safe = by_tool V n _ _ (λ m s below going.
      let P : Result (Value × Memory) FaultKind → Type 0 = λ r. Agree V (R m) (changed plain h (with_tool T s) r) (changed written h s (stored_value a t x s.memory)) in
      subst P (sym (stored_put N T a safe t x s.memory))
      (changed_keeps h same m s below going (stored_value a t x s.memory) (safe_stored N a t x s.memory)))

  first_keeps : (h : Where) → SameCall U h h → (m : ℕ) (s : State) → left_in written.budget s < m → Going begun s → (t : Scalar) (x : Value) (r : Result Value FaultKind) → SafeResult N r
      → Agree V (R m) (changed plain h (with_tool T s) (and_then r (λ a. first_value a t x (put T s.memory)))) (changed written h s (and_then r (λ a. first_value a t x s.memory)))
  first_keeps h same m s below going t x (Ok a) safe =
      let P : Result (Value × Memory) FaultKind → Type 0 = λ r. Agree V (R m) (changed plain h (with_tool T s) r) (changed written h s (first_value a t x s.memory)) in
      subst P (sym (first_put N T a safe t x s.memory))
      (changed_keeps h same m s below going (first_value a t x s.memory) (safe_first N a t x s.memory))
  first_keeps h same m s below going t x (Err fault) safe = changed_keeps h same m s below going (Err fault) tt

  pub initialises : (n : ℕ) (h : Where) → SameCall U h h → Own h.frame → (place : ℕ) (t : Scalar) (x : Value) → Keeps R V n (initialise plain h place t x) (initialise written h place t x)
  unfolding initialise
  initialises n h same own place t x = by_tool V n _ _ (λ m s below going.
      first_keeps h same m s below going t x (address_in h.frame place) (safe_address N h.frame own place))

  pub parameter_keeps : (n : ℕ) (h : Where) → SameCall U h h → Own h.frame → (place : ℕ) (x : Value) (t : Option Scalar)
      → Keeps R V n (initialise_parameter plain h place x t) (initialise_parameter written h place x t)
  parameter_keeps n h same own place x (Some t) = initialises n h same own place t x
  parameter_keeps n h same own place x None = stop_keeps V n h h same BadCall
