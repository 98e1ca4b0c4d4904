-- Steps only fall.
use Rattle.std.proofs.Common.{◌≡◌, ℕ, suc, ◌+◌, ◌-◌, ◌<◌, ◌≤◌, List, [], ◌∷◌, Bool, true, Some, None, refl, sym, ap, subst, ◌∙◌, arith, lt-ltb, le-ltb}
use Rattle.std.specs.Prelude.{if◌then◌else◌}
use Rattle.ct_base.specs.declared.faults.FaultKind.TheVariants.{StepBudget, CallDepth}
use Rattle.ct_core.specs.declared.values.Value.{Value}
use Rattle.ct_core.specs.declared.trees.CoreExpression.{CoreExpression}
use Rattle.ct_core.specs.declared.trees.CoreStatement.{CoreStatement}
use Rattle.ct_meaning.specs.declared.state.State.{State}
use Rattle.ct_meaning.specs.declared.state.Ending.{Ending}
use Rattle.ct_meaning.specs.declared.state.Ending.TheVariants.{Onward}
use Rattle.ct_meaning.specs.Doing.{ValueAndState, Does, onwards, ◌>>=◌, ◌>>◌, pure}
use Rattle.ct_meaning.specs.World.{World, Where}
use Rattle.ct_meaning.specs.Rules.{stop, failed, check_level, take_step, with_test}
use Rattle.ct_meaning.specs.Meaning.{Calls, value_of, enter, Evaluates, Executes, then_go, holds, turns, expression, statement, calls}
use Rattle.ct_meaning.specs.Written.{Test, in_order, phase, phases_state}
use Rattle.ct_meaning_laws.specs.Laws.{SameTest}
use Rattle.ct_meaning_laws.proofs.During.{statements_go}
use Rattle.ct_meaning_laws.proofs.Goes.{Follows, Inner, inner_tests, Goes, calls_go, called_go, expression_goes, statement_goes, in_order_goes, turn_goes}

abbrev pub Fewer : State → State → Type 0
Fewer s t = t.steps ≤ s.steps

fewer : Follows Fewer
unfolding failed
fewer = record {
  same = λ s. omega arith;
  joined = λ s t u h k. omega (arith, h, k);
  memory = λ s m. omega arith;
  step = λ s. omega arith;
  fault = λ w h fault s. omega arith;
  failure = λ line text s. omega arith;
  aborted = λ s b. omega arith;
}

pub calls_fall : (w : World) (i number : ℕ) (values : List Value) (h : Where) (s : State) → 1 ≤ h.level → (calls w i number values h s).1.steps ≤ s.steps
calls_fall w i number values h s l = calls_go Fewer fewer w Inner (inner_tests w Fewer) i number values h l s

pub enters_fall : (w : World) (i number : ℕ) (values : List Value) (h : Where) (s : State) → (enter w h (calls w i) number values s).1.steps ≤ s.steps
enters_fall w i number values h s = called_go Fewer fewer w Inner (inner_tests w Fewer) i h number values s

pub expressions_fall : (w : World) (i : ℕ) (e : CoreExpression) (h : Where) (s : State) → 1 ≤ h.level → (expression w (calls w i) e h s).1.steps ≤ s.steps
expressions_fall w i e h s l = expression_goes Fewer fewer w Inner (inner_tests w Fewer) i e h l s

pub statements_fall : (w : World) (n i : ℕ) (b : CoreStatement) (h : Where) (s : State) → 1 ≤ h.level → (statement w n (calls w i) b h s).1.steps ≤ s.steps
statements_fall w n i b h s l = statement_goes Fewer fewer w Inner (inner_tests w Fewer) n i b h l s

pub same_test_falls : (w : World) (n i : ℕ) (b : CoreStatement) (h : Where) (s : State) → SameTest s (statement w n (calls w i) b h s).1
    → (statement w n (calls w i) b h s).1.steps ≤ s.steps
same_test_falls = statements_go Fewer fewer

phases_fall_at : (w : World) (i : ℕ) (numbers : List ℕ) → Goes Fewer (Unit {0}) (in_order w (calls w i) numbers) (in_order w (calls w i) numbers)
phases_fall_at w i = in_order_goes Fewer fewer w Inner (inner_tests w Fewer) i

-- what is left when the phases of a test are through
pub test_falls : (w : World) (i set_up tear_down : ℕ) (test : Test) (s : State) → (phases_state w (calls w i) set_up tear_down test s).steps ≤ w.budget
test_falls w i set_up tear_down test s =
    let begins = with_test w test.name test.line s in
    let first : (phase w (calls w i) (set_up ∷ test.number ∷ []) begins).steps ≤ w.budget = phases_fall_at w i (set_up ∷ test.number ∷ []) begins in
    let last : (phases_state w (calls w i) set_up tear_down test s).steps ≤ (phase w (calls w i) (set_up ∷ test.number ∷ []) begins).steps =
    phases_fall_at w i (tear_down ∷ []) (phase w (calls w i) (set_up ∷ test.number ∷ []) begins) in
    omega (arith, first, last)

-- ---- what takes a step

module _ (w : World) where
  step_taken : {A : Type 0} (h : Where) (p : Does A) (s : State) → 0 < s.steps → (take_step w h >> p) s ≡ p (record s { steps = s.steps - 1 })
  unfolding take_step
  step_taken {A} h p s some =
      let P : Bool → Type 0 = λ b. onwards (if b then (Some tt, record s { steps = s.steps - 1 }) else stop {A = Unit {0}} w h StepBudget s) (λ _. p) ≡ p (record s { steps = s.steps - 1 }) in
      subst P (sym (lt-ltb 0 s.steps some)) refl

  no_step : {A : Type 0} (h : Where) (p : Does A) (s : State) → s.steps ≡ 0 → (take_step w h >> p) s ≡ (None, failed w h StepBudget s)
  unfolding take_step
  no_step {A} h p s none =
      let P : Bool → Type 0 = λ b. onwards (if b then (Some tt, record s { steps = s.steps - 1 }) else stop {A = Unit {0}} w h StepBudget s) (λ _. p) ≡ (None, failed w h StepBudget s) in
      subst P (sym (le-ltb 0 s.steps (omega (arith, none)))) refl

  level_passed : {A : Type 0} (h : Where) (p : Does A) (s : State) → h.level < 64 → (check_level w h >> p) s ≡ p s
  unfolding check_level
  level_passed {A} h p s below =
      let P : Bool → Type 0 = λ b. onwards ((if b then pure tt else stop {A = Unit {0}} w h CallDepth) s) (λ _. p) ≡ p s in
      subst P (sym (lt-ltb h.level 64 below)) refl

  pub no_level : {A : Type 0} (h : Where) (p : Does A) (s : State) → 64 ≤ h.level → (check_level w h >> p) s ≡ (None, failed w h CallDepth s)
  unfolding check_level
  no_level {A} h p s above =
      let P : Bool → Type 0 = λ b. onwards ((if b then pure tt else stop {A = Unit {0}} w h CallDepth) s) (λ _. p) ≡ (None, failed w h CallDepth s) in
      subst P (sym (le-ltb h.level 64 above)) refl

  -- ---- a call

  same_state : (o : ValueAndState Ending) → (onwards o (λ flow. pure (value_of flow))).1 ≡ o.1
  same_state (Some flow, s) = refl
  same_state (None, s) = refl

  entered : (call : Calls) (number : ℕ) (values : List Value) (h : Where) (s : State) → h.level < 64 → 0 < s.steps
      → enter w h call number values s ≡ onwards (call number values (record h { level = h.level + 1; frame = [] }) (record s { steps = s.steps - 1 })) (λ flow. pure (value_of flow))
  entered call number values h s below some =
      level_passed h _ s below ∙ step_taken h (call number values (record h { level = h.level + 1; frame = [] }) >>= (λ flow. pure (value_of flow))) s some

  pub call_takes : (call : Calls) (number : ℕ) (values : List Value) (h : Where) (s : State) → h.level < 64 → 0 < s.steps
      → (enter w h call number values s).1 ≡ (call number values (record h { level = h.level + 1; frame = [] }) (record s { steps = s.steps - 1 })).1
  call_takes call number values h s below some = ap (λ (o : ValueAndState Value). o.1) (entered call number values h s below some) ∙ same_state _

  pub call_lowers : (i number : ℕ) (values : List Value) (h : Where) (s : State) → h.level < 64 → 0 < s.steps → (enter w h (calls w i) number values s).1.steps < s.steps
  call_lowers i number values h s below some =
      let e = ap (λ (t : State). t.steps) (call_takes (calls w i) number values h s below some) in
      let less = calls_fall w i number values (record h { level = h.level + 1; frame = [] }) (record s { steps = s.steps - 1 }) (omega arith) in
      omega (arith, e, less, some)

  pub call_stops : (call : Calls) (number : ℕ) (values : List Value) (h : Where) (s : State) → h.level < 64 → s.steps ≡ 0
      → enter w h call number values s ≡ (None, failed w h StepBudget s)
  call_stops call number values h s below none =
      level_passed h _ s below ∙ no_step h (call number values (record h { level = h.level + 1; frame = [] }) >>= (λ flow. pure (value_of flow))) s none

  -- ---- a turn

  turn_begins : (n : ℕ) (test : Evaluates) (body : Executes) (h : Where) (s t : State) → holds w h test s ≡ (Some true, t)
      → turns w h (suc n) test body s ≡ (take_step w h >> (body h >>= (λ flow. then_go flow (turns w h n test body)))) t
  turn_begins n test body h s t e =
      ap (λ (o : ValueAndState Bool). onwards o (λ yes. if yes then (take_step w h >> (body h >>= (λ flow. then_go flow (turns w h n test body)))) else pure Onward)) e

  pub turn_takes : (n : ℕ) (test : Evaluates) (body : Executes) (h : Where) (s t : State) → holds w h test s ≡ (Some true, t) → 0 < t.steps
      → turns w h (suc n) test body s ≡ onwards (body h (record t { steps = t.steps - 1 })) (λ flow. then_go flow (turns w h n test body))
  turn_takes n test body h s t e some =
      turn_begins n test body h s t e ∙ step_taken h (body h >>= (λ flow. then_go flow (turns w h n test body))) t some

  pub turn_stops : (n : ℕ) (test : Evaluates) (body : Executes) (h : Where) (s t : State) → holds w h test s ≡ (Some true, t) → t.steps ≡ 0
      → turns w h (suc n) test body s ≡ (None, failed w h StepBudget t)
  turn_stops n test body h s t e none =
      turn_begins n test body h s t e ∙ no_step h (body h >>= (λ flow. then_go flow (turns w h n test body))) t none

  pub turn_lowers : (m n i : ℕ) (e : CoreExpression) (b : CoreStatement) (h : Where) (s t : State) → 1 ≤ h.level
      → holds w h (expression w (calls w i) e) s ≡ (Some true, t) → 0 < t.steps
      → (turns w h (suc n) (expression w (calls w i) e) (statement w m (calls w i) b) s).1.steps < t.steps
  turn_lowers m n i e b h s t l is some =
      let begun = record t { steps = t.steps - 1 } in
      let step = ap (λ (o : ValueAndState Ending). o.1.steps) (turn_takes n (expression w (calls w i) e) (statement w m (calls w i) b) h s t is some) in
      let less = turn_goes Fewer fewer w Inner (inner_tests w Fewer) i m n e b h l begun in
      omega (arith, step, less, some)
