-- What each part of a program does to the state, where a relation of states follows each change that a rule makes.
use Rattle.std.proofs.Common.{◌≡◌, ℕ, zero, suc, ◌+◌, ◌-◌, ◌≤◌, List, [], ◌∷◌, Bool, true, false, ℤ, Option, Some, None, Result, Ok, Err, refl, arith, nat_lt, eqb-true}
use Rattle.std.specs.Prelude.{if◌then◌else◌, option_map, unsigned_abs, ◌&&◌, is_none, is_some, not, ◌==◌}
use Rattle.ct_base.specs.declared.faults.FaultKind.{FaultKind}
use Rattle.ct_base.specs.declared.faults.FaultKind.TheVariants.{StepBudget}
use Rattle.ct_report.specs.declared.logs.Verdict.TheVariants.{Fail}
use Rattle.ct_core.specs.declared.values.Pointer.{Pointer}
use Rattle.ct_core.specs.declared.values.Value.{Value}
use Rattle.ct_core.specs.declared.values.Value.TheVariants.{Void}
use Rattle.ct_core.specs.declared.objects.Scalar.{Scalar}
use Rattle.ct_core.specs.declared.trees.CoreExpression.{CoreExpression}
use Rattle.ct_core.specs.declared.trees.CoreStatement.{CoreStatement}
use Rattle.ct_core.specs.Memory.{Memory}
use Rattle.ct_core.specs.Testing.{judged}
use Rattle.ct_meaning.specs.declared.state.State.{State}
use Rattle.ct_meaning.specs.declared.state.Ending.{Ending}
use Rattle.ct_meaning.specs.Doing.{ValueAndState, Does, onwards, ◌>>=◌, finally}
use Rattle.ct_meaning.specs.World.{World, Where, target_of}
use Rattle.ct_meaning.specs.Rules.{value_from, stored_value, test_check, begun_test_by, stop, failed, given, changed, load, store, initialise, begin_objects, end_objects, take_step, failed_at, can_begin, run_test, run_end, run_phase, run_call, in_test, with_test, without_test, caught}
use Rattle.ct_meaning.specs.Meaning.{Calls, enter, then_go, turns, expression, statement, calls}
use Rattle.ct_meaning_laws.proofs.Spends.{first_true}
use Rattle.ct_meaning_laws.proofs.Parts.{Holds, enter_holds, expression_holds, statement_holds, body_holds, turn_rest_holds}
use Rattle.ct_meaning.specs.Program.{outermost}
use Rattle.ct_meaning.specs.Written.{in_order}

-- a relation of the state before and the state after, which follows each change that is made at every level
pub record Follows (R : State → State → Type 0) : Type 0 where
  pub same : (s : State) → R s s
  pub joined : (s t u : State) → R s t → R t u → R s u
  pub memory : (s : State) (m : Memory) → R s (record s { memory = m })
  pub step : (s : State) → R s (record s { steps = s.steps - 1 })
  pub fault : (w : World) (h : Where) (fault : FaultKind) (s : State) → R s (failed w h fault s)
  pub failure : (line : ℕ) (text : List ℕ) (s : State) → R s (record s { test = option_map (judged Fail line text) s.test })
  pub aborted : (s : State) (b : Bool) → R s (record s { aborted = b })

-- and which, at the levels of L, follows the begin and the end of a test
pub record Tests (w : World) (L : ℕ → Type 0) (R : State → State → Type 0) : Type 0 where
  pub deeper : (n : ℕ) → L (n + 1)
  pub begins : (h : Where) → L h.level → (name : List ℕ) (line : ℕ) (s : State) → can_begin w h s ≡ true → R s (with_test w name line s)
  pub ends : (h : Where) → L h.level → (s : State) → in_test h s ≡ true → R s (without_test s)

abbrev pub Goes : (State → State → Type 0) → (A : Type 0) → Does A → Does A → Type 0
Goes R A p q = (s : State) → R s (p s).1

-- ---- levels of 1 or more, at which no test begins or ends

abbrev pub Inner : ℕ → Type 0
Inner n = 1 ≤ n

inner_level : (n : ℕ) → 1 ≤ n → (n == 0) ≡ true → ⊥
inner_level n l e = let zero_level : n ≡ 0 = eqb-true n 0 e in omega (arith, zero_level, l)

pub inner_tests : (w : World) (R : State → State → Type 0) → Tests w Inner R
inner_tests w R = record {
  deeper = λ n. omega arith;
  begins = λ h l name line s e. absurd (inner_level h.level l (first_true (h.level == 0) (is_none s.test) (first_true (h.level == 0 && is_none s.test) (nat_lt s.begun 1000) e)));
  ends = λ h l s e. absurd (inner_level h.level l (first_true (h.level == 0) (is_some s.test) e));
}

module _ (R : State → State → Type 0) (follows : Follows R) where
  then_goes : (A B : Type 0) (s : State) (o : ValueAndState A) (k : A → Does B) → R s o.1 → ((a : A) (t : State) → R t (k a t).1) → R s (onwards o k).1
  then_goes A B s (Some a, t) k h j = follows.joined s t (k a t).1 h (j a t)
  then_goes A B s (None, t) k h j = h

  bind_goes : (A B : Type 0) (p q : Does A) (k l : A → Does B) → Goes R A p q → ((a : A) → Goes R B (k a) (l a)) → Goes R B (p >>= k) (q >>= l)
  bind_goes A B p q k l h j s = then_goes A B s (p s) k (h s) j

  ends_go : (n : ℕ) (frame : List (ℕ × Pointer)) (p q : Does Ending) → Goes R Ending p q → Goes R Ending (finally p (end_objects n frame)) (finally q (end_objects n frame))
  unfolding end_objects
  ends_go n frame p q h s = follows.joined s (p s).1 (end_objects n frame (p s).1) (h s) (follows.memory (p s).1 _)

  if_goes : (A : Type 0) (s : State) (b : Bool) (o o' : ValueAndState A) → R s o.1 → R s o'.1 → R s (if b then o else o').1
  if_goes A s true o o' h k = h
  if_goes A s false o o' h k = k

  module _ (w : World) where
    given_goes : (A : Type 0) (h : Where) (r : Result A FaultKind) → Goes R A (given w h r) (given w h r)
    unfolding given
    given_goes A h (Ok a) s = follows.same s
    given_goes A h (Err fault) s = follows.fault w h fault s

    changed_goes : (h : Where) (s : State) (r : Result (Value × Memory) FaultKind) → R s (changed w h s r).1
    unfolding changed
    changed_goes h s (Ok m) = follows.memory s m.1
    changed_goes h s (Err fault) = follows.fault w h fault s

    loads_go : (h : Where) (t : Scalar) (a : Value) → Goes R Value (load w h t a) (load w h t a)
    unfolding load
    loads_go h t a s = given_goes Value h (value_from a t s.memory) s

    stores_go : (h : Where) (t : Scalar) (a x : Value) → Goes R Value (store w h t a x) (store w h t a x)
    unfolding store
    stores_go h t a x s = changed_goes h s (stored_value a t x s.memory)

    initialises_go : (h : Where) (place : ℕ) (t : Scalar) (x : Value) → Goes R Value (initialise w h place t x) (initialise w h place t x)
    unfolding initialise
    initialises_go h place t x s = changed_goes h s _

    begins_go : (h : Where) (places : List ℕ) (frame : List (ℕ × Pointer)) → Goes R (List (ℕ × Pointer)) (begin_objects w h places frame) (begin_objects w h places frame)
    unfolding begin_objects
    begins_go h [] frame s = follows.same s
    begins_go h (place ∷ places) frame s = follows.joined s _ _ (follows.memory s _) (begins_go h places _ _)

    steps_go : (h : Where) → Goes R (Unit {0}) (take_step w h) (take_step w h)
    unfolding take_step
    steps_go h s = if_goes (Unit {0}) s (nat_lt 0 s.steps) _ (stop w h StepBudget s) (follows.step s) (follows.fault w h StepBudget s)

    fails_go : (line : ℤ) (text : Option (List ℕ)) → Goes R Value (failed_at line text) (failed_at line text)
    unfolding failed_at
    fails_go line None s = follows.same s
    fails_go line (Some text) s = follows.failure (unsigned_abs line) text s

    phase_at : (b : Bool) (s : State) → R s (if b then record s { aborted = false } else s)
    phase_at true s = follows.aborted s false
    phase_at false s = follows.same s

    phases_go : (h : Where) → Goes R Value (run_phase h) (run_phase h)
    unfolding run_phase
    phases_go h s = phase_at (in_test h s) s

    caught_goes : (s : State) (o : ValueAndState Value) → R s o.1 → R s (caught o).1
    caught_goes s (Some a, t) k = k
    caught_goes s (None, t) k = follows.joined s t _ k (follows.aborted t true)

    phase_calls_go : (h : Where) (p q : Does Value) → Goes R Value p q → Goes R Value (run_call h p) (run_call h q)
    unfolding run_call
    phase_calls_go h p q k s = if_goes Value s (in_test h s && not s.aborted) (caught (p s)) (Some Void, s) (caught_goes s (p s) (k s)) (follows.same s)

    module _ (L : ℕ → Type 0) (at : Tests w L R) where
      begun_goes : (h : Where) → L h.level → (s : State) (r : Result (List ℕ × ℤ) FaultKind) → can_begin w h s ≡ true → R s (begun_test_by w h s r).1
      unfolding begun_test_by
      begun_goes h l s (Ok test) e = at.begins h l test.0 (unsigned_abs test.1) s e
      begun_goes h l s (Err fault) e = follows.fault w h fault s

      test_at : (b : Bool) (h : Where) → L h.level → (s : State) (r : Result (List ℕ × ℤ) FaultKind) → can_begin w h s ≡ b
          → R s (if b then begun_test_by w h s r else (Some Void, s)).1
      test_at true h l s r e = begun_goes h l s r e
      test_at false h l s r e = follows.same s

      tests_go : (h : Where) → L h.level → (values : List Value) → Goes R Value (run_test w h values) (run_test w h values)
      unfolding run_test
      tests_go h l values s = test_at (can_begin w h s) h l s (test_check values s.memory) refl

      end_at : (b : Bool) (h : Where) → L h.level → (s : State) → in_test h s ≡ b → R s (if b then without_test s else s)
      end_at true h l s e = at.ends h l s e
      end_at false h l s e = follows.same s

      test_ends_go : (h : Where) → L h.level → Goes R Value (run_end h) (run_end h)
      unfolding run_end
      test_ends_go h l s = end_at (in_test h s) h l s refl

      rules : Holds w L (Goes R)
      rules = record {
        value = λ A a s. follows.same s;
        bind = bind_goes;
        ends = ends_go;
        stops = λ A h fault s. follows.fault w h fault s;
        loads = loads_go;
        stores = stores_go;
        initialises = initialises_go;
        begins = begins_go;
        steps = steps_go;
        fails = fails_go;
        tests = tests_go;
        test_ends = test_ends_go;
        phases = λ h l. phases_go h;
        phase_calls = λ h l. phase_calls_go h;
      }

      -- a call, whatever the level is from which it is made
      pub enter_goes : (f : Calls) → ((number : ℕ) (values : List Value) (h : Where) → L h.level → Goes R Ending (f number values h) (f number values h))
          → (h : Where) (number : ℕ) (values : List Value) → Goes R Value (enter w h f number values) (enter w h f number values)
      enter_goes f k h number values =
          enter_holds w L (Goes R) rules f f h number values (k number values (record h { level = h.level + 1; frame = [] }) (at.deeper h.level))

      pub calls_go : (i number : ℕ) (values : List Value) (h : Where) → L h.level → Goes R Ending (calls w i number values h) (calls w i number values h)
      unfolding calls
      calls_go zero number values h l s = follows.fault w h StepBudget s
      calls_go (suc i) number values h l s =
          body_holds w L (Goes R) rules (calls w i) (calls w i) (λ k j. enter_goes (calls w i) (calls_go i) k) i (target_of w number) values h l s

      pub called_go : (i : ℕ) (h : Where) (number : ℕ) (values : List Value) → Goes R Value (enter w h (calls w i) number values) (enter w h (calls w i) number values)
      called_go i = enter_goes (calls w i) (calls_go i)

      pub expression_goes : (i : ℕ) (e : CoreExpression) (h : Where) → L h.level → Goes R Value (expression w (calls w i) e h) (expression w (calls w i) e h)
      expression_goes i = expression_holds w L (Goes R) rules (calls w i) (calls w i) (λ k j. called_go i k)

      pub statement_goes : (n i : ℕ) (b : CoreStatement) (h : Where) → L h.level → Goes R Ending (statement w n (calls w i) b h) (statement w n (calls w i) b h)
      statement_goes n i = statement_holds w L (Goes R) rules (calls w i) (calls w i) (λ k j. called_go i k) n

      pub turn_goes : (i m n : ℕ) (e : CoreExpression) (b : CoreStatement) (h : Where) → L h.level → (s : State)
          → R s (onwards (statement w m (calls w i) b h s) (λ flow. then_go flow (turns w h n (expression w (calls w i) e) (statement w m (calls w i) b)))).1
      turn_goes i m n e b h l s =
          turn_rest_holds w L (Goes R) rules (calls w i) (calls w i) (λ k j. called_go i k) n h (expression w (calls w i) e) (expression w (calls w i) e)
          (statement w m (calls w i) b) (statement w m (calls w i) b) (expression_goes i e h l) (statement_goes m i b h l) s

      -- calls one after another, from outside each function
      pub in_order_goes : (i : ℕ) (numbers : List ℕ) → Goes R (Unit {0}) (in_order w (calls w i) numbers) (in_order w (calls w i) numbers)
      in_order_goes i [] s = follows.same s
      in_order_goes i (number ∷ numbers) s =
          then_goes Value (Unit {0}) s (enter w outermost (calls w i) number [] s) (λ _. in_order w (calls w i) numbers) (called_go i outermost number [] s) (λ _ t. in_order_goes i numbers t)
