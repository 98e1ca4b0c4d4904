-- Calls of two runs: what is built in does the same in both inside a call, and all rules keep the two runs related.
use Rattle.std.proofs.Common.{◌≡◌, ℕ, List, Bool, true, false, ℤ, Option, Some, None, refl, sym, ap, subst, ◌∙◌, arith}
use Rattle.std.specs.Prelude.{if◌then◌else◌, unsigned_abs, ◌&&◌, not}
use Rattle.ct_base.specs.declared.faults.FaultKind.TheVariants.{BadCall, NullPointer, MissingReturn}
use Rattle.ct_report.specs.declared.logs.Verdict.TheVariants.{Fail}
use Rattle.ct_core.specs.declared.values.Pointer.{Pointer}
use Rattle.ct_core.specs.declared.values.Value.{Value}
use Rattle.ct_core.specs.declared.values.Value.TheVariants.{Void, Int, Null, Object, Function, Struct}
use Rattle.ct_core.specs.declared.objects.Object.{Object as Stored}
use Rattle.ct_core.specs.declared.built_ins.BuiltIn.{BuiltIn}
use Rattle.ct_core.specs.declared.built_ins.BuiltIn.TheVariants.{AssertEqualInt, RunCall, RunEnd, RunPhase, RunTest}
use Rattle.ct_core.specs.declared.units.Variable.{Variable}
use Rattle.ct_core.specs.Memory.{no_objects}
use Rattle.ct_core.specs.Testing.{judged}
use Rattle.ct_meaning.specs.declared.state.State.{State}
use Rattle.ct_meaning.specs.Doing.{ValueAndState, Does}
use Rattle.ct_meaning.specs.World.{World, Where, Target, space_of, function_number, text_pointer, variable_at}
use Rattle.ct_meaning.specs.Rules.{given, used, truth_in, apply_binary, apply_conversion, binary_value, converted_value, variable, address_in, literal, designator, function_value, load, store, initialise, equal_check, failed_at, assert_equal_int, begun_test_by, test_check, can_begin, run_test, in_test, without_test, run_end, run_phase, caught, run_call}
use Rattle.ct_meaning.specs.Meaning.{Calls, enter, call_target, call_value, handed_call, built_in, apply_call, scalar_of_variable, initialise_parameter}
use Rattle.ct_phases.specs.Linked.{is_ordinary}
use Rattle.ct_meaning_laws.proofs.Related.{Agree, Keeps, Always, Equal, Each, SameCall, SameWhere, Kin, done, bind, weaker}
use Rattle.ct_meaning_laws.proofs.Numbers.{same_values}
use Rattle.ct_meaning_laws.proofs.Spends.{same_left}
use Rattle.ct_phases.proofs.RunnerValues.{Safe, SameValue, SafeResult, safe_used, safe_address, safe_converted, safe_binary}
use Rattle.ct_phases.proofs.RunnerRules.{Targets, Functions, Empties, BuiltIns, Nothings, Twins, Going, with_tool, SameRun, still_running}
use Rattle.ct_phases.proofs.RunnerRules as rule
use Rattle.ct_phases.proofs.RunnerKin.{Deep, Inside, inside, where_same, equal_values, never, never_both}
use Rattle.ct_phases.proofs.RunnerKin as part

module _ (plain written : World) (U N : ℕ → Type 0) (T : List Stored) (count : ℕ) (twins : Twins plain written U N) where
  abbrev R : ℕ → State → State → Type 0
  R = SameRun T written.budget count

  abbrev V : Value → Value → Type 0
  V = SameValue N

  abbrev Same : Where → Where → Type 0
  Same h k = SameWhere U Deep V h k

  -- ---- the calls that act at level 0 alone

  idle_at : (b c : Bool) → b ≡ false → c ≡ false → (m : ℕ) (s t : State) (o o' : ValueAndState Value) → R m s t
      → Agree V (R m) (if b then o else (Some Void, s)) (if c then o' else (Some Void, t))
  idle_at false false e d m s t o o' r = (record { same = refl; safe = tt }, r)
  idle_at true c e d m s t o o' r = cc
  idle_at false true e d m s t o o' r = cc

  idle_state : (b c : Bool) → b ≡ false → c ≡ false → (m : ℕ) (s t s' t' : State) → R m s t → R m (if b then s' else s) (if c then t' else t)
  idle_state false false e d m s t s' t' r = r
  idle_state true c e d m s t s' t' r = cc
  idle_state false true e d m s t s' t' r = cc

  module _ (h k : Where) (deep : Deep h.level) (deep' : Deep k.level) (n : ℕ) where
    idle_test : (xs ys : List Value) → Keeps R V n (run_test plain h xs) (run_test written k ys)
    unfolding run_test
    idle_test xs ys = record {
      at = λ m le s t r. idle_at (can_begin plain h s) (can_begin written k t) (never_both h deep _ _) (never_both k deep' _ _) m s t
          (begun_test_by plain h s (test_check xs s.memory)) (begun_test_by written k t (test_check ys t.memory)) r;
    }

    idle_end : Keeps R V n (run_end h) (run_end k)
    unfolding run_end
    idle_end = record {
      at = λ m le s t r. (
        record { same = refl; safe = tt },
        idle_state (in_test h s) (in_test k t) (never h deep _) (never k deep' _) m s t (without_test s) (without_test t) r,
      );
    }

    idle_phase : Keeps R V n (run_phase h) (run_phase k)
    unfolding run_phase
    idle_phase = record {
      at = λ m le s t r. (
        record { same = refl; safe = tt },
        idle_state (in_test h s) (in_test k t) (never h deep _) (never k deep' _) m s t (record s { aborted = false }) (record t { aborted = false }) r,
      );
    }

    idle_call : (p q : Does Value) → Keeps R V n (run_call h p) (run_call k q)
    unfolding run_call
    idle_call p q = record {
      at = λ m le s t r. idle_at (in_test h s && not s.aborted) (in_test k t && not t.aborted) (never_both h deep _ _) (never_both k deep' _ _) m s t
          (caught (p s)) (caught (q t)) r;
    }

  -- ---- assertions

  failed_keeps : (n : ℕ) (line : ℤ) (text : Option (List ℕ)) → Keeps R V n (failed_at line text) (failed_at line text)
  unfolding failed_at
  failed_keeps n line None = done R V n Void Void (record { same = refl; safe = tt })
  failed_keeps n line (Some text) = rule.by_tool plain written U N T count twins V n _ _ (λ m t below going. record {
    same = refl;
    below = (let e = same_left (judged Fail (unsigned_abs line) text) t.test in omega (arith, e));
    going = record { running = still_running _ _ going.running; unaborted = going.unaborted; count = going.count };
  })

  assert_keeps : (h k : Where) → SameCall U h k → (n : ℕ) (xs : List Value) → Keeps R V n (assert_equal_int plain h xs) (assert_equal_int written k xs)
  unfolding assert_equal_int
  assert_keeps h k same n xs =
      bind R Equal V n _ _ _ _ (rule.given_keeps plain written U N T count twins Equal n h k same (equal_check xs) (λ a. refl)) (λ x y e.
      let P : _ → Type 0 = λ z. Keeps R V n (failed_at x.0 x.1) (failed_at z.0 z.1) in subst P e (failed_keeps n x.0 x.1))

  -- ---- calls

  module _ (h k : Where) (same : Same h k) (n : ℕ) (f g : Calls)
      (keep : (number : ℕ) (xs ys : List Value) → V (Function number) (Function number) → Each V xs ys → Keeps R V n (enter plain h f number xs) (enter written k g number ys))
      (xs ys : List Value) (e : Each V xs ys) where
    deep_too : Deep k.level
    deep_too = subst Deep same.call.level same.deep

    built_in_keeps : (b : BuiltIn) → Keeps R V n (built_in plain h f b xs) (built_in written k g b ys)
    built_in_keeps AssertEqualInt =
        let P : List Value → Type 0 = λ zs. Keeps R V n (assert_equal_int plain h xs) (assert_equal_int written k zs) in
        subst P (same_values xs ys (equal_values U N xs ys e)) (assert_keeps h k same.call n xs)
    built_in_keeps RunTest = idle_test h k same.deep deep_too n xs ys
    built_in_keeps RunEnd = idle_end h k same.deep deep_too n
    built_in_keeps RunPhase = idle_phase h k same.deep deep_too n
    built_in_keeps RunCall = idle_call h k same.deep deep_too n (handed_call plain h f xs) (handed_call written k g ys)

    target_keeps : (number : ℕ) → N number → (a b : Option Target) → Targets plain U a b
        → Keeps R V n (call_target plain h f (built_in plain h f) number xs a) (call_target written k g (built_in written k g) number ys b)
    target_keeps number reached _ _ (Functions unit place function u names) = keep number xs ys (record { same = refl; safe = reached }) e
    target_keeps number reached _ _ (Empties unit place name is) = keep number xs ys (record { same = refl; safe = reached }) e
    target_keeps number reached _ _ (BuiltIns b) = built_in_keeps b
    target_keeps number reached _ _ Nothings = rule.stop_keeps plain written U N T count twins V n h k same.call BadCall

    value_keeps : (x : Value) → Safe N x → Keeps R V n (call_value plain h f (built_in plain h f) x xs) (call_value written k g (built_in written k g) x ys)
    value_keeps (Function number) safe = target_keeps number safe _ _ (twins.targets number safe)
    value_keeps Null safe = rule.stop_keeps plain written U N T count twins V n h k same.call NullPointer
    value_keeps (Object p) safe = rule.stop_keeps plain written U N T count twins V n h k same.call BadCall
    value_keeps Void safe = rule.stop_keeps plain written U N T count twins V n h k same.call MissingReturn
    value_keeps (Int z) safe = rule.stop_keeps plain written U N T count twins V n h k same.call BadCall
    value_keeps (Struct cells) safe = rule.stop_keeps plain written U N T count twins V n h k same.call BadCall

    call_keeps : (x y : Value) → V x y → Keeps R V n (apply_call plain h f x xs) (apply_call written k g y ys)
    unfolding apply_call
    call_keeps x y v =
        let P : Value → Type 0 = λ z. Keeps R V n (call_value plain h f (built_in plain h f) x xs) (call_value written k g (built_in written k g) z ys) in
        subst P v.same (value_keeps x v.safe)

  -- ---- the rules on values

  variable_keeps : (h k : Where) → Same h k → (n place : ℕ) → Keeps R V n (variable plain h place) (variable written k place)
  unfolding variable
  variable_keeps h k same n place = part.placed plain written U N T count twins V n h k same (λ x. variable plain x place) (λ x. variable written x place)
      (λ x i. rule.safe_keeps plain written U N T count twins n x x i.call (address_in x.frame place) (safe_address N x.frame i.frame place))

  literal_keeps : (h k : Where) → Same h k → (n text : ℕ) → Keeps R V n (literal plain h text) (literal written k text)
  unfolding literal
  literal_keeps h k same n text = part.placed plain written U N T count twins V n h k same (λ x. literal plain x text) (λ x. literal written x text)
      (λ x i. done R V n (Object (text_pointer plain x.unit text)) (Object (text_pointer written x.unit text)) (record {
        same = ap (λ (p : Pointer). Object p) (twins.text x.unit text i.unit);
        safe = ap space_of (twins.unit x.unit i.unit) ∙ twins.space x.unit i.unit;
      }))

  safe_function : (unit : ℕ) (name : List ℕ) → is_ordinary name ≡ true → (o : Option ℕ) → function_number written unit name ≡ o → SafeResult N (function_value o)
  safe_function unit name fine (Some number) e = twins.reached unit name number fine e
  safe_function unit name fine None e = tt

  designator_keeps : (h k : Where) → Same h k → (n : ℕ) (name : List ℕ) → is_ordinary name ≡ true → Keeps R V n (designator plain h name) (designator written k name)
  unfolding designator
  designator_keeps h k same n name fine = part.placed plain written U N T count twins V n h k same (λ x. designator plain x name) (λ x. designator written x name)
      (λ x i.
      let P : Option ℕ → Type 0 = λ o. Keeps R V n (given plain x (function_value o)) (given written x (function_value (function_number written x.unit name))) in
      subst P (sym (twins.numbers x.unit name)) (rule.safe_keeps plain written U N T count twins n x x i.call (function_value (function_number written x.unit name))
      (safe_function x.unit name fine (function_number written x.unit name) refl)))

  pub kin : Kin plain written U Deep is_ordinary V R
  kin = record {
    inside = λ level. omega arith;
    some = λ s t r. absurd (omega (arith, r.below));
    more = λ m s t r. record { same = r.same; below = omega (arith, r.below); going = r.going };
    step = rule.steps plain written U N T count twins;
    level = rule.levels plain written U N T count twins;
    void = record { same = refl; safe = tt };
    number = λ z. record { same = refl; safe = tt };
    stops = rule.stops plain written U N T count twins;
    begins = part.begun_same plain written U N T count twins;
    used = λ h k same n x y v.
        let P : Value → Type 0 = λ z. Keeps R V n (given plain h (used x)) (given written k (used z)) in
        subst P v.same (rule.safe_keeps plain written U N T count twins n h k same.call (used x) (safe_used N x v.safe));
    truth = λ h k same n x y v.
        let P : Value → Type 0 = λ z. Keeps R Equal n (given plain h (truth_in x)) (given written k (truth_in z)) in
        subst P v.same (rule.given_keeps plain written U N T count twins Equal n h k same.call (truth_in x) (λ a. refl));
    variable = variable_keeps;
    literal = literal_keeps;
    designator = designator_keeps;
    load = λ h k same n t a b v.
        let P : Value → Type 0 = λ z. Keeps R V n (load plain h t a) (load written k t z) in
        subst P v.same (part.placed plain written U N T count twins V n h k same (λ x. load plain x t a) (λ x. load written x t a)
        (λ x i. rule.loads plain written U N T count twins n x i.call t a v.safe));
    store = λ h k same n t a b x y v u.
        let P : Value → Type 0 = λ z. Keeps R V n (store plain h t a x) (store written k t z y) in
        let Q : Value → Type 0 = λ z. Keeps R V n (store plain h t a x) (store written k t a z) in
        subst P v.same (subst Q u.same (part.placed plain written U N T count twins V n h k same (λ i. store plain i t a x) (λ i. store written i t a x)
        (λ p i. rule.stores plain written U N T count twins n p i.call t a x v.safe)));
    initialise = λ h k same n place t x y v.
        let P : Value → Type 0 = λ z. Keeps R Always n (initialise plain h place t x) (initialise written k place t z) in
        subst P v.same (part.placed plain written U N T count twins Always n h k same (λ i. initialise plain i place t x) (λ i. initialise written i place t x)
        (λ p i. weaker R V Always n _ _ (λ a b _. tt) (rule.initialises plain written U N T count twins n p i.call i.frame place t x)));
    parameter = λ h k same n place x y v.
        let P : Value → Type 0 = λ z. Keeps R Always n (initialise_parameter plain h place x (scalar_of_variable (variable_at plain h place))) (initialise_parameter written k place z (scalar_of_variable (variable_at written k place))) in
        subst P v.same (part.placed plain written U N T count twins Always n h k same
        (λ i. initialise_parameter plain i place x (scalar_of_variable (variable_at plain i place))) (λ i. initialise_parameter written i place x (scalar_of_variable (variable_at written i place)))
        (λ p i.
        let Q : Option Variable → Type 0 = λ o. Keeps R Always n (initialise_parameter plain p place x (scalar_of_variable o)) (initialise_parameter written p place x (scalar_of_variable (variable_at written p place))) in
        subst Q (sym (part.variable_same plain written U N T count twins p i place no_objects))
        (weaker R V Always n _ _ (λ a b _. tt) (rule.parameter_keeps plain written U N T count twins n p i.call i.frame place x (scalar_of_variable (variable_at written p place))))));
    conversion = λ h k same n kind x y v.
        let P : Value → Type 0 = λ z. Keeps R V n (apply_conversion plain h kind x) (apply_conversion written k kind z) in
        subst P v.same (rule.safe_keeps plain written U N T count twins n h k same.call (converted_value kind x) (safe_converted N kind x));
    binary = λ h k same n op kind x y x' y' v u.
        let P : Value → Type 0 = λ z. Keeps R V n (apply_binary plain h op kind x y) (apply_binary written k op kind z y') in
        let Q : Value → Type 0 = λ z. Keeps R V n (apply_binary plain h op kind x y) (apply_binary written k op kind x z) in
        subst P v.same (subst Q u.same (rule.safe_keeps plain written U N T count twins n h k same.call (binary_value op kind x y) (safe_binary N op kind x y)));
    begin = part.begins plain written U N T count twins;
    end = part.ended plain written U N T count twins;
    call = λ h k same n f g keep x y xs ys v e. call_keeps h k same n f g keep xs ys e x y v;
  }
