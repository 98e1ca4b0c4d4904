-- The number that ends the recursion changes nothing, where it is above what is left. It is the induction for two related
-- runs, with equality as the relation.
use Rattle.std.proofs.Common.{◌≡◌, ℕ, suc, ◌+◌, ◌-◌, ◌<◌, ◌≤◌, List, [], ◌∷◌, Bool, true, false, Option, Some, None, refl, sym, ap, subst, ◌∙◌, arith, nat_lt, ltb-true}
use Rattle.std.specs.Prelude.{if◌then◌else◌, option_map, ◌&&◌, not}
use Rattle.ct_base.specs.declared.faults.FaultKind.{FaultKind}
use Rattle.ct_base.specs.declared.faults.FaultKind.TheVariants.{StepBudget, CallDepth, BadCall, NullPointer, MissingReturn}
use Rattle.ct_core.specs.declared.values.Pointer.{Pointer}
use Rattle.ct_core.specs.declared.values.Value.{Value}
use Rattle.ct_core.specs.declared.values.Value.TheVariants.{Void, Int, Null, Object, Function, Struct}
use Rattle.ct_core.specs.declared.built_ins.BuiltIn.{BuiltIn}
use Rattle.ct_core.specs.declared.built_ins.BuiltIn.TheVariants.{AssertEqualInt, RunCall, RunEnd, RunPhase, RunTest}
use Rattle.ct_core.specs.declared.trees.Mark.{Mark}
use Rattle.ct_meaning.specs.declared.state.State.{State}
use Rattle.ct_meaning.specs.declared.state.Ending.{Ending}
use Rattle.ct_meaning.specs.declared.state.Ending.TheVariants.{Onward, Returned}
use Rattle.ct_meaning.specs.Doing.{ValueAndState, Does, pure}
use Rattle.ct_meaning.specs.World.{World, Where, Target, Row, Empty, Outside, Defined, Given, target_of, variable_at}
use Rattle.ct_meaning.specs.Rules.{stop, failed, failed_test, given, used, truth_in, apply_binary, apply_conversion, variable, literal, designator, load, store, initialise, begin_objects, end_objects, check_level, level_limit, take_step, begun, argument, run_call, in_test, caught}
use Rattle.ct_meaning.specs.Meaning.{Calls, enter, call_target, call_value, procedure, handed_call, built_in, apply_call, scalar_of_variable, initialise_parameter, row_body, body_of, calls}
use Rattle.ct_meaning.specs.Program.{left_in}
use Rattle.ct_meaning.specs.declared.state.Place.{Place}
use Rattle.ct_meaning_laws.proofs.AllNames.{any_name, any_statement}
use Rattle.ct_meaning_laws.proofs.Related.{PlaceIn, Agree, Lower, Keeps, Always, Equal, Each, Entry, Endings, SameCall, SameWhere, Kin, Alike, Shared, Other, done, bind, weaker, calls_keep}
use Rattle.ct_meaning_laws.proofs.Spends.{Spends, given_spends, variable_spends, literal_spends, designator_spends, load_spends, store_spends, initialise_spends, parameter_spends, conversion_spends, binary_spends, begin_spends, assert_spends, run_test_spends, run_end_spends, run_phase_spends, stop_spends}

-- equal states, in which less than m is left
pub record SameState (budget m : ℕ) (s t : State) : Type 0 where
  pub same : s ≡ t
  pub below : left_in budget s < m

agree_self : {A : Type 0} (budget m : ℕ) (o : ValueAndState A) → left_in budget o.1 < m → Agree Equal (SameState budget m) o o
agree_self budget m (Some a, s) h = (refl, record { same = refl; below = h })
agree_self budget m (None, s) h = record { same = refl; below = h }

-- a part that raises nothing keeps equal states equal
self_at : {A : Type 0} (budget m : ℕ) (p : Does A) (s t : State) → Spends budget p → s ≡ t → left_in budget s < m → Agree Equal (SameState budget m) (p s) (p t)
self_at budget m p s t sp e below =
    let P : State → Type 0 = λ x. Agree Equal (SameState budget m) (p s) (p x) in
    subst P e (agree_self budget m (p s) (let h = sp.at s in omega arith))

self : {A : Type 0} (budget n : ℕ) (p : Does A) → Spends budget p → Keeps (SameState budget) Equal n p p
self budget n p sp = record { at = λ m le s t r. self_at budget m p s t sp r.same r.below }

same_pointer : (p q : Pointer) → Object p ≡ Object q → p ≡ q
same_pointer p q e = cc

pub same_frame : (f g : List (ℕ × Pointer)) → Each (Entry Equal) f g → f ≡ g
same_frame [] [] h = refl
same_frame (a ∷ f) (b ∷ g) h =
    let e : a.0 ≡ b.0 = h.0.0 in let d : a.1 ≡ b.1 = same_pointer a.1 b.1 h.0.1 in
    ap (λ (n : ℕ). (n, a.1) ∷ f) e ∙ ap (λ (p : Pointer). (b.0, p) ∷ f) d ∙ ap (λ (xs : List (ℕ × Pointer)). b ∷ xs) (same_frame f g h.1)
same_frame [] (b ∷ g) h = absurd h
same_frame (a ∷ f) [] h = absurd h

pub same_values : (xs ys : List Value) → Each Equal xs ys → xs ≡ ys
same_values [] [] h = refl
same_values (x ∷ xs) (y ∷ ys) h = ap (λ (v : Value). v ∷ xs) h.0 ∙ ap (λ (vs : List Value). y ∷ vs) (same_values xs ys h.1)
same_values [] (y ∷ ys) h = absurd h
same_values (x ∷ xs) [] h = absurd h

same_flow : (a b : Ending) → Endings Equal a b → a ≡ b
same_flow Onward Onward h = refl
same_flow (Returned x) (Returned y) h = ap (λ (v : Value). Returned v) h
same_flow Onward (Returned y) h = absurd h
same_flow (Returned x) Onward h = absurd h

each_self : (xs : List Value) → Each Equal xs xs
each_self [] = tt
each_self (x ∷ xs) = (refl, each_self xs)

frame_self : (f : List (ℕ × Pointer)) → Each (Entry Equal) f f
frame_self [] = tt
frame_self (a ∷ f) = ((refl, refl), frame_self f)

frame_alike : (f g : List (ℕ × Pointer)) → f ≡ g → Each (Entry Equal) f g
frame_alike f g e = let P : List (ℕ × Pointer) → Type 0 = λ x. Each (Entry Equal) f x in subst P e (frame_self f)

flow_alike : (a b : Ending) → a ≡ b → Endings Equal a b
flow_alike a b e = let P : Ending → Type 0 = λ x. Endings Equal a x in subst P e (flow_self a)
  where
    flow_self : (a : Ending) → Endings Equal a a
    flow_self Onward = tt
    flow_self (Returned x) = refl

-- any unit
abbrev pub Any : ℕ → Type 0
Any unit = Unit {0}

pub same_where : (h k : Where) → SameWhere Any Any Equal h k → h ≡ k
same_where h k same =
    ap (λ l. record h { level = l }) same.call.level
    ∙ ap (λ u. record h { level = k.level; unit = u }) same.unit
    ∙ ap (λ f. record h { level = k.level; unit = k.unit; function = f }) same.function
    ∙ ap (λ f. record h { level = k.level; unit = k.unit; function = k.function; frame = f }) (same_frame h.frame k.frame same.frame)
    ∙ ap (λ p. record k { place = p }) same.call.place

equal_outcomes : (budget m : ℕ) (o o' : ValueAndState Ending) → Agree (Endings Equal) (SameState budget m) o o' → o ≡ o'
equal_outcomes budget m (Some a, s) (Some b, t) h = ap (λ (x : Ending). (Some x, s)) (same_flow a b h.0) ∙ ap (λ (x : State). (Some b, x)) h.1.same
equal_outcomes budget m (None, s) (None, t) h = ap (λ (x : State). (None, x)) h.same
equal_outcomes budget m (Some a, s) (None, t) h = absurd h
equal_outcomes budget m (None, s) (Some b, t) h = absurd h

left_below : (budget m : ℕ) (o o' : ValueAndState Ending) → Agree (Endings Equal) (SameState budget m) o o' → left_in budget o.1 < m
left_below budget m (Some a, s) (Some b, t) h = h.1.below
left_below budget m (None, s) (None, t) h = h.below
left_below budget m (Some a, s) (None, t) h = absurd h
left_below budget m (None, s) (Some b, t) h = absurd h

module _ (w : World) where
  abbrev Same : ℕ → State → State → Type 0
  Same = SameState w.budget

  -- ---- the rules

  -- one rule in two places that are the same
  placed : {A : Type 0} (n : ℕ) (h k : Where) → SameWhere Any Any Equal h k → (p : Where → Does A) → ((x : Where) → Spends w.budget (p x)) → Keeps Same Equal n (p h) (p k)
  placed n h k same p sp =
      let P : Where → Type 0 = λ x. Keeps Same Equal n (p h) (p x) in
      subst P (same_where h k same) (self w.budget n (p h) (sp h))

  -- and with two equal values
  valued : {A B : Type 0} (n : ℕ) (h k : Where) → SameWhere Any Any Equal h k → (x y : B) → x ≡ y → (p : Where → B → Does A) → ((i : Where) (b : B) → Spends w.budget (p i b)) → Keeps Same Equal n (p h x) (p k y)
  valued n h k same x y e p sp =
      let P : _ → Type 0 = λ b. Keeps Same Equal n (p h x) (p k b) in
      subst P e (placed n h k same (λ i. p i x) (λ i. sp i x))

  same_failed : (h k : Where) → SameCall Any h k → (fault : FaultKind) (s : State) → failed w h fault s ≡ failed w k fault s
  unfolding failed
  same_failed h k same fault s = ap (λ p. record s { test = option_map (failed_test w p fault) s.test }) same.place

  failed_below : (m : ℕ) (h : Where) (fault : FaultKind) (s : State) → left_in w.budget s < m → left_in w.budget (failed w h fault s) < m
  failed_below m h fault s below = let less = (stop_spends {A = Unit {0}} w.budget w h fault).at s in omega arith

  both_failed : (h k : Where) → SameCall Any h k → (fault : FaultKind) (m : ℕ) (s t : State) → Same m s t → Same m (failed w h fault s) (failed w k fault t)
  both_failed h k same fault m s t r =
      record { same = same_failed h k same fault s ∙ ap (λ x. failed w k fault x) r.same; below = failed_below m h fault s r.below }

  stepped : Where → State → Bool → ValueAndState (Unit {0})
  stepped h s b = if b then (Some tt, record s { steps = s.steps - 1 }) else stop w h StepBudget s

  step_taken : (b : Bool) (h k : Where) → SameCall Any h k → (m : ℕ) (s t : State) → nat_lt 0 s.steps ≡ b → s ≡ t → left_in w.budget s < suc m
      → Lower (Same m) (Same (suc m)) (stepped h s b) (stepped k t b)
  unfolding stepped
  step_taken true h k same m s t is e below =
      let some : 0 < s.steps = ltb-true 0 s.steps is in
      record { same = ap (λ (x : State). record x { steps = x.steps - 1 }) e; below = omega arith }
  step_taken false h k same m s t is e below = both_failed h k same StepBudget (suc m) s t (record { same = e; below = below })

  step_keeps : (h k : Where) → SameCall Any h k → (m : ℕ) (s t : State) → Same (suc m) s t → Lower (Same m) (Same (suc m)) (take_step w h s) (take_step w k t)
  unfolding take_step stepped
  step_keeps h k same m s t r =
      let P : Bool → Type 0 = λ b. Lower (Same m) (Same (suc m)) (stepped h s (nat_lt 0 s.steps)) (stepped k t b) in
      subst P (ap (λ (x : State). nat_lt 0 x.steps) r.same) (step_taken (nat_lt 0 s.steps) h k same m s t refl r.same r.below)

  checked : Where → Bool → Does (Unit {0})
  checked h b = if b then pure tt else stop w h CallDepth

  checked_keeps : (b : Bool) (m : ℕ) (h k : Where) → SameCall Any h k → (s t : State) → Same m s t → Agree Always (Same m) (checked h b s) (checked k b t)
  unfolding checked
  checked_keeps true m h k same s t r = (tt, r)
  checked_keeps false m h k same s t r = both_failed h k same CallDepth m s t r

  level_keeps : (h k : Where) → SameCall Any h k → (n : ℕ) → Keeps Same Always n (check_level w h) (check_level w k)
  unfolding check_level checked
  level_keeps h k same n = record {
    at = λ m le s t r.
        let P : ℕ → Type 0 = λ l. Agree Always (Same m) (checked h (nat_lt h.level level_limit) s) (checked k (nat_lt l level_limit) t) in
        subst P same.level (checked_keeps (nat_lt h.level level_limit) m h k same s t r);
  }

  -- ---- calls of the functions that are built in

  caught_keeps : (m : ℕ) (o o' : ValueAndState Value) → Agree Equal (Same m) o o' → Agree Equal (Same m) (caught o) (caught o')
  caught_keeps m (Some a, s) (Some b, t) h = (refl, h.1)
  caught_keeps m (None, s) (None, t) h = (refl, record { same = ap (λ (x : State). record x { aborted = true }) h.same; below = h.below })
  caught_keeps m (Some a, s) (None, t) h = absurd h
  caught_keeps m (None, s) (Some b, t) h = absurd h

  call_at : (b : Bool) (m : ℕ) (o o' : ValueAndState Value) (s t : State) → Agree Equal (Same m) o o' → Same m s t
      → Agree Equal (Same m) (if b then caught o else (Some Void, s)) (if b then caught o' else (Some Void, t))
  call_at true m o o' s t h r = caught_keeps m o o' h
  call_at false m o o' s t h r = (refl, r)

  run_call_keeps : (h : Where) (n : ℕ) (p q : Does Value) → Keeps Same Equal n p q → Keeps Same Equal n (run_call h p) (run_call h q)
  unfolding run_call
  run_call_keeps h n p q keep = record {
    at = λ m le s t r.
        let f : Bool → ValueAndState Value = λ b. if b then caught (q t) else (Some Void, t) in
        let P : Bool → Type 0 = λ b. Agree Equal (Same m) (run_call h p s) (f b) in
        subst P (ap (λ (x : State). in_test h x && not x.aborted) r.same) (call_at (in_test h s && not s.aborted) m (p s) (q t) s t (keep.at m le s t r) r);
  }

  target_keeps : (h : Where) (n : ℕ) (f g : Calls) → ((number : ℕ) (xs : List Value) → Keeps Same Equal n (enter w h f number xs) (enter w h g number xs))
      → (p q : BuiltIn → List Value → Does Value) → ((b : BuiltIn) (xs : List Value) → Keeps Same Equal n (p b xs) (q b xs))
      → (number : ℕ) (xs : List Value) (t : Option Target) → Keeps Same Equal n (call_target w h f p number xs t) (call_target w h g q number xs t)
  target_keeps h n f g keep p q rows number xs (Some (Outside row)) = keep number xs
  target_keeps h n f g keep p q rows number xs (Some (Defined unit place function)) = keep number xs
  target_keeps h n f g keep p q rows number xs (Some (Given b)) = rows b xs
  target_keeps h n f g keep p q rows number xs None = self w.budget n _ (stop_spends w.budget w h BadCall)

  value_keeps : (h : Where) (n : ℕ) (f g : Calls) → ((number : ℕ) (xs : List Value) → Keeps Same Equal n (enter w h f number xs) (enter w h g number xs))
      → (p q : BuiltIn → List Value → Does Value) → ((b : BuiltIn) (xs : List Value) → Keeps Same Equal n (p b xs) (q b xs))
      → (x : Value) (xs : List Value) → Keeps Same Equal n (call_value w h f p x xs) (call_value w h g q x xs)
  value_keeps h n f g keep p q rows (Function number) xs = target_keeps h n f g keep p q rows number xs (target_of w number)
  value_keeps h n f g keep p q rows Null xs = self w.budget n _ (stop_spends w.budget w h NullPointer)
  value_keeps h n f g keep p q rows (Object pointer) xs = self w.budget n _ (stop_spends w.budget w h BadCall)
  value_keeps h n f g keep p q rows Void xs = self w.budget n _ (stop_spends w.budget w h MissingReturn)
  value_keeps h n f g keep p q rows (Int z) xs = self w.budget n _ (stop_spends w.budget w h BadCall)
  value_keeps h n f g keep p q rows (Struct cells) xs = self w.budget n _ (stop_spends w.budget w h BadCall)

  procedure_keeps : (h : Where) (n : ℕ) (b : BuiltIn) (xs : List Value) → Keeps Same Equal n (procedure w h b xs) (procedure w h b xs)
  procedure_keeps h n RunEnd xs = self w.budget n _ (run_end_spends w h)
  procedure_keeps h n RunPhase xs = self w.budget n _ (run_phase_spends w h)
  procedure_keeps h n AssertEqualInt xs = self w.budget n _ (stop_spends w.budget w h BadCall)
  procedure_keeps h n RunTest xs = self w.budget n _ (stop_spends w.budget w h BadCall)
  procedure_keeps h n RunCall xs = self w.budget n _ (stop_spends w.budget w h BadCall)

  handed_keeps : (h : Where) (n : ℕ) (f g : Calls) → ((number : ℕ) (xs : List Value) → Keeps Same Equal n (enter w h f number xs) (enter w h g number xs))
      → (xs : List Value) → Keeps Same Equal n (handed_call w h f xs) (handed_call w h g xs)
  handed_keeps h n f g keep xs =
      bind Same Equal Equal n (given w h (argument 0 xs)) (given w h (argument 0 xs)) _ _ (self w.budget n _ (given_spends w.budget w h (argument 0 xs))) (λ x y e.
      let P : Value → Type 0 = λ z. Keeps Same Equal n (call_value w h f (procedure w h) x []) (call_value w h g (procedure w h) z []) in
      subst P e (value_keeps h n f g keep _ _ (procedure_keeps h n) x []))

  built_in_keeps : (h : Where) (n : ℕ) (f g : Calls) → ((number : ℕ) (xs : List Value) → Keeps Same Equal n (enter w h f number xs) (enter w h g number xs))
      → (b : BuiltIn) (xs : List Value) → Keeps Same Equal n (built_in w h f b xs) (built_in w h g b xs)
  built_in_keeps h n f g keep AssertEqualInt xs = self w.budget n _ (assert_spends w.budget w h xs)
  built_in_keeps h n f g keep RunTest xs = self w.budget n _ (run_test_spends w h xs)
  built_in_keeps h n f g keep RunEnd xs = self w.budget n _ (run_end_spends w h)
  built_in_keeps h n f g keep RunPhase xs = self w.budget n _ (run_phase_spends w h)
  built_in_keeps h n f g keep RunCall xs = run_call_keeps h n _ _ (handed_keeps h n f g keep xs)

  apply_keeps : (h : Where) (n : ℕ) (f g : Calls) → ((number : ℕ) (xs : List Value) → Keeps Same Equal n (enter w h f number xs) (enter w h g number xs))
      → (x : Value) (xs : List Value) → Keeps Same Equal n (apply_call w h f x xs) (apply_call w h g x xs)
  unfolding apply_call
  apply_keeps h n f g keep x xs = value_keeps h n f g keep _ _ (built_in_keeps h n f g keep) x xs

  call_keeps : (h k : Where) → SameWhere Any Any Equal h k → (n : ℕ) (f g : Calls)
      → ((number : ℕ) (xs ys : List Value) → Equal (Function number) (Function number) → Each Equal xs ys → Keeps Same Equal n (enter w h f number xs) (enter w k g number ys))
      → (x y : Value) (xs ys : List Value) → Equal x y → Each Equal xs ys → Keeps Same Equal n (apply_call w h f x xs) (apply_call w k g y ys)
  call_keeps h k same n f g keep x y xs ys e d =
      let P : Where → Type 0 = λ i. ((number : ℕ) (us vs : List Value) → Equal (Function number) (Function number) → Each Equal us vs → Keeps Same Equal n (enter w h f number us) (enter w i g number vs))
      → Keeps Same Equal n (apply_call w h f x xs) (apply_call w i g y ys) in
      let Q : Value → Type 0 = λ z. Keeps Same Equal n (apply_call w h f x xs) (apply_call w h g z ys) in
      let S : List Value → Type 0 = λ zs. Keeps Same Equal n (apply_call w h f x xs) (apply_call w h g x zs) in
      subst P (same_where h k same) (λ here. subst Q e (subst S (same_values xs ys d) (apply_keeps h n f g (λ number zs. here number zs zs refl (each_self zs)) x xs))) keep

  known_place : (p : Option Place) → PlaceIn Any p
  known_place (Some p) = tt
  known_place None = tt

  call_self : (h : Where) → SameCall Any h h
  call_self h = record { level = refl; place = refl; known = known_place h.place }

  where_self : (h : Where) → SameWhere Any Any Equal h h
  where_self h = record { call = call_self h; deep = tt; unit = refl; within = tt; function = refl; frame = frame_self h.frame }

  begun_same : (h k : Where) → SameWhere Any Any Equal h k → (mark : Mark) → SameWhere Any Any Equal (begun w h mark) (begun w k mark)
  begun_same h k same mark =
      let P : Where → Type 0 = λ i. SameWhere Any Any Equal (begun w h mark) (begun w i mark) in subst P (same_where h k same) (where_self (begun w h mark))

  ended_same : (n : ℕ) (f g : List (ℕ × Pointer)) → Each (Entry Equal) f g → (m : ℕ) (s t : State) → Same m s t → Same m (end_objects n f s) (end_objects n g t)
  unfolding end_objects
  ended_same n f g e m s t r =
      record { same = ap (λ x. end_objects n x s) (same_frame f g e) ∙ ap (λ x. end_objects n g x) r.same; below = r.below }

  -- the same rules in the same world keep equal states equal
  pub equal_kin : Kin w w Any Any any_name Equal Same
  equal_kin = record {
    inside = λ level. tt;
    some = λ s t r. absurd (omega (arith, r.below));
    more = λ m s t r. record { same = r.same; below = omega (arith, r.below) };
    step = step_keeps;
    level = level_keeps;
    void = refl;
    number = λ z. refl;
    stops = both_failed;
    begins = begun_same;
    used = λ h k same n x y e. valued n h k same x y e (λ i b. given w i (used b)) (λ i b. given_spends w.budget w i (used b));
    truth = λ h k same n x y e. valued n h k same x y e (λ i b. given w i (truth_in b)) (λ i b. given_spends w.budget w i (truth_in b));
    variable = λ h k same n place. placed n h k same (λ i. variable w i place) (λ i. variable_spends w.budget w i place);
    literal = λ h k same n text. placed n h k same (λ i. literal w i text) (λ i. literal_spends w.budget w i text);
    designator = λ h k same n name fine. placed n h k same (λ i. designator w i name) (λ i. designator_spends w.budget w i name);
    load = λ h k same n t a b e. valued n h k same a b e (λ i x. load w i t x) (λ i x. load_spends w.budget w i t x);
    store = λ h k same n t a b x y e d.
        let P : Value → Type 0 = λ z. Keeps Same Equal n (store w h t a x) (store w k t z y) in
        subst P e (valued n h k same x y d (λ i v. store w i t a v) (λ i v. store_spends w.budget w i t a v));
    initialise = λ h k same n place t x y e.
        weaker Same Equal Always n _ _ (λ a b _. tt) (valued n h k same x y e (λ i v. initialise w i place t v) (λ i v. initialise_spends w.budget w i place t v));
    parameter = λ h k same n place x y e.
        weaker Same Equal Always n _ _ (λ a b _. tt) (valued n h k same x y e (λ i v. initialise_parameter w i place v (scalar_of_variable (variable_at w i place)))
        (λ i v. parameter_spends w.budget w i place v (scalar_of_variable (variable_at w i place))));
    conversion = λ h k same n i x y e. valued n h k same x y e (λ j v. apply_conversion w j i v) (λ j v. conversion_spends w.budget w j i v);
    binary = λ h k same n op i x y x' y' e d.
        let P : Value → Type 0 = λ z. Keeps Same Equal n (apply_binary w h op i x y) (apply_binary w k op i z y') in
        subst P e (valued n h k same y y' d (λ j v. apply_binary w j op i x v) (λ j v. binary_spends w.budget w j op i x v));
    begin = λ h k same n places f g e.
        let P : List (ℕ × Pointer) → Type 0 = λ z. Keeps Same (Each (Entry Equal)) n (begin_objects w h places f) (begin_objects w k places z) in
        subst P (same_frame f g e) (weaker Same Equal (Each (Entry Equal)) n _ _ frame_alike (placed n h k same (λ i. begin_objects w i places f) (λ i. begin_spends w.budget w i places f)));
    end = ended_same;
    call = call_keeps;
  }

  row_keeps : (row : Row) (n : ℕ) (h k : Where) → SameCall Any h k → (xs ys : List Value) → Each Equal xs ys
      → Keeps Same (Endings Equal) n (row_body w h row xs) (row_body w k row ys)
  row_keeps Empty n h k same [] [] e = done Same (Endings Equal) n Onward Onward tt
  row_keeps Empty n h k same (x ∷ xs) (y ∷ ys) e = record { at = λ m le s t r. both_failed h k same BadCall m s t r }
  row_keeps Empty n h k same [] (y ∷ ys) e = absurd e
  row_keeps Empty n h k same (x ∷ xs) [] e = absurd e

  -- each function is the same in the same world
  alike_at : (number : ℕ) (t : Option Target) → target_of w number ≡ t → Alike w w Any Any any_name Equal Same equal_kin number
  alike_at number (Some (Defined unit place function)) e = Shared unit place function tt (any_statement function.body) e e
  alike_at number (Some (Outside row)) e = Other (λ n i j le le' f g enters xs ys d h k same deep.
      let P : Option Target → Type 0 = λ t. Keeps Same (Endings Equal) n (body_of w i f t xs h) (body_of w j g t ys k) in subst P (sym e) (row_keeps row n h k same xs ys d))
  alike_at number (Some (Given b)) e = Other (λ n i j le le' f g enters xs ys d h k same deep.
      let P : Option Target → Type 0 = λ t. Keeps Same (Endings Equal) n (body_of w i f t xs h) (body_of w j g t ys k) in subst P (sym e) (done Same (Endings Equal) n Onward Onward tt))
  alike_at number None e = Other (λ n i j le le' f g enters xs ys d h k same deep.
      let P : Option Target → Type 0 = λ t. Keeps Same (Endings Equal) n (body_of w i f t xs h) (body_of w j g t ys k) in subst P (sym e) (done Same (Endings Equal) n Onward Onward tt))

  both_agree : (i j number : ℕ) (values : List Value) (h : Where) (s : State) → left_in w.budget s + 1 < i → left_in w.budget s + 1 < j
      → Agree (Endings Equal) (SameState w.budget (left_in w.budget s + 1)) (calls w i number values h s) (calls w j number values h s)
  both_agree i j number values h s li lj =
      (calls_keep w w Any Any any_name Equal Same equal_kin (λ k _. alike_at k (target_of w k) refl) i j (left_in w.budget s + 1) li lj h h (call_self h) tt number values values refl (each_self values)).at
      (left_in w.budget s + 1) (omega arith) s s (record { same = refl; below = omega arith })

-- Any two numbers above what is left give the same.
pub any_numbers : (w : World) (i j number : ℕ) (values : List Value) (h : Where) (s : State) → left_in w.budget s + 1 < i → left_in w.budget s + 1 < j
    → calls w i number values h s ≡ calls w j number values h s
any_numbers w i j number values h s li lj =
    equal_outcomes w.budget (left_in w.budget s + 1) (calls w i number values h s) (calls w j number values h s) (both_agree w i j number values h s li lj)

-- Nothing that is left is given back.
pub nothing_given_back : (w : World) (i number : ℕ) (values : List Value) (h : Where) (s : State) → left_in w.budget s + 1 < i
    → left_in w.budget (calls w i number values h s).1 ≤ left_in w.budget s
nothing_given_back w i number values h s li =
    let below : left_in w.budget (calls w i number values h s).1 < left_in w.budget s + 1 =
    left_below w.budget (left_in w.budget s + 1) (calls w i number values h s) (calls w i number values h s) (both_agree w i i number values h s li li) in omega arith
