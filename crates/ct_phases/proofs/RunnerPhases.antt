-- The runner's calls of a test are the two phases of the written meaning.
use Rattle.std.proofs.Common.{◌≡◌, ℕ, ◌<◌, ◌≤◌, List, [], ◌∷◌, Bool, true, false, Some, None, refl, sym, ap, subst, ◌∙◌, arith, eq-eqb}
use Rattle.std.specs.Prelude.{if◌then◌else◌, ◌==◌, ◌&&◌}
use Rattle.ct_core.specs.declared.values.Value.{Value}
use Rattle.ct_core.specs.declared.values.Value.TheVariants.{Void}
use Rattle.ct_core.specs.declared.objects.Object.{Object as Stored}
use Rattle.ct_meaning.specs.declared.state.State.{State}
use Rattle.ct_meaning.specs.Doing.{ValueAndState, Does, onwards, pure}
use Rattle.ct_meaning.specs.World.{World, Where}
use Rattle.ct_meaning.specs.Rules.{in_test, without_test, caught, run_call}
use Rattle.ct_meaning.specs.Meaning.{enter, calls}
use Rattle.ct_meaning.specs.Program.{outermost, left_in}
use Rattle.ct_meaning.specs.Written.{phase}
use Rattle.ct_meaning_laws.proofs.Related.{Agree, SameCall}
use Rattle.ct_meaning_laws.proofs.Spends.{end_at}
use Rattle.ct_phases.proofs.RunnerValues.{SameValue}
use Rattle.ct_phases.proofs.RunnerRules.{Twins, Going, with_tool, SameRun}
use Rattle.ct_phases.proofs.RunnerRun.{enters}

-- whether a part aborted, and the state after it
abbrev ended : ValueAndState Value → Bool × State
ended (Some v, t) = (false, t)
ended (None, t) = (true, t)

-- no test runs, so many have begun, and less than m is left
pub record Between (budget count m : ℕ) (t : State) : Type 0 where
  pub stopped : t.test ≡ None
  pub counted : t.begun ≡ count
  pub below : left_in budget t < m

and_false : (b : Bool) → (b && false) ≡ false
and_false true = refl
and_false false = refl

and_true : (a b : Bool) → a ≡ true → b ≡ true → (a && b) ≡ true
and_true a b e d = let P : Bool → Type 0 = λ x. (x && b) ≡ true in subst P (sym e) d

module _ (plain written : World) (U N : ℕ → Type 0) (T : List Stored) (twins : Twins plain written U N) (h : Where) (same : SameCall U h outermost)
    (i j m : ℕ) (le : m ≤ i) (le' : m ≤ j) where
  abbrev pub enter_plain : ℕ → State → ValueAndState Value
  enter_plain number = enter plain h (calls plain i) number []

  abbrev pub enter_written : ℕ → State → ValueAndState Value
  enter_written number = enter written outermost (calls written j) number []

  -- a call by the runner; it is left out where the phase was aborted
  abbrev pub called : ℕ → State → State
  called number s = (run_call h (enter_plain number) s).1

  abbrev step : ℕ → Bool × State → Bool × State
  step number (true, t) = (true, t)
  step number (false, t) = ended (enter_written number t)

  -- the plain state is the written one, but for what lies in the Tool space and whether the phase was aborted
  record Held (count : ℕ) (p : Bool × State) (s : State) : Type 0 where
    equal : s ≡ record (with_tool T p.1) { aborted = p.0 }
    below : left_in written.budget p.1 < m
    going : Going count p.1

  outer : (h.level == 0) ≡ true
  outer = eq-eqb h.level 0 same.level

  going_test : (count : ℕ) (t : State) (aborted : Bool) → Going count t → in_test h (record (with_tool T t) { aborted = aborted }) ≡ true
  going_test count t aborted going = and_true _ _ outer going.running

  held_test : (count : ℕ) (p : Bool × State) (s : State) → Held count p s → in_test h s ≡ true
  held_test count p s held = let P : State → Type 0 = λ x. in_test h x ≡ true in subst P (sym held.equal) (going_test count p.1 p.0 held.going)

  after_call : (count : ℕ) (o o' : ValueAndState Value) → Agree (SameValue N) (SameRun T written.budget count m) o o' → Held count (ended o') (caught o).1
  after_call count (Some a, s) (Some b, t) k =
      record { equal = k.1.same ∙ ap (λ (x : Bool). record (with_tool T t) { aborted = x }) k.1.going.unaborted; below = k.1.below; going = k.1.going }
  after_call count (None, s) (None, t) k = record { equal = ap (λ (x : State). record x { aborted = true }) k.same; below = k.below; going = k.going }
  after_call count (Some a, s) (None, t) k = absurd k
  after_call count (None, s) (Some b, t) k = absurd k

  step_by : (count number : ℕ) → N number → (p : Bool × State) → left_in written.budget p.1 < m → Going count p.1
      → Held count (step number p) (called number (record (with_tool T p.1) { aborted = p.0 }))
  unfolding run_call
  step_by count number reached (true, t) below going =
      let s : State = record (with_tool T t) { aborted = true } in
      let P : Bool → Type 0 = λ b. Held count (true, t) (if b then caught (enter_plain number s) else (Some Void, s)).1 in
      subst P (sym (and_false (in_test h s))) (record { equal = refl; below = below; going = going })
  step_by count number reached (false, t) below going =
      let s : State = record (with_tool T t) { aborted = false } in
      let is : with_tool T t ≡ s = ap (λ (x : Bool). record (with_tool T t) { aborted = x }) going.unaborted in
      let P : Bool → Type 0 = λ b. Held count (ended (enter_written number t)) (if b then caught (enter_plain number s) else (Some Void, s)).1 in
      let Q : State → Type 0 = λ x. Held count (ended (enter_written number t)) (caught (enter_plain number x)).1 in
      subst P (sym (and_true _ _ (going_test count t false going) refl)) (subst Q is
      (after_call count (enter_plain number (with_tool T t)) (enter_written number t)
      ((enters plain written U N T count twins i j m le le' h outermost same number [] [] (record { same = refl; safe = reached }) tt).at m (omega arith) (with_tool T t) t
      (record { same = refl; below = below; going = going }))))

  call_held : (count number : ℕ) → N number → (p : Bool × State) (s : State) → Held count p s → Held count (step number p) (called number s)
  call_held count number reached p s held =
      let P : State → Type 0 = λ x. Held count (step number p) (called number x) in subst P (sym held.equal) (step_by count number reached p held.below held.going)

  -- ---- the phases of the written meaning

  abbrev finished : Does (Unit {0})
  finished = pure tt

  last_in_order : (o : ValueAndState Value) → (onwards o (λ (v : Value). finished)).1 ≡ (ended o).1
  last_in_order (Some v, t) = refl
  last_in_order (None, t) = refl

  first_in_order : (b : ℕ) (o : ValueAndState Value) → (onwards o (λ (v : Value). λ (x : State). onwards (enter_written b x) (λ (u : Value). finished))).1 ≡ (step b (ended o)).1
  first_in_order b (Some v, t) = last_in_order (enter_written b t)
  first_in_order b (None, t) = refl

  -- the state after a test, from that in which it begins
  abbrev pub after_test : ℕ → ℕ → ℕ → State → State
  after_test set_up number tear_down t = phase written (calls written j) (tear_down ∷ []) (phase written (calls written j) (set_up ∷ number ∷ []) t)

  after_steps : (set_up number tear_down : ℕ) (t : State) → (step tear_down (false, (step number (step set_up (false, t))).1)).1 ≡ after_test set_up number tear_down t
  after_steps set_up number tear_down t =
      let first = sym (first_in_order number (enter_written set_up t)) in
      ap (λ (x : State). (step tear_down (false, x)).1) first ∙ sym (last_in_order (enter_written tear_down _))

  -- ---- a test

  module _ (count set_up number tear_down : ℕ) (r : N set_up) (r' : N number) (r'' : N tear_down) (t : State) (below : left_in written.budget t < m) (going : Going count t) where
    -- where the first phase has ended
    abbrev pub middle : State
    middle = called number (called set_up (with_tool T t))

    -- where the second phase has ended
    abbrev pub finish : State
    finish = called tear_down (record middle { aborted = false })

    first_phase : Held count (step number (step set_up (false, t))) middle
    first_phase =
        call_held count number r' (step set_up (false, t)) (called set_up (with_tool T t)) (call_held count set_up r (false, t) (with_tool T t)
        (record { equal = ap (λ (x : Bool). record (with_tool T t) { aborted = x }) going.unaborted; below = below; going = going }))

    second_phase : Held count (step tear_down (false, (step number (step set_up (false, t))).1)) finish
    second_phase =
        call_held count tear_down r'' (false, (step number (step set_up (false, t))).1) (record middle { aborted = false })
        (record { equal = ap (λ (x : State). record x { aborted = false }) first_phase.equal; below = first_phase.below; going = first_phase.going })

    pub middle_test : in_test h middle ≡ true
    middle_test = held_test count _ _ first_phase

    pub finish_test : in_test h finish ≡ true
    finish_test = held_test count _ _ second_phase

    pub same_end : without_test finish ≡ with_tool T (without_test (after_test set_up number tear_down t))
    same_end =
        ap (λ (x : State). without_test x) second_phase.equal
        ∙ ap (λ (x : State). with_tool T (without_test x)) (after_steps set_up number tear_down t)

    pub between_again : Between written.budget count m (without_test (after_test set_up number tear_down t))
    between_again =
        let x : Bool × State = step tear_down (false, (step number (step set_up (false, t))).1) in
        let P : State → Type 0 = λ y. Between written.budget count m (without_test y) in
        subst P (after_steps set_up number tear_down t) (record {
          stopped = refl;
          counted = second_phase.going.count;
          below = (let less = end_at written outermost true x.1 second_phase.going.running in let was = second_phase.below in omega arith);
        })
