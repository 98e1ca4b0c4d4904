-- Two runs of the same Project code stay related, whatever functions they call.
use Rattle.std.proofs.Common.{◌≡◌, ℕ, ◌≤◌, List, [], ◌∷◌, Option, Some, None, refl, sym, subst, arith}
use Rattle.ct_base.specs.declared.faults.FaultKind.TheVariants.{BadCall}
use Rattle.ct_core.specs.declared.values.Value.{Value}
use Rattle.ct_core.specs.declared.values.Value.TheVariants.{Function}
use Rattle.ct_core.specs.declared.objects.Object.{Object as Stored}
use Rattle.ct_meaning.specs.declared.state.State.{State}
use Rattle.ct_meaning.specs.declared.state.Ending.{Ending}
use Rattle.ct_meaning.specs.declared.state.Ending.TheVariants.{Onward}
use Rattle.ct_meaning.specs.Doing.{ValueAndState}
use Rattle.ct_meaning.specs.World.{World, Where, Target, Empty, Defined, target_of, function_at}
use Rattle.ct_meaning.specs.Rules.{failed}
use Rattle.ct_meaning.specs.Meaning.{Calls, defined_body, row_body, body_of, calls}
use Rattle.ct_phases.specs.Runner.{empty_function}
use Rattle.ct_phases.specs.Linked.{is_ordinary}
use Rattle.ct_meaning_laws.proofs.Related.{Agree, Keeps, Each, Endings, SameCall, Alike, Shared, Other, EnterKeeps, done, calls_keep, entered_at}
use Rattle.ct_phases.proofs.RunnerValues.{SameValue}
use Rattle.ct_phases.proofs.RunnerRules.{Targets, Functions, Empties, BuiltIns, Nothings, Twins, Going, with_tool, SameRun}
use Rattle.ct_phases.proofs.RunnerRules as rule
use Rattle.ct_phases.proofs.RunnerKin.{Deep}
use Rattle.ct_phases.proofs.RunnerCalls.{kin}
use Rattle.ct_phases.proofs.RunnerTrees.{empty_body, empty_stops}

module _ (plain written : World) (U N : ℕ → Type 0) (T : List Stored) (count : ℕ) (twins : Twins plain written U N) where
  abbrev R : ℕ → State → State → Type 0
  R = SameRun T written.budget count

  abbrev V : Value → Value → Type 0
  V = SameValue N

  -- an empty function of the runner, and the row that stands for it
  empty_keeps : (n i : ℕ) (call : Calls) (unit place : ℕ) (name : List ℕ) → function_at plain unit place ≡ Some (empty_function name)
      → (xs ys : List Value) → Each V xs ys → (h k : Where) → SameCall U h k
      → Keeps R (Endings V) n (defined_body plain i call unit place (empty_function name) xs h) (row_body written k Empty ys)
  empty_keeps n i call unit place name is [] [] e h k same = record {
    at = λ m le s t r.
        let P : ValueAndState Ending → Type 0 = λ o. Agree (Endings V) (R m) o (Some Onward, t) in subst P (sym (empty_body plain i call unit place name is h s)) (tt, r);
  }
  empty_keeps n i call unit place name is (x ∷ xs) (y ∷ ys) e h k same = record {
    at = λ m le s t r.
        let P : ValueAndState Ending → Type 0 = λ o. Agree (Endings V) (R m) o (None, failed written k BadCall t) in
        subst P (sym (empty_stops plain i call unit place name is h x xs s)) (rule.stops plain written U N T count twins h k same BadCall m s t r);
  }
  empty_keeps n i call unit place name is [] (y ∷ ys) e h k same = absurd e
  empty_keeps n i call unit place name is (x ∷ xs) [] e h k same = absurd e

  alike_by : (number : ℕ) (a b : Option Target) → Targets plain U a b → target_of plain number ≡ a → target_of written number ≡ b
      → Alike plain written U Deep is_ordinary V R (kin plain written U N T count twins) number
  alike_by number _ _ (Functions unit place f u names) here there = Shared unit place f u names here there
  alike_by number a b (Empties unit place name is) here there = Other (λ n i j le le' f g enters xs ys e h k same deep.
      let P : Option Target → Type 0 = λ t. Keeps R (Endings V) n (body_of plain i f t xs h) (body_of written j g (target_of written number) ys k) in
      let Q : Option Target → Type 0 = λ t. Keeps R (Endings V) n (body_of plain i f (Some (Defined unit place (empty_function name))) xs h) (body_of written j g t ys k) in
      subst P (sym here) (subst Q (sym there) (empty_keeps n i f unit place name is xs ys e h k same)))
  alike_by number a b (BuiltIns c) here there = Other (λ n i j le le' f g enters xs ys e h k same deep.
      let P : Option Target → Type 0 = λ t. Keeps R (Endings V) n (body_of plain i f t xs h) (body_of written j g (target_of written number) ys k) in
      let Q : Option Target → Type 0 = λ t. Keeps R (Endings V) n (body_of plain i f a xs h) (body_of written j g t ys k) in
      subst P (sym here) (subst Q (sym there) (done R (Endings V) n Onward Onward tt)))
  alike_by number a b Nothings here there = Other (λ n i j le le' f g enters xs ys e h k same deep.
      let P : Option Target → Type 0 = λ t. Keeps R (Endings V) n (body_of plain i f t xs h) (body_of written j g (target_of written number) ys k) in
      let Q : Option Target → Type 0 = λ t. Keeps R (Endings V) n (body_of plain i f a xs h) (body_of written j g t ys k) in
      subst P (sym here) (subst Q (sym there) (done R (Endings V) n Onward Onward tt)))

  alike : (number : ℕ) → V (Function number) (Function number) → Alike plain written U Deep is_ordinary V R (kin plain written U N T count twins) number
  alike number reached = alike_by number _ _ (twins.targets number reached.safe) refl refl

  -- a call keeps the runs related, where the numbers are not below what is left
  pub enters : (i j m : ℕ) → m ≤ i → m ≤ j → EnterKeeps plain written U Deep is_ordinary V R (kin plain written U N T count twins) m (calls plain i) (calls written j)
  enters i j m le le' =
      entered_at plain written U Deep is_ordinary V R (kin plain written U N T count twins) alike m (calls plain i) (calls written j)
      (λ n below. calls_keep plain written U Deep is_ordinary V R (kin plain written U N T count twins) alike i j n (omega arith) (omega arith))
