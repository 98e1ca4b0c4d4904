-- What names mean in the units of a test project, with their runner and without it.
use Rattle.std.proofs.Common.{◌≡◌, ◌⊎◌, inl, inr, ℕ, ◌<◌, List, [], ◌∷◌, ◌++◌, length, map, Bool, true, Option, Some, None, refl, sym, ap, subst, ◌∙◌, arith, eqb-true}
use Rattle.std.specs.Prelude.{slice_get, position, bytes_eq, filter, ◌&&◌, ◌==◌}
use Rattle.std.proofs.lemmas.Option.{none-some, same_Some}
use Rattle.std.proofs.lemmas.Slice.Eq.{bytes_eq-Decides}
use Rattle.ct_core.specs.declared.units.CoreUnit.{CoreUnit}
use Rattle.ct_core.specs.declared.units.CoreFunction.{CoreFunction}
use Rattle.ct_core.specs.declared.units.Definition.{Definition}
use Rattle.ct_meaning.specs.World.{World, is_external, is_common, common_number, own_number, or_else, function_number, Defined, target_of, inner_target, defined_target}
use Rattle.ct_meaning.specs.Program.{plain_world}
use Rattle.ct_meaning.specs.Written.{written_world, functions_of, is_test, defines}
use Rattle.ct_phases.specs.Linked.{IsLinked, function_in, definition_of, runner_of}
use Rattle.ct_phases.specs.Runner.{runner_unit}
use Rattle.ct_meaning_laws.proofs.Spends.{first_true, second_true}
use Rattle.ct_phases.proofs.Positions.{Placed, Found, Nowhere, placed}
use Rattle.ct_phases.proofs.RunnerUnit.{set_up, tear_down, functions, of_runner, all_external, side, function_before, function_last, function_past, function_not}

abbrev pub external_or : Option CoreFunction → Bool
external_or o = elim o [ Some f ↦ is_external f.linkage | None ↦ true ]

external_true : (o : Option CoreFunction) → ((f : CoreFunction) → o ≡ Some f → is_external f.linkage ≡ true) → external_or o ≡ true
external_true (Some f) all = all f refl
external_true None all = refl

pub both : (a b : Bool) → a ≡ true → b ≡ true → (a && b) ≡ true
both a b e d = let P : Bool → Type 0 = λ x. (x && b) ≡ true in subst P (sym e) d

-- the function of external linkage that a name means, and its number
pub record Common (w : World) (table : List Definition) (name : List ℕ) (f : CoreFunction) (unit place : ℕ) : Type 0 where
  pub number : ℕ
  pub is_number : common_number w name ≡ Some number
  pub stands : slice_get table number ≡ Some (definition_of f unit place)

abbrev pub tests_in : List CoreUnit → List (List ℕ × ℕ)
tests_in units = map (λ (f : CoreFunction). (f.name, f.span.line)) (filter is_test (functions_of (slice_get units 0)))

module _ (units : List CoreUnit) (table : List Definition) (budget : ℕ) (path : List ℕ) where
  abbrev pub runner : CoreUnit
  runner = runner_of path units

  abbrev pub all : List CoreUnit
  all = units ++ runner ∷ []

  abbrev pub plain : World
  plain = plain_world all table budget

  abbrev pub written : World
  written = written_world units table budget

  pub runner_functions : runner.functions ≡ functions (tests_in units) (defines units set_up) (defines units tear_down)
  unfolding runner_unit
  runner_functions = refl

  pub function_runner : (place : ℕ) → function_in all (length units) place ≡ slice_get (functions (tests_in units) (defines units set_up) (defines units tear_down)) place
  function_runner place = function_last units runner place ∙ ap (λ (fs : List CoreFunction). slice_get fs place) runner_functions

  pub shared_last : (d : Definition) → d.unit ≡ length units → is_common plain d ≡ true
  shared_last d e =
      external_true (function_in all d.unit d.place) (λ f is.
      all_external (tests_in units) (defines units set_up) (defines units tear_down) f
      (of_runner (tests_in units) (defines units set_up) (defines units tear_down) d.place f
      (sym (ap (λ (u : ℕ). function_in all u d.place) e ∙ function_runner d.place) ∙ is)))

  pub shared_same : (d : Definition) → is_common plain d ≡ is_common written d
  shared_same d = at (side (length units) d.unit)
    where
      at : (d.unit < length units) ⊎ ((d.unit ≡ length units) ⊎ (length units < d.unit)) → is_common plain d ≡ is_common written d
      at (inl within) = ap external_or (function_before units runner d.unit d.place within)
      at (inr (inl e)) = shared_last d e ∙ sym (ap external_or (function_not units runner d.unit d.place (omega arith)))
      at (inr (inr past)) = ap external_or (function_past units runner d.unit d.place past) ∙ sym (ap external_or (function_not units runner d.unit d.place (omega arith)))

  pub common_same : (name : List ℕ) → common_number plain name ≡ common_number written name
  common_same name = λ i. position (λ (d : Definition). bytes_eq d.name name && shared_same d i) table

  pub numbers_same : (unit : ℕ) (name : List ℕ) → function_number plain unit name ≡ function_number written unit name
  numbers_same unit name = ap (λ (o : Option ℕ). or_else (own_number plain unit name) o) (common_same name)

  -- a number has a definition of the name that it was found by
  pub named : (unit number : ℕ) (name : List ℕ) (d : Definition) → function_number plain unit name ≡ Some number → slice_get table number ≡ Some d → d.name ≡ name
  named unit number name d e at = own (own_number plain unit name) (placed _ table) e
    where
      same : (k : ℕ) (x : Definition) (b : Bool) → slice_get table k ≡ Some x → (bytes_eq x.name name && b) ≡ true → Some k ≡ Some number → d.name ≡ name
      same k x b is passes e =
          let here : x ≡ d = same_Some x d (sym is ∙ ap (λ (j : ℕ). slice_get table j) (same_Some k number e) ∙ at) in
          sym (ap (λ (y : Definition). y.name) here) ∙ (bytes_eq-Decides x.name name).0 (first_true _ _ passes)

      common : (o : Option ℕ) → Placed (λ (x : Definition). bytes_eq x.name name && is_common plain x) table o → o ≡ Some number → d.name ≡ name
      common _ (Found k x is passes) e = same k x _ is passes e
      common _ (Nowhere none) e = absurd (none-some number e)

      own : (o : Option ℕ) → Placed (λ (x : Definition). bytes_eq x.name name && (x.unit == unit)) table o → or_else o (common_number plain name) ≡ Some number → d.name ≡ name
      own _ (Found k x is passes) e = same k x _ is passes e
      own _ (Nowhere none) e = common (common_number plain name) (placed _ table) e

  module _ (linked : IsLinked all table) where
    -- a function of external linkage is what its name means
    pub common_of : (name : List ℕ) (unit place : ℕ) (f : CoreFunction) → function_in all unit place ≡ Some f → is_external f.linkage ≡ true → f.name ≡ name
        → Common plain table name f unit place
    common_of name unit place f e external same = at (common_number plain name) (placed _ table) refl
      where
        number : ℕ
        number = (linked.listed unit place f e).0

        stands : slice_get table number ≡ Some (definition_of f unit place)
        stands = (linked.listed unit place f e).1

        shared : is_common plain (definition_of f unit place) ≡ true
        shared = ap external_or e ∙ external

        at : (o : Option ℕ) → Placed (λ (d : Definition). bytes_eq d.name name && is_common plain d) table o → common_number plain name ≡ o → Common plain table name f unit place
        at _ (Found k x is passes) found =
            let here : k ≡ number = linked.one k number x (definition_of f unit place) is stands ((bytes_eq-Decides x.name name).0 (first_true _ _ passes) ∙ sym same) (second_true _ _ passes) shared in
            record { number = k; is_number = found; stands = ap (λ (j : ℕ). slice_get table j) here ∙ stands }
        at _ (Nowhere none) found =
            let passes : (bytes_eq f.name name && is_common plain (definition_of f unit place)) ≡ true = both _ _ ((bytes_eq-Decides f.name name).1 same) shared in
            let fails = none number (definition_of f unit place) stands in cc

    -- in the runner each name means what it means in units that define none of its own
    pub runner_number : (name : List ℕ) → function_number plain (length units) name ≡ common_number plain name
    runner_number name = own (own_number plain (length units) name) (placed _ table)
      where
        common : (k : ℕ) (x : Definition) → slice_get table k ≡ Some x → bytes_eq x.name name ≡ true → is_common plain x ≡ true
            → (o : Option ℕ) → Placed (λ (d : Definition). bytes_eq d.name name && is_common plain d) table o → Some k ≡ o
        common k x is name_is shared _ (Found j y at passes) =
            ap (λ (i : ℕ). Some i) (linked.one k j x y is at ((bytes_eq-Decides x.name name).0 name_is ∙ sym ((bytes_eq-Decides y.name name).0 (first_true _ _ passes))) shared (second_true _ _ passes))
        common k x is name_is shared _ (Nowhere none) =
            let passes : (bytes_eq x.name name && is_common plain x) ≡ true = both _ _ name_is shared in
            let fails = none k x is in cc

        own : (o : Option ℕ) → Placed (λ (d : Definition). bytes_eq d.name name && (d.unit == length units)) table o → or_else o (common_number plain name) ≡ common_number plain name
        own _ (Found k x is passes) =
            common k x is (first_true _ _ passes) (shared_last x (eqb-true x.unit (length units) (second_true _ _ passes))) (common_number plain name) (placed _ table)
        own _ (Nowhere none) = refl

    -- what the number of a function of a unit means
    pub target_defined : (number unit place : ℕ) (f : CoreFunction) → slice_get table number ≡ Some (definition_of f unit place) → function_in all unit place ≡ Some f
        → target_of plain number ≡ Some (Defined unit place f)
    target_defined number unit place f stands is =
        ap (λ (o : Option Definition). inner_target plain o) stands ∙ ap (λ (o : Option CoreFunction). defined_target plain (definition_of f unit place) o) is
