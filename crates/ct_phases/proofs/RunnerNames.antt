-- What the names in a runner's `main` mean.
use Rattle.std.proofs.Common.{◌≡◌, ◌≢◌, ℕ, suc, List, [], ◌∷◌, length, Bool, true, false, cond, Option, Some, refl, sym, ap, subst, ◌∙◌}
use Rattle.std.specs.Prelude.{slice_get, bytes_eq, codes, filter, unwrap_or, ◌&&◌, ◌||◌, ◌==◌, option_and_then, nat_eq}
use Rattle.std.specs.List.{list_any, starts_with}
use Rattle.std.proofs.lemmas.Option.{same_Some, slice_get_within}
use Rattle.std.proofs.lemmas.Slice.Eq.{bytes_eq-Decides}
use Rattle.ct_core.specs.declared.units.CoreUnit.{CoreUnit}
use Rattle.ct_core.specs.declared.units.CoreFunction.{CoreFunction}
use Rattle.ct_core.specs.declared.units.Definition.{Definition}
use Rattle.ct_meaning.specs.World.{World, is_external, common_number}
use Rattle.ct_meaning.specs.Written.{defines, functions_of, is_test, is_void, has_test_name}
use Rattle.ct_phases.specs.Runner.{empty_function}
use Rattle.ct_phases.specs.Linked.{IsLinked, IsTestProject, IsProjectUnit, IsProjectFunction, function_in, definition_of}
use Rattle.ct_meaning_laws.proofs.Spends.{first_true, second_true}
use Rattle.ct_phases.proofs.Positions.{all_at}
use Rattle.ct_phases.proofs.RunnerUnit.{main, set_up, tear_down, set_up_at, tear_down_at, function_before}
use Rattle.ct_phases.proofs.RunnerLink.{tests_in, runner, all, plain, written, function_runner, common_same, common_of, runner_number, target_defined}
use Rattle.ct_phases.proofs.RunnerTargets.{Reached}
use Rattle.ct_phases.proofs.RunnerSteps.{Means}

-- an element that passes a test
pub any_at : {X : Type 0} (p : X → Bool) (xs : List X) → list_any p xs ≡ true → (k : ℕ) × (x : X) × (slice_get xs k ≡ Some x) × (p x ≡ true)
any_at {X} p [] e = cc
any_at {X} p (x ∷ xs) e = at (p x) refl (any_at p xs) e
  where
    at : (b : Bool) → p x ≡ b → (list_any p xs ≡ true → (k : ℕ) × (y : X) × (slice_get xs k ≡ Some y) × (p y ≡ true)) → (b || list_any p xs) ≡ true
        → (k : ℕ) × (y : X) × (slice_get (x ∷ xs) k ≡ Some y) × (p y ≡ true)
    at true is further e = (0, x, refl, is)
    at false is further e = let there = further e in (suc there.0, there.1, there.2, there.3)

is_reserved : List ℕ → Bool
is_reserved name = starts_with nat_eq name (codes "ceedling_run_")

module _ (units : List CoreUnit) (table : List Definition) (budget : ℕ) (path : List ℕ) (project : IsTestProject units) (linked : IsLinked (all units table budget path) table) where
  abbrev P : World
  P = plain units table budget path

  abbrev W : World
  W = written units table budget path

  -- ---- functions

  -- the function of external linkage that a name means in the runner, as in the written meaning
  pub record Fixture (name : List ℕ) : Type 0 where
    pub means : Means P (length units) name (unwrap_or (common_number W name) 0)
    pub reached : Reached units table budget path project linked (unwrap_or (common_number W name) 0)

  fixture_of : (name : List ℕ) (unit place : ℕ) (f : CoreFunction) → function_in (all units table budget path) unit place ≡ Some f → is_external f.linkage ≡ true → f.name ≡ name → name ≢ main → Fixture name
  fixture_of name unit place f is external same other =
      let found = common_of units table budget path linked name unit place f is external same in
      let here : unwrap_or (common_number W name) 0 ≡ found.number = ap (λ (o : Option ℕ). unwrap_or o 0) (sym (common_same units table budget path name) ∙ found.is_number) in
      let stands : slice_get table (unwrap_or (common_number W name) 0) ≡ Some (definition_of f unit place) = ap (λ (k : ℕ). slice_get table k) here ∙ found.stands in
      record {
        means = record {
          is_number = runner_number units table budget path linked name ∙ found.is_number ∙ ap (λ (k : ℕ). Some k) (sym here);
          in_unit = unit;
          place = place;
          function = f;
          target = target_defined units table budget path linked (unwrap_or (common_number W name) 0) unit place f stands is;
        };
        reached = λ d at e. other (sym same ∙ ap (λ (x : Definition). x.name) (same_Some (definition_of f unit place) d (sym stands ∙ at)) ∙ e);
      }

  first_function : (place : ℕ) (f : CoreFunction) → slice_get project.first.functions place ≡ Some f → function_in (all units table budget path) 0 place ≡ Some f
  first_function place f at =
      function_before units (runner units table budget path) 0 place (slice_get_within units 0 project.first project.is_first)
      ∙ ap (λ (o : Option CoreUnit). option_and_then (λ (u : CoreUnit). slice_get u.functions place) o) project.is_first ∙ at

  defined_first : (name : List ℕ) → defines units name ≡ true → name ≢ main → Fixture name
  defined_first name e other =
      let p : CoreFunction → Bool = λ (f : CoreFunction). bytes_eq f.name name && is_external f.linkage in
      let first : list_any p project.first.functions ≡ true = sym (ap (λ (o : Option CoreUnit). list_any p (functions_of o)) project.is_first) ∙ e in
      let there = any_at p project.first.functions first in
      fixture_of name 0 there.0 there.1 (first_function there.0 there.1 there.2) (second_true _ _ there.3) ((bytes_eq-Decides there.1.name name).0 (first_true _ _ there.3)) other

  pub set_up_fixture : Fixture set_up
  set_up_fixture = by (defines units set_up) refl
    where
      by : (b : Bool) → defines units set_up ≡ b → Fixture set_up
      by true e = defined_first set_up e (λ d. cc)
      by false e =
          let at = set_up_at (tests_in units) (defines units set_up) (defines units tear_down) e in
          fixture_of set_up (length units) at.0 (empty_function set_up) (function_runner units table budget path at.0 ∙ at.1) refl refl (λ d. cc)

  pub tear_down_fixture : Fixture tear_down
  tear_down_fixture = by (defines units tear_down) refl
    where
      by : (b : Bool) → defines units tear_down ≡ b → Fixture tear_down
      by true e = defined_first tear_down e (λ d. cc)
      by false e =
          let at = tear_down_at (tests_in units) (defines units set_up) (defines units tear_down) e in
          fixture_of tear_down (length units) at.0 (empty_function tear_down) (function_runner units table budget path at.0 ∙ at.1) refl refl (λ d. cc)

  -- ---- tests

  pub record IsTest (f : CoreFunction) : Type 0 where
    pub own : IsProjectFunction f
    pub fixture : Fixture f.name

  test_name : (f : CoreFunction) → is_test f ≡ true → f.name ≢ main
  test_name f test e =
      let named : has_test_name f.name ≡ true = second_true (is_external f.linkage && is_void f.kind.result && f.parameters == 0) (has_test_name f.name) test in
      let wrong : has_test_name main ≡ true = subst (λ (x : List ℕ). has_test_name x ≡ true) e named in cc

  test_external : (f : CoreFunction) → is_test f ≡ true → is_external f.linkage ≡ true
  test_external f test = first_true _ _ (first_true _ _ (first_true _ _ test))

  abbrev pub AllTests : List CoreFunction → Type 0
  AllTests [] = Unit {0}
  AllTests (f ∷ fs) = IsTest f × AllTests fs

  tests_of_all : (fs : List CoreFunction) → ((k : ℕ) (f : CoreFunction) → slice_get fs k ≡ Some f → (place : ℕ) × (slice_get project.first.functions place ≡ Some f)) → AllTests (filter is_test fs)
  tests_of_all [] at = tt
  tests_of_all (f ∷ fs) at = by (is_test f) refl (tests_of_all fs (λ k g is. at (suc k) g is))
    where
      by : (b : Bool) → is_test f ≡ b → AllTests (filter is_test fs) → AllTests (cond b (f ∷ filter is_test fs) (filter is_test fs))
      by true e rest =
          let here = at 0 f refl in (
            record {
              own = all_at IsProjectFunction project.first.functions here.0 f (all_at IsProjectUnit units 0 project.first project.own project.is_first).functions here.1;
              fixture = fixture_of f.name 0 here.0 f (first_function here.0 f here.1) (test_external f e) refl (test_name f e);
            },
            rest,
          )
      by false e rest = rest

  pub tests_all : AllTests (filter is_test (functions_of (slice_get units 0)))
  tests_all =
      subst (λ (o : Option CoreUnit). AllTests (filter is_test (functions_of o))) (sym project.is_first)
      (tests_of_all project.first.functions (λ k f at. (k, at)))
