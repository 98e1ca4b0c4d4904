-- What the numbers of functions mean in the units of a test project, with their runner and without it.
use Rattle.std.proofs.Common.{◌≡◌, ◌≢◌, ◌⊎◌, inl, inr, ℕ, zero, suc, ◌+◌, ◌<◌, List, [], ◌∷◌, length, take, Bool, true, false, cond, Option, Some, None, refl, sym, ap, subst, ◌∙◌, arith, eqb, eqb-true, eq-eqb}
use Rattle.std.specs.Prelude.{slice_get, find, ◌==◌, option_map, option_and_then, if◌then◌else◌}
use Rattle.std.specs.Option.{option_or}
use Rattle.std.proofs.lemmas.Option.{none-some, same_Some}
use Rattle.std.proofs.lemmas.List.{take-append-le}
use Rattle.std.proofs.lemmas.List.Folds.{find-append}
use Rattle.ct_core.specs.declared.values.Space.TheVariants.{Project}
use Rattle.ct_core.specs.declared.built_ins.BuiltIn.{BuiltIn}
use Rattle.ct_core.specs.declared.units.CoreUnit.{CoreUnit}
use Rattle.ct_core.specs.declared.units.CoreFunction.{CoreFunction}
use Rattle.ct_core.specs.declared.units.Definition.{Definition}
use Rattle.ct_core.specs.BuiltIns.{built_in_of}
use Rattle.ct_meaning.specs.World.{World, Row, Empty, common_number, function_number, unit_space, space_of, text_pointer, text_count, Target, Outside, Given, target_of, inner_target, defined_target, outer_target}
use Rattle.ct_meaning_laws.specs.Names.{statement_names}
use Rattle.ct_meaning.specs.Written.{defines}
use Rattle.ct_phases.specs.Runner.{empty_function, main_function}
use Rattle.ct_phases.specs.Linked.{IsLinked, IsTestProject, IsProjectUnit, IsProjectFunction, Says, function_in, definition_of, is_ordinary}
use Rattle.ct_phases.proofs.Positions.{get_left, all_at}
use Rattle.ct_phases.proofs.RunnerRules.{Targets, Functions, Empties, BuiltIns, Nothings, Twins}
use Rattle.ct_phases.proofs.RunnerUnit.{main, set_up, tear_down, functions, OfRunner, IsSetUp, IsTearDown, IsMain, of_runner, set_up_at, tear_down_at, side, function_before, function_past, function_not}
use Rattle.ct_phases.proofs.RunnerLink.{tests_in, runner, all, plain, written, function_runner, common_same, numbers_same, named, common_of, target_defined, shared_last, external_or}

-- ---- the rows of the written meaning

-- what is found of the row of one function, which the first unit defines or not, at a number
data One (defined : Bool) (common : Option ℕ) (number : ℕ) : Option (ℕ × Row) → Type 0 where
  Hit : (row : ℕ) → defined ≡ false → common ≡ Some number → One defined common number (Some (row, Empty))
  Miss : (defined ≡ false → common ≡ Some number → ⊥) → One defined common number None

abbrev row : Bool → Option ℕ → List (ℕ × Row)
row defined common = if defined then [] else elim common [ Some n ↦ (n, Empty) ∷ [] | None ↦ [] ]

one : (defined : Bool) (common : Option ℕ) (number : ℕ) → One defined common number (find (λ (entry : ℕ × Row). entry.0 == number) (row defined common))
one true common number = Miss (λ e d. cc)
one false None number = Miss (λ e d. absurd (none-some number d))
one false (Some n) number = at (eqb n number) refl
  where
    at : (b : Bool) → eqb n number ≡ b → One false (Some n) number (cond b (Some (n, Empty)) None)
    at true is = Hit n refl (ap (λ (k : ℕ). Some k) (eqb-true n number is))
    at false is = Miss (λ e d. let same : eqb n number ≡ true = eq-eqb n number (same_Some n number d) in cc)

-- ---- units in the Project space

unit_there : (units : List CoreUnit) (unit : ℕ) → unit < length units → (u : CoreUnit) × (slice_get units unit ≡ Some u)
unit_there [] unit within = absurd (omega arith)
unit_there (u ∷ units) zero within = (u, refl)
unit_there (u ∷ units) (suc unit) within = unit_there units unit (omega arith)

module _ (units : List CoreUnit) (table : List Definition) (budget : ℕ) (path : List ℕ) (project : IsTestProject units) (linked : IsLinked (all units table budget path) table) where
  abbrev P : World
  P = plain units table budget path

  abbrev W : World
  W = written units table budget path

  abbrev pub InProject : ℕ → Type 0
  InProject unit = unit < length units

  -- the functions that Project code may call are not the runner's `main`
  abbrev pub Reached : ℕ → Type 0
  Reached number = (d : Definition) → slice_get table number ≡ Some d → d.name ≢ main

  project_space : (unit : ℕ) → InProject unit → unit_space W unit ≡ Project
  project_space unit within =
      let there = unit_there units unit within in
      ap space_of there.1 ∙ (all_at IsProjectUnit units unit there.0 project.own there.1).space

  same_text : (unit text : ℕ) → InProject unit → text_pointer P unit text ≡ text_pointer W unit text
  same_text unit text within =
      ap (λ (o : Option CoreUnit). let space = space_of o in record { space = space; number = text_count space (take unit (all units table budget path)) + text; offset = 0 })
      (get_left units (runner units table budget path ∷ []) unit within)
      ∙ ap (λ (us : List CoreUnit). let space = unit_space W unit in record { space = space; number = text_count space us + text; offset = 0 })
      (take-append-le unit units (runner units table budget path ∷ []) (omega arith))

  reached : (unit : ℕ) (name : List ℕ) (number : ℕ) → is_ordinary name ≡ true → function_number W unit name ≡ Some number → Reached number
  reached unit name number ordinary e d at is =
      let here : name ≡ main = sym (named units table budget path unit number name d (numbers_same units table budget path unit name ∙ e) at) ∙ is in
      let wrong : is_ordinary main ≡ true = subst (λ (x : List ℕ). is_ordinary x ≡ true) here ordinary in cc

  -- ---- targets

  -- a definition without a function
  no_function : (d : Definition) (o o' : Option CoreFunction) → o ≡ None → o' ≡ None → Targets P InProject (defined_target P d o) (defined_target W d o')
  no_function d o o' e e' =
      let A : Option CoreFunction → Type 0 = λ x. Targets P InProject (defined_target P d x) (defined_target W d o') in
      let B : Option CoreFunction → Type 0 = λ x. Targets P InProject (defined_target P d None) (defined_target W d x) in
      subst A (sym e) (subst B (sym e') (at (built_in_of d.name)))
    where
      at : (b : Option BuiltIn) → Targets P InProject (option_map Given b) (option_map Given b)
      at (Some b) = BuiltIns b
      at None = Nothings

  -- a definition of a function of a Project unit
  of_project : (d : Definition) → InProject d.unit → (o : Option CoreFunction) → function_in units d.unit d.place ≡ o → Targets P InProject (defined_target P d o) (defined_target W d o)
  of_project d within None e = no_function d None None refl refl
  of_project d within (Some f) e = Functions d.unit d.place f within (names (slice_get units d.unit) refl e)
    where
      names : (o : Option CoreUnit) → slice_get units d.unit ≡ o → option_and_then (λ (u : CoreUnit). slice_get u.functions d.place) o ≡ Some f → statement_names is_ordinary f.body ≡ true
      names (Some u) here is = (all_at IsProjectFunction u.functions d.place f (all_at IsProjectUnit units d.unit u project.own here).functions is).names
      names None here is = absurd (none-some f is)

  -- a definition of a function of the runner
  module _ (number : ℕ) (d : Definition) (at : slice_get table number ≡ Some d) (last : d.unit ≡ length units) where
    here_all : (f : CoreFunction) → function_in (all units table budget path) d.unit d.place ≡ Some f
        → slice_get (functions (tests_in units) (defines units set_up) (defines units tear_down)) d.place ≡ Some f
    here_all f is = sym (ap (λ (u : ℕ). function_in (all units table budget path) u d.place) last ∙ function_runner units table budget path d.place) ∙ is

    name_is : (f : CoreFunction) → function_in (all units table budget path) d.unit d.place ≡ Some f → f.name ≡ d.name
    name_is f is = subst (Says d.name) is (linked.known number d at)

    common_here : (name : List ℕ) → function_in (all units table budget path) d.unit d.place ≡ Some (empty_function name) → common_number W name ≡ Some number
    common_here name is =
        let found = common_of units table budget path linked name d.unit d.place (empty_function name) is refl refl in
        let same : found.number ≡ number = linked.one found.number number (definition_of (empty_function name) d.unit d.place) d found.stands at (name_is (empty_function name) is)
        (ap external_or is) (shared_last units table budget path d last) in
        sym (common_same units table budget path name) ∙ found.is_number ∙ ap (λ (k : ℕ). Some k) same

    of_last : Reached number
        → (defines units set_up ≡ false → common_number W set_up ≡ Some number → ⊥) → (defines units tear_down ≡ false → common_number W tear_down ≡ Some number → ⊥)
        → (o : Option CoreFunction) → function_in (all units table budget path) d.unit d.place ≡ o
        → Targets P InProject (defined_target P d o) (defined_target W d (function_in units d.unit d.place))
    of_last reach up down None is = no_function d None (function_in units d.unit d.place) refl (function_not units (runner units table budget path) d.unit d.place (omega arith))
    of_last reach up down (Some f) is = wrong f (of_runner (tests_in units) (defines units set_up) (defines units tear_down) d.place f (here_all f is)) is
      where
        wrong : (f : CoreFunction) → OfRunner (tests_in units) (defines units set_up) (defines units tear_down) f → function_in (all units table budget path) d.unit d.place ≡ Some f
            → Targets P InProject (defined_target P d (Some f)) (defined_target W d (function_in units d.unit d.place))
        wrong _ (IsSetUp e) is = absurd (up e (common_here set_up is))
        wrong _ (IsTearDown e) is = absurd (down e (common_here tear_down is))
        wrong _ IsMain is = absurd (reach d at (sym (name_is (main_function (tests_in units)) is)))

  missed : (number : ℕ) → Reached number
      → (defines units set_up ≡ false → common_number W set_up ≡ Some number → ⊥) → (defines units tear_down ≡ false → common_number W tear_down ≡ Some number → ⊥)
      → (o : Option Definition) → slice_get table number ≡ o → Targets P InProject (inner_target P o) (inner_target W o)
  missed number reach up down None at = Nothings
  missed number reach up down (Some d) at = by (side (length units) d.unit)
    where
      by : (d.unit < length units) ⊎ ((d.unit ≡ length units) ⊎ (length units < d.unit))
          → Targets P InProject (defined_target P d (function_in (all units table budget path) d.unit d.place)) (defined_target W d (function_in units d.unit d.place))
      by (inl within) =
          let Q : Option CoreFunction → Type 0 = λ o. Targets P InProject (defined_target P d o) (defined_target W d (function_in units d.unit d.place)) in
          subst Q (sym (function_before units (runner units table budget path) d.unit d.place within)) (of_project d within (function_in units d.unit d.place) refl)
      by (inr (inl last)) = of_last number d at last reach up down (function_in (all units table budget path) d.unit d.place) refl
      by (inr (inr past)) = no_function d _ _ (function_past units (runner units table budget path) d.unit d.place past) (function_not units (runner units table budget path) d.unit d.place (omega arith))

  -- a function that the test file does not define
  hit : (number : ℕ) (name : List ℕ) (place : ℕ) → slice_get (functions (tests_in units) (defines units set_up) (defines units tear_down)) place ≡ Some (empty_function name)
      → common_number W name ≡ Some number → Targets P InProject (target_of P number) (Some (Outside Empty))
  hit number name place is e =
      let there = function_runner units table budget path place ∙ is in
      let found = common_of units table budget path linked name (length units) place (empty_function name) there refl refl in
      let same : found.number ≡ number = same_Some found.number number (sym found.is_number ∙ common_same units table budget path name ∙ e) in
      let A : Option Target → Type 0 = λ t. Targets P InProject t (Some (Outside Empty)) in
      subst A (sym (target_defined units table budget path linked number (length units) place (empty_function name) (ap (λ (k : ℕ). slice_get table k) (sym same) ∙ found.stands) there))
      (Empties (length units) place name there)

  found : (number : ℕ) → Reached number → (o o' : Option (ℕ × Row)) → One (defines units set_up) (common_number W set_up) number o → One (defines units tear_down) (common_number W tear_down) number o'
      → Targets P InProject (target_of P number) (outer_target (option_or o o') (inner_target W (slice_get table number)))
  found number reach _ o' (Hit row e is) r =
      let at = set_up_at (tests_in units) (defines units set_up) (defines units tear_down) e in hit number set_up at.0 at.1 is
  found number reach _ _ (Miss up) (Hit row e is) =
      let at = tear_down_at (tests_in units) (defines units set_up) (defines units tear_down) e in hit number tear_down at.0 at.1 is
  found number reach _ _ (Miss up) (Miss down) = missed number reach up down (slice_get table number) refl

  targets : (number : ℕ) → Reached number → Targets P InProject (target_of P number) (target_of W number)
  targets number reach =
      let A : Option (ℕ × Row) → Type 0 = λ o. Targets P InProject (target_of P number) (outer_target o (inner_target W (slice_get table number))) in
      subst A (sym (find-append (λ (entry : ℕ × Row). entry.0 == number) (row (defines units set_up) (common_number W set_up)) (row (defines units tear_down) (common_number W tear_down))))
      (found number reach _ _ (one (defines units set_up) (common_number W set_up) number) (one (defines units tear_down) (common_number W tear_down) number))

  pub twins : Twins P W InProject Reached
  twins = record {
    unit = λ unit within. get_left units (runner units table budget path ∷ []) unit within;
    space = project_space;
    text = same_text;
    numbers = numbers_same units table budget path;
    reached = reached;
    targets = targets;
  }
