-- The runner's functions, and the units with the runner behind them.
use Rattle.std.proofs.Common.{◌≡◌, ◌⊎◌, ℕ, zero, suc, ◌<◌, ◌≤◌, List, [], ◌∷◌, ◌++◌, length, Bool, true, false, Option, Some, None, refl, ap, subst, arith}
use Rattle.std.specs.Prelude.{slice_get, option_and_then, codes}
use Rattle.std.proofs.lemmas.Option.{none-some, same_Some, slice_get_past}
use Rattle.ct_core.specs.declared.units.CoreUnit.{CoreUnit}
use Rattle.ct_core.specs.declared.units.CoreFunction.{CoreFunction}
use Rattle.ct_meaning.specs.World.{is_external}
use Rattle.ct_phases.specs.Runner.{empty_function, main_function, missing}
use Rattle.ct_phases.specs.Linked.{function_in}
use Rattle.ct_phases.proofs.Positions.{get_left, get_end, get_past}

abbrev pub set_up : List ℕ
set_up = codes "setUp"

abbrev pub tear_down : List ℕ
tear_down = codes "tearDown"

abbrev pub main : List ℕ
main = codes "main"

-- ---- the functions of a runner

module _ (tests : List (List ℕ × ℕ)) where
  abbrev pub functions : Bool → Bool → List CoreFunction
  functions b c = missing b set_up ++ missing c tear_down ++ main_function tests ∷ []

  -- each function of the runner
  pub data OfRunner (b c : Bool) : CoreFunction → Type 0 where
    IsSetUp : b ≡ false → OfRunner b c (empty_function set_up)
    IsTearDown : c ≡ false → OfRunner b c (empty_function tear_down)
    IsMain : OfRunner b c (main_function tests)

  of : (b c : Bool) (f g : CoreFunction) → OfRunner b c f → Some f ≡ Some g → OfRunner b c g
  of b c f g r e = subst (OfRunner b c) (same_Some f g e) r

  none_of : (b c : Bool) (f : CoreFunction) (place : ℕ) → slice_get {X = CoreFunction} [] place ≡ Some f → OfRunner b c f
  none_of b c f place e = absurd (none-some f e)

  pub of_runner : (b c : Bool) (place : ℕ) (f : CoreFunction) → slice_get (functions b c) place ≡ Some f → OfRunner b c f
  of_runner true true zero f e = of true true _ f IsMain e
  of_runner true true (suc place) f e = none_of true true f place e
  of_runner true false zero f e = of true false _ f (IsTearDown refl) e
  of_runner true false (suc zero) f e = of true false _ f IsMain e
  of_runner true false (suc (suc place)) f e = none_of true false f place e
  of_runner false true zero f e = of false true _ f (IsSetUp refl) e
  of_runner false true (suc zero) f e = of false true _ f IsMain e
  of_runner false true (suc (suc place)) f e = none_of false true f place e
  of_runner false false zero f e = of false false _ f (IsSetUp refl) e
  of_runner false false (suc zero) f e = of false false _ f (IsTearDown refl) e
  of_runner false false (suc (suc zero)) f e = of false false _ f IsMain e
  of_runner false false (suc (suc (suc place))) f e = none_of false false f place e

  pub main_at : (b c : Bool) → (place : ℕ) × (slice_get (functions b c) place ≡ Some (main_function tests))
  main_at true true = (0, refl)
  main_at true false = (1, refl)
  main_at false true = (1, refl)
  main_at false false = (2, refl)

  pub set_up_at : (b c : Bool) → b ≡ false → (place : ℕ) × (slice_get (functions b c) place ≡ Some (empty_function set_up))
  set_up_at true c e = cc
  set_up_at false c e = (0, refl)

  pub tear_down_at : (b c : Bool) → c ≡ false → (place : ℕ) × (slice_get (functions b c) place ≡ Some (empty_function tear_down))
  tear_down_at b true e = cc
  tear_down_at true false e = (0, refl)
  tear_down_at false false e = (1, refl)

pub all_external : (tests : List (List ℕ × ℕ)) (b c : Bool) (f : CoreFunction) → OfRunner tests b c f → is_external f.linkage ≡ true
all_external tests b c _ (IsSetUp e) = refl
all_external tests b c _ (IsTearDown e) = refl
all_external tests b c _ IsMain = refl

-- ---- units with one more behind them

-- a number is that of one of the units, of the one behind them, or of none
pub side : (n unit : ℕ) → (unit < n) ⊎ ((unit ≡ n) ⊎ (n < unit))
side n unit = grind arith

module _ (units : List CoreUnit) (last : CoreUnit) where
  pub function_before : (unit place : ℕ) → unit < length units → function_in (units ++ last ∷ []) unit place ≡ function_in units unit place
  function_before unit place within =
      ap (λ (o : Option CoreUnit). option_and_then (λ (u : CoreUnit). slice_get u.functions place) o) (get_left units (last ∷ []) unit within)

  pub function_last : (place : ℕ) → function_in (units ++ last ∷ []) (length units) place ≡ slice_get last.functions place
  function_last place = ap (λ (o : Option CoreUnit). option_and_then (λ (u : CoreUnit). slice_get u.functions place) o) (get_end units last)

  pub function_past : (unit place : ℕ) → length units < unit → function_in (units ++ last ∷ []) unit place ≡ None
  function_past unit place past = ap (λ (o : Option CoreUnit). option_and_then (λ (u : CoreUnit). slice_get u.functions place) o) (get_past units last unit past)

  pub function_not : (unit place : ℕ) → length units ≤ unit → function_in units unit place ≡ None
  function_not unit place past = ap (λ (o : Option CoreUnit). option_and_then (λ (u : CoreUnit). slice_get u.functions place) o) (slice_get_past units unit past)
