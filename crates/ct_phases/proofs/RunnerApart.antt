-- A test file and its runner define no function of external linkage twice.
use Rattle.std.proofs.Common.{◌≡◌, ◌≢◌, ℕ, zero, suc, List, [], ◌∷◌, Bool, true, false, Some, refl, sym, ap, subst, ◌∙◌}
use Rattle.std.specs.Prelude.{slice_get, bytes_eq, ◌&&◌, if◌then◌else◌, All}
use Rattle.std.proofs.lemmas.Option.{none-some, same_Some}
use Rattle.std.proofs.lemmas.Slice.Eq.{bytes_eq-Decides}
use Rattle.ct_core.specs.declared.units.CoreUnit.{CoreUnit}
use Rattle.ct_core.specs.declared.units.CoreFunction.{CoreFunction}
use Rattle.ct_meaning.specs.World.{is_external}
use Rattle.ct_meaning.specs.Written.{defines}
use Rattle.ct_phases.specs.Runner.{runner_unit}
use Rattle.ct_phases.specs.Linked.{function_in, AreNamedApart, runner_of}
use Rattle.ct_phases.proofs.Positions.{all_at}
use Rattle.ct_phases.proofs.RunnerUnit.{main, set_up, tear_down, functions, OfRunner, IsSetUp, IsTearDown, IsMain, of_runner}
use Rattle.ct_phases.proofs.RunnerLink.{tests_in, both}
use Rattle.ct_phases.proofs.TableInOrder.{any_true}

-- the place of the runner's function of a name
abbrev place_of : Bool → Bool → List ℕ → ℕ
place_of b c name =
    if bytes_eq name set_up then 0
    else (if bytes_eq name tear_down then (if b then 0 else 1) else (if b then (if c then 0 else 1) else (if c then 1 else 2)))

module _ (tests : List (List ℕ × ℕ)) where
  at_name : (b c : Bool) (n : ℕ) (f g : CoreFunction) → Some f ≡ Some g → n ≡ place_of b c f.name → n ≡ place_of b c g.name
  at_name b c n f g e is = let P : CoreFunction → Type 0 = λ x. n ≡ place_of b c x.name in subst P (same_Some f g e) is

  placed_so : (b c : Bool) (place : ℕ) (f : CoreFunction) → slice_get (functions tests b c) place ≡ Some f → place ≡ place_of b c f.name
  placed_so true true zero f e = at_name true true 0 _ f e refl
  placed_so true true (suc place) f e = absurd (none-some f e)
  placed_so true false zero f e = at_name true false 0 _ f e refl
  placed_so true false (suc zero) f e = at_name true false 1 _ f e refl
  placed_so true false (suc (suc place)) f e = absurd (none-some f e)
  placed_so false true zero f e = at_name false true 0 _ f e refl
  placed_so false true (suc zero) f e = at_name false true 1 _ f e refl
  placed_so false true (suc (suc place)) f e = absurd (none-some f e)
  placed_so false false zero f e = at_name false false 0 _ f e refl
  placed_so false false (suc zero) f e = at_name false false 1 _ f e refl
  placed_so false false (suc (suc zero)) f e = at_name false false 2 _ f e refl
  placed_so false false (suc (suc (suc place))) f e = absurd (none-some f e)

  one_place : (b c : Bool) (place at : ℕ) (f g : CoreFunction) → slice_get (functions tests b c) place ≡ Some f → slice_get (functions tests b c) at ≡ Some g
      → f.name ≡ g.name → place ≡ at
  one_place b c place at f g e d same = placed_so b c place f e ∙ ap (λ (name : List ℕ). place_of b c name) same ∙ sym (placed_so b c at g d)

module _ (unit : CoreUnit) (path : List ℕ) (apart : AreNamedApart (unit ∷ [])) (no_main : All (λ (f : CoreFunction). f.name ≢ main) unit.functions) where
  abbrev units : List CoreUnit
  units = unit ∷ []

  abbrev all : List CoreUnit
  all = unit ∷ runner_of path units ∷ []

  defined : (name : List ℕ) (place : ℕ) (f : CoreFunction) → slice_get unit.functions place ≡ Some f → is_external f.linkage ≡ true → f.name ≡ name → defines units name ≡ true
  defined name place f e external named =
      any_true (λ (g : CoreFunction). bytes_eq g.name name && is_external g.linkage) unit.functions place f e (both _ _ ((bytes_eq-Decides f.name name).1 named) external)

  from_runner : (place : ℕ) (g : CoreFunction) → function_in all 1 place ≡ Some g → slice_get (functions (tests_in units) (defines units set_up) (defines units tear_down)) place ≡ Some g
  unfolding runner_unit
  from_runner place g e = e

  clash : (place : ℕ) (f g : CoreFunction) → slice_get unit.functions place ≡ Some f → is_external f.linkage ≡ true
      → OfRunner (tests_in units) (defines units set_up) (defines units tear_down) g → f.name ≡ g.name → ⊥
  clash place f _ e external (IsSetUp none) same = let some = defined set_up place f e external same in cc
  clash place f _ e external (IsTearDown none) same = let some = defined tear_down place f e external same in cc
  clash place f _ e external IsMain same = all_at (λ (h : CoreFunction). h.name ≢ main) unit.functions place f no_main e same

  pub runner_apart : AreNamedApart all
  runner_apart zero place zero at f g e d external external' same = apart 0 place 0 at f g e d external external' same
  runner_apart zero place (suc zero) at f g e d external external' same =
      absurd (clash place f g e external (of_runner (tests_in units) (defines units set_up) (defines units tear_down) at g (from_runner at g d)) same)
  runner_apart (suc zero) place zero at f g e d external external' same =
      absurd (clash at g f d external' (of_runner (tests_in units) (defines units set_up) (defines units tear_down) place f (from_runner place f e)) (sym same))
  runner_apart (suc zero) place (suc zero) at f g e d external external' same =
      (refl, one_place (tests_in units) (defines units set_up) (defines units tear_down) place at f g (from_runner place f e) (from_runner at g d) same)
  runner_apart zero place (suc (suc other)) at f g e d external external' same = absurd (none-some g d)
  runner_apart (suc zero) place (suc (suc other)) at f g e d external external' same = absurd (none-some g d)
  runner_apart (suc (suc unit)) place other at f g e d external external' same = absurd (none-some f e)
