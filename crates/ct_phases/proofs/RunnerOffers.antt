-- What the names of the built-in functions mean in a runner's `main`.
use Rattle.std.proofs.Common.{◌≡◌, ◌⊎◌, inl, inr, ℕ, ◌<◌, List, length, Bool, true, false, pos, Option, Some, None, refl, sym, ap, subst, ◌∙◌, arith, le-leb, leb}
use Rattle.std.specs.Prelude.{slice_get, bytes_eq, codes, ◌&&◌, option_and_then, option_map, nat_eq}
use Rattle.std.specs.List.{starts_with}
use Rattle.std.proofs.lemmas.Option.{none-some}
use Rattle.std.proofs.lemmas.Slice.Eq.{bytes_eq-Decides}
use Rattle.ct_ctype.specs.declared.kinds.IntKind.TheVariants.{UnsignedInt}
use Rattle.ct_ctype.specs.Ranges.{is_in_range}
use Rattle.ct_core.specs.declared.built_ins.BuiltIn.{BuiltIn}
use Rattle.ct_core.specs.declared.built_ins.BuiltIn.TheVariants.{RunCall, RunEnd, RunPhase, RunTest}
use Rattle.ct_core.specs.declared.units.CoreUnit.{CoreUnit}
use Rattle.ct_core.specs.declared.units.CoreFunction.{CoreFunction}
use Rattle.ct_core.specs.declared.units.Definition.{Definition}
use Rattle.ct_core.specs.BuiltIns.{built_in_of}
use Rattle.ct_meaning.specs.World.{World, is_common, common_number, Given, target_of, inner_target, defined_target}
use Rattle.ct_meaning.specs.Written.{defines}
use Rattle.ct_phases.specs.Linked.{IsLinked, IsTestProject, IsProjectUnit, IsProjectFunction, Shares, Says, function_in}
use Rattle.ct_meaning_laws.proofs.Spends.{first_true}
use Rattle.ct_phases.proofs.Positions.{Placed, Found, Nowhere, placed, all_at}
use Rattle.ct_phases.proofs.RunnerUnit.{set_up, tear_down, OfRunner, IsSetUp, IsTearDown, IsMain, of_runner, side, function_before, function_past}
use Rattle.ct_phases.proofs.RunnerLink.{tests_in, runner, all, plain, function_runner, runner_number, both}
use Rattle.ct_phases.proofs.RunnerSteps.{Offers}

abbrev is_reserved : List ℕ → Bool
is_reserved name = starts_with nat_eq name (codes "ceedling_run_")

reserved_runner : (tests : List (List ℕ × ℕ)) (b c : Bool) (f : CoreFunction) → OfRunner tests b c f → is_reserved f.name ≡ false
reserved_runner tests b c _ (IsSetUp e) = refl
reserved_runner tests b c _ (IsTearDown e) = refl
reserved_runner tests b c _ IsMain = refl

-- a line fits where it is handed in
pub line_fits : (line : ℕ) → line < 4294967296 → is_in_range UnsignedInt (pos line) ≡ true
line_fits line below = both (leb 0 line) (leb line 4294967295) (le-leb 0 line (omega arith)) (le-leb line 4294967295 (omega arith))

module _ (units : List CoreUnit) (table : List Definition) (budget : ℕ) (path : List ℕ) (project : IsTestProject units) (linked : IsLinked (all units table budget path) table) where
  abbrev P : World
  P = plain units table budget path

  unreserved : (unit place : ℕ) (f : CoreFunction) → function_in (all units table budget path) unit place ≡ Some f → is_reserved f.name ≡ false
  unreserved unit place f is = by (side (length units) unit)
    where
      in_unit : (o : Option CoreUnit) → slice_get units unit ≡ o → option_and_then (λ (u : CoreUnit). slice_get u.functions place) o ≡ Some f → is_reserved f.name ≡ false
      in_unit (Some u) here at = (all_at IsProjectFunction u.functions place f (all_at IsProjectUnit units unit u project.own here).functions at).unreserved
      in_unit None here at = absurd (none-some f at)

      by : (unit < length units) ⊎ ((unit ≡ length units) ⊎ (length units < unit)) → is_reserved f.name ≡ false
      by (inl within) = in_unit (slice_get units unit) refl (sym (function_before units (runner units table budget path) unit place within) ∙ is)
      by (inr (inl last)) =
          reserved_runner (tests_in units) (defines units set_up) (defines units tear_down) f
          (of_runner (tests_in units) (defines units set_up) (defines units tear_down) place f
          (sym (ap (λ (u : ℕ). function_in (all units table budget path) u place) last ∙ function_runner units table budget path place) ∙ is))
      by (inr (inr past)) = absurd (none-some f (sym (function_past units (runner units table budget path) unit place past) ∙ is))

  built_in_target : (name : List ℕ) (b : BuiltIn) → built_in_of name ≡ Some b → is_reserved name ≡ true → (number : ℕ) (d : Definition) → slice_get table number ≡ Some d → d.name ≡ name
      → target_of P number ≡ Some (Given b)
  built_in_target name b is reserved number d at same =
      ap (λ (o : Option Definition). inner_target P o) at ∙ by (function_in (all units table budget path) d.unit d.place) refl
    where
      by : (o : Option CoreFunction) → function_in (all units table budget path) d.unit d.place ≡ o → defined_target P d o ≡ Some (Given b)
      by (Some f) here =
          let named : f.name ≡ name = subst (Says d.name) here (linked.known number d at) ∙ same in
          let wrong : is_reserved f.name ≡ true = ap is_reserved named ∙ reserved in
          let right : is_reserved f.name ≡ false = unreserved d.unit d.place f here in cc
      by None here = ap (λ (o : Option BuiltIn). option_map Given o) (ap built_in_of same ∙ is)

  offers : (name : List ℕ) (b : BuiltIn) → built_in_of name ≡ Some b → is_reserved name ≡ true → Offers P (length units) name b
  offers name b is reserved = by (common_number P name) (placed _ table) refl
    where
      shares : Shares (all units table budget path) table name
      shares = linked.offered name b is

      by : (o : Option ℕ) → Placed (λ (d : Definition). bytes_eq d.name name && is_common P d) table o → common_number P name ≡ o → Offers P (length units) name b
      by _ (Found k x at passes) found = record {
        number = k;
        is_number = runner_number units table budget path linked name ∙ found;
        target = built_in_target name b is reserved k x at ((bytes_eq-Decides x.name name).0 (first_true _ _ passes));
      }
      by _ (Nowhere none) found =
          let passes : (bytes_eq shares.definition.name name && is_common P shares.definition) ≡ true = both _ _ ((bytes_eq-Decides shares.definition.name name).1 shares.named) shares.shared in
          let fails = none shares.number shares.definition shares.stands in cc

  pub offers_test : Offers P (length units) (codes "ceedling_run_test") RunTest
  unfolding built_in_of
  offers_test = offers (codes "ceedling_run_test") RunTest refl refl

  pub offers_call : Offers P (length units) (codes "ceedling_run_call") RunCall
  unfolding built_in_of
  offers_call = offers (codes "ceedling_run_call") RunCall refl refl

  pub offers_phase : Offers P (length units) (codes "ceedling_run_phase") RunPhase
  unfolding built_in_of
  offers_phase = offers (codes "ceedling_run_phase") RunPhase refl refl

  pub offers_end : Offers P (length units) (codes "ceedling_run_end") RunEnd
  unfolding built_in_of
  offers_end = offers (codes "ceedling_run_end") RunEnd refl refl
