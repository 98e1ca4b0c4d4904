-- The lines of a group that is not read are passed over.
use Rattle.std.proofs.Common.{◌≡◌, ℕ, ◌&&◌, ◌||◌, not, Bool, true, false, List, [], ◌∷◌, refl}
use Rattle.std.specs.Prelude.{Result}
use Rattle.ct_base.specs.declared.lexical.Token.{Token}
use Rattle.ct_directive.specs.declared.faults.PreFault.{PreFault}
use Rattle.ct_directive.specs.declared.forms.Header.{Header}
use Rattle.ct_directive.specs.Groups.{Group, Others, IsGroup, AreOthers, nothing as no_part, text as text_part, control as control_part, section as section_part, none as no_others, elif as elif_part, last as else_part}
use Rattle.ct_preproc.specs.declared.state.State.{State}
use Rattle.ct_preproc.specs.declared.state.Place.{Place}
use Rattle.ct_preproc.specs.declared.state.Conditional.{Conditional}
use Rattle.ct_preproc.specs.declared.reading.Reading.{Reading}
use Rattle.ct_preproc.specs.Steps.{is_active, opened, otherwise, regrouped}
use Rattle.ct_preproc.proofs.KindAnswers.{text_skipped, control_skipped, if_skipped, elif_skipped, else_read, endif_read}
use Rattle.ct_preproc.proofs.StepsTo.{known, StepsTo}

-- a conditional of which no further group is read stays one
pub settled_stays : (outer taken : Bool) → (outer && not taken) ≡ false → (outer && not (taken || false)) ≡ false
settled_stays true true settled = settled
settled_stays true false settled = settled
settled_stays false true settled = settled
settled_stays false false settled = settled

module _ (limit : ℕ) (Enters : Place → ℕ → Header → State → Result State PreFault → Type 0) (place : Place)
    (Then : Reading → Result State PreFault → Type 0) where
  mutual
    -- behind a group that is not active nothing has changed
    pub skip_group : {lines rest : List (List Token)} {group : Group} → IsGroup lines group rest
        → (state : State) (opens : List Conditional) (answer : Result State PreFault) → is_active opens ≡ false
        → StepsTo limit Enters place Then (known state opens []) lines answer → StepsTo limit Enters place Then (known state opens []) rest answer
    skip_group no_part state opens answer inactive h = h
    skip_group (text_part {line = line} {lines = lines} kind behind) state opens answer inactive h =
        skip_group behind state opens answer inactive
        (text_skipped limit Enters place line state opens [] answer (λ next. StepsTo limit Enters place Then next lines answer) inactive kind h)
    skip_group (control_part {line = line} {lines = lines} {number = number} {tokens = tokens} kind behind) state opens answer inactive h =
        skip_group behind state opens answer inactive
        (control_skipped limit Enters place line state opens answer (λ next. StepsTo limit Enters place Then next lines answer) number tokens inactive kind h)
    skip_group (section_part {line = line} {last = end_line} {lines = lines} {after = after} {number = number} {end = end_number} {name = name} {tokens = tokens} kind inner others end_kind behind) state opens answer inactive h =
        let skipped = skip_others others state (opened number false false) opens answer refl refl
        (skip_group inner state (opened number false false ∷ opens) answer refl
        (if_skipped limit Enters place line state opens answer (λ next. StepsTo limit Enters place Then next lines answer) number name tokens inactive kind h)) in
        skip_group behind state opens answer inactive
        (endif_read limit Enters place end_line state skipped.0 opens answer (λ next. StepsTo limit Enters place Then next after answer) end_number end_kind skipped.1)

    -- nor behind the further groups of a conditional that is not active, or of which a group was taken
    pub skip_others : {lines rest : List (List Token)} {others : Others} → AreOthers lines others rest
        → (state : State) (one : Conditional) (opens : List Conditional) (answer : Result State PreFault) → (one.outer && not one.taken) ≡ false → one.last ≡ false
        → StepsTo limit Enters place Then (known state (one ∷ opens) []) lines answer
        → (next : Conditional) × StepsTo limit Enters place Then (known state (next ∷ opens) []) rest answer
    skip_others no_others state one opens answer settled more h = (one, h)
    skip_others (elif_part {line = line} {lines = lines} {number = number} {tokens = tokens} kind inner others) state one opens answer settled more h =
        skip_others others state (regrouped one false) opens answer (settled_stays one.outer one.taken settled) more
        (skip_group inner state (regrouped one false ∷ opens) answer refl
        (elif_skipped limit Enters place line state one opens answer (λ next. StepsTo limit Enters place Then next lines answer) number tokens more settled kind h))
    skip_others (else_part {line = line} {lines = lines} {number = number} kind inner) state one opens answer settled more h = (
      otherwise one,
      skip_group inner state (otherwise one ∷ opens) answer settled
          (else_read limit Enters place line state one opens answer (λ next. StepsTo limit Enters place Then next lines answer) number more kind h),
    )
