-- A definition that is refused, behind a state in which only the notes of definitions are others.
use Rattle.std.proofs.Common.{◌≡◌, ◌⊎◌, ℕ, Bool, List, Option, Some, sym, ap, subst, inl, inr}
use Rattle.std.specs.Prelude.{Result, Ok, Err}
use Rattle.std.specs.Bool.{MatchBool}
use Rattle.ct_macro_call.specs.declared.definition.Macro.{Macro}
use Rattle.ct_macro_call.specs.Definition.{Defines, IsRedefined}
use Rattle.ct_macro.specs.declared.faults.MacroFault.{MacroFault}
use Rattle.ct_macro.specs.Table.{Refuses}
use Rattle.ct_directive.specs.declared.faults.PreFault.{PreFault}
use Rattle.ct_directive.specs.declared.faults.PreKind.TheVariants as pre
use Rattle.ct_preproc.specs.declared.state.Place.{Place}
use Rattle.ct_preproc.specs.declared.state.State.{State}
use Rattle.ct_preproc.specs.Reading.{HasDefined, fault_at, kind_of, with_macro}

-- what the refusal answers, where the definition is malformed or not
abbrev IsAnswered : Place → ℕ → State → Macro → Result State PreFault → Bool → Type 0
IsAnswered place line state definition answer malformed =
    MatchBool malformed (answer ≡ Err (fault_at place line pre.BadDefinition))
    ((IsRedefined state.macros definition × (answer ≡ Err (fault_at place line pre.Redefined)))
    ⊎ ((macros : List Macro) × Defines state.macros definition macros × (answer ≡ Ok (with_macro place state definition macros))))

abbrev refusal_of : Place → ℕ → MacroFault → Result State PreFault
refusal_of place line fault = Err (fault_at place line (kind_of fault.kind))

refused_one : (place : Place) (line : ℕ) (state : State) (definition : Macro) (fault : MacroFault) → Refuses state.macros definition fault
    → HasDefined place line state (Some definition) (refusal_of place line fault)
refused_one place line state definition fault (inl h) =
    subst (IsAnswered place line state definition (refusal_of place line fault)) (sym h.0) (ap (refusal_of place line) h.1)
refused_one place line state definition fault (inr h) =
    let redefined : IsRedefined state.macros definition × (refusal_of place line fault ≡ Err (fault_at place line pre.Redefined)) = (h.1, ap (refusal_of place line) h.2) in
    subst (IsAnswered place line state definition (refusal_of place line fault)) (sym h.0) (inl redefined)

pub refused : (place : Place) (line : ℕ) (state after : State) (found : Option Macro) (definition : Macro) (fault : MacroFault) → found ≡ Some definition
    → after.macros ≡ state.macros → Refuses after.macros definition fault
    → HasDefined place line state found (Err (fault_at place line (kind_of fault.kind)))
refused place line state after found definition fault e same h =
    subst (λ o. HasDefined place line state o (refusal_of place line fault)) (sym e)
    (refused_one place line state definition fault (subst (λ macros. Refuses macros definition fault) same h))
