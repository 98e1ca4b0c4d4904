-- A define of the project in place of an earlier one.
use Rattle.std.proofs.Common.{◌≡◌, ℕ, Bool, true, false, if◌then◌else◌, List, [], ◌∷◌, ◌++◌, sym, ap, subst, ◌∙◌}
use Rattle.std.specs.Prelude.{Result, Ok, Err}
use Rattle.ct_base.specs.Answers.{OnAnswer}
use Rattle.ct_base.specs.declared.lexical.Token.{Token}
use Rattle.ct_base.specs.declared.memory.Fail.{Fail}
use Rattle.ct_base.specs.declared.memory.Fail.TheVariants.{Fault, OutOfMemory}
use Rattle.ct_macro_call.specs.declared.definition.Macro.{Macro}
use Rattle.ct_macro_call.specs.Definition.{is_malformed, without}
use Rattle.ct_directive.specs.declared.faults.PreFault.{PreFault}
use Rattle.ct_directive.specs.declared.faults.PreKind.TheVariants as pre
use Rattle.ct_preproc.specs.declared.state.Place.{Place}
use Rattle.ct_directive.specs.Forms.{object_like}
use Rattle.ct_preproc.specs.Reading.{IsFault, fault_at}
use Rattle.ct_preproc.specs.Units.{replaced}

-- what is refused, unless memory ran out
pub on_fault : {A : Type 0} (fail : Fail PreFault) (fault : PreFault) (P : Result A PreFault → Type 0) → IsFault fail fault → P (Err fault) → OnAnswer (Err fail) P
on_fault (Fault found) fault P says h = subst (λ (f : PreFault). P (Err f)) (sym says) h
on_fault OutOfMemory fault P says h = says

abbrev answer_by : Place → List Macro → List ℕ → Macro → Bool → Result (List Macro) PreFault
answer_by place macros name m malformed = if malformed then Err (fault_at place 0 pre.BadDefinition) else Ok (without name macros ++ m ∷ [])

pub is_replaced : (place : Place) (macros after : List Macro) (name : List ℕ) (body : List Token) (m : Macro) → m ≡ object_like name body → is_malformed m ≡ false
    → after ≡ without name macros ++ m ∷ [] → Ok after ≡ replaced place macros name body
is_replaced place macros after name body m same formed e =
    ap (λ (ms : List Macro). Ok ms) e ∙ sym (ap (answer_by place macros name m) formed) ∙ ap (λ (m : Macro). answer_by place macros name m (is_malformed m)) same

pub is_refused : (place : Place) (macros : List Macro) (name : List ℕ) (body : List Token) (m : Macro) (fail : Fail PreFault) → m ≡ object_like name body
    → is_malformed m ≡ true → IsFault fail (fault_at place 0 pre.BadDefinition) → OnAnswer (Err fail) (λ answer. answer ≡ replaced place macros name body)
is_refused place macros name body m fail same malformed fault =
    on_fault fail (fault_at place 0 pre.BadDefinition) (λ answer. answer ≡ replaced place macros name body) fault
    (sym (ap (answer_by place macros name m) malformed) ∙ ap (λ (m : Macro). answer_by place macros name m (is_malformed m)) same)

pub ruleset replacing_rules = (is_replaced, is_refused)
