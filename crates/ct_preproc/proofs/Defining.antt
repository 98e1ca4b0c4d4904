-- A definition behind which a name stands once.
use Rattle.std.proofs.Common.{◌≡◌, ℕ, Bool, true, false, not, cond, List, [], ◌∷◌, ◌++◌, refl, ap, subst, ◌∙◌, Option, Some, None, inl, inr}
use Rattle.std.specs.Prelude.{MatchOption}
use Rattle.ct_macro_call.specs.declared.definition.Macro.{Macro}
use Rattle.ct_macro.specs.declared.faults.MacroFault.{MacroFault}
use Rattle.ct_macro_call.specs.Definition.{Defines, SameDefinition, is_malformed, is_named, macro_named, without}
use Rattle.ct_macro.specs.Table.{Refuses}

gone_at : (name : List ℕ) (m : Macro) (rest : List Macro) (t : Bool) → is_named name m ≡ t → macro_named name rest ≡ None
    → macro_named name (cond (not t) (m ∷ rest) rest) ≡ None
gone_at name m rest true e none = none
gone_at name m rest false e none = ap (λ (b : Bool). cond b (Some m) (macro_named name rest)) e ∙ none

gone : (name : List ℕ) (macros : List Macro) → macro_named name (without name macros) ≡ None
gone name [] = refl
gone name (m ∷ macros) = gone_at name m (without name macros) (is_named name m) refl (gone name macros)

none_there : (name : List ℕ) (macros between : List Macro) (m : Macro) → between ≡ without name macros → m.name ≡ name → macro_named m.name between ≡ None
none_there name macros between m e n = ap (λ (ms : List Macro). macro_named m.name ms) e ∙ ap (λ (k : List ℕ). macro_named k (without name macros)) n ∙ gone name macros

pub defined_anew : (name : List ℕ) (macros between after : List Macro) (m : Macro) → between ≡ without name macros → m.name ≡ name
    → (is_malformed m ≡ false) × Defines between m after → after ≡ without name macros ++ m ∷ []
defined_anew name macros between after m e n h =
    subst (λ (o : Option Macro). MatchOption o (after ≡ between ++ m ∷ []) (λ there. SameDefinition there m × (after ≡ between)))
    (none_there name macros between m e n) h.1
    ∙ ap (λ (ms : List Macro). ms ++ m ∷ []) e

pub refused_anew : (name : List ℕ) (macros between : List Macro) (m : Macro) (fault : MacroFault) → between ≡ without name macros → m.name ≡ name
    → Refuses between m fault → is_malformed m ≡ true
refused_anew name macros between m fault e n (inl h) = h.0
refused_anew name macros between m fault e n (inr h) =
    absurd (subst (λ (o : Option Macro). MatchOption o ⊥ (λ there. SameDefinition there m → ⊥)) (none_there name macros between m e n) h.1)

pub ruleset anew_rules = (defined_anew, refused_anew)
