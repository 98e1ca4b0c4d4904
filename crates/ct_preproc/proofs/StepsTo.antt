-- Some lines of a file are read, and then something is done.
use Rattle.std.proofs.Common.{ℕ, List, [], ◌∷◌}
use Rattle.std.specs.Prelude.{Result}
use Rattle.ct_base.specs.declared.lexical.Token.{Token}
use Rattle.ct_directive.specs.declared.faults.PreFault.{PreFault}
use Rattle.ct_directive.specs.declared.forms.Header.{Header}
use Rattle.ct_preproc.specs.declared.state.State.{State}
use Rattle.ct_preproc.specs.declared.state.Place.{Place}
use Rattle.ct_preproc.specs.declared.state.Conditional.{Conditional}
use Rattle.ct_preproc.specs.declared.reading.Reading.{Reading}
use Rattle.ct_preproc.specs.Reading.{DoesThen}
use Rattle.ct_preproc.specs.Steps.{StepsLine}

-- what is known behind some lines
abbrev pub known : State → List Conditional → List Token → Reading
known state opens text = record { state = state; opens = opens; text = text }

module _ (limit : ℕ) (Enters : Place → ℕ → Header → State → Result State PreFault → Type 0) (place : Place)
    (Then : Reading → Result State PreFault → Type 0) where
  abbrev pub StepsTo : Reading → List (List Token) → Result State PreFault → Type 0
  StepsTo reading [] answer = Then reading answer
  StepsTo reading (line ∷ lines) answer = DoesThen (StepsLine limit Enters place reading line) answer (λ next. StepsTo next lines answer)
