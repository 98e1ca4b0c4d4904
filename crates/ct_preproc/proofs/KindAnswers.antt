-- What is read behind a line, by what the line is.
use Rattle.std.proofs.Common.{◌≡◌, ℕ, ◌&&◌, not, Bool, true, false, List, [], ◌∷◌, ◌++◌, refl, subst}
use Rattle.std.specs.Prelude.{Result, Ok, Err}
use Rattle.std.specs.Bool.{MatchBool}
use Rattle.ct_base.specs.declared.lexical.Token.{Token}
use Rattle.ct_directive.specs.declared.faults.PreFault.{PreFault}
use Rattle.ct_directive.specs.declared.faults.PreKind.TheVariants as pre
use Rattle.ct_directive.specs.declared.forms.Header.{Header}
use Rattle.ct_directive.specs.Groups.{TextLine, ControlLine, IfLine, ElifLine, ElseLine, EndifLine, Line, line_of}
use Rattle.ct_preproc.specs.declared.state.State.{State}
use Rattle.ct_preproc.specs.declared.state.Place.{Place}
use Rattle.ct_preproc.specs.declared.state.Conditional.{Conditional}
use Rattle.ct_preproc.specs.declared.directives.Step.{Step}
use Rattle.ct_preproc.specs.declared.reading.Reading.{Reading}
use Rattle.ct_preproc.specs.Directives.{Acts, Condition, FirstCondition}
use Rattle.ct_preproc.specs.Files.{ActsFully, Follows, with_count}
use Rattle.ct_preproc.specs.Reading.{DoesThen, Goes, counts, fault_at, Ends}
use Rattle.ct_preproc.specs.Steps.{Controls, Elifs, FollowsTo, Opens, StepsLine, StepsText, is_active, opened, otherwise, regrouped, step_to, text_answer, with_text}
use Rattle.ct_preproc.proofs.Continuing.{reads_map, reads_as, reads_value, reads_inward, reads_outward, reads_chosen, reads_other}
use Rattle.ct_preproc.proofs.EmptyText.{reads_no_text}
use Rattle.ct_preproc.proofs.KindSteps.{IsDirective, KindThen, kind_steps, text_steps}
use Rattle.ct_preproc.proofs.StepsTo.{known}

-- ---- text lines

module _ (reading : Reading) (line : List Token) (answer : Result State PreFault) (Next : Reading → Type 0) where
  -- a refusal is the answer of all that would follow
  refused_count : (found : Result Reading PreFault) (fault : PreFault) → found ≡ Err fault → Goes found answer Next → answer ≡ Err fault
  refused_count found fault same goes = subst (λ (f : Result Reading PreFault). Goes f answer Next) same goes

  -- behind an active text line its count is known
  counted_text : (count : Result ℕ PreFault) → DoesThen (λ (found : Result Reading PreFault). found ≡ text_answer reading line count) answer Next
      → DoesThen (λ (found : Result ℕ PreFault). found ≡ count) answer (λ counted. Next (with_text reading counted line))
  counted_text (Ok counted) h = (Ok counted, refl, reads_value (with_text reading counted line) answer Next h)
  counted_text (Err fault) h = (Err fault, refl, refused_count h.0 fault h.1 h.2)

module _ (limit : ℕ) (Enters : Place → ℕ → Header → State → Result State PreFault → Type 0) (place : Place)
    (line : List Token) (state : State) (opens : List Conditional) (text : List Token) (answer : Result State PreFault) (Next : Reading → Type 0) where
  -- text that is active is counted and kept
  pub text_read : is_active opens ≡ true → line_of line ≡ TextLine → DoesThen (StepsLine limit Enters place (known state opens text) line) answer Next
      → DoesThen (λ (found : Result ℕ PreFault). found ≡ counts place limit state.counted line) answer
      (λ counted. Next (known (with_count state counted) opens (text ++ line)))
  text_read active kind h =
      counted_text (known state opens text) line answer Next (counts place limit state.counted line)
      (reads_chosen (is_active opens) (λ found. found ≡ text_answer (known state opens text) line (counts place limit state.counted line))
      (λ found. found ≡ Ok (known state opens text)) answer Next active
      (reads_as (StepsLine limit Enters place (known state opens text) line) (StepsText place limit (known state opens text) line) answer Next
      (λ found. text_steps limit Enters place line (known state opens text) found kind) h))

  -- text that is not active changes nothing
  pub text_skipped : is_active opens ≡ false → line_of line ≡ TextLine → DoesThen (StepsLine limit Enters place (known state opens text) line) answer Next
      → Next (known state opens text)
  text_skipped inactive kind h =
      reads_value (known state opens text) answer Next
      (reads_other (is_active opens) (λ found. found ≡ text_answer (known state opens text) line (counts place limit state.counted line))
      (λ found. found ≡ Ok (known state opens text)) answer Next inactive
      (reads_as (StepsLine limit Enters place (known state opens text) line) (StepsText place limit (known state opens text) line) answer Next
      (λ found. text_steps limit Enters place line (known state opens text) found kind) h))

  -- ---- directives

  -- a directive ends the text before it
  kind_read : (kind : Line) → IsDirective kind → line_of line ≡ kind → DoesThen (StepsLine limit Enters place (known state opens text) line) answer Next
      → DoesThen (Ends place limit state text) answer (λ ended. DoesThen (KindThen limit Enters place kind opens ended) answer Next)
  kind_read kind directive same h =
      reads_inward (Ends place limit state text) (λ ended. KindThen limit Enters place kind opens ended) answer Next
      (reads_as (StepsLine limit Enters place (known state opens text) line)
      (λ (found : Result Reading PreFault). DoesThen (Ends place limit state text) found (λ ended. KindThen limit Enters place kind opens ended found)) answer Next
      (λ found. kind_steps limit Enters place line kind (known state opens text) found directive same) h)

module _ (limit : ℕ) (Enters : Place → ℕ → Header → State → Result State PreFault → Type 0) (place : Place) (number : ℕ) (answer : Result State PreFault) (Next : Reading → Type 0) where
  -- behind a step that includes nothing no text is kept
  step_read : (opens : List Conditional) (state : State) → DoesThen (FollowsTo limit Enters place number (step_to opens state)) answer Next → Next (known state opens [])
  step_read opens state h =
      reads_value (known state opens []) answer Next
      (reads_value {A = State} state answer (λ after. DoesThen (λ (found : Result Reading PreFault). found ≡ Ok (known after opens [])) answer Next)
      (reads_inward (λ (found : Result State PreFault). found ≡ Ok state) (λ after found. found ≡ Ok (known after opens [])) answer Next h))

  -- a step that is known is passed
  known_step : (opens : List Conditional) (state : State)
      → DoesThen (λ (found : Result Reading PreFault). DoesThen (λ (step : Result Step PreFault). step ≡ Ok (step_to opens state)) found (λ step. FollowsTo limit Enters place number step found)) answer Next
      → Next (known state opens [])
  known_step opens state h =
      step_read opens state (reads_value (step_to opens state) answer (λ step. DoesThen (FollowsTo limit Enters place number step) answer Next)
      (reads_inward (λ (step : Result Step PreFault). step ≡ Ok (step_to opens state)) (λ step. FollowsTo limit Enters place number step) answer Next h))

  -- behind a condition its answer decides which conditionals are open
  condition_step : (Judges : Result (Bool × State) PreFault → Type 0) (opens : Bool → List Conditional)
      → DoesThen (λ (found : Result Reading PreFault). DoesThen (λ (step : Result Step PreFault). DoesThen Judges step (λ f. step ≡ Ok (step_to (opens f.0) f.1))) found
      (λ step. FollowsTo limit Enters place number step found)) answer Next
      → DoesThen Judges answer (λ found. Next (known found.1 (opens found.0) []))
  condition_step Judges opens h =
      reads_map Judges answer (λ f. DoesThen (λ (step : Result Step PreFault). step ≡ Ok (step_to (opens f.0) f.1)) answer
      (λ step. DoesThen (FollowsTo limit Enters place number step) answer Next)) (λ f. Next (known f.1 (opens f.0) []))
      (λ f steps. step_read (opens f.0) f.1
      (reads_value (step_to (opens f.0) f.1) answer (λ step. DoesThen (FollowsTo limit Enters place number step) answer Next) steps))
      (reads_inward Judges (λ f step. step ≡ Ok (step_to (opens f.0) f.1)) answer (λ step. DoesThen (FollowsTo limit Enters place number step) answer Next)
      (reads_inward (λ (step : Result Step PreFault). DoesThen Judges step (λ f. step ≡ Ok (step_to (opens f.0) f.1)))
      (λ step. FollowsTo limit Enters place number step) answer Next h))

  -- a control line in text that is read acts, and what it includes is read
  control_then : (tokens : List Token) (opens : List Conditional) (ended : State)
      → DoesThen (λ (found : Result Reading PreFault). DoesThen (Controls place limit number ended opens tokens) found (λ step. FollowsTo limit Enters place number step found)) answer Next
      → DoesThen (ActsFully limit Enters place number tokens ended) answer (λ after. Next (known after opens []))
  control_then tokens opens ended h =
      reads_outward (Acts place limit number ended tokens) (λ f. Follows limit Enters place number f.1 f.0) answer (λ after. Next (known after opens []))
      (reads_map (Acts place limit number ended tokens) answer
      (λ f. DoesThen (λ (step : Result Step PreFault). step ≡ Ok (record { state = f.0; opens = opens; header = f.1 })) answer
      (λ step. DoesThen (FollowsTo limit Enters place number step) answer Next))
      (λ f. DoesThen (Follows limit Enters place number f.1 f.0) answer (λ after. Next (known after opens [])))
      (λ f steps.
      reads_map (Follows limit Enters place number f.1 f.0) answer (λ after. DoesThen (λ (found : Result Reading PreFault). found ≡ Ok (known after opens [])) answer Next)
      (λ after. Next (known after opens [])) (λ after is. reads_value (known after opens []) answer Next is)
      (reads_inward (Follows limit Enters place number f.1 f.0) (λ after found. found ≡ Ok (known after opens [])) answer Next
      (reads_value {A = Step} (record { state = f.0; opens = opens; header = f.1 }) answer (λ step. DoesThen (FollowsTo limit Enters place number step) answer Next) steps)))
      (reads_inward (Acts place limit number ended tokens) (λ f step. step ≡ Ok (record { state = f.0; opens = opens; header = f.1 })) answer
      (λ step. DoesThen (FollowsTo limit Enters place number step) answer Next)
      (reads_inward (Controls place limit number ended opens tokens) (λ step. FollowsTo limit Enters place number step) answer Next h)))

  -- a choice of steps is the step that is chosen
  chosen_step : (choice : Bool) (Does Other : Result Step PreFault → Type 0) → choice ≡ true
      → DoesThen (λ (found : Result Reading PreFault). DoesThen (λ (step : Result Step PreFault). MatchBool choice (Does step) (Other step)) found (λ step. FollowsTo limit Enters place number step found)) answer Next
      → DoesThen (λ (found : Result Reading PreFault). DoesThen Does found (λ step. FollowsTo limit Enters place number step found)) answer Next
  chosen_step choice Does Other holds h =
      reads_as (λ (found : Result Reading PreFault). DoesThen (λ (step : Result Step PreFault). MatchBool choice (Does step) (Other step)) found (λ step. FollowsTo limit Enters place number step found))
      (λ (found : Result Reading PreFault). DoesThen Does found (λ step. FollowsTo limit Enters place number step found)) answer Next
      (λ found. reads_chosen choice Does Other found (λ step. FollowsTo limit Enters place number step found) holds) h

  -- or the other one
  other_step : (choice : Bool) (Does Other : Result Step PreFault → Type 0) → choice ≡ false
      → DoesThen (λ (found : Result Reading PreFault). DoesThen (λ (step : Result Step PreFault). MatchBool choice (Does step) (Other step)) found (λ step. FollowsTo limit Enters place number step found)) answer Next
      → DoesThen (λ (found : Result Reading PreFault). DoesThen Other found (λ step. FollowsTo limit Enters place number step found)) answer Next
  other_step choice Does Other fails h =
      reads_as (λ (found : Result Reading PreFault). DoesThen (λ (step : Result Step PreFault). MatchBool choice (Does step) (Other step)) found (λ step. FollowsTo limit Enters place number step found))
      (λ (found : Result Reading PreFault). DoesThen Other found (λ step. FollowsTo limit Enters place number step found)) answer Next
      (λ found. reads_other choice Does Other found (λ step. FollowsTo limit Enters place number step found) fails) h

-- ---- directives, behind text that is not yet expanded

module _ (limit : ℕ) (Enters : Place → ℕ → Header → State → Result State PreFault → Type 0) (place : Place)
    (line : List Token) (state : State) (opens : List Conditional) (text : List Token) (answer : Result State PreFault) (Next : Reading → Type 0)
    (number : ℕ) where
  -- a control line that is read acts on what the text before it gives
  pub control_read : (tokens : List Token) → is_active opens ≡ true → line_of line ≡ ControlLine number tokens
      → DoesThen (StepsLine limit Enters place (known state opens text) line) answer Next
      → DoesThen (Ends place limit state text) answer (λ ended. DoesThen (ActsFully limit Enters place number tokens ended) answer (λ after. Next (known after opens [])))
  control_read tokens active kind h =
      reads_map (Ends place limit state text) answer (λ ended. DoesThen (KindThen limit Enters place (ControlLine number tokens) opens ended) answer Next)
      (λ ended. DoesThen (ActsFully limit Enters place number tokens ended) answer (λ after. Next (known after opens [])))
      (λ ended steps. control_then limit Enters place number answer Next tokens opens ended
      (chosen_step limit Enters place number answer Next (is_active opens) (Controls place limit number ended opens tokens) (λ step. step ≡ Ok (step_to opens ended)) active steps))
      (kind_read limit Enters place line state opens text answer Next (ControlLine number tokens) tt kind h)

  -- a directive that opens a conditional is read on what the text before it gives
  pub if_read : (name : Token) (tokens : List Token) → is_active opens ≡ true → line_of line ≡ IfLine number name tokens
      → DoesThen (StepsLine limit Enters place (known state opens text) line) answer Next
      → DoesThen (Ends place limit state text) answer (λ ended. DoesThen (FirstCondition place limit number ended name tokens) answer
      (λ found. Next (known found.1 (opened number true found.0 ∷ opens) [])))
  if_read name tokens active kind h =
      reads_map (Ends place limit state text) answer (λ ended. DoesThen (KindThen limit Enters place (IfLine number name tokens) opens ended) answer Next)
      (λ ended. DoesThen (FirstCondition place limit number ended name tokens) answer (λ found. Next (known found.1 (opened number true found.0 ∷ opens) [])))
      (λ ended steps. condition_step limit Enters place number answer Next (FirstCondition place limit number ended name tokens) (λ now. opened number true now ∷ opens)
      (chosen_step limit Enters place number answer Next (is_active opens) (Opens place limit number ended opens name tokens)
      (λ step. step ≡ Ok (step_to (opened number false false ∷ opens) ended)) active steps))
      (kind_read limit Enters place line state opens text answer Next (IfLine number name tokens) tt kind h)

-- ---- directives behind no text

module _ (limit : ℕ) (Enters : Place → ℕ → Header → State → Result State PreFault → Type 0) (place : Place)
    (line : List Token) (state : State) (opens : List Conditional) (answer : Result State PreFault) (Next : Reading → Type 0) where
  -- behind no text a directive does what its kind does
  kind_here : (kind : Line) → IsDirective kind → line_of line ≡ kind → DoesThen (StepsLine limit Enters place (known state opens []) line) answer Next
      → DoesThen (KindThen limit Enters place kind opens state) answer Next
  kind_here kind directive same h =
      reads_no_text place limit state answer (λ ended. DoesThen (KindThen limit Enters place kind opens ended) answer Next)
      (kind_read limit Enters place line state opens [] answer Next kind directive same h)

  -- a control line that is not active does nothing
  pub control_skipped : (number : ℕ) (tokens : List Token) → is_active opens ≡ false → line_of line ≡ ControlLine number tokens
      → DoesThen (StepsLine limit Enters place (known state opens []) line) answer Next → Next (known state opens [])
  control_skipped number tokens inactive kind h =
      known_step limit Enters place number answer Next opens state
      (other_step limit Enters place number answer Next (is_active opens) (Controls place limit number state opens tokens) (λ step. step ≡ Ok (step_to opens state)) inactive
      (kind_here (ControlLine number tokens) tt kind h))

  -- a conditional that opens in text that is not active is not active
  pub if_skipped : (number : ℕ) (name : Token) (tokens : List Token) → is_active opens ≡ false → line_of line ≡ IfLine number name tokens
      → DoesThen (StepsLine limit Enters place (known state opens []) line) answer Next → Next (known state (opened number false false ∷ opens) [])
  if_skipped number name tokens inactive kind h =
      known_step limit Enters place number answer Next (opened number false false ∷ opens) state
      (other_step limit Enters place number answer Next (is_active opens) (Opens place limit number state opens name tokens)
      (λ step. step ≡ Ok (step_to (opened number false false ∷ opens) state)) inactive (kind_here (IfLine number name tokens) tt kind h))

-- ---- the lines that belong to an open conditional

module _ (limit : ℕ) (Enters : Place → ℕ → Header → State → Result State PreFault → Type 0) (place : Place)
    (line : List Token) (state : State) (one : Conditional) (opens : List Conditional) (answer : Result State PreFault) (Next : Reading → Type 0) where
  -- an `#elif` that is not behind an `#else`
  elif_here : (number : ℕ) (tokens : List Token) → one.last ≡ false → line_of line ≡ ElifLine number tokens
      → DoesThen (StepsLine limit Enters place (known state (one ∷ opens) []) line) answer Next
      → DoesThen (λ (found : Result Reading PreFault). DoesThen (Elifs place limit number state one opens tokens) found (λ step. FollowsTo limit Enters place number step found)) answer Next
  elif_here number tokens more kind h =
      other_step limit Enters place number answer Next one.last (λ step. step ≡ Err (fault_at place number pre.Unbalanced)) (Elifs place limit number state one opens tokens) more
      (kind_here limit Enters place line state (one ∷ opens) answer Next (ElifLine number tokens) tt kind h)

  -- the condition of an `#elif` decides where no group was taken
  pub elif_read : (number : ℕ) (tokens : List Token) → one.last ≡ false → (one.outer && not one.taken) ≡ true → line_of line ≡ ElifLine number tokens
      → DoesThen (StepsLine limit Enters place (known state (one ∷ opens) []) line) answer Next
      → DoesThen (Condition place limit number state tokens) answer (λ found. Next (known found.1 (regrouped one found.0 ∷ opens) []))
  elif_read number tokens more untaken kind h =
      condition_step limit Enters place number answer Next (Condition place limit number state tokens) (λ now. regrouped one now ∷ opens)
      (chosen_step limit Enters place number answer Next (one.outer && not one.taken)
      (λ step. DoesThen (Condition place limit number state tokens) step (λ found. step ≡ Ok (step_to (regrouped one found.0 ∷ opens) found.1)))
      (λ step. step ≡ Ok (step_to (regrouped one false ∷ opens) state)) untaken (elif_here number tokens more kind h))

  -- otherwise its group is skipped
  pub elif_skipped : (number : ℕ) (tokens : List Token) → one.last ≡ false → (one.outer && not one.taken) ≡ false → line_of line ≡ ElifLine number tokens
      → DoesThen (StepsLine limit Enters place (known state (one ∷ opens) []) line) answer Next → Next (known state (regrouped one false ∷ opens) [])
  elif_skipped number tokens more settled kind h =
      known_step limit Enters place number answer Next (regrouped one false ∷ opens) state
      (other_step limit Enters place number answer Next (one.outer && not one.taken)
      (λ step. DoesThen (Condition place limit number state tokens) step (λ found. step ≡ Ok (step_to (regrouped one found.0 ∷ opens) found.1)))
      (λ step. step ≡ Ok (step_to (regrouped one false ∷ opens) state)) settled (elif_here number tokens more kind h))

  -- behind an `#else` stands the last group of the conditional
  pub else_read : (number : ℕ) → one.last ≡ false → line_of line ≡ ElseLine number
      → DoesThen (StepsLine limit Enters place (known state (one ∷ opens) []) line) answer Next → Next (known state (otherwise one ∷ opens) [])
  else_read number more kind h =
      known_step limit Enters place number answer Next (otherwise one ∷ opens) state
      (other_step limit Enters place number answer Next one.last (λ step. step ≡ Err (fault_at place number pre.Unbalanced))
      (λ step. step ≡ Ok (step_to (otherwise one ∷ opens) state)) more
      (kind_here limit Enters place line state (one ∷ opens) answer Next (ElseLine number) tt kind h))

  -- behind an `#endif` the conditional is closed
  pub endif_read : (number : ℕ) → line_of line ≡ EndifLine number
      → DoesThen (StepsLine limit Enters place (known state (one ∷ opens) []) line) answer Next → Next (known state opens [])
  endif_read number kind h =
      known_step limit Enters place number answer Next opens state
      (kind_here limit Enters place line state (one ∷ opens) answer Next (EndifLine number) tt kind h)
