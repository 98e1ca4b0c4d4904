-- How the reader goes through a file: line by line, with the conditionals that are open. Only what the reader's own
-- functions say of themselves is written so; what a file means is defined by its groups.
use Rattle.std.specs.Prelude.{◌≡◌, ℕ, ◌&&◌, ◌||◌, not, Bool, true, false, List, [], ◌∷◌, ◌++◌, None, Result, Ok, Err, MatchOption, codes, if◌then◌else◌}
use Rattle.std.specs.Bool.{MatchBool}
use Rattle.ct_base.specs.declared.lexical.Token.{Token}
use Rattle.ct_directive.specs.declared.faults.PreFault.{PreFault}
use Rattle.ct_directive.specs.declared.faults.PreKind.TheVariants as pre
use Rattle.ct_directive.specs.declared.forms.Header.{Header}
use Rattle.ct_directive.specs.Forms.{is}
use Rattle.ct_directive.specs.Lines.{directive_in}
use Rattle.ct_directive.specs.Groups.{opens_group}
use Rattle.ct_preproc.specs.declared.state.State.{State}
use Rattle.ct_preproc.specs.declared.state.Place.{Place}
use Rattle.ct_preproc.specs.declared.state.Conditional.{Conditional}
use Rattle.ct_preproc.specs.declared.directives.Step.{Step}
use Rattle.ct_preproc.specs.declared.reading.Reading.{Reading}
use Rattle.ct_preproc.specs.Directives.{Acts, Condition, FirstCondition}
use Rattle.ct_preproc.specs.Files.{Follows, begins, with_count}
use Rattle.ct_preproc.specs.Reading.{DoesThen, fault_at, counts, Ends}

-- ---- open conditionals, the innermost first

-- the text behind them is read
abbrev pub is_active : List Conditional → Bool
is_active [] = true
is_active (one ∷ others) = one.now

abbrev pub opened : ℕ → Bool → Bool → Conditional
opened line outer now = record { line = line; outer = outer; taken = now; now = now; last = false }

-- a further group of a conditional, behind an `#elif`
abbrev pub regrouped : Conditional → Bool → Conditional
regrouped one now = record one { taken = one.taken || now; now = now }

-- the group behind an `#else`
abbrev pub otherwise : Conditional → Conditional
otherwise one = record one { taken = true; now = one.outer && not one.taken; last = true }

-- ---- directives

-- what stands behind a directive: the state and the open conditionals, and the header that is to be included now
abbrev pub Answer : Type 0
Answer = Result Step PreFault

abbrev pub step_to : List Conditional → State → Step
step_to opens state = record { state = state; opens = opens; header = None }

-- a control line, in text that is read
abbrev pub Controls : Place → ℕ → ℕ → State → List Conditional → List Token → Answer → Type 0
Controls place limit line state opens tokens answer =
    DoesThen (Acts place limit line state tokens) answer (λ found. answer ≡ Ok (record { state = found.0; opens = opens; header = found.1 }))

-- a directive that opens a conditional, in text that is read
abbrev pub Opens : Place → ℕ → ℕ → State → List Conditional → Token → List Token → Answer → Type 0
Opens place limit line state opens name tokens answer =
    DoesThen (FirstCondition place limit line state name tokens) answer (λ found. answer ≡ Ok (step_to (opened line true found.0 ∷ opens) found.1))

abbrev pub ActsInRead : Place → ℕ → ℕ → State → List Conditional → List Token → Answer → Type 0
ActsInRead place limit line state opens [] answer = Controls place limit line state opens [] answer
ActsInRead place limit line state opens (name ∷ tokens) answer =
    MatchBool (opens_group name) (Opens place limit line state opens name tokens answer) (Controls place limit line state opens (name ∷ tokens) answer)

-- in text that is skipped the conditionals alone are seen (6.10p4)
abbrev pub skips : ℕ → State → List Conditional → List Token → Step
skips line state opens [] = step_to opens state
skips line state opens (name ∷ tokens) = step_to (if opens_group name then opened line false false ∷ opens else opens) state

-- The condition of an `#elif` counts where the conditional is active and no group was taken.
abbrev pub Elifs : Place → ℕ → ℕ → State → Conditional → List Conditional → List Token → Answer → Type 0
Elifs place limit line state one others tokens answer =
    MatchBool (one.outer && not one.taken)
    (DoesThen (Condition place limit line state tokens) answer (λ found. answer ≡ Ok (step_to (regrouped one found.0 ∷ others) found.1)))
    (answer ≡ Ok (step_to (regrouped one false ∷ others) state))

-- `#elif`, `#else` and `#endif`, which belong to the innermost open conditional
abbrev pub Parts : Place → ℕ → ℕ → State → List Conditional → Token → List Token → Answer → Type 0
Parts place limit line state [] name tokens answer = answer ≡ Err (fault_at place line pre.Unbalanced)
Parts place limit line state (one ∷ others) name tokens answer =
    MatchBool (is (codes "endif") name) (answer ≡ Ok (step_to others state))
    (MatchBool one.last (answer ≡ Err (fault_at place line pre.Unbalanced))
    (MatchBool (is (codes "else") name) (answer ≡ Ok (step_to (otherwise one ∷ others) state))
    (Elifs place limit line state one others tokens answer)))

abbrev pub is_part : Token → Bool
is_part name = is (codes "elif") name || is (codes "else") name || is (codes "endif") name

abbrev pub OtherSteps : Place → ℕ → ℕ → State → List Conditional → List Token → Answer → Type 0
OtherSteps place limit line state opens tokens answer =
    MatchBool (is_active opens) (ActsInRead place limit line state opens tokens answer) (answer ≡ Ok (skips line state opens tokens))

-- the directive with these tokens behind its `#`
abbrev pub Steps : Place → ℕ → ℕ → State → List Conditional → List Token → Answer → Type 0
Steps place limit line state opens [] answer = OtherSteps place limit line state opens [] answer
Steps place limit line state opens (name ∷ tokens) answer =
    MatchBool (is_part name) (Parts place limit line state opens name tokens answer)
    (OtherSteps place limit line state opens (name ∷ tokens) answer)

-- ---- lines

-- what is known at the begin of a file
abbrev pub begun : Place → State → Reading
begun place state = record { state = begins place state; opens = []; text = [] }

-- a text line is read and not yet expanded
abbrev pub with_text : Reading → ℕ → List Token → Reading
with_text reading counted line = record reading { state = with_count reading.state counted; text = reading.text ++ line }

-- what is known behind an active text line, by the count behind it
abbrev pub text_answer : Reading → List Token → Result ℕ PreFault → Result Reading PreFault
text_answer reading line (Ok counted) = Ok (with_text reading counted line)
text_answer reading line (Err fault) = Err fault

-- a text line is counted, where it is active
abbrev pub StepsText : Place → ℕ → Reading → List Token → Result Reading PreFault → Type 0
StepsText place limit reading line answer =
    MatchBool (is_active reading.opens) (answer ≡ text_answer reading line (counts place limit reading.state.counted line)) (answer ≡ Ok reading)

-- at the end of a file no conditional is open
abbrev pub closed : Place → List Conditional → State → Result State PreFault
closed place [] state = Ok state
closed place (one ∷ others) state = Err (fault_at place one.line pre.Unbalanced)

abbrev pub Closes : Place → ℕ → Reading → Result State PreFault → Type 0
Closes place limit reading answer =
    DoesThen (Ends place limit reading.state reading.text) answer (λ after. answer ≡ closed place reading.opens after)

module _ (limit : ℕ) (Enters : Place → ℕ → Header → State → Result State PreFault → Type 0) where
  -- what is known behind a directive
  abbrev pub FollowsTo : Place → ℕ → Step → Result Reading PreFault → Type 0
  FollowsTo place line step answer =
      DoesThen (Follows limit Enters place line step.header step.state) answer (λ after. answer ≡ Ok (record { state = after; opens = step.opens; text = [] }))

  abbrev pub StepsThen : Place → ℕ → List Conditional → List Token → State → Result Reading PreFault → Type 0
  StepsThen place line opens tokens state answer =
      DoesThen (Steps place limit line state opens tokens) answer (λ step. FollowsTo place line step answer)

  -- a directive acts on what the text before it gives
  abbrev pub StepsDirective : Place → Reading → ℕ → List Token → Result Reading PreFault → Type 0
  StepsDirective place reading line tokens answer =
      DoesThen (Ends place limit reading.state reading.text) answer (λ ended. StepsThen place line reading.opens tokens ended answer)

  abbrev pub StepsLine : Place → Reading → List Token → Result Reading PreFault → Type 0
  StepsLine place reading line answer =
      MatchOption (directive_in line) (StepsText place limit reading line answer)
      (λ found. StepsDirective place reading found.0.span.line found.1 answer)

  -- the rest of a file
  abbrev pub StepsLines : Place → Reading → List (List Token) → Result State PreFault → Type 0
  StepsLines place reading [] answer = Closes place limit reading answer
  StepsLines place reading (line ∷ lines) answer =
      DoesThen (StepsLine place reading line) answer (λ next. StepsLines place next lines answer)
