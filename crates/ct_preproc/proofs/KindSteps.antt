-- What the reader does at a line, by what the line is.
use Rattle.std.proofs.Common.{◌≡◌, ℕ, ◌||◌, Bool, true, false, List, [], ◌∷◌, Option, Some, None, if◌then◌else◌, sym, subst}
use Rattle.std.specs.Prelude.{Result, Ok, Err, MatchOption, codes}
use Rattle.std.specs.Bool.{MatchBool}
use Rattle.ct_base.specs.declared.lexical.Token.{Token}
use Rattle.ct_directive.specs.declared.faults.PreFault.{PreFault}
use Rattle.ct_directive.specs.declared.faults.PreKind.TheVariants as pre
use Rattle.ct_directive.specs.declared.forms.Header.{Header}
use Rattle.ct_directive.specs.Forms.{is}
use Rattle.ct_directive.specs.Lines.{directive_in}
use Rattle.ct_directive.specs.Groups.{Line, TextLine, ControlLine, IfLine, ElifLine, ElseLine, EndifLine, opens_group, directive_line, line_by, line_of}
use Rattle.ct_preproc.specs.declared.state.State.{State}
use Rattle.ct_preproc.specs.declared.state.Place.{Place}
use Rattle.ct_preproc.specs.declared.state.Conditional.{Conditional}
use Rattle.ct_preproc.specs.declared.directives.Step.{Step}
use Rattle.ct_preproc.specs.declared.reading.Reading.{Reading}
use Rattle.ct_preproc.specs.Reading.{DoesThen, fault_at, Ends}
use Rattle.ct_preproc.specs.Steps.{Controls, Elifs, FollowsTo, Opens, StepsLine, StepsText, StepsThen, is_active, opened, otherwise, step_to}
use Rattle.ct_preproc.proofs.Continuing.{reads_map, reads_inward, reads_outward}
use Rattle.ct_preproc.proofs.EmptyText.{ends_nothing}
use Rattle.ct_preproc.proofs.StepsTo.{known}

-- ---- kinds of lines

-- a line that is no text line
abbrev pub IsDirective : Line → Type 0
IsDirective TextLine = ⊥
IsDirective line = Unit {0}

-- a directive is one whatever its name
named_directive : (number : ℕ) (name : Token) (tokens : List Token) (ends else_one elif_one opens : Bool)
    → IsDirective (if ends then EndifLine number else if else_one then ElseLine number else if elif_one then ElifLine number tokens
    else if opens then IfLine number name tokens else ControlLine number (name ∷ tokens))
named_directive number name tokens true else_one elif_one opens = tt
named_directive number name tokens false true elif_one opens = tt
named_directive number name tokens false false true opens = tt
named_directive number name tokens false false false true = tt
named_directive number name tokens false false false false = tt

-- and so is each directive
each_directive : (number : ℕ) (tokens : List Token) → IsDirective (directive_line number tokens)
each_directive number [] = tt
each_directive number (name ∷ tokens) =
    named_directive number name tokens (is (codes "endif") name) (is (codes "else") name) (is (codes "elif") name) (opens_group name)

module _ (limit : ℕ) (Enters : Place → ℕ → Header → State → Result State PreFault → Type 0) (place : Place) where
  -- what the innermost open conditional does with an `#elif`
  abbrev pub ElifSteps : ℕ → List Token → State → List Conditional → Result Step PreFault → Type 0
  ElifSteps number tokens state [] step = step ≡ Err (fault_at place number pre.Unbalanced)
  ElifSteps number tokens state (one ∷ others) step =
      MatchBool one.last (step ≡ Err (fault_at place number pre.Unbalanced)) (Elifs place limit number state one others tokens step)

  -- with an `#else`
  abbrev pub ElseSteps : ℕ → State → List Conditional → Result Step PreFault → Type 0
  ElseSteps number state [] step = step ≡ Err (fault_at place number pre.Unbalanced)
  ElseSteps number state (one ∷ others) step =
      MatchBool one.last (step ≡ Err (fault_at place number pre.Unbalanced)) (step ≡ Ok (step_to (otherwise one ∷ others) state))

  -- with an `#endif`
  abbrev pub EndifSteps : ℕ → State → List Conditional → Result Step PreFault → Type 0
  EndifSteps number state [] step = step ≡ Err (fault_at place number pre.Unbalanced)
  EndifSteps number state (one ∷ others) step = step ≡ Ok (step_to others state)

  -- a directive that opens a conditional
  abbrev pub IfSteps : ℕ → Token → List Token → State → List Conditional → Result Step PreFault → Type 0
  IfSteps number name tokens state opens step =
      MatchBool (is_active opens) (Opens place limit number state opens name tokens step) (step ≡ Ok (step_to (opened number false false ∷ opens) state))

  -- a control line
  abbrev pub ControlSteps : ℕ → List Token → State → List Conditional → Result Step PreFault → Type 0
  ControlSteps number tokens state opens step =
      MatchBool (is_active opens) (Controls place limit number state opens tokens step) (step ≡ Ok (step_to opens state))

  -- what is done at a directive, behind the text before it
  abbrev pub KindThen : Line → List Conditional → State → Result Reading PreFault → Type 0
  KindThen TextLine opens state answer = Unit {0}
  KindThen (ControlLine number tokens) opens state answer =
      DoesThen (ControlSteps number tokens state opens) answer (λ step. FollowsTo limit Enters place number step answer)
  KindThen (IfLine number name tokens) opens state answer =
      DoesThen (IfSteps number name tokens state opens) answer (λ step. FollowsTo limit Enters place number step answer)
  KindThen (ElifLine number tokens) opens state answer =
      DoesThen (ElifSteps number tokens state opens) answer (λ step. FollowsTo limit Enters place number step answer)
  KindThen (ElseLine number) opens state answer =
      DoesThen (ElseSteps number state opens) answer (λ step. FollowsTo limit Enters place number step answer)
  KindThen (EndifLine number) opens state answer =
      DoesThen (EndifSteps number state opens) answer (λ step. FollowsTo limit Enters place number step answer)

  -- ---- by the name of a directive

  -- `#elif`, `#else` and `#endif`, where it is known which of them the name is
  abbrev named_parts : ℕ → List Token → State → List Conditional → (ends else_one : Bool) → Result Step PreFault → Type 0
  named_parts number tokens state [] ends else_one step = step ≡ Err (fault_at place number pre.Unbalanced)
  named_parts number tokens state (one ∷ others) ends else_one step =
      MatchBool ends (step ≡ Ok (step_to others state))
      (MatchBool one.last (step ≡ Err (fault_at place number pre.Unbalanced))
      (MatchBool else_one (step ≡ Ok (step_to (otherwise one ∷ others) state)) (Elifs place limit number state one others tokens step)))

  -- any directive, where it is known which one the name is
  abbrev named_steps : ℕ → Token → List Token → State → List Conditional → (ends else_one elif_one opens_one : Bool) → Result Step PreFault → Type 0
  named_steps number name tokens state opens ends else_one elif_one opens_one step =
      MatchBool (elif_one || else_one || ends) (named_parts number tokens state opens ends else_one step)
      (MatchBool (is_active opens)
      (MatchBool opens_one (Opens place limit number state opens name tokens step) (Controls place limit number state opens (name ∷ tokens) step))
      (step ≡ Ok (step_to (if opens_one then opened number false false ∷ opens else opens) state)))

  -- what a directive does by its name is what it does by its kind
  named_then : (number : ℕ) (name : Token) (tokens : List Token) (state : State) (opens : List Conditional) (answer : Result Reading PreFault)
      (ends else_one elif_one opens_one : Bool)
      → DoesThen (named_steps number name tokens state opens ends else_one elif_one opens_one) answer (λ step. FollowsTo limit Enters place number step answer)
      → KindThen (if ends then EndifLine number else if else_one then ElseLine number else if elif_one then ElifLine number tokens
      else if opens_one then IfLine number name tokens else ControlLine number (name ∷ tokens)) opens state answer
  named_then number name tokens state [] answer true true true opens_one h = h
  named_then number name tokens state [] answer true true false opens_one h = h
  named_then number name tokens state [] answer true false true opens_one h = h
  named_then number name tokens state [] answer true false false opens_one h = h
  named_then number name tokens state [] answer false true true opens_one h = h
  named_then number name tokens state [] answer false true false opens_one h = h
  named_then number name tokens state [] answer false false true opens_one h = h
  named_then number name tokens state [] answer false false false true h = h
  named_then number name tokens state [] answer false false false false h = h
  named_then number name tokens state (one ∷ others) answer true true true opens_one h = h
  named_then number name tokens state (one ∷ others) answer true true false opens_one h = h
  named_then number name tokens state (one ∷ others) answer true false true opens_one h = h
  named_then number name tokens state (one ∷ others) answer true false false opens_one h = h
  named_then number name tokens state (one ∷ others) answer false true true opens_one h = h
  named_then number name tokens state (one ∷ others) answer false true false opens_one h = h
  named_then number name tokens state (one ∷ others) answer false false true opens_one h = h
  named_then number name tokens state (one ∷ others) answer false false false true h = h
  named_then number name tokens state (one ∷ others) answer false false false false h = h

  -- a directive does what its kind does
  directive_then : (number : ℕ) (tokens : List Token) (state : State) (opens : List Conditional) (answer : Result Reading PreFault)
      → StepsThen limit Enters place number opens tokens state answer → KindThen (directive_line number tokens) opens state answer
  directive_then number [] state opens answer h = h
  directive_then number (name ∷ tokens) state [] answer h =
      named_then number name tokens state [] answer (is (codes "endif") name) (is (codes "else") name) (is (codes "elif") name) (opens_group name) h
  directive_then number (name ∷ tokens) state (one ∷ others) answer h =
      named_then number name tokens state (one ∷ others) answer (is (codes "endif") name) (is (codes "else") name) (is (codes "elif") name) (opens_group name) h

  -- ---- by what a line is

  -- a text line has no directive in it
  text_at : (found : Option (Token × List Token)) (Counts : Type 0) (Acts : Token × List Token → Type 0) → line_by found ≡ TextLine
      → MatchOption found Counts Acts → Counts
  text_at None Counts Acts kind h = h
  text_at (Some found) Counts Acts kind h =
      absurd (subst IsDirective kind (each_directive found.0.span.line found.1))

  -- a text line is counted
  pub text_steps : (line : List Token) (reading : Reading) (answer : Result Reading PreFault) → line_of line ≡ TextLine
      → StepsLine limit Enters place reading line answer → StepsText place limit reading line answer
  text_steps line reading answer kind h =
      text_at (directive_in line) (StepsText place limit reading line answer)
      (λ found. DoesThen (Ends place limit reading.state reading.text) answer (λ ended. StepsThen limit Enters place found.0.span.line reading.opens found.1 ended answer))
      kind h

  -- a line that is no text line has one
  kind_at : (found : Option (Token × List Token)) (kind : Line) (reading : Reading) (answer : Result Reading PreFault) (Counts : Type 0)
      → IsDirective kind → line_by found ≡ kind
      → MatchOption found Counts (λ f. DoesThen (Ends place limit reading.state reading.text) answer (λ ended. StepsThen limit Enters place f.0.span.line reading.opens f.1 ended answer))
      → DoesThen (Ends place limit reading.state reading.text) answer (λ ended. KindThen kind reading.opens ended answer)
  kind_at None kind reading answer Counts directive same h = absurd (subst IsDirective (sym same) directive)
  kind_at (Some f) kind reading answer Counts directive same h =
      reads_map (Ends place limit reading.state reading.text) answer
      (λ ended. StepsThen limit Enters place f.0.span.line reading.opens f.1 ended answer) (λ ended. KindThen kind reading.opens ended answer)
      (λ ended steps. subst (λ (k : Line). KindThen k reading.opens ended answer) same
      (directive_then f.0.span.line f.1 ended reading.opens answer steps)) h

  -- a directive ends the text before it, and then its kind says what is done
  pub kind_steps : (line : List Token) (kind : Line) (reading : Reading) (answer : Result Reading PreFault) → IsDirective kind → line_of line ≡ kind
      → StepsLine limit Enters place reading line answer
      → DoesThen (Ends place limit reading.state reading.text) answer (λ ended. KindThen kind reading.opens ended answer)
  kind_steps line kind reading answer directive same h =
      kind_at (directive_in line) kind reading answer (StepsText place limit reading line answer) directive same h

  -- ---- where the text before a directive ends

  -- the text before a directive is expanded first
  ends_at : (found : Option (Token × List Token)) (kind : Line) (state : State) (opens : List Conditional) (text : List Token) (answer : Result State PreFault)
      (Counts : Result Reading PreFault → Type 0) (Again : State → Result Reading PreFault → Type 0) (Next : Reading → Type 0) → IsDirective kind → line_by found ≡ kind
      → DoesThen (λ (read : Result Reading PreFault). MatchOption found (Counts read)
      (λ f. DoesThen (Ends place limit state text) read (λ ended. StepsThen limit Enters place f.0.span.line opens f.1 ended read))) answer Next
      → DoesThen (Ends place limit state text) answer (λ after. DoesThen (λ (read : Result Reading PreFault). MatchOption found (Again after read)
      (λ f. DoesThen (Ends place limit after []) read (λ ended. StepsThen limit Enters place f.0.span.line opens f.1 ended read))) answer Next)
  ends_at None kind state opens text answer Counts Again Next directive same h = absurd (subst IsDirective (sym same) directive)
  ends_at (Some f) kind state opens text answer Counts Again Next directive same h =
      reads_map (Ends place limit state text) answer (λ ended. DoesThen (StepsThen limit Enters place f.0.span.line opens f.1 ended) answer Next)
      (λ after. DoesThen (λ (read : Result Reading PreFault). DoesThen (Ends place limit after []) read (λ ended. StepsThen limit Enters place f.0.span.line opens f.1 ended read)) answer Next)
      (λ after then_on.
      reads_outward (Ends place limit after []) (λ ended. StepsThen limit Enters place f.0.span.line opens f.1 ended) answer Next
      (Ok after, ends_nothing place limit after, then_on))
      (reads_inward (Ends place limit state text) (λ ended. StepsThen limit Enters place f.0.span.line opens f.1 ended) answer Next h)

  -- the text before a directive can be expanded where the directive begins
  pub text_ends : (line : List Token) (kind : Line) (state : State) (opens : List Conditional) (text : List Token) (answer : Result State PreFault) (Next : Reading → Type 0)
      → IsDirective kind → line_of line ≡ kind → DoesThen (StepsLine limit Enters place (known state opens text) line) answer Next
      → DoesThen (Ends place limit state text) answer (λ after. DoesThen (StepsLine limit Enters place (known after opens []) line) answer Next)
  text_ends line kind state opens text answer Next directive same h =
      ends_at (directive_in line) kind state opens text answer (StepsText place limit (known state opens text) line)
      (λ after. StepsText place limit (known after opens []) line) Next directive same h
