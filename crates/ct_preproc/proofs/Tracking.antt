-- A line that is read leaves those conditionals open that are open behind it, and a line that breaks them is refused.
use Rattle.std.proofs.Common.{◌≡◌, ℕ, suc, Bool, true, false, ◌||◌, List, [], ◌∷◌, length, Option, Some, None, if◌then◌else◌, refl, sym, ap, ◌∙◌, subst}
use Rattle.std.specs.Prelude.{Result, Ok, Err, MatchOption, codes}
use Rattle.std.specs.Bool.{MatchBool}
use Rattle.ct_base.specs.declared.lexical.Token.{Token}
use Rattle.ct_directive.specs.declared.faults.PreFault.{PreFault}
use Rattle.ct_directive.specs.declared.faults.PreKind.TheVariants as pre
use Rattle.ct_directive.specs.declared.forms.Header.{Header}
use Rattle.ct_directive.specs.Forms.{is}
use Rattle.ct_directive.specs.Lines.{directive_in}
use Rattle.ct_directive.specs.Groups.{Line, ControlLine, IfLine, ElifLine, ElseLine, EndifLine, opens_group, directive_line, line_by, line_of}
use Rattle.ct_directive.proofs.Shapes.{Shape, behind}
use Rattle.ct_preproc.specs.declared.state.State.{State}
use Rattle.ct_preproc.specs.declared.state.Place.{Place}
use Rattle.ct_preproc.specs.declared.state.Conditional.{Conditional}
use Rattle.ct_preproc.specs.declared.directives.Step.{Step}
use Rattle.ct_preproc.specs.declared.reading.Reading.{Reading}
use Rattle.ct_preproc.specs.Directives.{Condition}
use Rattle.ct_preproc.specs.Reading.{Ends, Goes, DoesThen, counts, fault_at}
use Rattle.ct_preproc.specs.Steps.{Answer, ActsInRead, Controls, Elifs, FollowsTo, Opens, OtherSteps, Steps, StepsDirective, StepsLine, StepsText, StepsThen, is_active, opened, otherwise, regrouped, skips, step_to, text_answer, with_text}

-- ---- the shapes of open conditionals

abbrev pub shape_of : Conditional → Shape
shape_of one = record { number = one.line; last = one.last }

abbrev pub shapes_of : List Conditional → List Shape
shapes_of [] = []
shapes_of (one ∷ others) = shape_of one ∷ shapes_of others

-- there are as many
pub shapes_count : (opens : List Conditional) → length (shapes_of opens) ≡ length opens
shapes_count [] = refl
shapes_count (one ∷ others) = ap (λ (n : ℕ). suc n) (shapes_count others)

-- ---- steps one behind the other

-- what goes on from an answer may be replaced by what follows from it
pub goes_by : {A B : Type 0} (found : Result A PreFault) (answer : Result B PreFault) (P Q : A → Type 0) → ((value : A) → found ≡ Ok value → P value → Q value)
    → Goes found answer P → Goes found answer Q
goes_by (Ok value) answer P Q follows goes = follows value refl goes
goes_by (Err fault) answer P Q follows goes = goes

-- behind a step that gives a value each step before gave one
pub goes_ok : {A B : Type 0} (found : Result A PreFault) (value : B) (P : A → Type 0) → Goes found (Ok value) P → (first : A) × (found ≡ Ok first) × P first
goes_ok (Ok first) value P goes = (first, refl, goes)
goes_ok (Err fault) value P goes = absurd cc

-- behind a refusal there is that refusal
pub goes_refused : {A B : Type 0} (found : Result A PreFault) (answer : Result B PreFault) (P : A → Type 0) (fault : PreFault) → found ≡ Err fault → Goes found answer P
    → answer ≡ Err fault
goes_refused (Ok value) answer P fault refused goes = absurd cc
goes_refused (Err other) answer P fault refused goes = goes ∙ ap (λ (f : PreFault). Err f) (let same : other ≡ fault = cc in same)

-- ---- directives

module _ (place : Place) (limit line : ℕ) (state : State) where
  abbrev unbalanced : PreFault
  unbalanced = fault_at place line pre.Unbalanced

  -- what the conditionals that are open behind a directive say of its answer
  abbrev pub Behind : Option (List Shape) → Answer → Type 0
  Behind None answer = answer ≡ Err unbalanced
  Behind (Some shapes) (Ok step) = shapes_of step.opens ≡ shapes
  Behind (Some shapes) (Err fault) = Unit {0}

  -- a step to conditionals of these shapes
  steps_behind : (shapes : List Shape) (answer : Answer) (step : Step) → answer ≡ Ok step → shapes_of step.opens ≡ shapes → Behind (Some shapes) answer
  steps_behind shapes (Ok found) step same are = ap (λ (s : Step). shapes_of s.opens) (let one : found ≡ step = cc in one) ∙ are
  steps_behind shapes (Err fault) step same are = tt

  -- a step behind another one, which may be refused
  reads_behind : {A : Type 0} (found : Result A PreFault) (answer : Answer) (next : A → Type 0) (shapes : List Shape) → ((value : A) → next value → Behind (Some shapes) answer)
      → Goes found answer next → Behind (Some shapes) answer
  reads_behind (Ok value) answer next shapes follows onward = follows value onward
  reads_behind (Err fault) (Ok step) next shapes follows onward = absurd cc
  reads_behind (Err fault) (Err other) next shapes follows onward = tt

  -- a control line leaves the open conditionals
  controls_behind : (opens : List Conditional) (tokens : List Token) (answer : Answer) → Controls place limit line state opens tokens answer
      → Behind (Some (shapes_of opens)) answer
  controls_behind opens tokens answer does =
      reads_behind does.0 answer (λ found. answer ≡ Ok (record { state = found.0; opens = opens; header = found.1 })) (shapes_of opens)
      (λ found same. steps_behind (shapes_of opens) answer (record { state = found.0; opens = opens; header = found.1 }) same refl) does.2

  -- in text that is read a directive that opens a conditional opens one
  opens_behind : (opens : List Conditional) (name : Token) (tokens : List Token) (answer : Answer) → Opens place limit line state opens name tokens answer
      → Behind (Some (record { number = line; last = false } ∷ shapes_of opens)) answer
  opens_behind opens name tokens answer does =
      reads_behind does.0 answer (λ found. answer ≡ Ok (step_to (opened line true found.0 ∷ opens) found.1)) (record { number = line; last = false } ∷ shapes_of opens)
      (λ found same. steps_behind (record { number = line; last = false } ∷ shapes_of opens) answer (step_to (opened line true found.0 ∷ opens) found.1) same refl) does.2

  -- a directive that is no further part of a conditional, by whether it opens one
  abbrev other_line : Bool → Token → List Token → Line
  other_line group name tokens = if group then IfLine line name tokens else ControlLine line (name ∷ tokens)

  acts_behind : (group : Bool) (opens : List Conditional) (name : Token) (tokens : List Token) (answer : Answer)
      → MatchBool group (Opens place limit line state opens name tokens answer) (Controls place limit line state opens (name ∷ tokens) answer)
      → Behind (behind (other_line group name tokens) (shapes_of opens)) answer
  acts_behind true opens name tokens answer does = opens_behind opens name tokens answer does
  acts_behind false opens name tokens answer does = controls_behind opens (name ∷ tokens) answer does

  -- in text that is skipped it opens one too
  skips_behind : (group : Bool) (opens : List Conditional) (name : Token) (tokens : List Token) (answer : Answer)
      → answer ≡ Ok (step_to (if group then opened line false false ∷ opens else opens) state)
      → Behind (behind (other_line group name tokens) (shapes_of opens)) answer
  skips_behind true opens name tokens answer same =
      steps_behind (record { number = line; last = false } ∷ shapes_of opens) answer (step_to (opened line false false ∷ opens) state) same refl
  skips_behind false opens name tokens answer same = steps_behind (shapes_of opens) answer (step_to opens state) same refl

  other_behind : (active : Bool) (opens : List Conditional) (name : Token) (tokens : List Token) (answer : Answer)
      → MatchBool active (ActsInRead place limit line state opens (name ∷ tokens) answer) (answer ≡ Ok (skips line state opens (name ∷ tokens)))
      → Behind (behind (other_line (opens_group name) name tokens) (shapes_of opens)) answer
  other_behind true opens name tokens answer does = acts_behind (opens_group name) opens name tokens answer does
  other_behind false opens name tokens answer does = skips_behind (opens_group name) opens name tokens answer does

  empty_behind : (active : Bool) (opens : List Conditional) (answer : Answer)
      → MatchBool active (ActsInRead place limit line state opens [] answer) (answer ≡ Ok (skips line state opens []))
      → Behind (Some (shapes_of opens)) answer
  empty_behind true opens answer does = controls_behind opens [] answer does
  empty_behind false opens answer does = steps_behind (shapes_of opens) answer (step_to opens state) does refl

  -- the condition of an `#elif` leaves the shapes
  elifs_behind : (asks : Bool) (one : Conditional) (others : List Conditional) (tokens : List Token) (answer : Answer)
      → MatchBool asks (DoesThen (Condition place limit line state tokens) answer (λ found. answer ≡ Ok (step_to (regrouped one found.0 ∷ others) found.1)))
      (answer ≡ Ok (step_to (regrouped one false ∷ others) state))
      → Behind (Some (shapes_of (one ∷ others))) answer
  elifs_behind true one others tokens answer does =
      reads_behind does.0 answer (λ found. answer ≡ Ok (step_to (regrouped one found.0 ∷ others) found.1)) (shapes_of (one ∷ others))
      (λ found same. steps_behind (shapes_of (one ∷ others)) answer (step_to (regrouped one found.0 ∷ others) found.1) same refl) does.2
  elifs_behind false one others tokens answer same =
      steps_behind (shapes_of (one ∷ others)) answer (step_to (regrouped one false ∷ others) state) same refl

  -- behind the last group of a conditional a further one is refused
  last_behind : (last : Bool) (shapes : List Shape) (answer : Answer) (Rest : Type 0) → (Rest → Behind (Some shapes) answer)
      → MatchBool last (answer ≡ Err unbalanced) Rest → Behind (if last then None else Some shapes) answer
  last_behind true shapes answer Rest rest does = does
  last_behind false shapes answer Rest rest does = rest does

  -- a further part of a conditional, by which one it is
  abbrev part_line : Bool → Bool → List Token → Line
  part_line endif last tokens = if endif then EndifLine line else if last then ElseLine line else ElifLine line tokens

  part_behind : (endif last : Bool) (one : Conditional) (others : List Conditional) (tokens : List Token) (answer : Answer)
      → MatchBool endif (answer ≡ Ok (step_to others state))
      (MatchBool one.last (answer ≡ Err unbalanced)
      (MatchBool last (answer ≡ Ok (step_to (otherwise one ∷ others) state)) (Elifs place limit line state one others tokens answer)))
      → Behind (behind (part_line endif last tokens) (shapes_of (one ∷ others))) answer
  part_behind true last one others tokens answer does = steps_behind (shapes_of others) answer (step_to others state) does refl
  part_behind false true one others tokens answer does =
      last_behind one.last (shapes_of (otherwise one ∷ others)) answer (answer ≡ Ok (step_to (otherwise one ∷ others) state))
      (λ same. steps_behind (shapes_of (otherwise one ∷ others)) answer (step_to (otherwise one ∷ others) state) same refl) does
  part_behind false false one others tokens answer does =
      last_behind one.last (shapes_of (one ∷ others)) answer (Elifs place limit line state one others tokens answer)
      (elifs_behind _ one others tokens answer) does

  -- where no conditional is open it is refused
  none_behind : (endif last : Bool) (tokens : List Token) (answer : Answer) → answer ≡ Err unbalanced → Behind (behind (part_line endif last tokens) []) answer
  none_behind true last tokens answer refused = refused
  none_behind false true tokens answer refused = refused
  none_behind false false tokens answer refused = refused

  -- a directive with a name, by what its name is
  abbrev named_line : Bool → Bool → Bool → Bool → Token → List Token → Line
  named_line endif last elif group name tokens =
      if endif then EndifLine line
      else if last then ElseLine line
      else if elif then ElifLine line tokens
      else if group then IfLine line name tokens else ControlLine line (name ∷ tokens)

  named_behind : (endif last elif group : Bool) (shapes : List Shape) (name : Token) (tokens : List Token) (answer : Answer) (Part Rest : Type 0)
      → (Part → Behind (behind (part_line endif last tokens) shapes) answer) → (Rest → Behind (behind (other_line group name tokens) shapes) answer)
      → MatchBool (elif || last || endif) Part Rest → Behind (behind (named_line endif last elif group name tokens) shapes) answer
  named_behind true true true group shapes name tokens answer Part Rest part rest does = part does
  named_behind true true false group shapes name tokens answer Part Rest part rest does = part does
  named_behind true false true group shapes name tokens answer Part Rest part rest does = part does
  named_behind true false false group shapes name tokens answer Part Rest part rest does = part does
  named_behind false true true group shapes name tokens answer Part Rest part rest does = part does
  named_behind false true false group shapes name tokens answer Part Rest part rest does = part does
  named_behind false false true group shapes name tokens answer Part Rest part rest does = part does
  named_behind false false false group shapes name tokens answer Part Rest part rest does = rest does

  -- A directive leaves those conditionals open that are open behind its line, or is refused where it breaks them.
  pub directive_behind : (opens : List Conditional) (tokens : List Token) (answer : Answer) → Steps place limit line state opens tokens answer
      → Behind (behind (directive_line line tokens) (shapes_of opens)) answer
  directive_behind opens [] answer does = empty_behind (is_active opens) opens answer does
  directive_behind [] (name ∷ tokens) answer does =
      named_behind (is (codes "endif") name) (is (codes "else") name) (is (codes "elif") name) (opens_group name) [] name tokens answer
      (answer ≡ Err unbalanced) (OtherSteps place limit line state [] (name ∷ tokens) answer)
      (none_behind (is (codes "endif") name) (is (codes "else") name) tokens answer) (other_behind true [] name tokens answer) does
  directive_behind (one ∷ others) (name ∷ tokens) answer does =
      named_behind (is (codes "endif") name) (is (codes "else") name) (is (codes "elif") name) (opens_group name) (shapes_of (one ∷ others)) name tokens answer
      (MatchBool (is (codes "endif") name) (answer ≡ Ok (step_to others state))
      (MatchBool one.last (answer ≡ Err unbalanced)
      (MatchBool (is (codes "else") name) (answer ≡ Ok (step_to (otherwise one ∷ others) state)) (Elifs place limit line state one others tokens answer))))
      (OtherSteps place limit line state (one ∷ others) (name ∷ tokens) answer)
      (part_behind (is (codes "endif") name) (is (codes "else") name) one others tokens answer) (other_behind one.now (one ∷ others) name tokens answer) does

-- ---- lines

-- an active text line and one that is skipped leave the open conditionals
text_keeps : (active : Bool) (count : Result ℕ PreFault) (reading next : Reading) (line : List Token)
    → MatchBool active (◌≡◌ {A = Result Reading PreFault} (Ok next) (text_answer reading line count)) (◌≡◌ {A = Result Reading PreFault} (Ok next) (Ok reading)) → reading.opens ≡ next.opens
text_keeps true (Ok counted) reading next line does =
    let same : next ≡ with_text reading counted line = cc in ap (λ (r : Reading). r.opens) (sym same)
text_keeps true (Err fault) reading next line does = absurd cc
text_keeps false count reading next line does =
    let same : next ≡ reading = cc in ap (λ (r : Reading). r.opens) (sym same)

module _ (limit : ℕ) (Enters : Place → ℕ → Header → State → Result State PreFault → Type 0) (place : Place) where
  -- where a directive is answered the conditionals of the answer are those that are open behind its line
  answered_behind : (line : ℕ) (state : State) (shapes : Option (List Shape)) (step : Step) → Behind place limit line state shapes (Ok step)
      → shapes ≡ Some (shapes_of step.opens)
  answered_behind line state None step there = absurd cc
  answered_behind line state (Some shapes) step there = ap (λ (list : List Shape). Some list) (sym there)

  directive_keeps : (reading next : Reading) (line : ℕ) (tokens : List Token) → StepsDirective limit Enters place reading line tokens (Ok next)
      → behind (directive_line line tokens) (shapes_of reading.opens) ≡ Some (shapes_of next.opens)
  directive_keeps reading next line tokens does =
      let ended = goes_ok does.0 next (λ state. StepsThen limit Enters place line reading.opens tokens state (Ok next)) does.2 in
      let step = goes_ok ended.2.0 next (λ step. FollowsTo limit Enters place line step (Ok next)) ended.2.2 in
      let after = goes_ok step.2.0 next (λ state. ◌≡◌ {A = Result Reading PreFault} (Ok next) (Ok (record { state = state; opens = step.0.opens; text = [] }))) step.2.2 in
      let last : ◌≡◌ {A = Result Reading PreFault} (Ok next) (Ok (record { state = after.0; opens = step.0.opens; text = [] })) = after.2 in
      let same : next ≡ record { state = after.0; opens = step.0.opens; text = [] } = cc in
      let there : Behind place limit line ended.0 (behind (directive_line line tokens) (shapes_of reading.opens)) (Ok step.0) =
      subst (λ (answer : Answer). Behind place limit line ended.0 (behind (directive_line line tokens) (shapes_of reading.opens)) answer) step.1
      (directive_behind place limit line ended.0 reading.opens tokens ended.2.0 ended.2.1) in
      answered_behind line ended.0 (behind (directive_line line tokens) (shapes_of reading.opens)) step.0 there
      ∙ ap (λ (r : Reading). Some (shapes_of r.opens)) (sym same)

  line_keeps : (there : Option (Token × List Token)) (reading next : Reading) (line : List Token)
      → MatchOption there (StepsText place limit reading line (Ok next)) (λ found. StepsDirective limit Enters place reading found.0.span.line found.1 (Ok next))
      → behind (line_by there) (shapes_of reading.opens) ≡ Some (shapes_of next.opens)
  line_keeps None reading next line does =
      ap (λ (opens : List Conditional). Some (shapes_of opens))
      (text_keeps (is_active reading.opens) (counts place limit reading.state.counted line) reading next line does)
  line_keeps (Some found) reading next line does = directive_keeps reading next found.0.span.line found.1 does

  -- a line that is read leaves those conditionals open that are open behind it
  pub steps_keep : (reading next : Reading) (line : List Token) → StepsLine limit Enters place reading line (Ok next)
      → behind (line_of line) (shapes_of reading.opens) ≡ Some (shapes_of next.opens)
  steps_keep reading next line does = line_keeps (directive_in line) reading next line does

  directive_refused : (reading : Reading) (line : ℕ) (tokens : List Token) (answer : Result Reading PreFault) → StepsDirective limit Enters place reading line tokens answer
      → behind (directive_line line tokens) (shapes_of reading.opens) ≡ None
      → DoesThen (Ends place limit reading.state reading.text) answer (λ after. answer ≡ Err (fault_at place line pre.Unbalanced))
  directive_refused reading line tokens answer does broken = (
    does.0,
    does.1,
    goes_by does.0 answer (λ state. StepsThen limit Enters place line reading.opens tokens state answer) (λ after. answer ≡ Err (fault_at place line pre.Unbalanced))
        (λ ended same onward. goes_refused onward.0 answer (λ step. FollowsTo limit Enters place line step answer) (fault_at place line pre.Unbalanced)
        (subst (λ (shapes : Option (List Shape)). Behind place limit line ended shapes onward.0) broken
        (directive_behind place limit line ended reading.opens tokens onward.0 onward.1)) onward.2) does.2,
  )

  line_refused : (there : Option (Token × List Token)) (reading : Reading) (line : List Token) (found : Token × List Token) (answer : Result Reading PreFault)
      → MatchOption there (StepsText place limit reading line answer) (λ found. StepsDirective limit Enters place reading found.0.span.line found.1 answer)
      → behind (line_by there) (shapes_of reading.opens) ≡ None → there ≡ Some found
      → DoesThen (Ends place limit reading.state reading.text) answer (λ after. answer ≡ Err (fault_at place found.0.span.line pre.Unbalanced))
  line_refused None reading line found answer does broken is = absurd cc
  line_refused (Some other) reading line found answer does broken is =
      let same : other ≡ found = cc in
      subst (λ (f : Token × List Token). DoesThen (Ends place limit reading.state reading.text) answer (λ after. answer ≡ Err (fault_at place f.0.span.line pre.Unbalanced))) same
      (directive_refused reading other.0.span.line other.1 answer does broken)

  -- a line that breaks the open conditionals is refused, behind the text before it
  pub steps_refused : (reading : Reading) (line : List Token) (found : Token × List Token) (answer : Result Reading PreFault) → directive_in line ≡ Some found
      → StepsLine limit Enters place reading line answer → behind (line_of line) (shapes_of reading.opens) ≡ None
      → DoesThen (Ends place limit reading.state reading.text) answer (λ after. answer ≡ Err (fault_at place found.0.span.line pre.Unbalanced))
  steps_refused reading line found answer is does broken = line_refused (directive_in line) reading line found answer does broken is
