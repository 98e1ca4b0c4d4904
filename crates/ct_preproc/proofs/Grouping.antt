-- A file that is read line by line is read by its groups.
use Rattle.std.proofs.Common.{◌≡◌, ℕ, ◌&&◌, ◌||◌, not, Bool, true, false, List, [], ◌∷◌, ◌++◌, refl}
use Rattle.std.specs.Prelude.{Result, Ok}
use Rattle.std.specs.Bool.{MatchBool}
use Rattle.ct_base.specs.declared.lexical.Token.{Token}
use Rattle.ct_directive.specs.declared.faults.PreFault.{PreFault}
use Rattle.ct_directive.specs.declared.forms.Header.{Header}
use Rattle.ct_directive.specs.Groups.{Line, TextLine, ControlLine, IfLine, ElifLine, ElseLine, EndifLine, line_of, Group, Text, Control, Section, Others, Elif, IsGroup, AreOthers, nothing as no_part, text as text_part, control as control_part, section as section_part, none as no_others, elif as elif_part, last as else_part}
use Rattle.ct_preproc.specs.declared.state.State.{State}
use Rattle.ct_preproc.specs.declared.state.Place.{Place}
use Rattle.ct_preproc.specs.declared.state.Conditional.{Conditional}
use Rattle.ct_preproc.specs.declared.reading.Reading.{Reading}
use Rattle.ct_preproc.specs.Directives.{Condition, FirstCondition}
use Rattle.ct_preproc.specs.Files.{ActsFully, ReadsGroup, ReadsOthers, with_count}
use Rattle.ct_preproc.specs.Reading.{DoesThen, counts, Ends}
use Rattle.ct_preproc.specs.Steps.{is_active, opened, otherwise, regrouped}
use Rattle.ct_preproc.proofs.Continuing.{reads_map, reads_outward}
use Rattle.ct_preproc.proofs.KindAnswers.{text_read, control_read, if_read, elif_read, else_read, endif_read}
use Rattle.ct_preproc.proofs.KindSteps.{IsDirective, text_ends}
use Rattle.ct_preproc.proofs.Skipping.{skip_group, skip_others}
use Rattle.ct_preproc.proofs.StepsTo.{known, StepsTo}

-- a conditional of which no group was taken stays one where a condition fails
untaken_stays : (taken : Bool) → taken ≡ false → (taken || false) ≡ false
untaken_stays true untaken = untaken
untaken_stays false untaken = refl

-- its next group can be taken
can_be_taken : (outer taken : Bool) → outer ≡ true → taken ≡ false → (outer && not taken) ≡ true
can_be_taken true true active untaken = cc
can_be_taken true false active untaken = refl
can_be_taken false taken active untaken = cc

-- a conditional of which a group was taken takes no other
is_settled : (outer taken : Bool) → (outer && not (taken || true)) ≡ false
is_settled true true = refl
is_settled true false = refl
is_settled false true = refl
is_settled false false = refl

module _ (limit : ℕ) (Enters : Place → ℕ → Header → State → Result State PreFault → Type 0) (place : Place)
    (Then : Reading → Result State PreFault → Type 0) where
  -- what stands before these lines is expanded where they begin
  abbrev pub Flushes : List (List Token) → Type 0
  Flushes rest = (state : State) (opens : List Conditional) (text : List Token) (answer : Result State PreFault)
      → StepsTo limit Enters place Then (known state opens text) rest answer
      → DoesThen (Ends place limit state text) answer (λ after. StepsTo limit Enters place Then (known after opens []) rest answer)

  -- lines that begin with a directive
  flushes_line : (line : List Token) (kind : Line) (lines : List (List Token)) → IsDirective kind → line_of line ≡ kind → Flushes (line ∷ lines)
  flushes_line line kind lines directive same state opens text answer h =
      text_ends limit Enters place line kind state opens text answer (λ next. StepsTo limit Enters place Then next lines answer) directive same h

  -- lines that begin with further groups of a conditional
  flushes_others : {lines rest : List (List Token)} {others : Others} → AreOthers lines others rest → Flushes rest → Flushes lines
  flushes_others no_others flushes = flushes
  flushes_others (elif_part {line = line} {lines = lines} {number = number} {tokens = tokens} kind inner others) flushes =
      flushes_line line (ElifLine number tokens) lines tt kind
  flushes_others (else_part {line = line} {lines = lines} {number = number} kind inner) flushes =
      flushes_line line (ElseLine number) lines tt kind

  -- ---- the parts of a group, where what stands in them is read by its groups

  -- a text line, and then the parts behind it
  text_group : (line : List Token) (lines : List (List Token)) (behind : Group) (state : State) (opens : List Conditional) (text : List Token) (answer : Result State PreFault)
      (Behind : State → Type 0) → is_active opens ≡ true → line_of line ≡ TextLine
      → ((counted : ℕ) → StepsTo limit Enters place Then (known (with_count state counted) opens (text ++ line)) lines answer
      → DoesThen (ReadsGroup limit Enters place (with_count state counted) (text ++ line) behind) answer Behind)
      → StepsTo limit Enters place Then (known state opens text) (line ∷ lines) answer
      → DoesThen (ReadsGroup limit Enters place state text (Text line behind)) answer Behind
  text_group line lines behind state opens text answer Behind active kind each h =
      reads_outward (λ (found : Result ℕ PreFault). found ≡ counts place limit state.counted line)
      (λ counted. ReadsGroup limit Enters place (with_count state counted) (text ++ line) behind) answer Behind
      (reads_map (λ (found : Result ℕ PreFault). found ≡ counts place limit state.counted line) answer
      (λ counted. StepsTo limit Enters place Then (known (with_count state counted) opens (text ++ line)) lines answer)
      (λ counted. DoesThen (ReadsGroup limit Enters place (with_count state counted) (text ++ line) behind) answer Behind) each
      (text_read limit Enters place line state opens text answer (λ next. StepsTo limit Enters place Then next lines answer) active kind h))

  -- a control line, and then the parts behind it
  control_group : (line : List Token) (lines : List (List Token)) (number : ℕ) (tokens : List Token) (behind : Group) (state : State) (opens : List Conditional) (text : List Token) (answer : Result State PreFault)
      (Behind : State → Type 0) → is_active opens ≡ true → line_of line ≡ ControlLine number tokens
      → ((after : State) → StepsTo limit Enters place Then (known after opens []) lines answer → DoesThen (ReadsGroup limit Enters place after [] behind) answer Behind)
      → StepsTo limit Enters place Then (known state opens text) (line ∷ lines) answer
      → DoesThen (ReadsGroup limit Enters place state text (Control number tokens behind)) answer Behind
  control_group line lines number tokens behind state opens text answer Behind active kind each h =
      reads_outward (Ends place limit state text)
      (λ ended found. DoesThen (ActsFully limit Enters place number tokens ended) found (λ after. ReadsGroup limit Enters place after [] behind found)) answer Behind
      (reads_map (Ends place limit state text) answer
      (λ ended. DoesThen (ActsFully limit Enters place number tokens ended) answer (λ after. StepsTo limit Enters place Then (known after opens []) lines answer))
      (λ ended. DoesThen (λ (found : Result State PreFault). DoesThen (ActsFully limit Enters place number tokens ended) found (λ after. ReadsGroup limit Enters place after [] behind found)) answer Behind)
      (λ ended acts.
      reads_outward (ActsFully limit Enters place number tokens ended) (λ after. ReadsGroup limit Enters place after [] behind) answer Behind
      (reads_map (ActsFully limit Enters place number tokens ended) answer (λ after. StepsTo limit Enters place Then (known after opens []) lines answer)
      (λ after. DoesThen (ReadsGroup limit Enters place after [] behind) answer Behind) each acts))
      (control_read limit Enters place line state opens text answer (λ next. StepsTo limit Enters place Then next lines answer) number tokens active kind h))

  -- a choice between two groups is read where each is
  choice_group : (now : Bool) (Does Other : Result State PreFault → Type 0) (answer : Result State PreFault) (Before : Bool → Type 0) (Behind : State → Type 0)
      → (Before true → DoesThen Does answer Behind) → (Before false → DoesThen Other answer Behind) → Before now
      → DoesThen (λ (read : Result State PreFault). MatchBool now (Does read) (Other read)) answer Behind
  choice_group true Does Other answer Before Behind does other h = does h
  choice_group false Does Other answer Before Behind does other h = other h

  -- the first group of a conditional, or its further groups
  abbrev read_by : Group → Others → Bool × State → Result State PreFault → Type 0
  read_by inner others found read =
      MatchBool found.0 (ReadsGroup limit Enters place found.1 [] inner read) (ReadsOthers limit Enters place found.1 others read)

  -- a conditional, and then the parts behind it
  section_group : (line : List Token) (lines : List (List Token)) (number : ℕ) (name : Token) (tokens : List Token) (inner : Group) (others : Others) (behind : Group)
      (state : State) (opens : List Conditional) (text : List Token) (answer : Result State PreFault) (Closed Behind : State → Type 0)
      → is_active opens ≡ true → line_of line ≡ IfLine number name tokens
      → ((begun : State) → StepsTo limit Enters place Then (known begun (opened number true true ∷ opens) []) lines answer
      → DoesThen (ReadsGroup limit Enters place begun [] inner) answer Closed)
      → ((begun : State) → StepsTo limit Enters place Then (known begun (opened number true false ∷ opens) []) lines answer
      → DoesThen (ReadsOthers limit Enters place begun others) answer Closed)
      → ((after : State) → Closed after → DoesThen (ReadsGroup limit Enters place after [] behind) answer Behind)
      → StepsTo limit Enters place Then (known state opens text) (line ∷ lines) answer
      → DoesThen (ReadsGroup limit Enters place state text (Section number name tokens inner others behind)) answer Behind
  section_group line lines number name tokens inner others behind state opens text answer Closed Behind active kind first further each h =
      reads_outward (Ends place limit state text)
      (λ ended found. DoesThen (FirstCondition place limit number ended name tokens) found
      (λ f. DoesThen (read_by inner others f) found (λ after. ReadsGroup limit Enters place after [] behind found))) answer Behind
      (reads_map (Ends place limit state text) answer
      (λ ended. DoesThen (FirstCondition place limit number ended name tokens) answer (λ f. StepsTo limit Enters place Then (known f.1 (opened number true f.0 ∷ opens) []) lines answer))
      (λ ended. DoesThen (λ (found : Result State PreFault). DoesThen (FirstCondition place limit number ended name tokens) found
      (λ f. DoesThen (read_by inner others f) found (λ after. ReadsGroup limit Enters place after [] behind found))) answer Behind)
      (λ ended judged.
      reads_outward (FirstCondition place limit number ended name tokens)
      (λ f found. DoesThen (read_by inner others f) found (λ after. ReadsGroup limit Enters place after [] behind found)) answer Behind
      (reads_map (FirstCondition place limit number ended name tokens) answer
      (λ f. StepsTo limit Enters place Then (known f.1 (opened number true f.0 ∷ opens) []) lines answer)
      (λ f. DoesThen (λ (found : Result State PreFault). DoesThen (read_by inner others f) found (λ after. ReadsGroup limit Enters place after [] behind found)) answer Behind)
      (λ f steps.
      reads_outward (read_by inner others f) (λ after. ReadsGroup limit Enters place after [] behind) answer Behind
      (reads_map (read_by inner others f) answer Closed (λ after. DoesThen (ReadsGroup limit Enters place after [] behind) answer Behind) each
      (choice_group f.0 (ReadsGroup limit Enters place f.1 [] inner) (ReadsOthers limit Enters place f.1 others) answer
      (λ now. StepsTo limit Enters place Then (known f.1 (opened number true now ∷ opens) []) lines answer) Closed (first f.1) (further f.1) steps)))
      judged))
      (if_read limit Enters place line state opens text answer (λ next. StepsTo limit Enters place Then next lines answer) number name tokens active kind h))

  -- the group of an `#elif`, or the further groups behind it
  elif_others : (line : List Token) (lines : List (List Token)) (number : ℕ) (tokens : List Token) (inner : Group) (others : Others)
      (state : State) (one : Conditional) (opens : List Conditional) (answer : Result State PreFault) (Behind : State → Type 0)
      → one.outer ≡ true → one.taken ≡ false → one.last ≡ false → line_of line ≡ ElifLine number tokens
      → ((begun : State) → StepsTo limit Enters place Then (known begun (regrouped one true ∷ opens) []) lines answer
      → DoesThen (ReadsGroup limit Enters place begun [] inner) answer Behind)
      → ((begun : State) → StepsTo limit Enters place Then (known begun (regrouped one false ∷ opens) []) lines answer
      → DoesThen (ReadsOthers limit Enters place begun others) answer Behind)
      → StepsTo limit Enters place Then (known state (one ∷ opens) []) (line ∷ lines) answer
      → DoesThen (ReadsOthers limit Enters place state (Elif number tokens inner others)) answer Behind
  elif_others line lines number tokens inner others state one opens answer Behind active untaken more kind first further h =
      reads_outward (Condition place limit number state tokens)
      (λ f found. MatchBool f.0 (ReadsGroup limit Enters place f.1 [] inner found) (ReadsOthers limit Enters place f.1 others found)) answer Behind
      (reads_map (Condition place limit number state tokens) answer
      (λ f. StepsTo limit Enters place Then (known f.1 (regrouped one f.0 ∷ opens) []) lines answer)
      (λ f. DoesThen (λ (found : Result State PreFault). MatchBool f.0 (ReadsGroup limit Enters place f.1 [] inner found) (ReadsOthers limit Enters place f.1 others found)) answer Behind)
      (λ f. choice_group f.0 (ReadsGroup limit Enters place f.1 [] inner) (ReadsOthers limit Enters place f.1 others) answer
      (λ now. StepsTo limit Enters place Then (known f.1 (regrouped one now ∷ opens) []) lines answer) Behind (first f.1) (further f.1))
      (elif_read limit Enters place line state one opens answer (λ next. StepsTo limit Enters place Then next lines answer) number tokens more
      (can_be_taken one.outer one.taken active untaken) kind h))

  -- a conditional is closed by its `#endif`
  closed_section : (line : List Token) (lines : List (List Token)) (number : ℕ) (state : State) (one : Conditional) (opens : List Conditional) (answer : Result State PreFault)
      → line_of line ≡ EndifLine number → StepsTo limit Enters place Then (known state (one ∷ opens) []) (line ∷ lines) answer
      → StepsTo limit Enters place Then (known state opens []) lines answer
  closed_section line lines number state one opens answer kind h =
      endif_read limit Enters place line state one opens answer (λ next. StepsTo limit Enters place Then next lines answer) number kind h

  -- ---- groups

  mutual
    -- the lines of a group that is active are read as the group is
    pub group_steps : {lines rest : List (List Token)} {group : Group} → IsGroup lines group rest → Flushes rest
        → (state : State) (opens : List Conditional) (text : List Token) (answer : Result State PreFault) → is_active opens ≡ true
        → StepsTo limit Enters place Then (known state opens text) lines answer
        → DoesThen (ReadsGroup limit Enters place state text group) answer (λ after. StepsTo limit Enters place Then (known after opens []) rest answer)
    group_steps no_part flushes state opens text answer active h = flushes state opens text answer h
    group_steps {rest = rest} (text_part {line = line} {lines = lines} {behind = behind} kind others) flushes state opens text answer active h =
        text_group line lines behind state opens text answer (λ after. StepsTo limit Enters place Then (known after opens []) rest answer) active kind
        (λ counted steps. group_steps others flushes (with_count state counted) opens (text ++ line) answer active steps) h
    group_steps {rest = rest} (control_part {line = line} {lines = lines} {number = number} {tokens = tokens} {behind = behind} kind others) flushes state opens text answer active h =
        control_group line lines number tokens behind state opens text answer (λ after. StepsTo limit Enters place Then (known after opens []) rest answer) active kind
        (λ after steps. group_steps others flushes after opens [] answer active steps) h
    group_steps {rest = rest} (section_part {line = line} {last = end_line} {lines = lines} {more = more} {after = after_lines} {number = number} {end = end_number} {name = name} {tokens = tokens} {inner = inner} {behind = behind} {others = others} kind is_inner are_others end_kind is_behind) flushes state opens text answer active h =
        section_group line lines number name tokens inner others behind state opens text answer
        (λ after. StepsTo limit Enters place Then (known after opens []) after_lines answer)
        (λ after. StepsTo limit Enters place Then (known after opens []) rest answer) active kind
        (λ begun steps.
        reads_map (ReadsGroup limit Enters place begun [] inner) answer (λ after. StepsTo limit Enters place Then (known after (opened number true true ∷ opens) []) more answer)
        (λ after. StepsTo limit Enters place Then (known after opens []) after_lines answer)
        (λ after left.
        let skipped = skip_others limit Enters place Then are_others after (opened number true true) opens answer refl refl left in
        closed_section end_line after_lines end_number after skipped.0 opens answer end_kind skipped.1)
        (group_steps is_inner (flushes_others are_others (flushes_line end_line (EndifLine end_number) after_lines tt end_kind)) begun (opened number true true ∷ opens) [] answer refl steps))
        (λ begun steps.
        reads_map (ReadsOthers limit Enters place begun others) answer
        (λ after. (next : Conditional) × StepsTo limit Enters place Then (known after (next ∷ opens) []) (end_line ∷ after_lines) answer)
        (λ after. StepsTo limit Enters place Then (known after opens []) after_lines answer)
        (λ after left. closed_section end_line after_lines end_number after left.0 opens answer end_kind left.1)
        (others_steps are_others (flushes_line end_line (EndifLine end_number) after_lines tt end_kind) begun (opened number true false) opens answer refl refl refl
        (skip_group limit Enters place Then is_inner begun (opened number true false ∷ opens) answer refl steps)))
        (λ after steps. group_steps is_behind flushes after opens [] answer active steps) h

    -- and so are the further groups of an active conditional of which none was taken
    pub others_steps : {lines rest : List (List Token)} {others : Others} → AreOthers lines others rest → Flushes rest
        → (state : State) (one : Conditional) (opens : List Conditional) (answer : Result State PreFault) → one.outer ≡ true → one.taken ≡ false → one.last ≡ false
        → StepsTo limit Enters place Then (known state (one ∷ opens) []) lines answer
        → DoesThen (ReadsOthers limit Enters place state others) answer
        (λ after. (next : Conditional) × StepsTo limit Enters place Then (known after (next ∷ opens) []) rest answer)
    others_steps no_others flushes state one opens answer active untaken unended h = (Ok state, refl, (one, h))
    others_steps {rest = rest} (elif_part {line = line} {lines = lines} {more = more} {number = number} {tokens = tokens} {inner = inner} {others = others} kind is_inner are_others) flushes state one opens answer active untaken unended h =
        elif_others line lines number tokens inner others state one opens answer
        (λ after. (next : Conditional) × StepsTo limit Enters place Then (known after (next ∷ opens) []) rest answer) active untaken unended kind
        (λ begun steps.
        reads_map (ReadsGroup limit Enters place begun [] inner) answer (λ after. StepsTo limit Enters place Then (known after (regrouped one true ∷ opens) []) more answer)
        (λ after. (next : Conditional) × StepsTo limit Enters place Then (known after (next ∷ opens) []) rest answer)
        (λ after left. skip_others limit Enters place Then are_others after (regrouped one true) opens answer (is_settled one.outer one.taken) unended left)
        (group_steps is_inner (flushes_others are_others flushes) begun (regrouped one true ∷ opens) [] answer refl steps))
        (λ begun steps.
        others_steps are_others flushes begun (regrouped one false) opens answer active (untaken_stays one.taken untaken) unended
        (skip_group limit Enters place Then is_inner begun (regrouped one false ∷ opens) answer refl steps)) h
    others_steps {rest = rest} (else_part {line = line} {lines = lines} {number = number} {inner = inner} kind is_inner) flushes state one opens answer active untaken unended h =
        reads_map (ReadsGroup limit Enters place state [] inner) answer (λ after. StepsTo limit Enters place Then (known after (otherwise one ∷ opens) []) rest answer)
        (λ after. (next : Conditional) × StepsTo limit Enters place Then (known after (next ∷ opens) []) rest answer)
        (λ after left. (otherwise one, left))
        (group_steps is_inner flushes state (otherwise one ∷ opens) [] answer (can_be_taken one.outer one.taken active untaken)
        (else_read limit Enters place line state one opens answer (λ next. StepsTo limit Enters place Then next lines answer) number unended kind h))
