-- A file that is read line by line has the answer of its outline, whether its conditionals are balanced or not.
use Rattle.std.proofs.Common.{◌≡◌, ℕ, zero, suc, Bool, List, [], ◌∷◌, ◌++◌, length, Option, Some, None, refl, sym, ap, ◌∙◌, subst}
use Rattle.std.specs.Prelude.{Result, Ok, Err}
use Rattle.ct_base.specs.declared.lexical.Token.{Token}
use Rattle.ct_directive.specs.declared.faults.PreFault.{PreFault}
use Rattle.ct_directive.specs.declared.faults.PreKind.TheVariants as pre
use Rattle.ct_directive.specs.declared.forms.Header.{Header}
use Rattle.ct_directive.specs.Lines.{directive_in}
use Rattle.ct_directive.specs.Groups.{line_of, Group, IsGroup, ends, IsOutline, whole, breaks, unended}
use Rattle.ct_directive.proofs.Shapes.{Shape, behind, goes, run}
use Rattle.ct_directive.proofs.Broken.{breaks_run, unended_run}
use Rattle.ct_preproc.specs.declared.state.State.{State}
use Rattle.ct_preproc.specs.declared.state.Place.{Place}
use Rattle.ct_preproc.specs.declared.state.Conditional.{Conditional}
use Rattle.ct_preproc.specs.declared.reading.Reading.{Reading}
use Rattle.ct_preproc.specs.Reading.{Ends, Goes, DoesThen, fault_at}
use Rattle.ct_preproc.specs.Files.{ReadsGroup, begins, closes}
use Rattle.ct_preproc.specs.Steps.{Closes, StepsLine, StepsLines, begun, closed, step_to}
use Rattle.ct_preproc.proofs.EmptyText.{ends_nothing, reads_no_text}
use Rattle.ct_preproc.proofs.Grouping.{Flushes, group_steps}
use Rattle.ct_preproc.proofs.StepsTo.{StepsTo, known}
use Rattle.ct_preproc.proofs.Tracking.{goes_by, goes_refused, shapes_count, shapes_of, steps_keep, steps_refused}

module _ (limit : ℕ) (Enters : Place → ℕ → Header → State → Result State PreFault → Type 0) (place : Place) where
  -- ---- lines, and what stands behind them

  -- the lines of a file are read, and then it ends
  lines_then_close : (reading : Reading) (lines : List (List Token)) (answer : Result State PreFault) → StepsLines limit Enters place reading lines answer
      → StepsTo limit Enters place (Closes place limit) reading lines answer
  lines_then_close reading [] answer steps = steps
  lines_then_close reading (line ∷ lines) answer steps = (
    steps.0,
    steps.1,
    goes_by steps.0 answer (λ next. StepsLines limit Enters place next lines answer) (λ next. StepsTo limit Enters place (Closes place limit) next lines answer)
        (λ next same. lines_then_close next lines answer) steps.2,
  )

  -- some lines are read, and then the others
  lines_apart : (Then : Reading → Result State PreFault → Type 0) (before after : List (List Token)) (reading : Reading) (answer : Result State PreFault)
      → StepsTo limit Enters place Then reading (before ++ after) answer
      → StepsTo limit Enters place (λ next found. StepsTo limit Enters place Then next after found) reading before answer
  lines_apart Then [] after reading answer steps = steps
  lines_apart Then (line ∷ before) after reading answer steps = (
    steps.0,
    steps.1,
    goes_by steps.0 answer (λ next. StepsTo limit Enters place Then next (before ++ after) answer)
        (λ next. StepsTo limit Enters place (λ last found. StepsTo limit Enters place Then last after found) next before answer)
        (λ next same. lines_apart Then before after next answer) steps.2,
  )

  -- and the other way round
  lines_joined : (Then : Reading → Result State PreFault → Type 0) (before after : List (List Token)) (reading : Reading) (answer : Result State PreFault)
      → StepsTo limit Enters place (λ next found. StepsTo limit Enters place Then next after found) reading before answer
      → StepsTo limit Enters place Then reading (before ++ after) answer
  lines_joined Then [] after reading answer steps = steps
  lines_joined Then (line ∷ before) after reading answer steps = (
    steps.0,
    steps.1,
    goes_by steps.0 answer (λ next. StepsTo limit Enters place (λ last found. StepsTo limit Enters place Then last after found) next before answer)
        (λ next. StepsTo limit Enters place Then next (before ++ after) answer)
        (λ next same. lines_joined Then before after next answer) steps.2,
  )

  -- Behind some lines those conditionals are open that the lines leave open.
  lines_leave : (Then Other : Reading → Result State PreFault → Type 0) (shapes : List Shape) (lines : List (List Token)) (reading : Reading) (answer : Result State PreFault)
      → run (shapes_of reading.opens) lines ≡ Some shapes
      → ((next : Reading) → shapes_of next.opens ≡ shapes → Then next answer → Other next answer)
      → StepsTo limit Enters place Then reading lines answer → StepsTo limit Enters place Other reading lines answer
  lines_leave Then Other shapes [] reading answer runs follows steps = follows reading (let same : shapes_of reading.opens ≡ shapes = cc in same) steps
  lines_leave Then Other shapes (line ∷ lines) reading answer runs follows steps = (
    steps.0,
    steps.1,
    goes_by steps.0 answer (λ next. StepsTo limit Enters place Then next lines answer) (λ next. StepsTo limit Enters place Other next lines answer)
        (λ next same. lines_leave Then Other shapes lines next answer
        (sym (ap (λ (there : Option (List Shape)). goes there (λ list. run list lines))
        (steps_keep limit Enters place reading next line (subst (λ (found : Result Reading PreFault). StepsLine limit Enters place reading line found) same steps.1))) ∙ runs)
        follows) steps.2,
  )

  -- ---- what a file ends in

  -- the text that stands before is expanded, and then this is the refusal
  abbrev Fails : PreFault → Reading → Result State PreFault → Type 0
  Fails fault reading answer = DoesThen (Ends place limit reading.state reading.text) answer (λ after. answer ≡ Err fault)

  -- the end of a file expands the text before it
  closes_flushes : Flushes limit Enters place (Closes place limit) []
  closes_flushes state opens text answer closes_ = (
    closes_.0,
    closes_.1,
    goes_by closes_.0 answer (λ after. answer ≡ closed place opens after) (λ after. Closes place limit (known after opens []) answer)
        (λ after same is. (Ok after, ends_nothing place limit after, is)) closes_.2,
  )

  -- and so does a refusal
  fails_flushes : (fault : PreFault) → Flushes limit Enters place (Fails fault) []
  fails_flushes fault state opens text answer fails = (
    fails.0,
    fails.1,
    goes_by fails.0 answer (λ after. answer ≡ Err fault) (λ after. Fails fault (known after opens []) answer)
        (λ after same is. (Ok after, ends_nothing place limit after, is)) fails.2,
  )

  -- a refusal comes behind so many lines `#endif` too as conditionals are open
  fails_behind_ends : (fault : PreFault) (count : ℕ) (state : State) (opens : List Conditional) (text : List Token) (answer : Result State PreFault)
      → length opens ≡ count → Fails fault (known state opens text) answer
      → StepsTo limit Enters place (Fails fault) (known state opens text) (ends count) answer
  fails_behind_ends fault zero state opens text answer same fails = fails
  fails_behind_ends fault (suc count) state [] text answer same fails = absurd cc
  fails_behind_ends fault (suc count) state (one ∷ others) text answer same fails =
      by_end fails.0 fails.1 fails.2 (λ after is. fails_behind_ends fault count after others [] answer (let fewer : length others ≡ count = cc in fewer) (Ok after, ends_nothing place limit after, is))
    where
      by_end : (found : Result State PreFault) → Ends place limit state text found → Goes found answer (λ after. answer ≡ Err fault)
          → ((after : State) → answer ≡ Err fault → StepsTo limit Enters place (Fails fault) (known after others []) (ends count) answer)
          → StepsTo limit Enters place (Fails fault) (known state (one ∷ others) text) (ends (suc count)) answer
      by_end (Ok after) ended is more =
          (Ok (known after others []), (Ok after, ended, (Ok (step_to others after), refl, (Ok after, refl, refl))), more after is)
      by_end (Err other) ended is more = (Err other, (Err other, ended, refl), is)

  -- ---- files that are not balanced

  -- at a line that breaks the open conditionals the file is refused
  fails_at_break : (after : List (List Token)) (line : List Token) (found : Token × List Token) (reading : Reading) (answer : Result State PreFault) → directive_in line ≡ Some found
      → behind (line_of line) (shapes_of reading.opens) ≡ None → StepsTo limit Enters place (Closes place limit) reading (line ∷ after) answer
      → Fails (fault_at place found.0.span.line pre.Unbalanced) reading answer
  fails_at_break after line found reading answer is broken steps =
      let refused = steps_refused limit Enters place reading line found steps.0 is steps.1 broken in
      (refused.0, refused.1, by_text refused.0 refused.2)
    where
      by_text : (ended : Result State PreFault) → Goes ended steps.0 (λ after. steps.0 ≡ Err (fault_at place found.0.span.line pre.Unbalanced))
          → Goes ended answer (λ after. answer ≡ Err (fault_at place found.0.span.line pre.Unbalanced))
      by_text (Ok state) is_refused =
          goes_refused steps.0 answer (λ next. StepsTo limit Enters place (Closes place limit) next after answer) (fault_at place found.0.span.line pre.Unbalanced) is_refused steps.2
      by_text (Err other) is_refused =
          goes_refused steps.0 answer (λ next. StepsTo limit Enters place (Closes place limit) next after answer) other is_refused steps.2

  -- at the end of a file in which a conditional is open it is refused, by the innermost one
  fails_at_end : (opens : List Conditional) (state : State) (text : List Token) (number : ℕ) (last : Bool) (shapes : List Shape) (answer : Result State PreFault)
      → shapes_of opens ≡ record { number = number; last = last } ∷ shapes → Closes place limit (known state opens text) answer
      → Fails (fault_at place number pre.Unbalanced) (known state opens text) answer
  fails_at_end [] state text number last shapes answer same closes_ = absurd cc
  fails_at_end (one ∷ others) state text number last shapes answer same closes_ = (
    closes_.0,
    closes_.1,
    goes_by closes_.0 answer (λ after. answer ≡ closed place (one ∷ others) after) (λ after. answer ≡ Err (fault_at place number pre.Unbalanced))
        (λ after is_ok is. is ∙ ap (λ (n : ℕ). Err (fault_at place n pre.Unbalanced)) (ap (λ (list : List Shape). first_number number list) same)) closes_.2,
  )
    where
      first_number : ℕ → List Shape → ℕ
      first_number number [] = number
      first_number number (shape ∷ others) = shape.number

  -- ---- the answer of an outline

  by_whole : (state : State) (lines : List (List Token)) (group : Group) (answer : Result State PreFault) → IsGroup lines group []
      → StepsTo limit Enters place (Closes place limit) (begun place state) lines answer
      → DoesThen (ReadsGroup limit Enters place (begins place state) [] group) answer (λ after. answer ≡ closes place None after)
  by_whole state lines group answer is steps =
      let reads = group_steps limit Enters place (Closes place limit) is closes_flushes (begins place state) [] [] answer refl steps in (
        reads.0,
        reads.1,
        goes_by reads.0 answer (λ after. Closes place limit (known after [] []) answer) (λ after. answer ≡ closes place None after)
            (λ after same. reads_no_text place limit after answer (λ last. answer ≡ closed place [] last)) reads.2,
      )

  -- where the lines before are a group with their open conditionals closed, and the file is refused behind them
  by_ends : (state : State) (before : List (List Token)) (group : Group) (number count : ℕ) (shapes : List Shape) (Then : Reading → Result State PreFault → Type 0) (answer : Result State PreFault)
      → IsGroup (before ++ ends count) group [] → run [] before ≡ Some shapes → length shapes ≡ count
      → ((next : Reading) → shapes_of next.opens ≡ shapes → Then next answer → Fails (fault_at place number pre.Unbalanced) next answer)
      → StepsTo limit Enters place Then (begun place state) before answer
      → DoesThen (ReadsGroup limit Enters place (begins place state) [] group) answer (λ after. answer ≡ closes place (Some number) after)
  by_ends state before group number count shapes Then answer is runs counted fails steps =
      let fault : PreFault = fault_at place number pre.Unbalanced in
      let left = lines_leave Then (λ next found. StepsTo limit Enters place (Fails fault) next (ends count) found) shapes before (begun place state) answer runs
      (λ next same onward. fails_behind_ends fault count next.state next.opens next.text answer
      (sym (shapes_count next.opens) ∙ ap (λ (list : List Shape). length list) same ∙ counted) (fails next same onward)) steps in
      let reads = group_steps limit Enters place (Fails fault) is (fails_flushes fault) (begins place state) [] [] answer refl
      (lines_joined (Fails fault) before (ends count) (begun place state) answer left) in (
        reads.0,
        reads.1,
        goes_by reads.0 answer (λ after. Fails fault (known after [] []) answer) (λ after. answer ≡ closes place (Some number) after)
            (λ after same. reads_no_text place limit after answer (λ last. answer ≡ Err fault)) reads.2,
      )

  -- A file that is read line by line is read by its outline.
  pub by_outline : (state : State) (lines : List (List Token)) (group : Group) (broken : Option ℕ) (answer : Result State PreFault) → IsOutline lines group broken
      → StepsLines limit Enters place (begun place state) lines answer
      → DoesThen (ReadsGroup limit Enters place (begins place state) [] group) answer (λ after. answer ≡ closes place broken after)
  by_outline state lines group broken answer (whole is) steps =
      by_whole state lines group answer is (lines_then_close (begun place state) lines answer steps)
  by_outline state lines group broken answer (breaks before after line {found = found} count directive never is) steps =
      let there = breaks_run before line count group never is in
      by_ends state before group found.0.span.line count there.0 (λ next last. StepsTo limit Enters place (Closes place limit) next (line ∷ after) last) answer is there.1 there.3
      (λ next same onward. fails_at_break after line found next answer directive
      (ap (λ (list : List Shape). behind (line_of line) list) same ∙ there.2) onward)
      (lines_apart (Closes place limit) before (line ∷ after) (begun place state) answer (lines_then_close (begun place state) lines answer steps))
  by_outline state lines group broken answer (unended outer {inside = inside} {more = more} line {number = number} {name = name} {tokens = tokens} {inner = inner} {others = others} count opens is_inner are_others is) steps =
      let there = unended_run outer inside more line number name tokens inner others count group opens is_inner are_others is in
      by_ends state (outer ++ line ∷ inside) group number count (record { number = number; last = there.0 } ∷ there.1) (Closes place limit) answer is there.2 there.3
      (λ next same onward. fails_at_end next.opens next.state next.text number there.0 there.1 answer same onward)
      (lines_then_close (begun place state) (outer ++ line ∷ inside) answer steps)
