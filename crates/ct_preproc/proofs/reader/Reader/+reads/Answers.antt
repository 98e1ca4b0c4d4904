use Rattle.std.proofs.Common.{rules, arith, ◌≡◌, ℕ, ◌+◌, List, [], ◌∷◌, length, ap, sym, subst, ◌∙◌, Option, Some, None}
use Rattle.std.specs.Prelude.{Result, Ok, Err}
use Rattle.std.proofs.lemmas.Grind.{common_steps}
use Rattle.ct_base.specs.Answers.{OnAnswer}
use Rattle.ct_base.specs.declared.lexical.Token.{Token}
use Rattle.ct_macro_call.specs.declared.definition.Macro.{Macro}
use Rattle.ct_directive.specs.declared.faults.PreFault.{PreFault}
use Rattle.ct_directive.specs.declared.faults.PreKind.TheVariants as pre
use Rattle.ct_directive.specs.declared.search.Target.{Target}
use Rattle.ct_preproc.specs.declared.state.State.{State}
use Rattle.ct_preproc.specs.declared.state.Place.{Place}
use Rattle.ct_preproc.specs.Files as spec
use Rattle.ct_preproc.specs.Steps as steps
use Rattle.ct_directive.specs.Headers.{built_in_headers}
use Rattle.ct_directive.specs.Lines.{lines_of}
use Rattle.ct_preproc.specs.Reading.{Ends, IsLexed, fault_at, file_number, with_path}
use Rattle.ct_directive.specs.Search.{Means}
use Rattle.ct_preproc.proofs.ByGroups.{by_groups}
use Rattle.ct_preproc.proofs.Choices.{on_map, on_next, on_same}
use Rattle.ct_preproc.proofs.Nesting.{enters_limit, enters_missing, enters_some, on_found, reads_end, reads_on, reads_stopped}
use Rattle.ct_preproc.proofs.Stopping.{on_open, on_passed}
use Rattle.ct_preproc.proofs.reader.Reader.+reads.Goals as goal

pub enter-returns-in_default : goal.enter-returns-in_default
enter-returns-in_default g t c =
    let files = g.F.Finder.texts c.args.self.now.search.finder.now in
    let folders = c.args.self.now.search.folders.now in
    let heads = c.args.self.now.search.heads.now in
    let place = c.args.file.place.now in
    let none : c.in_ok-target.field-0 ≡ None = search rules in
    enters_missing files folders heads built_in_headers c.args.file.limit c.args.more place c.args.line c.args.header c.args.state c.fault.result
    (subst (λ (target : Option Target). Means files folders heads built_in_headers place.path c.args.header target) none c.in_ok-target.ensures) c.fault.ensures

pub enter-returns-in-None : goal.enter-returns-in-None
enter-returns-in-None g t c =
    let files = g.F.Finder.texts c.args.self.now.search.finder.now in
    let folders = c.args.self.now.search.folders.now in
    let heads = c.args.self.now.search.heads.now in
    let place = c.args.file.place.now in
    let means : Means files folders heads built_in_headers place.path c.args.header (Some c.in-Some.target) =
    subst (λ (target : Option Target). Means files folders heads built_in_headers place.path c.args.header target) c.in-Some.is c.in_ok-target.ensures in
    enters_limit files folders heads built_in_headers c.args.file.limit c.args.more place c.args.line c.args.header c.args.state c.in-Some.target c.fault-in-None.result
    c.in-None.ensures means c.fault-in-None.ensures

pub enter-returns-in-Some-checked_sub : goal.enter-returns-in-Some-checked_sub
enter-returns-in-Some-checked_sub g t c =
    let files = g.F.Finder.texts c.args.self.now.search.finder.now in
    let folders = c.args.self.now.search.folders.now in
    let heads = c.args.self.now.search.heads.now in
    let place = c.args.file.place.now in
    let one : c.in-Some-checked_sub.less + 1 ≡ c.args.more = omega arith in
    let means : Means files folders heads built_in_headers place.path c.args.header (Some c.in-Some.target) =
    subst (λ (target : Option Target). Means files folders heads built_in_headers place.path c.args.header target) c.in-Some.is c.in_ok-target.ensures in
    enters_some files folders heads built_in_headers c.args.file.limit c.in-Some-checked_sub.less c.args.more place c.args.line c.args.header c.args.state c.enter_target.result one
    (on_found (λ target. Means files folders heads built_in_headers place.path c.args.header target) c.in-Some.target c.enter_target.result
    (λ answer. answer ≡ Err (fault_at place c.args.line pre.MissingInclude))
    (λ answer target. spec.ReadsTarget c.args.file.limit (spec.Enters files folders heads built_in_headers c.args.file.limit c.in-Some-checked_sub.less) place c.args.line c.args.header c.args.state answer target)
    means c.enter_target.ensures)

pub inside-returns-in_err-state : goal.inside-returns-in_err-state
inside-returns-in_err-state g t c =
    let enters = spec.Enters (g.F.Finder.texts c.args.self.now.search.finder.now) c.args.self.now.search.folders.now c.args.self.now.search.heads.now built_in_headers c.args.file.limit c.args.more in
    let place = c.args.file.place.now in
    let inner : Place = record { path = c.args.target.path; depth = place.depth + 1; built_in = c.args.target.built_in } in
    let text : c.as_slice.result.now ≡ c.args.target.text = search rules in
    on_passed c.from_residual.result c.in_err-state.field-0.0 (spec.ReadsFile c.args.file.limit enters inner c.args.target.text c.args.state)
    (λ answer after. answer ≡ Ok (record after { macros = with_path place.path after.macros })) (search rules)
    (subst (λ (text : List ℕ). OnAnswer {T = State} {F = PreFault} (Err c.in_err-state.field-0.0) (spec.ReadsFile c.args.file.limit enters inner text c.args.state))
    text c.in_err-state.ensures)

pub inside-returns : goal.inside-returns
inside-returns g t c =
    let enters = spec.Enters (g.F.Finder.texts c.args.self.now.search.finder.now) c.args.self.now.search.folders.now c.args.self.now.search.heads.now built_in_headers c.args.file.limit c.args.more in
    let place = c.args.file.place.now in
    let inner : Place = record { path = c.args.target.path; depth = place.depth + 1; built_in = c.args.target.built_in } in
    let text : c.as_slice.result.now ≡ c.args.target.text = search rules in
    let macros : c.in_ok-state-2.field-0 ≡ with_path place.path c.in_ok-state.state.macros = search rules in (
      Ok c.in_ok-state.state,
      subst (λ (text : List ℕ). spec.ReadsFile c.args.file.limit enters inner text c.args.state (Ok c.in_ok-state.state)) text c.in_ok-state.ensures,
      ap (λ (macros : List Macro). Ok (record c.in_ok-state.state { macros = macros })) macros,
    )

pub follow-returns-in_err-state : goal.follow-returns-in_err-state
follow-returns-in_err-state g t c =
    let enters = spec.Enters (g.F.Finder.texts c.args.self.now.search.finder.now) c.args.self.now.search.folders.now c.args.self.now.search.heads.now built_in_headers c.args.file.limit c.args.more in
    on_passed c.from_residual.result c.in_err-state.field-0.0 (spec.Follows c.args.file.limit enters c.args.file.place.now c.args.line c.args.step.header c.args.step.state)
    (λ answer after. answer ≡ Ok (record { state = after; opens = c.args.step.opens; text = [] })) (search rules) c.in_err-state.ensures

pub follow-returns : goal.follow-returns
follow-returns g t c = (Ok c.in_ok-state.state, c.in_ok-state.ensures, first_of (search rules, cc, grind (arith, common_steps)))

pub lines-loop-line-preserved : goal.lines-loop-line-preserved
lines-loop-line-preserved g t c =
    let enters = spec.Enters (g.F.Finder.texts c.args.self.now.search.finder.now) c.args.self.now.search.folders.now c.args.self.now.search.heads.now built_in_headers c.args.file.limit c.args.more in
    let place = c.args.file.place.now in
    let next : c.loop-line.line-iterator.rest.items ≡ c.in-Some.line ∷ c.next.new.self.rest.items = search rules in
    reads_on c.args.file.limit enters place c.loop-line.reading c.in_ok-reading.reading c.in-Some.line c.next.new.self.rest.items
    (steps.StepsLines c.args.file.limit enters place c.args.reading c.args.lines.items)
    (subst (λ (lines : List (List Token)). (answer : Result State PreFault) → steps.StepsLines c.args.file.limit enters place c.loop-line.reading lines answer
    → steps.StepsLines c.args.file.limit enters place c.args.reading c.args.lines.items answer) next c.loop-line.invariant)
    c.in_ok-reading.ensures

pub lines-returns-in_err-reading : goal.lines-returns-in_err-reading
lines-returns-in_err-reading g t c =
    let enters = spec.Enters (g.F.Finder.texts c.args.self.now.search.finder.now) c.args.self.now.search.folders.now c.args.self.now.search.heads.now built_in_headers c.args.file.limit c.args.more in
    let place = c.args.file.place.now in
    let next : c.loop-line.line-iterator.rest.items ≡ c.in-Some.line ∷ c.next.new.self.rest.items = search rules in
    reads_stopped c.args.file.limit enters place c.from_residual.result c.loop-line.reading c.in-Some.line c.next.new.self.rest.items
    (steps.StepsLines c.args.file.limit enters place c.args.reading c.args.lines.items) c.in_err-reading.field-0.0
    (subst (λ (lines : List (List Token)). (answer : Result State PreFault) → steps.StepsLines c.args.file.limit enters place c.loop-line.reading lines answer
    → steps.StepsLines c.args.file.limit enters place c.args.reading c.args.lines.items answer) next c.loop-line.invariant)
    (search rules) c.in_err-reading.ensures

pub lines-returns : goal.lines-returns
lines-returns g t c =
    let enters = spec.Enters (g.F.Finder.texts c.args.self.now.search.finder.now) c.args.self.now.search.folders.now c.args.self.now.search.heads.now built_in_headers c.args.file.limit c.args.more in
    let place = c.args.file.place.now in
    let done : length c.loop-line.line-iterator.rest.items ≡ 0 = sym c.loop-line.line-iterator.rest.ok.0 ∙ c.in-None.ensures.steps.0 in
    reads_end c.args.file.limit enters place c.loop-line.reading c.loop-line.line-iterator.rest.items (steps.StepsLines c.args.file.limit enters place c.args.reading c.args.lines.items) c.closed.result
    c.loop-line.invariant done c.closed.ensures

pub read-returns-in_err-tokens : goal.read-returns-in_err-tokens
read-returns-in_err-tokens g t c =
    let enters = spec.Enters (g.F.Finder.texts c.args.self.now.search.finder.now) c.args.self.now.search.folders.now c.args.self.now.search.heads.now built_in_headers c.args.file.limit c.args.more in
    let place = c.args.file.place.now in
    on_open c.from_residual.result c.in_err-tokens.field-0.0 (IsLexed place place.built_in (file_number place.path c.args.state.files) c.args.text.now)
    (λ answer tokens. spec.ReadsLines c.args.file.limit enters place (spec.begins place c.args.state) (lines_of tokens) answer) (search rules) c.in_err-tokens.ensures.«open»

pub acted-returns : goal.acted-returns
acted-returns g t c =
    let enters = spec.Enters (g.F.Finder.texts c.args.self.now.search.finder.now) c.args.self.now.search.folders.now c.args.self.now.search.heads.now built_in_headers c.args.file.limit c.args.more in
    on_next (steps.Steps c.args.file.place.now c.args.file.limit c.args.line c.args.state c.args.opens c.args.words.now) c.in_ok-step.step c.follow.result
    (λ step answer. steps.FollowsTo c.args.file.limit enters c.args.file.place.now c.args.line step answer) c.in_ok-step.ensures c.follow.ensures

pub directive-returns : goal.directive-returns
directive-returns g t c =
    let enters = spec.Enters (g.F.Finder.texts c.args.self.now.search.finder.now) c.args.self.now.search.folders.now c.args.self.now.search.heads.now built_in_headers c.args.file.limit c.args.more in
    on_next (Ends c.args.file.place.now c.args.file.limit c.args.reading.state c.args.reading.text) c.in_ok-state.state c.acted.result
    (λ ended answer. steps.StepsThen c.args.file.limit enters c.args.file.place.now c.args.line c.args.reading.opens c.args.words.now ended answer) c.in_ok-state.ensures c.acted.ensures

pub read-returns : goal.read-returns
read-returns g t c =
    let enters = spec.Enters (g.F.Finder.texts c.args.self.now.search.finder.now) c.args.self.now.search.folders.now c.args.self.now.search.heads.now built_in_headers c.args.file.limit c.args.more in
    let place = c.args.file.place.now in
    let tokens = c.in_ok-tokens.tokens.items in
    let lines : c.in_ok-lines.lines.items ≡ lines_of tokens = search rules in
    let reading : c.in_ok-reading.reading ≡ steps.begun place c.args.state = search rules in
    on_next (IsLexed place place.built_in (file_number place.path c.args.state.files) c.args.text.now) tokens c.lines.result
    (λ tokens answer. spec.ReadsLines c.args.file.limit enters place (spec.begins place c.args.state) (lines_of tokens) answer) c.in_ok-tokens.ensures.tokens
    (on_map c.lines.result (steps.StepsLines c.args.file.limit enters place (steps.begun place c.args.state) (lines_of tokens))
    (spec.ReadsLines c.args.file.limit enters place (spec.begins place c.args.state) (lines_of tokens))
    (by_groups c.each_outline.ensures c.args.file.limit enters place c.args.state (lines_of tokens))
    (on_same c.lines.result (λ reading answer. steps.StepsLines c.args.file.limit enters place reading (lines_of tokens) answer)
    c.in_ok-reading.reading (steps.begun place c.args.state) reading
    (on_same c.lines.result (λ lines answer. steps.StepsLines c.args.file.limit enters place c.in_ok-reading.reading lines answer)
    c.in_ok-lines.lines.items (lines_of tokens) lines c.lines.ensures)))
