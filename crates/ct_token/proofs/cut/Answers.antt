use Rattle.std.proofs.Common.{◌≡◌, ◌-◌, ◌++◌, length, take, drop, is_ok, refl, sym, ap, ◌∙◌, arith, length-drop}
use Rattle.std.proofs.ResultArms.{chosen}
use Rattle.std.proofs.lemmas.List.{take_all}
use Rattle.ct_token.proofs.Pieces.{read_space, read_token, read_open, not_more, word_at}
use Rattle.ct_token.proofs.cut.Goals as goal
use Rattle.ct_token.proofs.cut.Goals.{After-push}

pub overflow_sub-line : goal.overflow_sub-line
overflow_sub-line c =
    not_more c.args.file c.args.bytes.now c.args.lines.now c.loop-first.rest.now c.loop-first.found.items c.loop-first.spaced c.loop-first.invariant

pub bounds-lines-bytes : goal.bounds-lines-bytes
bounds-lines-bytes c =
    let within = not_more c.args.file c.args.bytes.now c.args.lines.now c.loop-first.rest.now c.loop-first.found.items c.loop-first.spaced c.loop-first.invariant in
    omega (arith, within, c.requires, ap length c.in-Some.ensures.cases.0)

pub loop-first-preserved-in-Space : goal.loop-first-preserved-in-Space
loop-first-preserved-in-Space c =
    let more = c.in-Some.more.now in
    let count = c.in-Space.count in
    read_space c.args.file c.args.bytes.now c.args.lines.now c.loop-first.rest.now c.loop-first.found.items c.loop-first.spaced c.in-Some.first.now count more (take (length more - count) (drop count more))
    c.loop-first.invariant c.in-Some.ensures.cases.0 c.in-Space.ensures
    (take_all (length more - count) (drop count more) (omega (arith, length-drop count more)))

pub returns-in-Open-clause-open : goal.returns-in-Open-clause-open
returns-in-Open-clause-open c =
    read_open c.args.file c.args.bytes.now c.args.lines.now c.loop-first.rest.now c.loop-first.found.items c.loop-first.spaced c.in-Some.first.now c.in-Some.more.now _
    c.loop-first.invariant c.in-Some.ensures.cases.0 c.in-Open.ensures refl

pub loop-first-preserved : goal.loop-first-preserved
loop-first-preserved c =
    let rest = c.loop-first.rest.now in
    let after = c.split_at.result.1.now in
    let text = c.in_ok-text-in-Token.text in
    let text_is : text ≡ c.split_at.result.0.now = c.in_ok-text-in-Token.ensures in
    read_token c.args.file c.args.bytes.now c.args.lines.now rest c.loop-first.found.items c.loop-first.spaced c.in-Token.kind text after _ c.push.new.self.items
    c.loop-first.invariant
    (c.split_at.ensures.by_index.0 ∙ ap (λ l. l ++ after) (sym text_is))
    (word_at c.in-Token.kind c.in-Some.first.now c.in-Token.count c.in-Some.more.now rest text after c.in-Some.ensures.cases.0 (text_is ∙ c.split_at.ensures.front) c.split_at.ensures.back c.in-Token.ensures)
    refl
    (chosen _ _ _ _ c.push.ensures.items (ap is_ok c.in_ok-push-in-Token.was))
