use Rattle.std.proofs.Common.{◌∙◌, ◌∷◌, length, sym, ap, arith, rules}
use Rattle.std.proofs.lemmas.List.Sums.{prefix_len-le-length}
use Rattle.ct_token.proofs.Fronting.{goes_on_line, block_front, open_front, line_front}
use Rattle.ct_token.proofs.scan.comment_at.Goals as goal

pub overflow_add-result-in-47 : goal.overflow_add-result-in-47
overflow_add-result-in-47 c =
    omega (arith, c.line_len.ensures, prefix_len-le-length goes_on_line c.in_ok-second.inside.now, ap length c.in_ok-second.ensures.cases.0)

pub returns-in-Some-clause-found : goal.returns-in-Some-clause-found
returns-in-Some-clause-found c =
    let inside = c.in_ok-second.inside.now in
    block_front c.args.first c.args.rest.now inside c.in-Some.count (search (rules, c.if-first-ne47.false))
    (sym (c.in_ok-second.ensures.cases.0 ∙ ap (λ b. b ∷ inside) c.in-42.is)) c.in-Some.ensures

pub returns-in-None-clause-found : goal.returns-in-None-clause-found
returns-in-None-clause-found c =
    let inside = c.in_ok-second.inside.now in
    open_front c.args.first c.args.rest.now inside (search (rules, c.if-first-ne47.false))
    (sym (c.in_ok-second.ensures.cases.0 ∙ ap (λ b. b ∷ inside) c.in-42.is)) c.in-None.ensures

pub returns-in-47-clause-found : goal.returns-in-47-clause-found
returns-in-47-clause-found c =
    let inside = c.in_ok-second.inside.now in
    line_front c.args.first c.args.rest.now inside c.line_len.result (search (rules, c.if-first-ne47.false))
    (sym (c.in_ok-second.ensures.cases.0 ∙ ap (λ b. b ∷ inside) c.in-47.is)) (sym c.line_len.ensures)
