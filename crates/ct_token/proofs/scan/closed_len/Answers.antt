use Rattle.std.proofs.Common.{ap, ◌∙◌, ◌+◌, arith, rules}
use Rattle.std.proofs.lemmas.List.{drop_all}
use Rattle.ct_token.proofs.Comments.{closing_behind, so_much_further, closed_at, not_closed, closes_here}
use Rattle.ct_token.proofs.scan.closed_len.Goals as goal

pub returns-then-byte-eq47 : goal.returns-then-byte-eq47
returns-then-byte-eq47 c =
    let text = c.args.text.now in
    let index = c.loop-index.index in
    closed_at text (index + 1) (closes_here c.loop-index.before text index (omega arith) c.loop-index.invariant (search (rules, c.if-before-eq42.true)) (search (rules, c.if-byte-eq47.true)))

pub returns : goal.returns
returns c =
    let text = c.args.text.now in
    let index = c.loop-index.index in
    not_closed text (c.loop-index.invariant ∙ ap (λ l. so_much_further index (closing_behind c.loop-index.before l)) (drop_all index text (omega arith)))
