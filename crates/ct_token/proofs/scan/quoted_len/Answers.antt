use Rattle.std.proofs.Common.{◌≡◌, ◌∙◌, false, drop, ap, arith, rules}
use Rattle.std.proofs.lemmas.List.{drop_all}
use Rattle.ct_token.proofs.Inside.{closing, shifted, closing_found, never_closed}
use Rattle.ct_token.proofs.Scans.{closed_here, stopped_here, nothing_closes}
use Rattle.ct_token.proofs.scan.quoted_len.Goals as goal

pub returns-then-not-escaped : goal.returns-then-not-escaped
returns-then-not-escaped c =
    let text = c.args.text.now in
    let index = c.loop-index.index in
    let bare : c.loop-index.escaped ≡ false = search (rules, c.if-not-escaped.true) in
    closing_found false c.args.quote text index
    (closed_here c.args.quote text index (omega arith)
    (c.loop-index.invariant ∙ ap (λ b. shifted index (closing b c.args.quote (drop index text))) bare)
    (search (rules, c.if-byte-quote.true)))

pub returns-then-byte-eq10 : goal.returns-then-byte-eq10
returns-then-byte-eq10 c =
    never_closed c.args.quote c.args.text.now c.requires
    (stopped_here c.loop-index.escaped c.args.quote c.args.text.now c.loop-index.index c.requires (omega arith) c.loop-index.invariant (search (rules, c.if-byte-eq10.true)))

pub returns : goal.returns
returns c =
    let text = c.args.text.now in
    let index = c.loop-index.index in
    never_closed c.args.quote text c.requires
    (c.loop-index.invariant ∙ ap (λ l. shifted index (closing c.loop-index.escaped c.args.quote l)) (drop_all index text (omega arith)) ∙ nothing_closes c.loop-index.escaped c.args.quote index)
