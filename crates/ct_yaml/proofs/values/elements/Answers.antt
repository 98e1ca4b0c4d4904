use Rattle.std.proofs.Common.{◌≡◌, ◌+◌, drop, Some, false, sym, ap, ◌∙◌, arith}
use Rattle.ct_yaml.specs.Reading.{element_at, elements_at, nodes_of, onto}
use Rattle.ct_yaml.proofs.Onto.{onto_nodes, elements_more}
use Rattle.ct_yaml.proofs.values.elements.Goals as goal

-- one more scalar is read
pub loop-preserved : goal.loop-preserved
loop-preserved c =
    let text = c.in_ok-text.text in
    let more = c.in_ok-text.more.now in
    let found : element_at c.loop.rest.now ≡ Some (text, false, more) = c.in_ok-text.ensures ∙ ap (λ is_last. Some (text, is_last, more)) c.if-is_last.false in
    ap (λ items. onto items (nodes_of (elements_at (drop (c.loop.index + 1) c.args.bytes.now) more))) c.in_ok-push.ensures.ok
    ∙ onto_nodes c.loop.items text (elements_at (drop (c.loop.index + 1) c.args.bytes.now) more)
    ∙ ap (λ found. onto c.loop.items (nodes_of found)) (sym (elements_more c.loop.index c.args.bytes.now c.loop.rest.now text more (omega arith) found))
    ∙ c.loop.invariant
