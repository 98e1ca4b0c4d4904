use Rattle.std.proofs.Common.{arith, ◌∙◌}
use Rattle.std.proofs.lemmas.List.{nil_from_length}
use Rattle.ct_token.proofs.Decoding.{empty_constant}
use Rattle.ct_token.proofs.constants.character_count.Goals as goal

pub returns-then-count-eq0 : goal.returns-then-count-eq0
returns-then-count-eq0 c =
    let spelled = c.in_ok-count.ensures in
    empty_constant c.args.text.now c.in_ok-quote.quote c.in_ok-quote.inside.now spelled.0 c.in_ok-quote.ensures.1 spelled.1
    (omega arith)
    (nil_from_length spelled.0 (spelled.2 ∙ c.if-count-eq0.true))
