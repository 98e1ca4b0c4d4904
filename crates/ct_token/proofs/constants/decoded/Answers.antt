use Rattle.std.proofs.Common.{◌-◌, length, drop, is_ok, ap, sym, ◌∙◌, arith, rules, length-drop}
use Rattle.std.proofs.ResultArms.{chosen}
use Rattle.std.proofs.lemmas.List.{take_all, nil_from_length}
use Rattle.ct_token.proofs.Decoding.{one_more, all_spelled, not_spelled}
use Rattle.ct_token.proofs.constants.decoded.Goals as goal

pub returns-in_default : goal.returns-in_default
returns-in_default c =
    not_spelled c.args.quote c.args.inside.now c.loop-rest.rest.now c.loop-rest.bytes.items c.loop-rest.invariant
    (λ e. absurd (search (rules, e, c.is_empty.ensures, c.loop-rest-test.true))) (sym c.element_of.ensures.element ∙ c.in_default.is)

pub loop-rest-preserved : goal.loop-rest-preserved
loop-rest-preserved c =
    let rest = c.loop-rest.rest.now in
    let count = c.in-Some.element.count in
    one_more c.args.quote c.args.inside.now rest c.loop-rest.bytes.items _ c.push.new.self.items c.in-Some.element.byte count c.loop-rest.invariant
    (sym c.element_of.ensures.element ∙ c.in-Some.is)
    (take_all (length rest - count) (drop count rest) (omega (arith, length-drop count rest)))
    (chosen _ _ _ _ c.push.ensures.items (ap is_ok c.in_ok-push.was))

pub returns : goal.returns
returns c =
    all_spelled c.args.quote c.args.inside.now c.loop-rest.rest.now c.loop-rest.bytes.items c.loop-rest.invariant
    (nil_from_length c.loop-rest.rest.now (search (rules, c.is_empty.ensures, c.loop-rest-test.false)))
