use Rattle.std.proofs.Common.{◌≡◌, ◌-◌, ℕ, List, length, drop, sym, subst, ◌∙◌, refl, arith, rules, length-drop}
use Rattle.std.specs.Prelude.{MatchOption}
use Rattle.std.proofs.lemmas.List.{take_all, nil_from_length}
use Rattle.ct_token.specs.Constants.{SpellsBytes}
use Rattle.ct_token.proofs.Decoding.{not_spelled}
use Rattle.ct_token.proofs.Counting.{one_more_counted, all_counted}
use Rattle.ct_token.proofs.constants.decoded_count.Goals as goal

pub returns-in_err-element : goal.returns-in_err-element
returns-in_err-element c =
    let quote = c.args.quote in
    let inside = c.args.inside.now in
    subst (λ o. MatchOption o ((bytes : List ℕ) → SpellsBytes quote inside bytes → ⊥) (λ count. (bytes : List ℕ) × SpellsBytes quote inside bytes × (length bytes ≡ count)))
    (sym c.from_residual.ensures)
    (not_spelled quote inside c.loop-rest.rest.now c.loop-rest.invariant.found c.loop-rest.invariant.spelled
    (λ e. absurd (search (rules, e, c.is_empty.ensures, c.loop-rest-test.true))) (sym c.element_of.ensures.element ∙ c.in_err-element.was))

pub loop-rest-preserved : goal.loop-rest-preserved
loop-rest-preserved c =
    let rest = c.loop-rest.rest.now in
    let taken = c.in_ok-element.element.count in
    one_more_counted c.args.quote c.args.inside.now rest _ c.loop-rest.count _ c.in_ok-element.element.byte taken c.loop-rest.invariant
    (sym c.element_of.ensures.element ∙ c.in_ok-element.was)
    c.in_ok-element.ensures.within.0 c.in_ok-element.ensures.within.1
    (take_all (length rest - taken) (drop taken rest) (omega (arith, length-drop taken rest)))
    refl

pub returns : goal.returns
returns c =
    all_counted c.args.quote c.args.inside.now c.loop-rest.rest.now c.loop-rest.count c.loop-rest.invariant
    (nil_from_length c.loop-rest.rest.now (search (rules, c.is_empty.ensures, c.loop-rest-test.false)))
