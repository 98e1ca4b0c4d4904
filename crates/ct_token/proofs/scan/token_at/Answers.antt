use Rattle.std.proofs.Common.{rules, [], refl, get_or}
use Rattle.ct_token.proofs.Longest.{longest_number, longest_mark, other_byte, longest_other}
use Rattle.ct_token.proofs.scan.token_at.Goals as goal

pub returns-then-begins_number-clause-longest : goal.returns-then-begins_number-clause-longest
returns-then-begins_number-clause-longest c =
    longest_number c.args.first c.args.rest.now c.number_len.result (search (rules, c.is_nondigit.ensures, c.if-is_nondigit.false)) (search (rules, c.begins_number.ensures, c.if-begins_number.true)) c.number_len.ensures.continues c.number_len.ensures.longest

pub returns-in-Some-clause-longest : goal.returns-in-Some-clause-longest
returns-in-Some-clause-longest c = c.in-Some.ensures.found [] refl

pub returns-in-Some-punctuator_len-clause-longest :
    goal.returns-in-Some-punctuator_len-clause-longest
returns-in-Some-punctuator_len-clause-longest c =
    let found = c.in-Some-punctuator_len.ensures.found in
    longest_mark c.args.first c.args.rest.now c.in-Some-punctuator_len.count
    (search (rules, c.is_nondigit.ensures, c.if-is_nondigit.false))
    (search (rules, c.begins_number.ensures, c.if-begins_number.false))
    (λ more after. c.in_default.ensures.none [] more after refl)
    found.1 found.2

pub returns-in_default-punctuator_len-clause-longest :
    goal.returns-in_default-punctuator_len-clause-longest
returns-in_default-punctuator_len-clause-longest c =
    let unmarked = c.in_default-punctuator_len.ensures.none in
    longest_other c.args.first c.args.rest.now
    (other_byte c.args.first (get_or c.args.rest.now 0 0) c.requires (search (rules, c.is_nondigit.ensures, c.if-is_nondigit.false)) (search (rules, c.begins_number.ensures, c.if-begins_number.false)) (search (rules, c.if-first-eq10.false)) (unmarked [] c.args.rest.now refl))
    (search (rules, c.is_nondigit.ensures, c.if-is_nondigit.false))
    (search (rules, c.begins_number.ensures, c.if-begins_number.false))
    (λ more after. c.in_default.ensures.none [] more after refl)
    unmarked
