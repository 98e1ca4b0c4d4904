use Rattle.std.proofs.Common.{◌++◌, take, sym, ap, ◌∙◌, arith, rules, length, ◌≡◌}
use Rattle.ct_token.specs.Lexing.{all_continue}
use Rattle.ct_token.proofs.Scans.{number_continues, number_stops, nothing_left}
use Rattle.ct_token.proofs.scan.number_len.Goals as goal

pub returns-then-not-continues_number-clause-continues :
    goal.returns-then-not-continues_number-clause-continues
returns-then-not-continues_number-clause-continues c =
    number_continues c.args.first c.loop-index.before (take c.loop-index.index c.args.text.now) c.loop-index.invariant

pub returns-then-not-continues_number-clause-longest :
    goal.returns-then-not-continues_number-clause-longest
returns-then-not-continues_number-clause-longest c =
    number_stops c.args.first c.loop-index.before c.args.text.now c.loop-index.index c.loop-index.invariant (search (rules, c.continues_number.ensures, c.if-not-continues_number.ensures, c.if-not-continues_number.true))

pub returns-clause-continues : goal.returns-clause-continues
returns-clause-continues c =
    let text = c.args.text.now in
    let at_end : c.loop-index.index ≡ length text = omega arith in
    number_continues c.args.first c.loop-index.before (take (length text) text) (λ more. ap (λ n. all_continue c.args.first (take n text ++ more)) (sym at_end) ∙ c.loop-index.invariant more)

pub returns-clause-longest : goal.returns-clause-longest
returns-clause-longest c = λ more after e _. nothing_left c.args.text.now more after e
