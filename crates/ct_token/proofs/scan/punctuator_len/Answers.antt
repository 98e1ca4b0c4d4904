use Rattle.std.proofs.Common.{arith}
use Rattle.ct_token.proofs.Marks.{best_some, best_none}
use Rattle.ct_token.proofs.scan.punctuator_len.Goals as goal

pub returns-clause-found : goal.returns-clause-found
returns-clause-found c =
    best_some c.args.first c.args.rest.now c.loop-count.count c.loop-count.longest c.loop-count.invariant (omega (arith, c.min-count-end.ensures))

pub returns-clause-none : goal.returns-clause-none
returns-clause-none c =
    best_none c.args.first c.args.rest.now c.loop-count.count c.loop-count.longest c.loop-count.invariant (omega (arith, c.min-count-end.ensures))
