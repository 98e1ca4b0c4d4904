use Rattle.std.proofs.Common.{◌∙◌, arith}
use Rattle.ct_top.proofs.Taken.{took_more, took_front}
use Rattle.ct_top.proofs.writing.write_all.Goals as goal

pub loop-at-preserved : goal.loop-at-preserved
loop-at-preserved g c = (
  omega (arith, c.in-Ok.ensures.within),
  took_more _ _ _ c.args.text.now c.loop-at.at c.in-Ok.count c.loop-at.invariant.1 c.in-Ok.ensures.taken,
  c.in-Ok.ensures.same_faults ∙ c.loop-at.invariant.2,
)

pub returns-in-Err-clause-front : goal.returns-in-Err-clause-front
returns-in-Err-clause-front g c = took_front _ _ c.args.text.now c.loop-at.at (c.in-Err.ensures.nothing ∙ c.loop-at.invariant.1)
