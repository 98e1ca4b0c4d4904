use Rattle.std.proofs.Common.{arith, rules}
use Rattle.ct_outside.specs.Matching.{FitsByte, is_star}
use Rattle.ct_outside.proofs.MatchingLemmas.{fits_none, fits_more}
use Rattle.ct_outside.proofs.matching.skip_bytes.Goals as goal

pub loop-part-init : goal.loop-part-init
loop-part-init c = (fits_none is_star FitsByte c.args.pattern.now c.args.name.now, omega arith, omega arith)

pub loop-part-preserved : goal.loop-part-preserved
loop-part-preserved c =
    let fit = c.if-not-fits.ensures.0 (search rules) in (
      fits_more is_star FitsByte c.args.pattern.now c.args.name.now c.loop-part.parts.now c.loop-part.bytes.now c.in-Some.part.now c.in-Some.more_parts.now
          c.in-Some-split_first.byte.now c.in-Some-split_first.more_bytes.now c.loop-part.invariant.0 c.in-Some.ensures.cases.0 c.in-Some-split_first.ensures.cases.0 fit.0 fit.1,
      omega (arith, c.in-Some.ensures.cases.1, c.loop-part.invariant.1),
      omega (arith, c.in-Some-split_first.ensures.cases.1, c.loop-part.invariant.2),
    )
