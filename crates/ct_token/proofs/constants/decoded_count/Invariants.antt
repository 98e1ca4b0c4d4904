use Rattle.std.proofs.Common.{length}
use Rattle.ct_token.proofs.Counting.{CountedSoFar}
use Rattle.ct_token.proofs.constants.decoded_count.Given as goal

abbrev pub invariant-loop-rest : goal.invariant-loop-rest
invariant-loop-rest l = CountedSoFar l.quote l.inside l.rest l.count

abbrev pub decreases-loop-rest : goal.decreases-loop-rest
decreases-loop-rest l = length l.rest
