use Rattle.std.proofs.Common.{length}
use Rattle.ct_token.proofs.Decoding.{SpelledSoFar}
use Rattle.ct_token.proofs.constants.decoded.Given as goal

abbrev pub invariant-loop-rest : goal.invariant-loop-rest
invariant-loop-rest l = SpelledSoFar l.quote l.inside l.rest l.bytes.items

abbrev pub decreases-loop-rest : goal.decreases-loop-rest
decreases-loop-rest l = length l.rest
