use Rattle.std.proofs.Common.{length}
use Rattle.ct_token.proofs.Joining.{JoinedSoFar}
use Rattle.ct_token.proofs.lines.join_lines.Given as goal

abbrev pub invariant-loop-byte : goal.invariant-loop-byte
invariant-loop-byte l = JoinedSoFar l.text l.rest l.line l.bytes.items l.lines.items

abbrev pub decreases-loop-byte : goal.decreases-loop-byte
decreases-loop-byte l = length l.rest
