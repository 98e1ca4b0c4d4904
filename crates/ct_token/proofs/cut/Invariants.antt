use Rattle.std.proofs.Common.{length}
use Rattle.ct_token.proofs.Pieces.{ReadSoFar}
use Rattle.ct_token.proofs.cut.Given as goal

abbrev pub invariant-loop-first : goal.invariant-loop-first
invariant-loop-first l = ReadSoFar l.file l.bytes l.lines l.rest l.found.items l.spaced

abbrev pub decreases-loop-first : goal.decreases-loop-first
decreases-loop-first l = length l.rest
