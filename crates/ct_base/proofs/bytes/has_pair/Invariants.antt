use Rattle.std.proofs.Common.{◌≡◌, length}
use Rattle.ct_base.specs.Bytes as spec
use Rattle.ct_base.proofs.bytes.has_pair.Given as goal

abbrev pub invariant-loop-byte : goal.invariant-loop-byte
invariant-loop-byte l = spec.has_pair l.first l.second l.rest ≡ spec.has_pair l.first l.second l.fn.text

abbrev pub decreases-loop-byte : goal.decreases-loop-byte
decreases-loop-byte l = length l.rest
