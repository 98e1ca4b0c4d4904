use Rattle.std.proofs.Common.{◌≡◌, length}
use Rattle.ct_yaml.specs.Reading as reading
use Rattle.ct_yaml.proofs.scalars.double.Given as goal

abbrev pub invariant-loop-byte : goal.invariant-loop-byte
invariant-loop-byte l = reading.onto l.text (reading.double_at l.rest) ≡ reading.double_at l.fn.bytes

abbrev pub decreases-loop-byte : goal.decreases-loop-byte
decreases-loop-byte l = length l.rest
