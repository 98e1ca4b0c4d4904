use Rattle.std.proofs.Common.{◌≡◌, length}
use Rattle.ct_yaml.specs.Reading as reading
use Rattle.ct_yaml.proofs.scalars.single.Given as goal

abbrev pub invariant-loop-byte : goal.invariant-loop-byte
invariant-loop-byte l = reading.onto l.text (reading.single_at l.rest) ≡ reading.single_at l.fn.bytes

abbrev pub decreases-loop-byte : goal.decreases-loop-byte
decreases-loop-byte l = length l.rest
