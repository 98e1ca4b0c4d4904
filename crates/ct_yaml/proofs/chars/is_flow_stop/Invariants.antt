use Rattle.std.proofs.Common.{◌≡◌, length}
use Rattle.ct_yaml.specs.Reading as reading
use Rattle.ct_yaml.proofs.chars.is_flow_stop.Given as goal

abbrev pub invariant-loop-byte : goal.invariant-loop-byte
invariant-loop-byte l = reading.is_flow_stop l.rest ≡ reading.is_flow_stop l.fn.bytes

abbrev pub decreases-loop-byte : goal.decreases-loop-byte
decreases-loop-byte l = length l.rest
