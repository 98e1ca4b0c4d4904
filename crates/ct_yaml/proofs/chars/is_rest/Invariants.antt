use Rattle.std.proofs.Common.{◌≡◌, length}
use Rattle.ct_yaml.specs.Line as line
use Rattle.ct_yaml.proofs.chars.is_rest.Given as goal

abbrev pub invariant-loop-byte : goal.invariant-loop-byte
invariant-loop-byte l = line.is_rest l.spaced l.rest ≡ line.is_rest l.fn.after_space l.fn.bytes

abbrev pub decreases-loop-byte : goal.decreases-loop-byte
decreases-loop-byte l = length l.rest
