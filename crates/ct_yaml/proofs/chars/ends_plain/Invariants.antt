use Rattle.std.proofs.Common.{◌≡◌, length}
use Rattle.ct_yaml.specs.Line as line
use Rattle.ct_yaml.proofs.chars.ends_plain.Given as goal

abbrev pub invariant-loop-byte : goal.invariant-loop-byte
invariant-loop-byte l = line.ends_plain l.rest ≡ line.ends_plain l.fn.text

abbrev pub decreases-loop-byte : goal.decreases-loop-byte
decreases-loop-byte l = length l.rest
