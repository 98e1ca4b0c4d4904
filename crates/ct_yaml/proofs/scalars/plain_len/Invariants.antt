use Rattle.std.proofs.Common.{◌≡◌, ◌+◌, length, true, false}
use Rattle.ct_yaml.specs.Line as line
use Rattle.ct_yaml.specs.Reading as reading
use Rattle.ct_yaml.proofs.scalars.plain_len.Given as goal

abbrev pub invariant-loop-byte : goal.invariant-loop-byte
invariant-loop-byte l = record {
  read : l.len + reading.plain_len l.spaced l.rest ≡ reading.plain_len false l.fn.bytes;
  within : l.len + length l.rest ≡ length l.fn.bytes;
  goes_on : l.goes_on ≡ true → line.is_rest l.spaced l.rest ≡ false;
}

abbrev pub decreases-loop-byte : goal.decreases-loop-byte
decreases-loop-byte l = length l.rest
