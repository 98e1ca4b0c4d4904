use Rattle.std.proofs.Common.{◌≡◌, ◌+◌, length, false}
use Rattle.ct_yaml.specs.Reading as reading
use Rattle.ct_yaml.proofs.lines.all_marks.Given as goal

abbrev pub invariant-loop-byte : goal.invariant-loop-byte
invariant-loop-byte l = record {
  read : reading.after_marks l.marks.items (reading.line_from l.spaced l.column l.rest) ≡ reading.line_from false 0 l.fn.line;
  within : l.column + length l.rest ≡ length l.fn.line;
}

abbrev pub decreases-loop-byte : goal.decreases-loop-byte
decreases-loop-byte l = length l.rest
