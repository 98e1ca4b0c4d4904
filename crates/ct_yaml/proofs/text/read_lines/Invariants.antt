use Rattle.std.proofs.Common.{◌≡◌, ◌+◌, length}
use Rattle.ct_yaml.specs.Run as spec
use Rattle.ct_yaml.specs.Text.{text_lines}
use Rattle.ct_yaml.proofs.text.read_lines.Given as goal

abbrev pub invariant-loop-line : goal.invariant-loop-line
invariant-loop-line l = record {
  read : spec.run l.count (spec.place_of l.reader) l.line-iterator ≡ spec.run_all (text_lines l.fn.bytes);
  count : l.count + length l.line-iterator ≡ length (text_lines l.fn.bytes);
}
