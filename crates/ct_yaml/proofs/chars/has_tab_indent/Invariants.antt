use Rattle.std.proofs.Common.{◌≡◌, length}
use Rattle.ct_yaml.specs.Line as line
use Rattle.ct_yaml.proofs.chars.has_tab_indent.Given as goal

abbrev pub invariant-loop-byte : goal.invariant-loop-byte
invariant-loop-byte l = line.has_tab_indent l.rest ≡ line.has_tab_indent l.fn.bytes

abbrev pub decreases-loop-byte : goal.decreases-loop-byte
decreases-loop-byte l = length l.rest
