use Rattle.std.proofs.Common.{◌≡◌, ◌++◌, length}
use Rattle.ct_token.specs.Lines.{source_characters}
use Rattle.ct_token.proofs.lines.source_characters.Given as goal

abbrev pub invariant-loop-byte : goal.invariant-loop-byte
invariant-loop-byte l = l.characters.items ++ source_characters l.rest ≡ source_characters l.text

abbrev pub decreases-loop-byte : goal.decreases-loop-byte
decreases-loop-byte l = length l.rest
