use Rattle.std.proofs.Common.{◌≡◌}
use Rattle.ct_core.specs.Access.{string_at}
use Rattle.ct_meaning.proofs.Strings.{string_onto}
use Rattle.ct_meaning.proofs.phases.string_at.Given as goal

-- what was read, and the string from here on
abbrev pub invariant-loop-offset : goal.invariant-loop-offset
invariant-loop-offset l = string_at l.at l.memory ≡ string_onto l.text.items (string_at (record l.at { offset = l.offset }) l.memory)
