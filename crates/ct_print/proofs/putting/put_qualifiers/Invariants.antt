use Rattle.std.proofs.Common.{drop}
use Rattle.ct_syntax.specs.Spelling.{spell_qualifiers}
use Rattle.ct_print.proofs.Chain.{Continues}
use Rattle.ct_print.proofs.putting.put_qualifiers.Given as goal

abbrev pub invariant-loop-qualifier : goal.invariant-loop-qualifier
invariant-loop-qualifier l = Continues l.fn.into.items l.into.items (spell_qualifiers (drop l.qualifier-index l.qualifiers)) (spell_qualifiers l.qualifiers)
