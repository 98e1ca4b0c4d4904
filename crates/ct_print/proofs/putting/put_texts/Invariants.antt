use Rattle.std.proofs.Common.{drop}
use Rattle.ct_syntax.specs.Spelling.{spell_texts}
use Rattle.ct_print.proofs.Chain.{Continues}
use Rattle.ct_print.proofs.putting.put_texts.Given as goal

abbrev pub invariant-loop-text : goal.invariant-loop-text
invariant-loop-text l = Continues l.fn.into.items l.into.items (spell_texts (drop l.text-index l.texts)) (spell_texts l.texts)
