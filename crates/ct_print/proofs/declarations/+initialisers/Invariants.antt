use Rattle.std.proofs.Common.{drop}
use Rattle.ct_syntax.specs.Lists.{initialisers_of}
use Rattle.ct_syntax.specs.Spelling.{spell_items, spell_more_items}
use Rattle.ct_print.proofs.Chain.{Continues}
use Rattle.ct_print.proofs.declarations.+initialisers.Given as goal

abbrev pub invariant-put_items-loop-item : goal.invariant-put_items-loop-item
invariant-put_items-loop-item l =
    Continues l.fn.into.items l.into.items
    (spell_more_items (initialisers_of (drop l.item-index l.others)))
    (spell_items (initialisers_of l.fn.items))
