use Rattle.std.proofs.Common.{drop, map}
use Rattle.ct_syntax.specs.UnitViews.{view_item}
use Rattle.ct_syntax.specs.Spelling.{spell_unit}
use Rattle.ct_print.proofs.Chain.{Continues}
use Rattle.ct_print.proofs.statements.put_items.Given as goal

abbrev pub invariant-loop-item : goal.invariant-loop-item
invariant-loop-item l =
    Continues l.fn.into.items l.into.items
    (spell_unit (map view_item (drop l.item-index l.items)))
    (spell_unit (map view_item l.fn.items))
