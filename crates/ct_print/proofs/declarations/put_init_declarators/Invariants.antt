use Rattle.std.proofs.Common.{drop, map}
use Rattle.ct_syntax.specs.UnitViews.{view_init_declarator}
use Rattle.ct_syntax.specs.Spelling.{spell_init_declarators, spell_more_init_declarators}
use Rattle.ct_print.proofs.Chain.{Continues}
use Rattle.ct_print.proofs.declarations.put_init_declarators.Given as goal

abbrev pub invariant-loop-declarator : goal.invariant-loop-declarator
invariant-loop-declarator l =
    Continues l.fn.into.items l.into.items
    (spell_more_init_declarators (map view_init_declarator (drop l.declarator-index l.others)))
    (spell_init_declarators (map view_init_declarator l.fn.declarators))
