use Rattle.std.proofs.Common.{◌++◌, ◌∙◌, ap, sym, map}
use Rattle.ct_syntax.specs.UnitViews.{view_init_declarator}
use Rattle.ct_syntax.specs.Spelling.{spell_more_init_declarators}
use Rattle.ct_print.specs.Text.{text_of}
use Rattle.ct_print.proofs.Chain.{next_item}
use Rattle.ct_print.proofs.declarations.put_init_declarators.Goals as goal

pub loop-declarator-preserved : goal.loop-declarator-preserved
loop-declarator-preserved c rest =
    c.in_ok-put_init_declarator-2.ensures _
    ∙ c.in_ok-put_mark.ensures _
    ∙ ap (λ ds. c.loop-declarator.into.items ++ text_of (spell_more_init_declarators (map view_init_declarator ds) rest)) (sym (next_item _ _ _ c.loop-declarator-test.true c.declarator-item.is))
    ∙ c.loop-declarator.invariant rest
