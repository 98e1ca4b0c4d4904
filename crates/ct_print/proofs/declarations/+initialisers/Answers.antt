use Rattle.std.proofs.Common.{◌∷◌, ◌++◌, ◌∙◌, ap, sym}
use Rattle.ct_syntax.specs.declared.words.Mark.TheVariants.{CloseBrace}
use Rattle.ct_syntax.specs.Words.{Sign}
use Rattle.ct_syntax.specs.Lists.{initialisers_of}
use Rattle.ct_syntax.specs.UnitViews.{view_initialiser}
use Rattle.ct_syntax.specs.Spelling.{spell_comma, spell_initialiser, spell_items, spell_more_items}
use Rattle.ct_syntax.proofs.UnitViews.{view_List}
use Rattle.ct_print.specs.Text.{text_of}
use Rattle.ct_print.proofs.Chain.{spelled_as, next_item}
use Rattle.ct_print.proofs.declarations.+initialisers.Goals as goal

pub put_initialiser-returns-in_ok-put_mark-in-List-2 : goal.put_initialiser-returns-in_ok-put_mark-in-List-2
put_initialiser-returns-in_ok-put_mark-in-List-2 t c rest =
    let behind = spell_comma c.in-List.comma (Sign CloseBrace ∷ rest) in
    let h1 = c.in_ok-put_mark-in-List-2.ensures rest in
    let h2 = c.in_ok-put_comma-in-List.ensures (Sign CloseBrace ∷ rest) in
    let h3 = c.in_ok-put_items-in-List.ensures behind in
    let h4 = c.in_ok-put_mark-in-List.ensures (spell_items (initialisers_of c.in-List.items.items) behind) in
    spelled_as (λ v. spell_initialiser (view_initialiser v) rest) _ _ c.in-List.is _ _ rest
    (spelled_as (λ v. spell_initialiser v rest) _ _ (view_List c.in-List.field-0 c.in-List.items c.in-List.comma) _ _ rest cc)

pub put_items-loop-item-preserved : goal.put_items-loop-item-preserved
put_items-loop-item-preserved t c rest =
    c.in_ok-put_item-2.ensures _
    ∙ c.in_ok-put_mark.ensures _
    ∙ ap (λ is. c.loop-item.into.items ++ text_of (spell_more_items (initialisers_of is) rest)) (sym (next_item _ _ _ c.loop-item-test.true c.item-item.is))
    ∙ c.loop-item.invariant rest
