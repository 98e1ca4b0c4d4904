use Rattle.std.proofs.Common.{◌++◌, [], ap, ◌∙◌, map}
use Rattle.ct_syntax.specs.Spelling.{spell_unit}
use Rattle.ct_syntax.specs.UnitViews.{view_item, view_tree}
use Rattle.ct_print.specs.Text.{text_of}
use Rattle.ct_print.proofs.Chain.{appended_all}
use Rattle.ct_print.proofs.printed_text.Goals as goal

pub returns : goal.returns
returns c =
    appended_all _ _ _ c.in_ok-put_items.ensures
    ∙ ap (λ xs. c.new-text.result.items ++ text_of (spell_unit (map view_item xs) [])) c.deref.ensures.value
    ∙ ap (λ s. s ++ text_of (spell_unit (view_tree c.args.tree.now) [])) c.new-text.ensures.items
