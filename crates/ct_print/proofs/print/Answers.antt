use Rattle.std.proofs.Common.{◌++◌, [], ap, subst, sym, ◌∙◌}
use Rattle.std.proofs.lemmas.List.{append_cancel_left}
use Rattle.ct_syntax.specs.Spelling.{spell_unit}
use Rattle.ct_syntax.specs.UnitViews.{view_tree}
use Rattle.ct_print.specs.Text.{text_of}
use Rattle.ct_print.specs.Printed.{IsTextOf}
use Rattle.ct_print.proofs.Printed.{printed_tokens}
use Rattle.ct_print.proofs.print.Goals as goal

pub returns-clause-text : goal.returns-clause-text
returns-clause-text c =
    c.in_ok-extend_from_slice.ensures.items ∙ ap (λ s. c.args.into.now.items ++ s) (c.as_slice.ensures.value ∙ c.in_ok-text.ensures)

pub returns-clause-tokens : goal.returns-clause-tokens
returns-clause-tokens c scope printable file more e =
    subst (IsTextOf scope (view_tree c.args.tree.now) file)
    (append_cancel_left c.args.into.now.items (text_of (spell_unit (view_tree c.args.tree.now) [])) more (sym (returns-clause-text c) ∙ e))
    (printed_tokens scope (view_tree c.args.tree.now) file printable)
