use Rattle.std.proofs.Common.{sym, ap, ◌∙◌, []}
use Rattle.std.specs.List.{list_any}
use Rattle.ct_syntax.specs.TypeWords.{same_words, type_lists}
use Rattle.ct_parser_declarators.proofs.Forms.{form_words_alone, form_words_beside}
use Rattle.ct_parser_declarators.proofs.types.forms_type.Goals as goal

pub returns-in-0 : goal.returns-in-0
returns-in-0 c =
    c.is_listed.ensures ∙ ap (λ ws. list_any (same_words ws) type_lists) c.as_slice.ensures
    ∙ sym (form_words_alone c.args.specs.now.words c.args.specs.now.wholes c.in-0.is)

pub returns-in-1 : goal.returns-in-1
returns-in-1 c =
    c.same_words.ensures ∙ ap (λ ws. same_words ws []) c.as_slice-in-1.ensures
    ∙ sym (form_words_beside c.args.specs.now.words c.args.specs.now.wholes c.in-1.is)
