use Rattle.std.specs.Prelude.{not}
use Rattle.std.proofs.Common.{sym, ap, ◌∙◌, []}
use Rattle.ct_syntax.specs.TypeWords.{same_words}
use Rattle.ct_parser_declarators.proofs.Forms.{has_part_words}
use Rattle.ct_parser_declarators.proofs.types.has_type.Goals as goal

pub returns-else-specs-ne0 : goal.returns-else-specs-ne0
returns-else-specs-ne0 c =
    ap not (c.same_words.ensures ∙ ap (λ ws. same_words ws []) c.as_slice.ensures)
    ∙ sym (has_part_words c.args.specs.now.words c.args.specs.now.wholes c.if-specs-ne0.false)
