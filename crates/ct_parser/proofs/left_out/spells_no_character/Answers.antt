use Rattle.std.proofs.Common.{sym, subst}
use Rattle.ct_base.specs.declared.lexical.TokenKind.TheVariants as k
use Rattle.ct_parser.proofs.UnsupportedText.{Tells, by_count}
use Rattle.ct_parser.proofs.left_out.spells_no_character.Goals as goal

pub returns : goal.returns
returns c =
    subst (Tells k.Char c.args.text.now) (sym c.ne.ensures)
    (by_count c.args.text.now c.character_count.result c.character_count.ensures)
