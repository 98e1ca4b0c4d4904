use Rattle.ct_base.specs.declared.lexical.TokenKind.TheVariants as k
use Rattle.ct_parser.proofs.UnsupportedText.{of_token}
use Rattle.ct_parser.proofs.left_out.is_unsupported.Goals as goal

pub returns-in-Char : goal.returns-in-Char
returns-in-Char c =
    of_token c.args.token.now.kind k.Char c.args.token.now.text c.as_slice-text.result.now c.spells_no_character.result c.in-Char.is c.as_slice-text.ensures c.spells_no_character.ensures

pub returns-in-Text : goal.returns-in-Text
returns-in-Text c =
    of_token c.args.token.now.kind k.Text c.args.token.now.text c.as_slice-text.result.now c.spells_nothing.result c.in-Text.is c.as_slice-text.ensures c.spells_nothing.ensures
