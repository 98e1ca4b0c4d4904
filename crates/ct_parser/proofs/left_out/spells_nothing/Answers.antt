use Rattle.ct_parser.proofs.UnsupportedText.{by_no_count}
use Rattle.ct_parser.proofs.left_out.spells_nothing.Goals as goal

pub returns : goal.returns
returns c =
    by_no_count c.args.text.now c.character_count.result c.is_none.result c.character_count.ensures c.is_none.ensures
