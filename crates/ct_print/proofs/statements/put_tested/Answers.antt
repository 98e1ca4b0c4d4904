use Rattle.std.proofs.Common.{◌∷◌, ◌∙◌}
use Rattle.ct_syntax.specs.declared.words.Mark.TheVariants.{Open, Close}
use Rattle.ct_syntax.specs.Words.{Sign}
use Rattle.ct_syntax.specs.Views.{view}
use Rattle.ct_syntax.specs.Spelling.{spell}
use Rattle.ct_print.proofs.statements.put_tested.Goals as goal

pub returns : goal.returns
returns c rest =
    c.in_ok-put_enclosed.ensures rest
    ∙ c.in_ok-put_keyword.ensures (Sign Open ∷ spell (view c.args.test.now) (Sign Close ∷ rest))
