use Rattle.std.proofs.Common.{◌∷◌, ◌∙◌, option_map}
use Rattle.ct_syntax.specs.declared.words.Mark.TheVariants.{Open, Close, Semicolon}
use Rattle.ct_syntax.specs.Words.{Sign}
use Rattle.ct_syntax.specs.Views.{view}
use Rattle.ct_syntax.specs.UnitViews.{view_for_start}
use Rattle.ct_syntax.specs.Spelling.{spell_maybe, spell_for_start}
use Rattle.ct_print.proofs.statements.put_for.Goals as goal

pub returns : goal.returns
returns c rest =
    let after = spell_maybe (option_map view c.args.after.now) (Sign Close ∷ rest) in
    let test = spell_maybe (option_map view c.args.test.now) (Sign Semicolon ∷ after) in
    let start = spell_for_start (view_for_start c.args.start.now) test in
    c.in_ok-put_ended-2.ensures rest
    ∙ c.in_ok-put_ended.ensures after
    ∙ c.in_ok-put_for_start.ensures test
    ∙ c.in_ok-put_mark.ensures start
    ∙ c.in_ok-put_keyword.ensures (Sign Open ∷ start)
