use Rattle.std.proofs.Common.{◌∷◌, ◌∙◌}
use Rattle.ct_syntax.specs.declared.words.Mark.TheVariants.{Semicolon}
use Rattle.ct_syntax.specs.Words.{Sign}
use Rattle.ct_print.proofs.statements.put_jump.Goals as goal

pub returns : goal.returns
returns c rest = c.in_ok-put_mark.ensures rest ∙ c.in_ok-put_keyword.ensures (Sign Semicolon ∷ rest)
