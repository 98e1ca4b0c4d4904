use Rattle.std.proofs.Common.{◌∷◌, ◌∙◌, ◌++◌, ap}
use Rattle.ct_syntax.specs.declared.words.Mark.TheVariants.{Ellipsis}
use Rattle.ct_syntax.specs.Words.{Sign}
use Rattle.ct_syntax.specs.Spelling.{spell_form}
use Rattle.ct_print.specs.Text.{text_of}
use Rattle.ct_print.proofs.putting.put_form.Goals as goal

pub returns-in_ok-put_mark-in-Variadic-2 : goal.returns-in_ok-put_mark-in-Variadic-2
returns-in_ok-put_mark-in-Variadic-2 c rest =
    rw c.in-Variadic.is (c.in_ok-put_mark-in-Variadic-2.ensures rest ∙ c.in_ok-put_mark-in-Variadic.ensures (Sign Ellipsis ∷ rest))
