use Rattle.std.proofs.Common.{◌∷◌}
use Rattle.ct_syntax.specs.declared.words.Mark.TheVariants.{Open, Close, Comma, Semicolon}
use Rattle.ct_syntax.specs.Words.{Sign, Literal}
use Rattle.ct_syntax.specs.Views.{view}
use Rattle.ct_syntax.specs.UnitViews.{view_declaration}
use Rattle.ct_syntax.specs.Spelling.{spell, spell_declaration}
use Rattle.ct_print.proofs.Chain.{spelled_as}
use Rattle.ct_print.proofs.declarations.put_declaration.Goals as goal

pub returns-in_ok-put_mark-in-Assert-2 : goal.returns-in_ok-put_mark-in-Assert-2
returns-in_ok-put_mark-in-Assert-2 c rest =
    let end = Sign Close ∷ Sign Semicolon ∷ rest in
    let h1 = c.in_ok-put_mark-in-Assert-2.ensures rest in
    let h2 = c.in_ok-put_mark-in-Assert.ensures (Sign Semicolon ∷ rest) in
    let h3 = c.in_ok-put_text-in-Assert.ensures.string end in
    let h4 = c.in_ok-put_enclosed-in-Assert.ensures (Literal c.in-Assert.text ∷ end) in
    let h5 = c.in_ok-put_keyword-in-Assert.ensures (Sign Open ∷ spell (view c.in-Assert.condition) (Sign Comma ∷ Literal c.in-Assert.text ∷ end)) in
    spelled_as (λ d. spell_declaration (view_declaration d) rest) _ _ c.in-Assert.is _ _ rest cc
