use Rattle.std.proofs.Common.{◌∷◌}
use Rattle.ct_syntax.specs.declared.words.AssignOp.TheVariants.{Plain}
use Rattle.ct_syntax.specs.declared.words.Mark.TheVariants.{Assign}
use Rattle.ct_syntax.specs.Words.{Sign, Named}
use Rattle.ct_syntax.specs.UnitViews.{view_designator}
use Rattle.ct_syntax.specs.Spelling.{spell_designator}
use Rattle.ct_print.proofs.Chain.{spelled_as}
use Rattle.ct_print.proofs.declarations.put_designator.Goals as goal

pub returns-in_ok-put_mark-in-Member-2 : goal.returns-in_ok-put_mark-in-Member-2
returns-in_ok-put_mark-in-Member-2 c rest =
    let h1 = c.in_ok-put_mark-in-Member-2.ensures rest in
    let h2 = c.in_ok-put_text-in-Member.ensures.name (Sign (Assign Plain) ∷ rest) in
    let h3 = c.in_ok-put_mark-in-Member.ensures (Named c.in-Member.name ∷ Sign (Assign Plain) ∷ rest) in
    spelled_as (λ g. spell_designator (view_designator g) rest) _ _ c.in-Member.is _ _ rest cc
