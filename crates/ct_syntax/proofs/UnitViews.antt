-- What is seen of an initialiser, a statement or a declaration, where its parts are lists.
use Rattle.std.proofs.Common.{◌≡◌, Bool, Option, Some, None, refl, ap, rules, Vec, Box, Global}
use Rattle.ct_base.specs.declared.lexical.Span.{Span}
use Rattle.ct_syntax.specs.Trees as t
use Rattle.ct_syntax.specs.Views.{view}
use Rattle.ct_syntax.specs.UnitViews.{view_designator, view_initialiser, view_items, view_statement, view_body, view_part, view_branches, view_other, body_of}
use Rattle.ct_syntax.specs.Lists.{initialisers_of, branches_of, other_of}
use Rattle.ct_syntax.specs.declared.declarations.Initialiser.TheVariants as i
use Rattle.ct_syntax.specs.declared.declarations.InitialiserItem.{InitialiserItem}
use Rattle.ct_syntax.specs.declared.declarations.Initialiser.TheBlock.{Row_of-InitialiserItem, end_of-InitialiserItem, more_of-InitialiserItem, items-the_row-InitialiserItem}
use Rattle.ct_syntax.specs.declared.declarations.Initialiser.TheViews.{the_lemmas as initialiser_lemmas}
use Rattle.ct_syntax.specs.declared.expressions.Expr.{Expr}
use Rattle.ct_syntax.specs.declared.statements.Statement.{Statement}
use Rattle.ct_syntax.specs.declared.statements.Statement.TheVariants as s
use Rattle.ct_syntax.specs.declared.statements.Block.{Block}
use Rattle.ct_syntax.specs.declared.statements.Branch.{Branch}
use Rattle.ct_syntax.specs.declared.statements.BlockItem.TheBlock as k
use Rattle.ct_syntax.specs.declared.statements.BlockItem.TheBlock.{Row_of-BlockItem, end_of-BlockItem, more_of-BlockItem, items-the_row-BlockItem, Row_of-Branch, end_of-Branch, more_of-Branch, items-the_row-Branch}
use Rattle.ct_syntax.specs.declared.statements.BlockItem.TheViews.{the_lemmas as statement_lemmas}

pub initialisers_items : (n : _) (row : Row_of-InitialiserItem n) → view_items row ≡ initialisers_of (items-the_row-InitialiserItem n row)
initialisers_items n end_of-InitialiserItem = refl
initialisers_items n (more_of-InitialiserItem at g v rest) = ap (t.item (view_designator g) (view_initialiser v)) (initialisers_items _ rest)

pub view_List : (at : Span) (items : Vec InitialiserItem Global) (comma : Bool) → view_initialiser (i.List at items comma) ≡ t.Braces (initialisers_of items.items) comma
view_List at items comma = search (rules, initialisers_items, initialiser_lemmas)

pub body_items : (n : _) (row : Row_of-BlockItem n) → view_body row ≡ body_of (items-the_row-BlockItem n row)
body_items n end_of-BlockItem = refl
body_items n (more_of-BlockItem x rest) = ap (view_part x) (body_items _ rest)

pub branches_items : (n : _) (row : Row_of-Branch n) → view_branches row ≡ branches_of (items-the_row-Branch n row)
branches_items n end_of-Branch = refl
branches_items n (more_of-Branch at x body rest) = ap (t.branch (view x) (view_statement body)) (branches_items _ rest)

pub other_views : (o : k.Held-Statement-If-2) → view_other o ≡ other_of (k.view-Statement-If-2 o)
other_views k.None' = refl
other_views (k.Some' p x) = refl

pub view_Block : (block : Block) → view_statement (s.Block block) ≡ t.Block (body_of block.items.items)
view_Block block = search (rules, body_items, statement_lemmas)

pub view_If : (at : Span) (bs : Vec Branch Global) (o : Option (Box Statement Global)) → view_statement (s.If at bs o) ≡ t.If (branches_of bs.items) (other_of o)
view_If at bs None = search (rules, branches_items, statement_lemmas)
view_If at bs (Some x) = search (rules, branches_items, statement_lemmas)

pub view_Switch : (at : Span) (x : Expr) (block : Block) → view_statement (s.Switch at x block) ≡ t.Switch (view x) (body_of block.items.items)
view_Switch at x block = search (rules, body_items, statement_lemmas)
