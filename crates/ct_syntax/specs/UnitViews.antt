-- A declaration, a statement or a unit without its places and without where it lies in memory.
use Rattle.std.specs.Prelude.{List, [], ◌∷◌, map, option_map}
use Rattle.ct_syntax.specs.Trees as t
use Rattle.ct_syntax.specs.Views.{view, view_declarator, specs_of}
use Rattle.ct_syntax.specs.declared.declarations.Initialiser.{Initialiser}
use Rattle.ct_syntax.specs.declared.declarations.Initialiser.TheVariants as i
use Rattle.ct_syntax.specs.declared.declarations.Initialiser.TheBlock.{Row_of-InitialiserItem, end_of-InitialiserItem, more_of-InitialiserItem}
use Rattle.ct_syntax.specs.declared.declarations.Designator.{Designator}
use Rattle.ct_syntax.specs.declared.declarations.Designator.TheVariants as g
use Rattle.ct_syntax.specs.declared.declarations.InitDeclarator.{InitDeclarator}
use Rattle.ct_syntax.specs.declared.declarations.Declaration.{Declaration}
use Rattle.ct_syntax.specs.declared.declarations.Declaration.TheVariants as n
use Rattle.ct_syntax.specs.declared.statements.ForStart.{ForStart}
use Rattle.ct_syntax.specs.declared.statements.ForStart.TheVariants as f
use Rattle.ct_syntax.specs.declared.statements.Statement.{Statement}
use Rattle.ct_syntax.specs.declared.statements.Statement.TheVariants as s
use Rattle.ct_syntax.specs.declared.statements.BlockItem.{BlockItem}
use Rattle.ct_syntax.specs.declared.statements.BlockItem.TheVariants as b
use Rattle.ct_syntax.specs.declared.statements.BlockItem.TheBlock.{Row_of-BlockItem, end_of-BlockItem, more_of-BlockItem, Row_of-Branch, end_of-Branch, more_of-Branch, Held-Statement-If-2, None', Some'}
use Rattle.ct_syntax.specs.declared.statements.Item.{Item}
use Rattle.ct_syntax.specs.declared.statements.Item.TheVariants as o
use Rattle.ct_syntax.specs.declared.statements.Tree.{Tree}

abbrev pub view_designator : Designator → t.Designator
view_designator g.Next = t.Next
view_designator (g.Member at name) = t.OfMember name
view_designator (g.Index at x) = t.OfIndex (view x)

abbrev mutual
  pub view_initialiser : Initialiser → t.Initialiser
  view_initialiser (i.Value at x) = t.Value (view x)
  view_initialiser (i.List' at shape items comma) = t.Braces (view_items items) comma

  pub view_items : {m : _} → Row_of-InitialiserItem m → t.InitialiserItems
  view_items end_of-InitialiserItem = t.no_item
  view_items (more_of-InitialiserItem at designator value rest) = t.item (view_designator designator) (view_initialiser value) (view_items rest)

abbrev pub view_init_declarator : InitDeclarator → t.InitDeclarator
view_init_declarator d = record { declarator = view_declarator d.declarator; start = option_map view_initialiser d.start }

abbrev pub view_declaration : Declaration → t.Declaration
view_declaration (n.Declare at ss ds) = t.Declare (specs_of ss.items) (map view_init_declarator ds.items)
view_declaration (n.Assert at x text) = t.Assert (view x) text

abbrev pub view_for_start : ForStart → t.ForStart
view_for_start (f.Declaration d) = t.StartDeclaration (view_declaration d)
view_for_start (f.Value x) = t.StartValue (option_map view x)

abbrev mutual
  pub view_statement : Statement → t.Statement
  view_statement (s.Block' at shape items) = t.Block (view_body items)
  view_statement (s.Run at x) = t.Run (option_map view x)
  view_statement (s.If' at shape bs other) = t.If (view_branches bs) (view_other other)
  view_statement (s.While' at x p body) = t.While (view x) (view_statement body)
  view_statement (s.Do' at p body x) = t.Do (view_statement body) (view x)
  view_statement (s.For' at start test after p body) = t.For (view_for_start start) (option_map view test) (option_map view after) (view_statement body)
  view_statement (s.Switch' at x brace shape items) = t.Switch (view x) (view_body items)
  view_statement (s.Break at) = t.Break
  view_statement (s.Continue at) = t.Continue
  view_statement (s.Return at x) = t.Return (option_map view x)

  pub view_body : {m : _} → Row_of-BlockItem m → t.Body
  view_body end_of-BlockItem = t.no_part
  view_body (more_of-BlockItem x rest) = view_part x (view_body rest)

  pub view_part : BlockItem → t.Body → t.Body
  view_part (b.Case at x) rest = t.case_label (view x) rest
  view_part (b.Default at) rest = t.default_label rest
  view_part (b.Declaration d) rest = t.declared (view_declaration d) rest
  view_part (b.Statement x) rest = t.stated (view_statement x) rest

  pub view_branches : {m : _} → Row_of-Branch m → t.Branches
  view_branches end_of-Branch = t.no_branch
  view_branches (more_of-Branch at x body rest) = t.branch (view x) (view_statement body) (view_branches rest)

  pub view_other : Held-Statement-If-2 → t.Other
  view_other None' = t.no_else
  view_other (Some' p body) = t.else_do (view_statement body)

abbrev pub body_of : List BlockItem → t.Body
body_of [] = t.no_part
body_of (x ∷ xs) = view_part x (body_of xs)

abbrev pub view_item : Item → t.Item
view_item (o.Function at ss d body) = t.Definition (specs_of ss.items) (view_declarator d) (body_of body.items.items)
view_item (o.Declaration d) = t.Outside (view_declaration d)
view_item (o.Empty at) = t.Lone

abbrev pub view_tree : Tree → List t.Item
view_tree tree = map view_item tree.items.items
