-- The place of each declaration, statement and item is that of its first token.
use Rattle.std.specs.Prelude.{List, [], ◌∷◌, drop, Option, Some, None, option_map}
use Rattle.ct_base.specs.declared.lexical.Span.{Span}
use Rattle.ct_syntax.specs.declared.expressions.Expr.{Expr}
use Rattle.ct_syntax.specs.declared.expressions.Spec.{Spec}
use Rattle.ct_syntax.specs.declared.declarations.Initialiser.{Initialiser}
use Rattle.ct_syntax.specs.declared.declarations.Initialiser.TheVariants as i
use Rattle.ct_syntax.specs.declared.declarations.Initialiser.TheBlock.{Row_of-InitialiserItem, end_of-InitialiserItem, more_of-InitialiserItem}
use Rattle.ct_syntax.specs.declared.declarations.Designator.{Designator}
use Rattle.ct_syntax.specs.declared.declarations.Designator.TheVariants as g
use Rattle.ct_syntax.specs.declared.declarations.InitDeclarator.{InitDeclarator}
use Rattle.ct_syntax.specs.declared.declarations.Declaration.{Declaration}
use Rattle.ct_syntax.specs.declared.declarations.Declaration.TheVariants as n
use Rattle.ct_syntax.specs.declared.statements.ForStart.{ForStart}
use Rattle.ct_syntax.specs.declared.statements.ForStart.TheVariants as f
use Rattle.ct_syntax.specs.declared.statements.Statement.{Statement}
use Rattle.ct_syntax.specs.declared.statements.Statement.TheVariants as s
use Rattle.ct_syntax.specs.declared.statements.BlockItem.{BlockItem}
use Rattle.ct_syntax.specs.declared.statements.BlockItem.TheVariants as b
use Rattle.ct_syntax.specs.declared.statements.BlockItem.TheBlock.{Row_of-BlockItem, end_of-BlockItem, more_of-BlockItem, Row_of-Branch, end_of-Branch, more_of-Branch, Held-Statement-If-2, None', Some'}
use Rattle.ct_syntax.specs.declared.statements.Item.{Item}
use Rattle.ct_syntax.specs.declared.statements.Item.TheVariants as o
use Rattle.ct_syntax.specs.declared.statements.Tree.{Tree}
use Rattle.ct_syntax.specs.Spelling.{spell, spell_specs, spell_declarator, spell_designator, spell_initialiser, spell_start, spell_maybe, spell_for_start, spell_statement, spell_branches, spell_body, spell_item}
use Rattle.ct_syntax.specs.Trees as t
use Rattle.ct_syntax.specs.Views.{view, view_spec, view_declarator, specs_of}
use Rattle.ct_syntax.specs.UnitViews.{view_designator, view_initialiser, view_for_start, view_statement, view_part, view_branches, view_item}
use Rattle.ct_syntax.specs.Places.{At, past, next, IsPlaced, IsSpecPlaced, IsDeclaratorPlaced}

abbrev pub AreSpecsAt : List Spec → List Span → Type 0
AreSpecsAt [] ss = Unit {0}
AreSpecsAt (x ∷ xs) ss = IsSpecPlaced x ss × AreSpecsAt xs (past (spell_specs (view_spec x t.no_spec)) ss)

abbrev pub IsDesignatorPlaced : Designator → List Span → Type 0
IsDesignatorPlaced g.Next ss = Unit {0}
IsDesignatorPlaced (g.Member at name) ss = At at ss
IsDesignatorPlaced (g.Index at x) ss = At at ss × IsPlaced x (next ss)

abbrev mutual
  pub IsInitialiserPlaced : Initialiser → List Span → Type 0
  IsInitialiserPlaced (i.Value at x) ss = At at ss × IsPlaced x ss
  IsInitialiserPlaced (i.List' at shape items comma) ss = At at ss × AreItemsPlaced items (next ss)

  pub AreItemsPlaced : {m : _} → Row_of-InitialiserItem m → List Span → Type 0
  AreItemsPlaced end_of-InitialiserItem ss = Unit {0}
  AreItemsPlaced (more_of-InitialiserItem at designator value rest) ss =
      At at ss × IsDesignatorPlaced designator ss × IsInitialiserPlaced value (past (spell_designator (view_designator designator)) ss)
      × AreItemsPlaced rest (next (past (spell_initialiser (view_initialiser value)) (past (spell_designator (view_designator designator)) ss)))

abbrev pub IsStartPlaced : Option Initialiser → List Span → Type 0
IsStartPlaced None ss = Unit {0}
IsStartPlaced (Some v) ss = IsInitialiserPlaced v (next ss)

abbrev pub AreInitDeclaratorsPlaced : List InitDeclarator → List Span → Type 0
AreInitDeclaratorsPlaced [] ss = Unit {0}
AreInitDeclaratorsPlaced (d ∷ ds) ss =
    At d.span ss × IsDeclaratorPlaced d.declarator ss × IsStartPlaced d.start (past (spell_declarator (view_declarator d.declarator)) ss)
    × AreInitDeclaratorsPlaced ds (next (past (spell_start (option_map view_initialiser d.start)) (past (spell_declarator (view_declarator d.declarator)) ss)))

abbrev pub IsDeclarationPlaced : Declaration → List Span → Type 0
IsDeclarationPlaced (n.Declare at us ds) ss = At at ss × AreSpecsAt us.items ss × AreInitDeclaratorsPlaced ds.items (past (spell_specs (specs_of us.items)) ss)
IsDeclarationPlaced (n.Assert at x text) ss = At at ss × IsPlaced x (drop 2 ss)

abbrev pub IsMaybePlaced : Option Expr → List Span → Type 0
IsMaybePlaced None ss = Unit {0}
IsMaybePlaced (Some x) ss = IsPlaced x ss

abbrev pub IsForStartPlaced : ForStart → List Span → Type 0
IsForStartPlaced (f.Declaration d) ss = IsDeclarationPlaced d ss
IsForStartPlaced (f.Value x) ss = IsMaybePlaced x ss

-- the spans behind an expression or none, and a token
abbrev pub behind_maybe : Option Expr → List Span → List Span
behind_maybe x ss = next (past (spell_maybe (option_map view x)) ss)

abbrev mutual
  pub IsStatementPlaced : Statement → List Span → Type 0
  IsStatementPlaced (s.Block' at shape items) ss = At at ss × AreBlockItemsPlaced items (next ss)
  IsStatementPlaced (s.Run at x) ss = At at ss × IsMaybePlaced x ss
  IsStatementPlaced (s.If' at shape bs other) ss = At at ss × AreBranchesPlaced bs ss × IsOtherPlaced other (past (spell_branches (view_branches bs)) ss)
  IsStatementPlaced (s.While' at x p body) ss = At at ss × IsPlaced x (drop 2 ss) × IsStatementPlaced body (next (past (spell (view x)) (drop 2 ss)))
  IsStatementPlaced (s.Do' at p body x) ss = At at ss × IsStatementPlaced body (next ss) × IsPlaced x (drop 2 (past (spell_statement (view_statement body)) (next ss)))
  IsStatementPlaced (s.For' at start test after p body) ss =
      At at ss × IsForStartPlaced start (drop 2 ss) × IsMaybePlaced test (past (spell_for_start (view_for_start start)) (drop 2 ss))
      × IsMaybePlaced after (behind_maybe test (past (spell_for_start (view_for_start start)) (drop 2 ss)))
      × IsStatementPlaced body (behind_maybe after (behind_maybe test (past (spell_for_start (view_for_start start)) (drop 2 ss))))
  IsStatementPlaced (s.Switch' at x brace shape items) ss =
      At at ss × IsPlaced x (drop 2 ss) × At brace (next (past (spell (view x)) (drop 2 ss))) × AreBlockItemsPlaced items (drop 2 (past (spell (view x)) (drop 2 ss)))
  IsStatementPlaced (s.Break at) ss = At at ss
  IsStatementPlaced (s.Continue at) ss = At at ss
  IsStatementPlaced (s.Return at x) ss = At at ss × IsMaybePlaced x (next ss)

  pub AreBlockItemsPlaced : {m : _} → Row_of-BlockItem m → List Span → Type 0
  AreBlockItemsPlaced end_of-BlockItem ss = Unit {0}
  AreBlockItemsPlaced (more_of-BlockItem x rest) ss = IsBlockItemPlaced x ss × AreBlockItemsPlaced rest (past (spell_body (view_part x t.no_part)) ss)

  pub IsBlockItemPlaced : BlockItem → List Span → Type 0
  IsBlockItemPlaced (b.Case at x) ss = At at ss × IsPlaced x (next ss)
  IsBlockItemPlaced (b.Default at) ss = At at ss
  IsBlockItemPlaced (b.Declaration d) ss = IsDeclarationPlaced d ss
  IsBlockItemPlaced (b.Statement x) ss = IsStatementPlaced x ss

  -- the place of a branch is that of its `if`
  pub AreBranchesPlaced : {m : _} → Row_of-Branch m → List Span → Type 0
  AreBranchesPlaced end_of-Branch ss = Unit {0}
  AreBranchesPlaced (more_of-Branch at x body rest) ss =
      At at ss × IsPlaced x (drop 2 ss) × IsStatementPlaced body (next (past (spell (view x)) (drop 2 ss)))
      × AreBranchesPlaced rest (next (past (spell_statement (view_statement body)) (next (past (spell (view x)) (drop 2 ss)))))

  pub IsOtherPlaced : Held-Statement-If-2 → List Span → Type 0
  IsOtherPlaced None' ss = Unit {0}
  IsOtherPlaced (Some' p body) ss = IsStatementPlaced body (next ss)

abbrev pub AreBlockItemsAt : List BlockItem → List Span → Type 0
AreBlockItemsAt [] ss = Unit {0}
AreBlockItemsAt (x ∷ xs) ss = IsBlockItemPlaced x ss × AreBlockItemsAt xs (past (spell_body (view_part x t.no_part)) ss)

abbrev pub IsItemPlaced : Item → List Span → Type 0
IsItemPlaced (o.Function at us d body) ss =
    let behind_specs = past (spell_specs (specs_of us.items)) ss in
    let behind_declarator = past (spell_declarator (view_declarator d)) behind_specs in
    At at ss × AreSpecsAt us.items ss × IsDeclaratorPlaced d behind_specs × At body.span behind_declarator × AreBlockItemsAt body.items.items (next behind_declarator)
IsItemPlaced (o.Declaration d) ss = IsDeclarationPlaced d ss
IsItemPlaced (o.Empty at) ss = At at ss

abbrev pub AreItemsAt : List Item → List Span → Type 0
AreItemsAt [] ss = Unit {0}
AreItemsAt (x ∷ xs) ss = IsItemPlaced x ss × AreItemsAt xs (past (spell_item (view_item x)) ss)

abbrev pub IsTreePlaced : Tree → List Span → Type 0
IsTreePlaced tree ss = AreItemsAt tree.items.items ss
