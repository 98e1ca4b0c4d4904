use Rattle.std.proofs.Common.{◌≡◌, Some, None, option_map, ap, ap₂, sym, ◌∙◌, ◌++◌, [], ◌∷◌, Vec, Box, Global}
use Rattle.std.proofs.lemmas.Result.{IfOk-weaker}
use Rattle.ct_syntax.specs.Trees as t
use Rattle.ct_syntax.specs.declared.declarations.InitialiserItem.{InitialiserItem}
use Rattle.ct_syntax.specs.UnitViews.{view_statement, view_initialiser, view_for_start, body_of}
use Rattle.ct_syntax.specs.Lists.{initialisers_of, branches_of, parameters_of, members_of, enumerators_of}
use Rattle.ct_grammar_machine.specs.Algebra.{expr, stmt, decl, init, specs}
use Rattle.ct_parser_parts.specs.Parts.{make, one, pair, over, with_whole, built_of}
use Rattle.ct_parser_parts.specs.Reach.{in_expression, in_declarator, in_statement}
use Rattle.ct_syntax.proofs.UnitViews.{view_List}
use Rattle.ct_parser_parts.proofs.Rules.{built_one}
use Rattle.ct_parser_parts.proofs.declarations.braces.Goals as goal

pub returns : goal.returns
returns c =
    ap (λ b. make init b tt)
    (built_one (λ (v : Vec InitialiserItem Global). initialisers_of v.items) (λ z. t.Braces z c.args.comma) in_declarator
    _ _ _ _ c.in-Some.list _ c.in_ok-tree.ensures.0 c.in_ok-tree.ensures.1 c.in-Some.is (view_List c.args.span c.in-Some.list c.args.comma))
