use Rattle.std.proofs.Common.{◌≡◌, Some, None, option_map, ap, ap₂, sym, ◌∙◌, ◌++◌, [], ◌∷◌, Vec, Box, Global}
use Rattle.std.proofs.lemmas.Result.{IfOk-weaker}
use Rattle.ct_syntax.specs.Trees as t
use Rattle.ct_syntax.specs.declared.statements.BlockItem.{BlockItem}
use Rattle.ct_syntax.specs.declared.expressions.Expr.{Expr}
use Rattle.ct_syntax.specs.Views.{view, view_declarator, expressions_of, specs_of}
use Rattle.ct_syntax.specs.UnitViews.{view_statement, view_initialiser, view_for_start, body_of}
use Rattle.ct_syntax.specs.Lists.{initialisers_of, branches_of, parameters_of, members_of, enumerators_of}
use Rattle.ct_grammar_machine.specs.Algebra.{expr, stmt, decl, init, specs}
use Rattle.ct_parser_parts.specs.Parts.{make, one, pair, over, with_whole, built_of}
use Rattle.ct_parser_parts.specs.Reach.{in_expression, in_declarator, in_statement}
use Rattle.ct_syntax.proofs.UnitViews.{view_Switch}
use Rattle.ct_parser_parts.proofs.Rules.{built_two}
use Rattle.ct_parser_parts.proofs.statements.switch.Goals as goal

pub returns : goal.returns
returns c =
    IfOk-weaker c.shallow.result _ _ (λ p is. is ∙ ap (λ b. make stmt b tt)
    (built_two (λ (b : Box Expr Global). view b.value) (λ (v : Vec BlockItem Global). body_of v.items) (λ q. t.Switch q.0 q.1) in_statement
    _ _ _ _ _ _ _ _ (c.in-Some.value, c.in-Some.items) _ c.in_ok-operands.ensures.0 c.in_ok-operands.ensures.1 c.in_ok-tree.ensures.0 c.in_ok-tree.ensures.1 c.in-Some.is (view_Switch c.args.span c.into_inner.result (record { span = c.args.brace; items = c.in-Some.items }) ∙ ap (λ x. t.Switch (view x) (body_of c.in-Some.items.items)) c.into_inner.ensures)))
    c.shallow.ensures
