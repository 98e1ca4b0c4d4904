use Rattle.std.proofs.Common.{◌≡◌, Some, None, option_map, ap, ap₂, sym, ◌∙◌, ◌++◌, [], ◌∷◌, Vec, Box, Global}
use Rattle.std.proofs.lemmas.Result.{IfOk-weaker}
use Rattle.ct_syntax.specs.Trees as t
use Rattle.ct_syntax.specs.declared.expressions.Expr.{Expr}
use Rattle.ct_syntax.specs.declared.expressions.Spec.{Spec}
use Rattle.ct_syntax.specs.declared.expressions.Declarator.{Declarator}
use Rattle.ct_syntax.specs.Views.{view, view_declarator, expressions_of, specs_of}
use Rattle.ct_grammar_machine.specs.Algebra.{expr, stmt, decl, init, specs}
use Rattle.ct_parser_parts.specs.Parts.{make, one, pair, over, with_whole, built_of}
use Rattle.ct_parser_parts.specs.Reach.{in_expression, in_declarator, in_statement}
use Rattle.ct_syntax.proofs.Views.{view_Cast}
use Rattle.ct_parser_parts.proofs.Rules.{built_three}
use Rattle.ct_parser_parts.proofs.expressions.cast.Goals as goal

pub returns : goal.returns
returns c =
    IfOk-weaker c.shallow.result _ _ (λ p is. is ∙ ap (λ b. make expr b 14)
    (built_three (λ (v : Vec Spec Global). specs_of v.items) (λ (b : Box Declarator Global). view_declarator b.value) (λ (b : Box Expr Global). view b.value)
    (λ q. t.Cast q.0.0 q.0.1 q.1) in_expression
    _ _ _ _ _ _ _ _ _ _ _ _ (c.in-Some.kind, c.in-Some.operand) _
    c.in_ok-pair.ensures.0 c.in_ok-pair.ensures.1 c.in_ok-operands.ensures.0 c.in_ok-operands.ensures.1 c.in_ok-tree.ensures.0 c.in_ok-tree.ensures.1 c.in-Some.is (view_Cast c.args.span c.in-Some.kind.0 c.in-Some.kind.1 c.in-Some.operand)))
    c.shallow.ensures
