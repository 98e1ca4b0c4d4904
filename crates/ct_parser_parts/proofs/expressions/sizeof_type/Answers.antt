use Rattle.std.proofs.Common.{◌≡◌, Some, None, option_map, ap, ap₂, sym, ◌∙◌, ◌++◌, [], ◌∷◌, Vec, Box, Global}
use Rattle.std.proofs.lemmas.Result.{IfOk-weaker}
use Rattle.ct_syntax.specs.Trees as t
use Rattle.ct_syntax.specs.declared.expressions.Expr.{Expr}
use Rattle.ct_syntax.specs.declared.expressions.Spec.{Spec}
use Rattle.ct_syntax.specs.declared.expressions.Declarator.{Declarator}
use Rattle.ct_syntax.specs.Views.{view, view_declarator, expressions_of, specs_of}
use Rattle.ct_grammar_machine.specs.Algebra.{expr, stmt, decl, init, specs}
use Rattle.ct_parser_parts.specs.Parts.{make, one, pair, over, with_whole, built_of}
use Rattle.ct_parser_parts.specs.Reach.{in_expression, in_declarator, in_statement}
use Rattle.ct_syntax.proofs.Views.{view_SizeofType}
use Rattle.ct_parser_parts.proofs.Rules.{built_two}
use Rattle.ct_parser_parts.proofs.expressions.sizeof_type.Goals as goal

pub returns : goal.returns
returns c =
    IfOk-weaker c.shallow.result _ _ (λ p is. is ∙ ap (λ b. make expr b 15)
    (built_two (λ (v : Vec Spec Global). specs_of v.items) (λ (b : Box Declarator Global). view_declarator b.value) (λ q. t.SizeofType q.0 q.1) in_expression
    _ _ _ _ _ _ _ _ (c.in-Some.specs, c.in-Some.declarator) _ c.in_ok-operands.ensures.0 c.in_ok-operands.ensures.1 c.in_ok-tree.ensures.0 c.in_ok-tree.ensures.1 c.in-Some.is (view_SizeofType c.args.span c.in-Some.specs c.in-Some.declarator)))
    c.shallow.ensures
