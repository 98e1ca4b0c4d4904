use Rattle.std.proofs.Common.{refl, Option, ◌≡◌, Some, None, option_map, ap, ap₂, sym, ◌∙◌, ◌++◌, [], ◌∷◌, Vec, Box, Global}
use Rattle.std.proofs.lemmas.Result.{IfOk-weaker}
use Rattle.ct_syntax.specs.Trees as t
use Rattle.ct_syntax.specs.declared.statements.ForStart.{ForStart}
use Rattle.ct_syntax.specs.declared.statements.Statement.{Statement}
use Rattle.ct_syntax.specs.declared.expressions.Expr.{Expr}
use Rattle.ct_syntax.specs.Views.{view, view_declarator, expressions_of, specs_of}
use Rattle.ct_syntax.specs.UnitViews.{view_statement, view_initialiser, view_for_start, body_of}
use Rattle.ct_syntax.specs.Lists.{initialisers_of, branches_of, parameters_of, members_of, enumerators_of}
use Rattle.ct_grammar_machine.specs.Algebra.{expr, stmt, decl, init, specs}
use Rattle.ct_parser_parts.specs.Parts.{make, one, pair, over, with_whole, built_of}
use Rattle.ct_parser_parts.specs.Reach.{in_expression, in_declarator, in_statement}
use Rattle.ct_parser_parts.specs.Views.{expr_of, for_start_part, statement_part}
use Rattle.ct_parser_parts.proofs.Rules.{built_at, built_four, empty_four}
use Rattle.ct_parser_parts.proofs.statements.for_loop.Goals as goal

abbrev build : ((t.ForStart × Option t.Expression) × Option t.Expression) × t.Statement → t.Statement
build q = t.For q.0.0.0 q.0.0.1 q.0.1 q.1

pub returns-in_default : goal.returns-in_default
returns-in_default c =
    ap (λ b. make stmt b tt)
    (empty_four view_for_start (option_map view) (option_map view) (λ (b : Box Statement Global). view_statement b.value) build in_statement
    _ _ _ _ _ _ _ _ _ _ _ _ _ _ _ _ c.in_ok-head.ensures.0 c.in_ok-head.ensures.1 c.in_ok-head-2.ensures.0 c.in_ok-head-2.ensures.1
    c.in_ok-operands.ensures.0 c.in_ok-operands.ensures.1 c.in_ok-tree.ensures.0 c.in_ok-tree.ensures.1 c.in_default.is
    ∙ ap₂ (λ y z. one in_statement build (pair (pair (pair (for_start_part c.args.start).built y) z) (statement_part c.args.body).built))
    (ap₂ built_at c.optional.ensures.1 c.optional.ensures.0) (ap₂ built_at c.optional-2.ensures.1 c.optional-2.ensures.0))

pub returns : goal.returns
returns c =
    IfOk-weaker c.shallow.result _ _ (λ p is. is ∙ ap (λ b. make stmt b tt)
    (built_four view_for_start (option_map view) (option_map view) (λ (b : Box Statement Global). view_statement b.value) build in_statement
    _ _ _ _ _ _ _ _ _ _ _ _ _ _ _ _ (c.in-Some.head, c.in-Some.body) _
    c.in_ok-head.ensures.0 c.in_ok-head.ensures.1 c.in_ok-head-2.ensures.0 c.in_ok-head-2.ensures.1
    c.in_ok-operands.ensures.0 c.in_ok-operands.ensures.1 c.in_ok-tree.ensures.0 c.in_ok-tree.ensures.1 c.in-Some.is refl
    ∙ ap₂ (λ y z. one in_statement build (pair (pair (pair (for_start_part c.args.start).built y) z) (statement_part c.args.body).built))
    (ap₂ built_at c.optional.ensures.1 c.optional.ensures.0) (ap₂ built_at c.optional-2.ensures.1 c.optional-2.ensures.0)))
    c.shallow.ensures
