use Rattle.std.proofs.Common.{false, ◌≡◌, Some, None, option_map, ap, ap₂, sym, ◌∙◌, ◌++◌, [], ◌∷◌, Vec, Box, Global}
use Rattle.std.proofs.lemmas.Result.{IfOk-weaker}
use Rattle.ct_syntax.specs.Trees as t
use Rattle.ct_syntax.specs.declared.expressions.Parameter.{Parameter}
use Rattle.ct_syntax.specs.declared.expressions.Declarator.{Declarator}
use Rattle.ct_syntax.specs.Views.{view, view_declarator, expressions_of, specs_of}
use Rattle.ct_syntax.specs.UnitViews.{view_statement, view_initialiser, view_for_start, body_of}
use Rattle.ct_syntax.specs.Lists.{initialisers_of, branches_of, parameters_of, members_of, enumerators_of}
use Rattle.ct_grammar_machine.specs.Algebra.{expr, stmt, decl, init, specs}
use Rattle.ct_parser_parts.specs.Parts.{make, one, pair, over, with_whole, built_of}
use Rattle.ct_parser_parts.specs.Reach.{in_expression, in_declarator, in_statement}
use Rattle.ct_syntax.proofs.Views.{view_Function}
use Rattle.ct_parser_parts.proofs.Rules.{built_two}
use Rattle.ct_parser_parts.proofs.declarators.function.Goals as goal

pub returns : goal.returns
returns c =
    ap₂ (make decl)
    (built_two (λ (b : Box Declarator Global). view_declarator b.value) (λ (v : Vec Parameter Global). parameters_of v.items) (λ q. t.Function q.0 c.args.form q.1) in_declarator
    _ _ _ _ _ _ _ _ (c.in-Some.inside, c.in-Some.list) _ c.in_ok-operands.ensures.0 c.in_ok-operands.ensures.1 c.in_ok-tree.ensures.0 c.in_ok-tree.ensures.1 c.in-Some.is (ap view_declarator c.in_ok-new.ensures.ok ∙ view_Function c.args.inner.span c.in-Some.inside c.args.form c.in-Some.list))
    (ap (λ ns. record { nameless = false; name = c.args.inner.name; plain = false; own = ns }) c.own_names-own.ensures)
