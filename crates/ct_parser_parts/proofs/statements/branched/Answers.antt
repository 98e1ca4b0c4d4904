use Rattle.std.proofs.Common.{◌≡◌, Some, None, option_map, ap, ap₂, sym, ◌∙◌, ◌++◌, [], ◌∷◌, Vec, Box, Global}
use Rattle.std.proofs.lemmas.Result.{IfOk-weaker}
use Rattle.ct_syntax.specs.Trees as t
use Rattle.ct_syntax.specs.declared.statements.Branch.{Branch}
use Rattle.ct_syntax.specs.declared.statements.Statement.{Statement}
use Rattle.ct_syntax.specs.UnitViews.{view_statement, view_initialiser, view_for_start, body_of}
use Rattle.ct_syntax.specs.Lists.{initialisers_of, branches_of, parameters_of, members_of, enumerators_of}
use Rattle.ct_grammar_machine.specs.Algebra.{expr, stmt, decl, init, specs}
use Rattle.ct_parser_parts.specs.Parts.{make, one, pair, over, with_whole, built_of}
use Rattle.ct_parser_parts.specs.Reach.{in_expression, in_declarator, in_statement}
use Rattle.ct_grammar_machine.specs.Algebra.{other_of}
use Rattle.ct_parser_parts.proofs.Rules.{built_two, view_if}
use Rattle.ct_parser_parts.proofs.statements.branched.Goals as goal

pub returns : goal.returns
returns c =
    IfOk-weaker c.shallow.result _ _ (λ p is. ap (λ q. q.built) is ∙
    (built_two (λ (v : Vec Branch Global). branches_of v.items) (option_map (λ (b : Box Statement Global). view_statement b.value)) (λ q. t.If q.0 (other_of q.1)) in_statement
    _ _ _ _ _ _ _ _ (c.in-Some.branches, c.in-Some.other) _ c.in_ok-operands.ensures.0 c.in_ok-operands.ensures.1 c.in_ok-tree.ensures.0 c.in_ok-tree.ensures.1 c.in-Some.is (view_if c.args.span c.in-Some.branches c.in-Some.other)))
    c.shallow.ensures
