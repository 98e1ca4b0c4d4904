use Rattle.std.proofs.Common.{◌≡◌, Some, None, option_map, ap, ap₂, sym, ◌∙◌, ◌++◌, [], ◌∷◌, Vec, Box, Global}
use Rattle.std.proofs.lemmas.Result.{IfOk-weaker}
use Rattle.ct_syntax.specs.Trees as t
use Rattle.ct_syntax.specs.declared.expressions.Member.{Member}
use Rattle.ct_syntax.specs.declared.expressions.Spec.{Spec}
use Rattle.ct_syntax.specs.Views.{view, view_declarator, expressions_of, specs_of}
use Rattle.ct_syntax.specs.UnitViews.{view_statement, view_initialiser, view_for_start, body_of}
use Rattle.ct_syntax.specs.Lists.{initialisers_of, branches_of, parameters_of, members_of, enumerators_of}
use Rattle.ct_grammar_machine.specs.Algebra.{expr, stmt, decl, init, specs}
use Rattle.ct_parser_parts.specs.Parts.{make, one, pair, over, with_whole, built_of}
use Rattle.ct_parser_parts.specs.Reach.{in_expression, in_declarator, in_statement}
use Rattle.ct_grammar_machine.specs.Algebra.{specs_then}
use Rattle.ct_parser_parts.specs.Views.{names_of}
use Rattle.ct_syntax.proofs.Views.{view_StructList}
use Rattle.ct_parser_parts.proofs.Rules.{listed_two, listed_inside, specs_last, names_append}
use Rattle.ct_parser_parts.proofs.specifiers.with_struct.Goals as goal

pub returns : goal.returns
returns c =
    ap₂ (make specs)
    (listed_inside (λ (v : Vec Spec Global). specs_of v.items) (λ (v : Vec Member Global). members_of v.items) (λ q. specs_then q.0 (t.struct_list c.args.tag q.1 t.no_spec)) in_declarator
    _ _ _ _ _ _ _ _ (c.in-Some.specs, c.in-Some.list) _ c.in_ok-inside.ensures.0 c.in_ok-inside.ensures.1 c.in_ok-tree.ensures.0 c.in_ok-tree.ensures.1 c.in-Some.is
    (ap specs_of c.in_ok-push.ensures.items ∙ specs_last _ _ ∙ ap (specs_then (specs_of c.in-Some.specs.items)) (view_StructList c.args.at c.args.tag c.in-Some.list t.no_spec)))
    (ap₂ (λ n ns. record { words = c.args.before.words; wholes = n; typedef = c.args.before.typedef; names = ns }) c.in_ok-wholes.ensures
    (ap names_of c.in_ok-append.ensures ∙ names_append _ _))
