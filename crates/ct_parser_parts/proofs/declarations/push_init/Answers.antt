use Rattle.std.proofs.Common.{◌≡◌, Some, ap, ap₂, sym, ◌∙◌, Vec, Global}
use Rattle.ct_syntax.specs.declared.declarations.InitialiserItem.{InitialiserItem}
use Rattle.ct_syntax.specs.UnitViews.{view_designator, view_initialiser}
use Rattle.ct_syntax.specs.Lists.{initialisers_of}
use Rattle.ct_grammar_machine.specs.Algebra.{inits}
use Rattle.ct_parser_parts.specs.Parts.{make, option_pair}
use Rattle.ct_parser_parts.specs.Reach.{both}
use Rattle.ct_parser_parts.proofs.Rules.{aimed_some, built_at, initialisers_last}
use Rattle.ct_parser_parts.proofs.declarations.push_init.Goals as goal

pub returns : goal.returns
returns c =
    ap (λ b. make inits b tt) (ap₂ built_at
    (ap Some (ap initialisers_of c.in_ok-push.ensures.items ∙ initialisers_last _ _)
    ∙ sym (aimed_some (λ (v : Vec InitialiserItem Global). initialisers_of v.items) view_designator view_initialiser
    _ _ _ _ (c.in-Some.list, c.in-Some.item)
    (sym c.in-Some.is ∙ c.in_ok-tree.ensures.1 ∙ ap (option_pair c.args.before.tree) c.in_ok-item.ensures.1) c.designator.ensures.1))
    (c.in_ok-tree.ensures.0 ∙ ap (both c.args.before.reach) (c.in_ok-item.ensures.0 ∙ ap (λ d. both d c.args.value.reach) c.designator.ensures.0)))
