use Rattle.std.specs.Prelude.{IfOk}
use Rattle.std.proofs.Common.{Some, sym, subst, ap, ◌∙◌}
use Rattle.ct_syntax.specs.declared.expressions.ParameterForm.TheVariants as form
use Rattle.ct_grammar_machine.specs.Algebra.{decl}
use Rattle.ct_parser_parts.specs.Parts.{Part, parts_built}
use Rattle.ct_parser_parts.specs.Views.{declarator_part}
use Rattle.ct_grammar_machine.specs.Frames.{HaveDeclarator}
use Rattle.ct_parser_state.specs.Code.{PartStep, Stepped, scope, stack, kind_of}
use Rattle.ct_parser_state.specs.Terminals.{word_of}
use Rattle.ct_parser_declarators.proofs.Others.{listed_none, listed_some}
use Rattle.ct_parser_declarators.proofs.specifiers.listing.Goals as goal

pub returns-then-is_close : goal.returns-then-is_close
returns-then-is_close c =
    let P : Part decl → PartStep = λ z. Some (scope c.args.state.now, stack c.args.state.now, HaveDeclarator (kind_of c.args.purpose) z) in
    listed_none (scope c.args.state.now) (stack c.args.state.now) (kind_of c.args.purpose) (declarator_part c.args.inner) (word_of c.args.terminal c.args.token.now.text) (sym (c.is_close.ensures c.args.token.now.text) ∙ c.if-is_close.true)
    ∙ ap P (sym (c.in_ok-function.ensures ∙ ap (λ z. parts_built.function (declarator_part c.args.inner) form.Empty z) c.no_parameters-none.ensures))

pub returns : goal.returns
returns c =
    subst (λ (z : PartStep). IfOk c.list_begins.result (λ r. Stepped c.list_begins.new.state r z))
    (sym (listed_some (scope c.args.state.now) (stack c.args.state.now) (kind_of c.args.purpose) (declarator_part c.args.inner) (word_of c.args.terminal c.args.token.now.text) (sym (c.is_close.ensures c.args.token.now.text) ∙ c.if-is_close.false)))
    c.list_begins.ensures
