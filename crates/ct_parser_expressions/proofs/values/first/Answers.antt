use Rattle.std.specs.Prelude.{IfOk}
use Rattle.std.proofs.Common.{Some, sym, subst, ap, ◌∙◌}
use Rattle.ct_grammar_machine.specs.Algebra.{expr}
use Rattle.ct_parser_parts.specs.Parts.{Part, parts_built}
use Rattle.ct_parser_parts.specs.Views.{expr_of}
use Rattle.ct_grammar_machine.specs.Frames.{Have}
use Rattle.ct_parser_state.specs.Code.{PartStep, Stepped, scope, stack}
use Rattle.ct_parser_state.specs.Terminals.{word_of}
use Rattle.ct_parser_declarators.proofs.Others.{called_none, called_some}
use Rattle.ct_parser_expressions.proofs.values.first.Goals as goal

pub returns-then-is_close : goal.returns-then-is_close
returns-then-is_close c =
    let P : Part expr → PartStep = λ z. Some (scope c.args.state.now, stack c.args.state.now, Have z) in
    called_none (scope c.args.state.now) (stack c.args.state.now) (expr_of c.args.function) (word_of c.args.terminal c.args.token.now.text) (sym (c.is_close.ensures c.args.token.now.text) ∙ c.if-is_close.true)
    ∙ ap P (sym (c.in_ok-whole.ensures ∙ ap (λ z. parts_built.call (expr_of c.args.function) z) c.no_arguments-none.ensures))

pub returns : goal.returns
returns c =
    subst (λ (z : PartStep). IfOk c.argument_begins.result (λ r. Stepped c.argument_begins.new.state r z))
    (sym (called_some (scope c.args.state.now) (stack c.args.state.now) (expr_of c.args.function) (word_of c.args.terminal c.args.token.now.text) (sym (c.is_close.ensures c.args.token.now.text) ∙ c.if-is_close.false)))
    c.argument_begins.ensures
