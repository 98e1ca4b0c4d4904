use Rattle.std.specs.Prelude.{IfOk}
use Rattle.std.proofs.Common.{sym, subst, ap, ◌∙◌}
use Rattle.ct_parser_parts.specs.Parts.{parts_built}
use Rattle.ct_parser_parts.specs.Views.{specs_part}
use Rattle.ct_grammar_machine.specs.Steps as s
use Rattle.ct_parser_state.specs.Code.{PartStep, Stepped, scope, stack, which_of}
use Rattle.ct_parser_state.specs.Terminals.{word_of}
use Rattle.ct_parser_declarators.proofs.Others.{tagged_brace, tagged_other}
use Rattle.ct_parser_declarators.proofs.specifiers.tagged.Goals as goal

pub returns-then-is_open_brace : goal.returns-then-is_open_brace
returns-then-is_open_brace c =
    subst (λ (z : PartStep). IfOk c.open_braces.result (λ r. Stepped c.open_braces.new.state r z))
    (sym (tagged_brace (scope c.args.state.now) (stack c.args.state.now) (which_of c.args.sort) (specs_part c.args.specs) c.args.tag (word_of c.args.terminal c.args.token.now.text) (sym (c.is_open_brace.ensures c.args.token.now.text) ∙ c.if-is_open_brace.true)))
    c.open_braces.ensures

pub returns : goal.returns
returns c =
    subst (λ (z : PartStep). IfOk c.specs_step.result (λ r. Stepped c.specs_step.new.state r z))
    (sym (tagged_other (scope c.args.state.now) (stack c.args.state.now) (which_of c.args.sort) (specs_part c.args.specs) c.args.tag (word_of c.args.terminal c.args.token.now.text) (sym (c.is_open_brace.ensures c.args.token.now.text) ∙ c.if-is_open_brace.false)
    ∙ ap (λ z. s.specs_step parts_built (scope c.args.state.now) (stack c.args.state.now) z (word_of c.args.terminal c.args.token.now.text)) (sym c.in_ok-specs.ensures)))
    c.specs_step.ensures
