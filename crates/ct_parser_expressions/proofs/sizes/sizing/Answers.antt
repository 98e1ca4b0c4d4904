use Rattle.std.specs.Prelude.{IfOk}
use Rattle.std.proofs.Common.{Some, sym, subst, ap, ◌∙◌}
use Rattle.ct_grammar_machine.specs.Algebra.{decl}
use Rattle.ct_parser_parts.specs.Parts.{Part}
use Rattle.ct_parser_parts.specs.Views.{declarator_part}
use Rattle.ct_grammar_machine.specs.Frames.{HaveDeclarator}
use Rattle.ct_parser_state.specs.Code.{PartStep, Stepped, scope, stack, kind_of}
use Rattle.ct_parser_state.specs.Terminals.{word_of}
use Rattle.ct_parser_declarators.proofs.Others.{sized_none, sized_some}
use Rattle.ct_parser_expressions.proofs.sizes.sizing.Goals as goal

pub returns-then-is_close_bracket : goal.returns-then-is_close_bracket
returns-then-is_close_bracket c =
    let P : Part decl → PartStep = λ z. Some (scope c.args.state.now, stack c.args.state.now, HaveDeclarator (kind_of c.args.purpose) z) in
    sized_none (scope c.args.state.now) (stack c.args.state.now) (kind_of c.args.purpose) (declarator_part c.args.inner) (word_of c.args.terminal c.args.token.now.text) (sym (c.is_close_bracket.ensures c.args.token.now.text) ∙ c.if-is_close_bracket.true)
    ∙ ap P (sym c.in_ok-array.ensures)

pub returns : goal.returns
returns c =
    subst (λ (z : PartStep). IfOk c.size_begins.result (λ r. Stepped c.size_begins.new.state r z))
    (sym (sized_some (scope c.args.state.now) (stack c.args.state.now) (kind_of c.args.purpose) (declarator_part c.args.inner) (word_of c.args.terminal c.args.token.now.text) (sym (c.is_close_bracket.ensures c.args.token.now.text) ∙ c.if-is_close_bracket.false)))
    c.size_begins.ensures
