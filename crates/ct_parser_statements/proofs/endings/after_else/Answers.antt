use Rattle.std.proofs.Common.{◌≡◌, true, false, IfOk, subst, sym}
use Rattle.ct_parser_state.specs.Code.{PartStep, Stepped, scope, stack}
use Rattle.ct_parser_state.specs.Terminals.{word_of}
use Rattle.ct_syntax.specs.Words.{Word}
use Rattle.ct_parser_statements.specs.Tests.{is_if}
use Rattle.ct_parser_statements.proofs.Begins.{else_if, else_other}
use Rattle.ct_parser_parts.specs.Views.{branches_part}
use Rattle.ct_parser_statements.proofs.endings.after_else.Goals as goal

pub returns-then-is_if : goal.returns-then-is_if
returns-then-is_if c =
    let x : Word = word_of c.args.terminal c.args.token.now.text in
    let h : is_if x ≡ true = cc (c.is_if.ensures c.args.token.now.text) in
    else_if (scope c.args.state.now) (stack c.args.state.now) (branches_part c.args.branches) x h

pub returns : goal.returns
returns c =
    let x : Word = word_of c.args.terminal c.args.token.now.text in
    let h : is_if x ≡ false = cc (c.is_if.ensures c.args.token.now.text) in
    subst (λ (z : PartStep). IfOk c.begin_else.result (λ r. Stepped c.begin_else.new.state r z)) (sym (else_other (scope c.args.state.now) (stack c.args.state.now) (branches_part c.args.branches) x h)) c.begin_else.ensures
