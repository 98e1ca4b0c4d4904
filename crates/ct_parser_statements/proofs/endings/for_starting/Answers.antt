use Rattle.std.proofs.Common.{◌≡◌, true, false, IfOk, subst, sym}
use Rattle.ct_parser_state.specs.Code.{PartStep, Stepped, scope, stack}
use Rattle.ct_parser_state.specs.Terminals.{word_of}
use Rattle.ct_syntax.specs.Words.{Word}
use Rattle.ct_parser_statements.specs.Tests.{is_assertion, is_semicolon}
use Rattle.ct_parser_statements.proofs.Begins.{start_assertion, start_none, start_other}
use Rattle.ct_parser_statements.proofs.endings.for_starting.Goals as goal

pub returns-then-is_assertion : goal.returns-then-is_assertion
returns-then-is_assertion c =
    let x : Word = word_of c.args.terminal c.args.token.now.text in
    let h : is_assertion x ≡ true = cc (c.is_assertion.ensures c.args.token.now.text) in
    start_assertion (scope c.args.state.now) (stack c.args.state.now) x h

pub returns-then-is_semicolon : goal.returns-then-is_semicolon
returns-then-is_semicolon c =
    let x : Word = word_of c.args.terminal c.args.token.now.text in
    let h : is_semicolon x ≡ true = cc (c.is_semicolon.ensures c.args.token.now.text) in
    subst (λ (z : PartStep). IfOk c.no_start.result (λ r. Stepped c.no_start.new.state r z)) (sym (start_none (scope c.args.state.now) (stack c.args.state.now) x h)) c.no_start.ensures

pub returns : goal.returns
returns c =
    let x : Word = word_of c.args.terminal c.args.token.now.text in
    let h : is_assertion x ≡ false = cc (c.is_assertion.ensures c.args.token.now.text) in
    let e : is_semicolon x ≡ false = cc (c.is_semicolon.ensures c.args.token.now.text) in
    subst (λ (z : PartStep). IfOk c.begin_start.result (λ r. Stepped c.begin_start.new.state r z)) (sym (start_other (scope c.args.state.now) (stack c.args.state.now) x h e)) c.begin_start.ensures
