use Rattle.std.proofs.Common.{◌≡◌, true, false, IfOk, subst, sym}
use Rattle.ct_parser_state.specs.Code.{PartStep, Stepped, scope, stack}
use Rattle.ct_parser_state.specs.Terminals.{word_of}
use Rattle.ct_syntax.specs.Words.{Word}
use Rattle.ct_parser_statements.specs.Tests.{is_assertion, is_close_brace}
use Rattle.ct_parser_statements.proofs.Begins.{part_assertion, part_closed, part_other}
use Rattle.ct_parser_statements.proofs.statements.block_part.Goals as goal

pub returns-then-is_assertion : goal.returns-then-is_assertion
returns-then-is_assertion c =
    let x : Word = word_of c.args.terminal c.args.token.now.text in
    let h : is_assertion x ≡ true = cc (c.is_assertion.ensures c.args.token.now.text) in
    part_assertion (scope c.args.state.now) (stack c.args.state.now) x h

pub returns-then-is_close_brace : goal.returns-then-is_close_brace
returns-then-is_close_brace c =
    let x : Word = word_of c.args.terminal c.args.token.now.text in
    let h : is_close_brace x ≡ true = cc (c.is_close_brace.ensures c.args.token.now.text) in
    subst (λ (z : PartStep). IfOk c.close_body.result (λ r. Stepped c.close_body.new.state r z)) (sym (part_closed (scope c.args.state.now) (stack c.args.state.now) x h)) c.close_body.ensures

pub returns : goal.returns
returns c =
    let x : Word = word_of c.args.terminal c.args.token.now.text in
    let h : is_assertion x ≡ false = cc (c.is_assertion.ensures c.args.token.now.text) in
    let e : is_close_brace x ≡ false = cc (c.is_close_brace.ensures c.args.token.now.text) in
    subst (λ (z : PartStep). IfOk c.begin_inside.result (λ r. Stepped c.begin_inside.new.state r z)) (sym (part_other (scope c.args.state.now) (stack c.args.state.now) x h e)) c.begin_inside.ensures
