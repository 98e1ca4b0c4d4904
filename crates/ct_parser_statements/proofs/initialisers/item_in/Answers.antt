use Rattle.std.proofs.Common.{◌≡◌, true, false, IfOk, subst, sym}
use Rattle.ct_parser_state.specs.Code.{PartStep, Stepped, scope, stack}
use Rattle.ct_parser_state.specs.Terminals.{word_of}
use Rattle.ct_syntax.specs.Words.{Word}
use Rattle.ct_parser_statements.specs.Tests.{is_dot, is_open_bracket}
use Rattle.ct_parser_statements.proofs.Begins.{item_dotted, item_indexed, item_other}
use Rattle.ct_parser_parts.specs.Views.{initialisers_part}
use Rattle.ct_parser_statements.proofs.initialisers.item_in.Goals as goal

pub returns-then-is_dot : goal.returns-then-is_dot
returns-then-is_dot c =
    let x : Word = word_of c.args.terminal c.args.token.now.text in
    let h : is_dot x ≡ true = cc (c.is_dot.ensures c.args.token.now.text) in
    subst (λ (z : PartStep). IfOk c.dotted_item.result (λ r. Stepped c.dotted_item.new.state r z)) (sym (item_dotted (scope c.args.state.now) (stack c.args.state.now) (initialisers_part c.args.items) x h)) c.dotted_item.ensures

pub returns-then-is_open_bracket : goal.returns-then-is_open_bracket
returns-then-is_open_bracket c =
    let x : Word = word_of c.args.terminal c.args.token.now.text in
    let h : is_open_bracket x ≡ true = cc (c.is_open_bracket.ensures c.args.token.now.text) in
    subst (λ (z : PartStep). IfOk c.indexed_item.result (λ r. Stepped c.indexed_item.new.state r z)) (sym (item_indexed (scope c.args.state.now) (stack c.args.state.now) (initialisers_part c.args.items) x h)) c.indexed_item.ensures

pub returns : goal.returns
returns c =
    let x : Word = word_of c.args.terminal c.args.token.now.text in
    let h : is_dot x ≡ false = cc (c.is_dot.ensures c.args.token.now.text) in
    let e : is_open_bracket x ≡ false = cc (c.is_open_bracket.ensures c.args.token.now.text) in
    subst (λ (z : PartStep). IfOk c.begin_item.result (λ r. Stepped c.begin_item.new.state r z)) (sym (item_other (scope c.args.state.now) (stack c.args.state.now) (initialisers_part c.args.items) x h e)) c.begin_item.ensures
