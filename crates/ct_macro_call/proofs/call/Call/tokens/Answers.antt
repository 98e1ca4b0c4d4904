use Rattle.std.proofs.Common.{rules, refl}
use Rattle.ct_macro_call.specs.Substitution.{tokens_at}
use Rattle.ct_macro_call.proofs.Substituting.{put_begins, pasted_on, plain_on, never_on, all_on}
use Rattle.ct_macro_call.proofs.call.Call.tokens.Goals as goal

pub loop-operand-init : goal.loop-operand-init
loop-operand-init c = put_begins (tokens_at c.args.self.now.names c.args.self.now.raws c.args.fulls.now) c.args.self.now.body c.new-done.result c.new-left.result c.as_slice-rest.result.now c.new-done.ensures c.new-left.ensures c.as_slice-rest.ensures

pub returns-in_err-tokens : goal.returns-in_err-tokens
returns-in_err-tokens c = search rules

pub same-left : goal.same-left
same-left c = refl

pub returns-in_err-joint : goal.returns-in_err-joint
returns-in_err-joint c = search rules

pub returns-in_default-2 : goal.returns-in_default-2
returns-in_default-2 c =
    never_on (tokens_at c.args.self.now.names c.args.self.now.raws c.args.fulls.now) c.args.self.now.body c.loop-operand.done c.loop-operand.left c.replace-before.result c.in_ok-tokens.tokens c.in-Some.operand.now c.loop-operand.rest.now c.in-Some.more.now
    c.loop-operand.invariant c.in-Some.ensures.cases.0 c.if-operand.true c.replace-before.ensures.value c.in_ok-tokens.ensures (rw c.in_default-2.is at c.in_ok-joint.ensures)

pub same-done : goal.same-done
same-done c = refl

pub same-done-else-operand : goal.same-done-else-operand
same-done-else-operand c = refl

pub returns-in_err-append : goal.returns-in_err-append
returns-in_err-append c = search rules

pub same-tokens : goal.same-tokens
same-tokens c = refl

pub same-done-else-operand-2 : goal.same-done-else-operand-2
same-done-else-operand-2 c = refl

pub loop-operand-smaller-in-Some-2 : goal.loop-operand-smaller-in-Some-2
loop-operand-smaller-in-Some-2 c = search rules

pub loop-operand-preserved-in-Some-2 : goal.loop-operand-preserved-in-Some-2
loop-operand-preserved-in-Some-2 c =
    pasted_on c.one_tokenization.ensures (tokens_at c.args.self.now.names c.args.self.now.raws c.args.fulls.now) c.args.self.now.body c.loop-operand.done c.loop-operand.left c.replace-before.result c.in_ok-tokens.tokens c.in-Some-2.joint c.in-Some.operand.now c.loop-operand.rest.now c.in-Some.more.now
    c.loop-operand.invariant c.in-Some.ensures.cases.0 c.if-operand.true c.replace-before.ensures.value c.in_ok-tokens.ensures (rw c.in-Some-2.is at c.in_ok-joint.ensures)

pub loop-operand-smaller : goal.loop-operand-smaller
loop-operand-smaller c = search rules

pub loop-operand-preserved : goal.loop-operand-preserved
loop-operand-preserved c =
    plain_on (tokens_at c.args.self.now.names c.args.self.now.raws c.args.fulls.now) c.args.self.now.body c.loop-operand.done c.loop-operand.left c.replace-before.result c.in_ok-tokens.tokens c.append.new.self c.in-Some.operand.now c.loop-operand.rest.now c.in-Some.more.now
    c.loop-operand.invariant c.in-Some.ensures.cases.0 c.if-operand.false c.replace-before.ensures.value c.in_ok-tokens.ensures c.in_ok-append.ensures

pub returns-in_err-append-2 : goal.returns-in_err-append-2
returns-in_err-append-2 c = search rules

pub same-done-2 : goal.same-done-2
same-done-2 c = refl

pub returns : goal.returns
returns c =
    all_on (tokens_at c.args.self.now.names c.args.self.now.raws c.args.fulls.now) c.args.self.now.body c.loop-operand.done c.loop-operand.left c.append-2.new.self c.loop-operand.rest.now c.loop-operand.invariant c.in_default.ensures.cases c.in_ok-append-2.ensures
