use Rattle.std.proofs.Common.{rules, refl, ◌∙◌}
use Rattle.std.proofs.lemmas.Bool.{false≢true}
use Rattle.ct_macro_call.specs.Substitution.{dressed}
use Rattle.ct_macro_call.proofs.Substituting.{dress_begins, dress_first, dress_next, dress_none, dress_ends}
use Rattle.ct_macro_call.proofs.call.Call.dress.Goals as goal

pub returns-in_err-put_front : goal.returns-in_err-put_front
returns-in_err-put_front c = search rules

pub same-source : goal.same-source
same-source c = refl

pub loop-marked-init : goal.loop-marked-init
loop-marked-init c =
    dress_begins (dressed c.args.self.now) c.args.self.now.name.token c.new-put.result c.put_front.new.self c.args.tokens c.new-source.result c.new-put.ensures c.in_ok-put_front.ensures c.new-source.ensures

pub returns-in_err-whole : goal.returns-in_err-whole
returns-in_err-whole c = search rules

pub same-put : goal.same-put
same-put c = refl

pub same-source-in-Continue-branch-3 : goal.same-source-in-Continue-branch-3
same-source-in-Continue-branch-3 c = refl

pub same-put-in-Continue-branch-3 : goal.same-put-in-Continue-branch-3
same-put-in-Continue-branch-3 c = refl

pub loop-marked-smaller-in-Continue-branch-3 : goal.loop-marked-smaller-in-Continue-branch-3
loop-marked-smaller-in-Continue-branch-3 c = search rules

pub loop-marked-preserved-in-Continue-branch-3 : goal.loop-marked-preserved-in-Continue-branch-3
loop-marked-preserved-in-Continue-branch-3 c =
    dress_first (dressed c.args.self.now) c.args.self.now.name.token c.loop-marked.put c.push.new.self c.loop-marked.source c.next.new.self c.in-Some.marked c.in_ok-whole.whole c.respaced.result (c.if-is_empty.ensures.0 refl) c.in_ok-push.ensures.ok c.respaced.ensures c.in_ok-whole.ensures
    c.in-Some.ensures (λ e. false≢true (c.if-not-is_empty.ensures.1 e))
    ∙ c.loop-marked.invariant

pub returns-in_err-push : goal.returns-in_err-push
returns-in_err-push c = search rules

pub same-source-in-Continue-branch-4 : goal.same-source-in-Continue-branch-4
same-source-in-Continue-branch-4 c = refl

pub same-put-in-Continue-branch-4 : goal.same-put-in-Continue-branch-4
same-put-in-Continue-branch-4 c = refl

pub loop-marked-smaller-in-Continue-branch-4 : goal.loop-marked-smaller-in-Continue-branch-4
loop-marked-smaller-in-Continue-branch-4 c = search rules

pub loop-marked-preserved-in-Continue-branch-4 : goal.loop-marked-preserved-in-Continue-branch-4
loop-marked-preserved-in-Continue-branch-4 c =
    dress_next (dressed c.args.self.now) c.args.self.now.name.token c.loop-marked.put c.push-else-is_empty.new.self c.loop-marked.source c.next.new.self c.in-Some.marked c.in_ok-whole.whole (λ e. false≢true (c.if-is_empty.ensures.1 e)) c.in_ok-push-2.ensures.ok c.in_ok-whole.ensures
    c.in-Some.ensures (λ e. false≢true (c.if-not-is_empty.ensures.1 e))
    ∙ c.loop-marked.invariant

pub returns-in_err-push-2 : goal.returns-in_err-push-2
returns-in_err-push-2 c = search rules

pub same-source-else-not-is_empty : goal.same-source-else-not-is_empty
same-source-else-not-is_empty c = refl

pub loop-marked-smaller-else-not-is_empty : goal.loop-marked-smaller-else-not-is_empty
loop-marked-smaller-else-not-is_empty c = search rules

pub loop-marked-preserved-else-not-is_empty : goal.loop-marked-preserved-else-not-is_empty
loop-marked-preserved-else-not-is_empty c =
    dress_none (dressed c.args.self.now) c.args.self.now.name.token c.loop-marked.put c.loop-marked.source c.next.new.self c.in-Some.marked c.in-Some.ensures (c.if-not-is_empty.ensures.0 refl) ∙ c.loop-marked.invariant

pub same-source-else-not-is_empty-2 : goal.same-source-else-not-is_empty-2
same-source-else-not-is_empty-2 c = refl

pub loop-marked-smaller : goal.loop-marked-smaller
loop-marked-smaller c = search rules

pub loop-marked-preserved : goal.loop-marked-preserved
loop-marked-preserved c =
    dress_none (dressed c.args.self.now) c.args.self.now.name.token c.loop-marked.put c.loop-marked.source c.next.new.self c.in-Some.marked c.in-Some.ensures (c.if-not-is_empty.ensures.0 refl) ∙ c.loop-marked.invariant

pub returns : goal.returns
returns c = dress_ends (dressed c.args.self.now) c.args.self.now.name.token c.loop-marked.put c.loop-marked.source c.in_default.ensures.0 ∙ c.loop-marked.invariant
