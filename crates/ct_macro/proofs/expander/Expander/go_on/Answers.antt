use Rattle.std.proofs.Common.{rules, false, ◌≡◌, ◌∷◌, ◌++◌, [], List, length, ap, refl, sym, ◌∙◌, arith}
use Rattle.ct_macro_call.specs.declared.marked.Marked.{Marked}
use Rattle.std.proofs.lemmas.List.{append-nil}
use Rattle.ct_macro.specs.declared.expander.Frame.{Frame}
use Rattle.ct_macro.specs.Machine.{weight_each, weight_frames}
use Rattle.ct_macro.proofs.Steps.{on_ok, if_fault, comes_moved, waits_moved, argument_goes}
use Rattle.ct_macro.proofs.expander.Expander.go_on.Goals as goal

pub put-requires-clause-room : goal.put-requires-clause-room
put-requires-clause-room c = c.requires

pub put-requires-clause-ready : goal.put-requires-clause-ready
put-requires-clause-ready c = c.in_default.ensures.1

pub returns-in_default-clause-ok : goal.returns-in_default-clause-ok
returns-in_default-clause-ok c =
    on_ok _ _ c.put.result _ _ c.put.ensures.ok
    (λ goes macros outer comes. waits_moved macros c.args.room c.args.self.now.counted c.args.self.now.calls c.args.frame c.next.new.self outer (c.in_default.ensures.1 ∙ sym c.in_default.ensures.0) (goes macros outer comes))

pub returns-in_default-clause-within : goal.returns-in_default-clause-within
returns-in_default-clause-within c =
    on_ok _ _ c.put.result _ _ c.put.ensures.within (λ within. (within.0, omega (arith, within.1, ap weight_each (c.in_default.ensures.1 ∙ sym c.in_default.ensures.0))))

pub returns-in_default-clause-fault : goal.returns-in_default-clause-fault
returns-in_default-clause-fault c =
    if_fault _ _ c.put.result _ _ c.put.ensures.fault
    (λ fault goes macros. waits_moved macros c.args.room c.args.self.now.counted c.args.self.now.calls c.args.frame c.next.new.self _ (c.in_default.ensures.1 ∙ sym c.in_default.ensures.0) (goes macros))

pub returns-in_err-put_front-clause-ok : goal.returns-in_err-put_front-clause-ok
returns-in_err-put_front-clause-ok c = search rules

pub returns-in_err-put_front-clause-within : goal.returns-in_err-put_front-clause-within
returns-in_err-put_front-clause-within c = search rules

pub returns-in_err-put_front-clause-fault : goal.returns-in_err-put_front-clause-fault
returns-in_err-put_front-clause-fault c = search rules

pub same-rest : goal.same-rest
same-rest c = refl

pub returns-in_err-push-clause-ok : goal.returns-in_err-push-clause-ok
returns-in_err-push-clause-ok c = search rules

pub returns-in_err-push-clause-within : goal.returns-in_err-push-clause-within
returns-in_err-push-clause-within c = search rules

pub returns-in_err-push-clause-fault : goal.returns-in_err-push-clause-fault
returns-in_err-push-clause-fault c = search rules

pub returns-clause-ok : goal.returns-clause-ok
returns-clause-ok c =
    let next : Frame = record c.args.frame { waiting = c.next.new.self } in
    λ macros outer comes.
    argument_goes macros c.args.room c.args.self.now.counted c.args.self.now.calls c.args.frame next c.in-Some.argument outer refl refl c.in-Some.ensures refl refl refl
    (comes_moved macros c.args.room false false c.args.self.now.counted c.args.self.now.counted c.push.new.self (next ∷ c.args.self.now.calls) c.new.result [] c.put_front.new.self c.in-Some.argument outer
    refl refl c.in_ok-push.ensures c.new.ensures (c.in_ok-put_front.ensures ∙ ap (λ (l : List Marked). c.in-Some.argument ++ l) c.new-rest.ensures ∙ append-nil c.in-Some.argument) comes)

pub returns-clause-within : goal.returns-clause-within
returns-clause-within c =
    let rest : c.put_front.new.self ≡ c.in-Some.argument = c.in_ok-put_front.ensures ∙ ap (λ (l : List Marked). c.in-Some.argument ++ l) c.new-rest.ensures ∙ append-nil c.in-Some.argument in
    (c.requires, omega (arith, ap length rest, ap weight_frames c.in_ok-push.ensures, ap weight_each c.in-Some.ensures))
