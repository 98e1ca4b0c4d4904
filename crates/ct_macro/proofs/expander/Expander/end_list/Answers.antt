use Rattle.std.proofs.Common.{rules, ◌∷◌, ◌++◌, [], List, length, ap, refl, sym, ◌∙◌, arith}
use Rattle.ct_macro_call.specs.declared.marked.Marked.{Marked}
use Rattle.std.proofs.lemmas.Bool.{false≢true}
use Rattle.ct_macro.specs.declared.expander.Frame.{Frame}
use Rattle.ct_macro.specs.Machine.{weight_frames}
use Rattle.ct_macro.proofs.Steps.{fault_passed, comes_moved, ended_comes, finished_comes}
use Rattle.ct_macro.proofs.expander.Expander.end_list.Goals as goal

pub returns-in_default-clause-ends : goal.returns-in_default-clause-ends
returns-in_default-clause-ends c =
    λ e macros.
    comes_moved macros c.args.room c.args.self.now.condition c.args.self.now.condition c.args.self.now.counted c.args.self.now.counted [] c.args.self.now.calls c.args.self.now.done c.args.self.now.done [] c.args.self.now.rest _
    refl refl (sym c.in_default.ensures.0) refl (sym c.requires.ended) (finished_comes macros c.args.room c.args.self.now.condition c.args.self.now.counted c.args.self.now.done)

pub returns-in_default-clause-goes : goal.returns-in_default-clause-goes
returns-in_default-clause-goes c = λ e. absurd (false≢true e)

pub returns-in_default-clause-within : goal.returns-in_default-clause-within
returns-in_default-clause-within c = λ e. absurd (false≢true e)

pub returns-in_err-push-clause-ends : goal.returns-in_err-push-clause-ends
returns-in_err-push-clause-ends c = search rules

pub returns-in_err-push-clause-goes : goal.returns-in_err-push-clause-goes
returns-in_err-push-clause-goes c = search rules

pub returns-in_err-push-clause-within : goal.returns-in_err-push-clause-within
returns-in_err-push-clause-within c = search rules

pub returns-in_err-push-clause-fault : goal.returns-in_err-push-clause-fault
returns-in_err-push-clause-fault c = search rules

pub go_on-requires : goal.go_on-requires
go_on-requires c = c.requires.room

pub returns-in_err-go_on-clause-ends : goal.returns-in_err-go_on-clause-ends
returns-in_err-go_on-clause-ends c = search rules

pub returns-in_err-go_on-clause-goes : goal.returns-in_err-go_on-clause-goes
returns-in_err-go_on-clause-goes c = search rules

pub returns-in_err-go_on-clause-within : goal.returns-in_err-go_on-clause-within
returns-in_err-go_on-clause-within c = search rules

pub returns-in_err-go_on-clause-fault : goal.returns-in_err-go_on-clause-fault
returns-in_err-go_on-clause-fault c =
    let next : Frame = record c.in-Some.frame { fulls = c.push.new.self } in
    fault_passed _ _ c.from_residual-in_err-go_on.result c.in_err-go_on.field-0.0 _ _ c.from_residual-in_err-go_on.ensures.1 c.in_err-go_on.ensures.fault
    (λ fault goes macros.
    comes_moved macros c.args.room c.args.self.now.condition c.args.self.now.condition c.args.self.now.counted c.args.self.now.counted (c.in-Some.frame ∷ c.next.new.self) c.args.self.now.calls c.args.self.now.done c.args.self.now.done [] c.args.self.now.rest _
    refl refl (sym c.in-Some.ensures) refl (sym c.requires.ended)
    (ended_comes macros c.args.room c.args.self.now.condition c.args.self.now.counted c.next.new.self c.in-Some.frame next c.args.self.now.done _ refl refl refl refl refl
    (c.in_ok-push.ensures.ok ∙ ap (λ (l : List Marked). c.in-Some.frame.fulls ++ l ∷ []) c.replace-full.ensures.value) (goes macros)))

pub returns-clause-ends : goal.returns-clause-ends
returns-clause-ends c = λ e. absurd (false≢true (sym e))

pub returns-clause-goes : goal.returns-clause-goes
returns-clause-goes c =
    let next : Frame = record c.in-Some.frame { fulls = c.push.new.self } in
    λ e macros outer comes.
    comes_moved macros c.args.room c.args.self.now.condition c.args.self.now.condition c.args.self.now.counted c.args.self.now.counted (c.in-Some.frame ∷ c.next.new.self) c.args.self.now.calls c.args.self.now.done c.args.self.now.done [] c.args.self.now.rest outer
    refl refl (sym c.in-Some.ensures) refl (sym c.requires.ended)
    (ended_comes macros c.args.room c.args.self.now.condition c.args.self.now.counted c.next.new.self c.in-Some.frame next c.args.self.now.done outer refl refl refl refl refl
    (c.in_ok-push.ensures.ok ∙ ap (λ (l : List Marked). c.in-Some.frame.fulls ++ l ∷ []) c.replace-full.ensures.value) (c.in_ok-go_on.ensures.ok macros outer comes))

pub returns-clause-within : goal.returns-clause-within
returns-clause-within c =
    λ e. let within = c.in_ok-go_on.ensures.within in
    (within.0, omega (arith, within.1, ap weight_frames c.in-Some.ensures, ap length c.requires.ended))
