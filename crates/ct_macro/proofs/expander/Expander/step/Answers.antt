use Rattle.std.proofs.Common.{rules, length, ap, refl, sym, ◌∙◌, arith}
use Rattle.std.proofs.lemmas.Bool.{false≢true}
use Rattle.std.proofs.lemmas.Result.{IfOk-weaker}
use Rattle.ct_macro.proofs.Steps.{if_fault, comes_moved}
use Rattle.ct_macro.proofs.expander.Expander.step.Goals as goal

pub read-requires : goal.read-requires
read-requires c = c.requires

pub returns-in_err-read-in-Some-clause-ends : goal.returns-in_err-read-in-Some-clause-ends
returns-in_err-read-in-Some-clause-ends c = search rules

pub returns-in_err-read-in-Some-clause-goes : goal.returns-in_err-read-in-Some-clause-goes
returns-in_err-read-in-Some-clause-goes c = search rules

pub returns-in_err-read-in-Some-clause-within : goal.returns-in_err-read-in-Some-clause-within
returns-in_err-read-in-Some-clause-within c = search rules

pub returns-in_err-read-in-Some-clause-fault : goal.returns-in_err-read-in-Some-clause-fault
returns-in_err-read-in-Some-clause-fault c = search rules

pub end_list-requires-clause-room : goal.end_list-requires-clause-room
end_list-requires-clause-room c = c.requires

pub end_list-requires-clause-ended : goal.end_list-requires-clause-ended
end_list-requires-clause-ended c = c.in-None.ensures.1

pub returns-in_ok-read-in-Some-clause-ends : goal.returns-in_ok-read-in-Some-clause-ends
returns-in_ok-read-in-Some-clause-ends c = λ e. absurd (false≢true (sym e))

pub returns-in_ok-read-in-Some-clause-goes : goal.returns-in_ok-read-in-Some-clause-goes
returns-in_ok-read-in-Some-clause-goes c = λ e. c.in_ok-read-in-Some.ensures.goes c.args.self.now refl refl refl refl c.in-Some.ensures

pub returns-in_ok-read-in-Some-clause-within : goal.returns-in_ok-read-in-Some-clause-within
returns-in_ok-read-in-Some-clause-within c =
    λ e. let within = c.in_ok-read-in-Some.ensures.within in (within.0, omega (arith, within.1, ap length c.in-Some.ensures))

pub returns-in-None-clause-ends : goal.returns-in-None-clause-ends
returns-in-None-clause-ends c =
    IfOk-weaker c.end_list.result _ _ (λ more given e. comes_moved c.args.macros.now c.args.room c.args.self.now.condition c.args.self.now.condition c.args.self.now.counted c.args.self.now.counted c.args.self.now.calls c.args.self.now.calls c.args.self.now.done c.args.self.now.done c.next.new.self c.args.self.now.rest _ refl refl refl refl (c.in-None.ensures.1 ∙ sym c.in-None.ensures.0) (given e c.args.macros.now)) c.end_list.ensures.ends

pub returns-in-None-clause-goes : goal.returns-in-None-clause-goes
returns-in-None-clause-goes c =
    IfOk-weaker c.end_list.result _ _ (λ more given e outer comes. comes_moved c.args.macros.now c.args.room c.args.self.now.condition c.args.self.now.condition c.args.self.now.counted c.args.self.now.counted c.args.self.now.calls c.args.self.now.calls c.args.self.now.done c.args.self.now.done c.next.new.self c.args.self.now.rest outer refl refl refl refl (c.in-None.ensures.1 ∙ sym c.in-None.ensures.0) (given e c.args.macros.now outer comes)) c.end_list.ensures.goes

pub returns-in-None-clause-within : goal.returns-in-None-clause-within
returns-in-None-clause-within c =
    IfOk-weaker c.end_list.result _ _ (λ more given e. let within = given e in (within.0, omega (arith, within.1, ap length (c.in-None.ensures.1 ∙ sym c.in-None.ensures.0)))) c.end_list.ensures.within

pub returns-in-None-clause-fault : goal.returns-in-None-clause-fault
returns-in-None-clause-fault c =
    if_fault _ _ c.end_list.result _ _ c.end_list.ensures.fault (λ fault given. comes_moved c.args.macros.now c.args.room c.args.self.now.condition c.args.self.now.condition c.args.self.now.counted c.args.self.now.counted c.args.self.now.calls c.args.self.now.calls c.args.self.now.done c.args.self.now.done c.next.new.self c.args.self.now.rest _ refl refl refl refl (c.in-None.ensures.1 ∙ sym c.in-None.ensures.0) (given c.args.macros.now))
