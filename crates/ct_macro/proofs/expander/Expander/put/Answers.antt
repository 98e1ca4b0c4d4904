use Rattle.std.proofs.Common.{rules, ◌++◌, ◌+◌, ◌<◌, ◌≤◌, List, length, ap, refl, sym, subst, arith}
use Rattle.ct_macro_call.specs.declared.marked.Marked.{Marked}
use Rattle.ct_macro.specs.declared.faults.MacroKind.TheVariants.{BadPaste, TooLong}
use Rattle.ct_macro_call.specs.Substitution.{IsReplacement}
use Rattle.ct_macro.specs.Expansion.{fault_at}
use Rattle.ct_macro.specs.Machine.{weight_each, weight_frames}
use Rattle.ct_macro.proofs.Steps.{fault_is, comes_moved, put_goes, unpasted_goes, too_long_goes, put_lighter}
use Rattle.ct_macro.proofs.expander.Expander.put.Goals as goal

pub returns-in_err-put-clause-ok : goal.returns-in_err-put-clause-ok
returns-in_err-put-clause-ok c = search rules

pub returns-in_err-put-clause-within : goal.returns-in_err-put-clause-within
returns-in_err-put-clause-within c = search rules

pub returns-in_err-put-clause-fault : goal.returns-in_err-put-clause-fault
returns-in_err-put-clause-fault c = search rules

pub returns-in_default-clause-fault : goal.returns-in_default-clause-fault
returns-in_default-clause-fault c =
    fault_is (Unit {0}) _ _ c.refusal.result (fault_at BadPaste c.args.frame.call.name) c.refusal.ensures
    (λ macros. unpasted_goes macros c.args.room c.args.self.now.counted c.args.self.now.calls c.args.frame c.requires.ready
    (λ put is. (rw c.in_default.is at c.in_ok-put.ensures) put (subst (λ (f : List (List Marked)). IsReplacement c.args.frame.call f put) (sym c.as_slice.ensures) is)))

pub overflow_sub-room : goal.overflow_sub-room
overflow_sub-room c = c.requires.room

pub returns-then-len-room-clause-fault : goal.returns-then-len-room-clause-fault
returns-then-len-room-clause-fault c =
    let over : c.args.room < c.args.self.now.counted + length c.in-Some.put = omega arith in
    fault_is (Unit {0}) _ _ c.refusal-then-len-room.result (fault_at TooLong c.args.frame.call.name) c.refusal-then-len-room.ensures
    (λ macros. too_long_goes macros c.args.room c.args.self.now.counted c.args.self.now.calls c.args.frame c.in-Some.put c.requires.ready
    (subst (λ (f : List (List Marked)). IsReplacement c.args.frame.call f c.in-Some.put) c.as_slice.ensures (rw c.in-Some.is at c.in_ok-put.ensures)) over)

pub same-put : goal.same-put
same-put c = refl

pub overflow_add-self : goal.overflow_add-self
overflow_add-self c = omega arith

pub same-done : goal.same-done
same-done c = refl

pub same-rest : goal.same-rest
same-rest c = refl

pub returns-in_err-put_front-clause-ok : goal.returns-in_err-put_front-clause-ok
returns-in_err-put_front-clause-ok c = search rules

pub returns-in_err-put_front-clause-within : goal.returns-in_err-put_front-clause-within
returns-in_err-put_front-clause-within c = search rules

pub returns-in_err-put_front-clause-fault : goal.returns-in_err-put_front-clause-fault
returns-in_err-put_front-clause-fault c = search rules

pub returns-clause-ok : goal.returns-clause-ok
returns-clause-ok c =
    let fits : c.args.self.now.counted + length c.in-Some.put ≤ c.args.room = omega arith in
    λ macros outer comes.
    put_goes macros c.args.room c.args.self.now.counted c.args.self.now.calls c.args.frame c.in-Some.put outer c.requires.ready
    (subst (λ (f : List (List Marked)). IsReplacement c.args.frame.call f c.in-Some.put) c.as_slice.ensures (rw c.in-Some.is at c.in_ok-put.ensures)) fits
    (comes_moved macros c.args.room c.args.frame.condition c.args.frame.condition (c.args.self.now.counted + c.len-2.result) (c.args.self.now.counted + length c.in-Some.put) c.args.self.now.calls c.args.self.now.calls c.args.frame.done c.args.frame.done
    c.put_front.new.self (c.in-Some.put ++ c.args.frame.rest) outer refl (ap (λ n. c.args.self.now.counted + n) c.len-2.ensures) refl refl c.in_ok-put_front.ensures comes)

pub returns-clause-within : goal.returns-clause-within
returns-clause-within c =
    let fits : c.args.self.now.counted + c.len-2.result ≤ c.args.room = omega arith in
    (fits, put_lighter c.args.room c.args.self.now.counted c.len-2.result (weight_frames c.args.self.now.calls) (weight_each c.args.frame.waiting) c.in-Some.put c.args.frame.rest c.put_front.new.self c.in_ok-put_front.ensures c.len-2.ensures fits)
