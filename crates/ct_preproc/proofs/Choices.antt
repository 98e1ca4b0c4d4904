-- What is known of an answer that may be a refusal, by the case in which it is given.
use Rattle.std.proofs.Common.{◌≡◌, Bool, true, false, sym, subst, Option, Some, None, IfOk}
use Rattle.std.specs.Prelude.{Result, Ok, Err, MatchOption}
use Rattle.std.specs.Bool.{MatchBool}
use Rattle.ct_base.specs.Answers.{IfFault, OnAnswer}
use Rattle.ct_base.specs.declared.memory.Fail.{Fail}
use Rattle.ct_base.specs.declared.memory.Fail.TheVariants.{Fault, OutOfMemory}
use Rattle.ct_directive.specs.declared.faults.PreFault.{PreFault}
use Rattle.ct_preproc.specs.Reading.{DoesThen}

pub on_true : {A F : Type 0} (b : Bool) (r : Result A (Fail F)) (P Q : Result A F → Type 0) → b ≡ true → OnAnswer r P → OnAnswer r (λ x. MatchBool b (P x) (Q x))
on_true b r P Q e h = subst (λ (b : Bool). OnAnswer r (λ x. MatchBool b (P x) (Q x))) (sym e) h

pub on_false : {A F : Type 0} (b : Bool) (r : Result A (Fail F)) (P Q : Result A F → Type 0) → b ≡ false → OnAnswer r Q → OnAnswer r (λ x. MatchBool b (P x) (Q x))
on_false b r P Q e h = subst (λ (b : Bool). OnAnswer r (λ x. MatchBool b (P x) (Q x))) (sym e) h

pub on_none : {A F T : Type 0} (o : Option T) (r : Result A (Fail F)) (P : Result A F → Type 0) (Q : Result A F → T → Type 0) → o ≡ None → OnAnswer r P
    → OnAnswer r (λ x. MatchOption o (P x) (Q x))
on_none o r P Q e h = subst (λ o. OnAnswer r (λ x. MatchOption o (P x) (Q x))) (sym e) h

pub on_some : {A F T : Type 0} (o : Option T) (v : T) (r : Result A (Fail F)) (P : Result A F → Type 0) (Q : Result A F → T → Type 0) → o ≡ Some v
    → OnAnswer r (λ x. Q x v) → OnAnswer r (λ x. MatchOption o (P x) (Q x))
on_some o v r P Q e h = subst (λ o. OnAnswer r (λ x. MatchOption o (P x) (Q x))) (sym e) h

pub on_map : {A F : Type 0} (r : Result A (Fail F)) (P Q : Result A F → Type 0) → ((x : Result A F) → P x → Q x) → OnAnswer r P → OnAnswer r Q
on_map (Ok x) P Q f h = f (Ok x) h
on_map (Err (Fault x)) P Q f h = f (Err x) h
on_map (Err OutOfMemory) P Q f h = h

-- what is known of an equal value
pub ok_same : {A E T : Type 0} (r : Result A E) (P : T → A → Type 0) (x y : T) → x ≡ y → IfOk r (P x) → IfOk r (P y)
ok_same r P x y e h = subst (λ v. IfOk r (P v)) e h

pub fault_same : {A F T : Type 0} (r : Result A (Fail F)) (P : T → F → Type 0) (x y : T) → x ≡ y → IfFault r (P x) → IfFault r (P y)
fault_same r P x y e h = subst (λ v. IfFault r (P v)) e h

pub on_same : {A F T : Type 0} (r : Result A (Fail F)) (P : T → Result A F → Type 0) (x y : T) → x ≡ y → OnAnswer r (P x) → OnAnswer r (P y)
on_same r P x y e h = subst (λ v. OnAnswer r (P v)) e h

-- behind a value that is read stands what its next step answers
pub on_next : {A B : Type 0} (Does : Result A PreFault → Type 0) (value : A) (r : Result B (Fail PreFault)) (Next : A → Result B PreFault → Type 0)
    → Does (Ok value) → OnAnswer r (Next value) → OnAnswer r (λ answer. DoesThen Does answer (λ found. Next found answer))
on_next Does value (Ok x) Next does next = (Ok value, does, next)
on_next Does value (Err (Fault x)) Next does next = (Ok value, does, next)
on_next Does value (Err OutOfMemory) Next does next = next

pub ruleset choice_rules = (on_true, on_false, on_none, on_some)
