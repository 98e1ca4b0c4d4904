-- What is known of an answer by the case in which it is given.
use Rattle.std.proofs.Common.{◌≡◌, Bool, true, false, sym, subst, Option, Some, None, IfOk}
use Rattle.std.specs.Prelude.{Result, Ok, Err, MatchOption}
use Rattle.std.specs.Bool.{MatchBool}

pub ok_true : {A E : Type 0} (b : Bool) (r : Result A E) (P Q : A → Type 0) → b ≡ true → IfOk r P → IfOk r (λ x. MatchBool b (P x) (Q x))
ok_true b r P Q e h = subst (λ (b : Bool). IfOk r (λ x. MatchBool b (P x) (Q x))) (sym e) h

pub ok_false : {A E : Type 0} (b : Bool) (r : Result A E) (P Q : A → Type 0) → b ≡ false → IfOk r Q → IfOk r (λ x. MatchBool b (P x) (Q x))
ok_false b r P Q e h = subst (λ (b : Bool). IfOk r (λ x. MatchBool b (P x) (Q x))) (sym e) h

pub ok_none : {A E T : Type 0} (o : Option T) (r : Result A E) (P : A → Type 0) (Q : A → T → Type 0) → o ≡ None → IfOk r P
    → IfOk r (λ x. MatchOption o (P x) (Q x))
ok_none o r P Q e h = subst (λ o. IfOk r (λ x. MatchOption o (P x) (Q x))) (sym e) h

pub ok_some : {A E T : Type 0} (o : Option T) (v : T) (r : Result A E) (P : A → Type 0) (Q : A → T → Type 0) → o ≡ Some v → IfOk r (λ x. Q x v)
    → IfOk r (λ x. MatchOption o (P x) (Q x))
ok_some o v r P Q e h = subst (λ o. IfOk r (λ x. MatchOption o (P x) (Q x))) (sym e) h

pub ok_map : {A E : Type 0} (r : Result A E) (P Q : A → Type 0) → ((x : A) → P x → Q x) → IfOk r P → IfOk r Q
ok_map (Ok x) P Q f h = f x h
ok_map (Err e) P Q f h = h
