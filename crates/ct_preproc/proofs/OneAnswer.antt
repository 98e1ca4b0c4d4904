-- Steps that have one answer at most, one behind the other.
use Rattle.std.proofs.Common.{◌≡◌, Bool, true, false, Option, Some, None, subst, sym, ◌∙◌}
use Rattle.std.specs.Prelude.{Result, Ok, Err, MatchOption}
use Rattle.std.specs.Bool.{MatchBool}
use Rattle.ct_directive.specs.declared.faults.PreFault.{PreFault}
use Rattle.ct_preproc.specs.Reading.{Goes, DoesThen}

-- one thing at most has this property
abbrev pub HasOne : {A : Type 0} → (A → Type 0) → Type 0
HasOne {A} Has = (a b : A) → Has a → Has b → a ≡ b

pub this_one : {A : Type 0} (x : A) → HasOne (λ (a : A). a ≡ x)
this_one x a b f g = f ∙ sym g

pub choice_one : {A : Type 0} (t : Bool) (P Q : A → Type 0) → HasOne P → HasOne Q → HasOne (λ (a : A). MatchBool t (P a) (Q a))
choice_one true P Q p q a b f g = p a b f g
choice_one false P Q p q a b f g = q a b f g

pub case_one : {A T : Type 0} (o : Option T) (P : A → Type 0) (Q : T → A → Type 0) → HasOne P → ((v : T) → HasOne (Q v))
    → HasOne (λ (a : A). MatchOption o (P a) (λ v. Q v a))
case_one None P Q p q a b f g = p a b f g
case_one (Some v) P Q p q a b f g = q v a b f g

goes_one : {A B : Type 0} (found : Result A PreFault) (Next : A → Result B PreFault → Type 0) → ((v : A) → HasOne (Next v))
    → HasOne (λ (a : Result B PreFault). Goes found a (λ v. Next v a))
goes_one (Ok v) Next next a b f g = next v a b f g
goes_one (Err fault) Next next a b f g = f ∙ sym g

-- a step with one answer at most, and such a step behind each value of it
pub reads_one : {A B : Type 0} (Does : Result A PreFault → Type 0) (Next : A → Result B PreFault → Type 0) → HasOne Does
    → ((v : A) → HasOne (Next v)) → HasOne (λ (a : Result B PreFault). DoesThen Does a (λ v. Next v a))
reads_one {A} Does Next does next a b f g =
    goes_one g.0 Next next a b (subst (λ (r : Result A PreFault). Goes r a (λ v. Next v a)) (does f.0 g.0 f.1 g.1) f.2) g.2
