-- Steps that have an answer, one behind the other, and the laws of the layers below: each thing that a unit is read by is there.
use Rattle.std.proofs.Common.{◌≡◌, ℕ, Bool, true, false, List, Option, Some, None, refl, ◌⊎◌}
use Rattle.std.specs.Prelude.{Result, Ok, Err, MatchOption}
use Rattle.std.specs.Bool.{MatchBool}
use Rattle.ct_base.specs.declared.lexical.Token.{Token}
use Rattle.ct_token.specs.Lexing.{IsTokenization, LeavesOpen}
use Rattle.ct_macro_call.specs.declared.definition.Macro.{Macro}
use Rattle.ct_macro.specs.declared.faults.MacroFault.{MacroFault}
use Rattle.ct_macro.specs.Expansion.{IsExpansion, IsRefusal}
use Rattle.ct_outside.specs.Files.{Files}
use Rattle.ct_directive.specs.declared.faults.PreFault.{PreFault}
use Rattle.ct_directive.specs.declared.forms.Header.{Header}
use Rattle.ct_directive.specs.declared.heads.Heads.{Heads}
use Rattle.ct_directive.specs.declared.search.Target.{Target}
use Rattle.ct_directive.specs.Groups.{Group, IsOutline}
use Rattle.ct_directive.specs.Headers.{BuiltIn}
use Rattle.ct_directive.specs.Search.{Means}
use Rattle.ct_ppexpr.specs.declared.CondFault.{CondFault}
use Rattle.ct_ppexpr.specs.Conditions.{HasValue}
use Rattle.ct_preproc.specs.Reading.{Goes, DoesThen}

-- something has this property
abbrev pub HasSome : {A : Type 0} → (A → Type 0) → Type 0
HasSome {A} Has = (a : A) × Has a

pub this_some : {A : Type 0} (x : A) → HasSome (λ (a : A). a ≡ x)
this_some x = (x, refl)

pub choice_some : {A : Type 0} (t : Bool) (P Q : A → Type 0) → HasSome P → HasSome Q → HasSome (λ (a : A). MatchBool t (P a) (Q a))
choice_some true P Q p q = p
choice_some false P Q p q = q

pub case_some : {A T : Type 0} (o : Option T) (P : A → Type 0) (Q : T → A → Type 0) → HasSome P → ((v : T) → HasSome (Q v))
    → HasSome (λ (a : A). MatchOption o (P a) (λ v. Q v a))
case_some None P Q p q = p
case_some (Some v) P Q p q = q v

goes_some : {A B : Type 0} (found : Result A PreFault) (Next : A → Result B PreFault → Type 0) → ((v : A) → HasSome (Next v))
    → HasSome (λ (a : Result B PreFault). Goes found a (λ v. Next v a))
goes_some (Ok v) Next next = next v
goes_some (Err fault) Next next = (Err fault, refl)

-- a step with an answer, and such a step behind each value of it
pub reads_some : {A B : Type 0} (Does : Result A PreFault → Type 0) (Next : A → Result B PreFault → Type 0) → HasSome Does
    → ((v : A) → HasSome (Next v)) → HasSome (λ (a : Result B PreFault). DoesThen Does a (λ v. Next v a))
reads_some Does Next does next =
    let behind = goes_some does.0 Next next in (behind.0, (does.0, does.1, behind.1))

pub record EachLaws : Type 0 where
  pub tokens : (file : ℕ) (text : List ℕ) → ((tokens : List Token) × IsTokenization file text tokens) ⊎ ((line : ℕ) × LeavesOpen text line)
  pub expansion : (condition : Bool) (macros : List Macro) (tokens : List Token) (room : ℕ)
      → ((expanded : List Token) × (counted : ℕ) × IsExpansion condition macros tokens room expanded counted)
      ⊎ ((fault : MacroFault) × IsRefusal condition macros tokens room fault)
  pub condition : (tokens : List Token) → (answer : Result Bool CondFault) × HasValue tokens answer
  pub outline : (lines : List (List Token)) → (group : Group) × (broken : Option ℕ) × IsOutline lines group broken
  pub meaning : (files : Files) (folders : List (List ℕ)) (heads : Heads) (headers : List BuiltIn) (path : List ℕ) (header : Header)
      → (target : Option Target) × Means files folders heads headers path header target
