-- A control line does something, and a condition has an answer.
use Rattle.std.proofs.Common.{◌≡◌, ℕ, Bool, List, [], ◌∷◌, Some, None, refl}
use Rattle.std.specs.Prelude.{Result, Ok, Err, codes}
use Rattle.std.specs.Bool.{MatchBool}
use Rattle.ct_base.specs.declared.lexical.Token.{Token}
use Rattle.ct_directive.specs.declared.faults.PreFault.{PreFault}
use Rattle.ct_directive.specs.declared.faults.PreKind.TheVariants as pre
use Rattle.ct_directive.specs.Forms.{one_name, undefined_name, definition_in, is, first_other}
use Rattle.ct_preproc.specs.declared.state.State.{State}
use Rattle.ct_preproc.specs.declared.state.Place.{Place}
use Rattle.ct_preproc.specs.Directives.{Acts, Changes, Condition, Effect, FirstCondition, Formed, Includes, NameCondition, NamedActs, pragma}
use Rattle.ct_preproc.specs.Reading.{fault_at, Holds, name_answer, HasDefined, undefines, Names}
use Rattle.ct_preproc.proofs.EachAnswer.{EachLaws, HasSome, this_some, choice_some, case_some, reads_some}
use Rattle.ct_preproc.proofs.EachReading.{has_defined_some, holds_some, names_some}

formed_some : {A : Type 0} (place : Place) (tokens : List Token) (Next : Result A PreFault → Type 0) → HasSome Next
    → HasSome (λ (a : Result A PreFault). Formed place tokens a (Next a))
formed_some {A} place tokens Next next =
    case_some {A = Result A PreFault} (first_other tokens) Next (λ (other : Token) answer. answer ≡ Err (fault_at place other.span.line pre.BadToken))
    next (λ other. this_some (Err (fault_at place other.span.line pre.BadToken)))

changes_some : (Does : Result State PreFault → Type 0) → HasSome Does → HasSome (Changes Does)
changes_some Does does =
    reads_some Does (λ state answer. answer ≡ Ok (state, None)) does (λ state. this_some (Ok (state, None)))

module _ (laws : EachLaws) (place : Place) (limit line : ℕ) (state : State) where
  -- ---- control lines

  includes_some : (tokens : List Token) → HasSome (Includes place limit line state tokens)
  includes_some tokens =
      reads_some (Names place limit line state tokens) (λ found answer. answer ≡ Ok (found.1, Some found.0))
      (names_some laws place limit line state tokens) (λ found. this_some (Ok (found.1, Some found.0)))

  -- by the name behind the `#`: what is left where it is none of the names before
  abbrev FromUndef : Token → List Token → Effect → Type 0
  FromUndef name tokens answer =
      MatchBool (is (codes "undef") name) (Changes (λ found. found ≡ undefines place line state (undefined_name tokens)) answer)
      (MatchBool (is (codes "warning") name) (answer ≡ Ok (state, None)) (answer ≡ Err (fault_at place line pre.BadDirective)))

  from_undef_some : (name : Token) (tokens : List Token) → HasSome (FromUndef name tokens)
  from_undef_some name tokens =
      choice_some (is (codes "undef") name) (Changes (λ found. found ≡ undefines place line state (undefined_name tokens)))
      (λ answer. MatchBool (is (codes "warning") name) (answer ≡ Ok (state, None)) (answer ≡ Err (fault_at place line pre.BadDirective)))
      (changes_some (λ found. found ≡ undefines place line state (undefined_name tokens)) (this_some (undefines place line state (undefined_name tokens))))
      (choice_some (is (codes "warning") name) (λ answer. answer ≡ Ok (state, None)) (λ answer. answer ≡ Err (fault_at place line pre.BadDirective))
      (this_some (Ok (state, None))) (this_some (Err (fault_at place line pre.BadDirective))))

  named_some : (name : Token) (tokens : List Token) → HasSome (NamedActs place limit line state name tokens)
  named_some name tokens =
      choice_some (is (codes "include") name) (Includes place limit line state tokens)
      (λ answer. MatchBool (is (codes "define") name) (Changes (HasDefined place line state (definition_in tokens)) answer) (FromUndef name tokens answer))
      (includes_some tokens)
      (choice_some (is (codes "define") name) (Changes (HasDefined place line state (definition_in tokens))) (FromUndef name tokens)
      (changes_some (HasDefined place line state (definition_in tokens)) (has_defined_some place line state (definition_in tokens)))
      (from_undef_some name tokens))

  abbrev FromNamed : Token → List Token → Effect → Type 0
  FromNamed name tokens answer = Formed place (name ∷ tokens) answer (NamedActs place limit line state name tokens answer)

  pub acts_some : (tokens : List Token) → HasSome (Acts place limit line state tokens)
  acts_some [] = (Ok (state, None), refl)
  acts_some (name ∷ tokens) =
      choice_some (is (codes "error") name) (λ answer. answer ≡ Err (fault_at place line pre.Error))
      (λ answer. MatchBool (is (codes "pragma") name) (answer ≡ Ok (pragma place state tokens, None)) (FromNamed name tokens answer))
      (this_some (Err (fault_at place line pre.Error)))
      (choice_some (is (codes "pragma") name) (λ answer. answer ≡ Ok (pragma place state tokens, None)) (FromNamed name tokens)
      (this_some (Ok (pragma place state tokens, None))) (formed_some place (name ∷ tokens) (NamedActs place limit line state name tokens) (named_some name tokens)))

  -- ---- conditions

  pub condition_some : (tokens : List Token) → HasSome (Condition place limit line state tokens)
  condition_some tokens = formed_some place tokens (Holds place limit line state tokens) (holds_some laws place limit line state tokens)

  name_condition_some : (defined : Bool) (tokens : List Token) → HasSome (NameCondition place line defined state tokens)
  name_condition_some defined tokens =
      formed_some place tokens (λ answer. answer ≡ name_answer place line defined state (one_name tokens)) (this_some (name_answer place line defined state (one_name tokens)))

  pub first_condition_some : (name : Token) (tokens : List Token) → HasSome (FirstCondition place limit line state name tokens)
  first_condition_some name tokens =
      choice_some (is (codes "if") name) (Condition place limit line state tokens) (NameCondition place line (is (codes "ifdef") name) state tokens)
      (condition_some tokens) (name_condition_some (is (codes "ifdef") name) tokens)
