-- A control line does one thing at most, and a condition has one answer.
use Rattle.std.proofs.Common.{◌≡◌, ℕ, Bool, List, [], ◌∷◌, Some, None, sym, ◌∙◌}
use Rattle.std.specs.Prelude.{Result, Ok, Err, codes}
use Rattle.std.specs.Bool.{MatchBool}
use Rattle.ct_base.specs.declared.lexical.Token.{Token}
use Rattle.ct_directive.specs.declared.faults.PreFault.{PreFault}
use Rattle.ct_directive.specs.declared.faults.PreKind.TheVariants as pre
use Rattle.ct_directive.specs.Forms.{one_name, undefined_name, definition_in, is, first_other}
use Rattle.ct_preproc.specs.declared.state.State.{State}
use Rattle.ct_preproc.specs.declared.state.Place.{Place}
use Rattle.ct_preproc.specs.Directives.{Acts, Changes, Condition, Effect, FirstCondition, Formed, Includes, NameCondition, NamedActs, pragma}
use Rattle.ct_preproc.specs.Reading.{fault_at, Holds, name_answer, HasDefined, undefines, Names}
use Rattle.ct_preproc.proofs.OneAnswer.{HasOne, this_one, choice_one, case_one, reads_one}
use Rattle.ct_preproc.proofs.OneLaws.{Laws}
use Rattle.ct_preproc.proofs.OneReading.{has_defined_one, holds_one, names_one}

formed_one : {A : Type 0} (place : Place) (tokens : List Token) (Next : Result A PreFault → Type 0) → HasOne Next
    → HasOne (λ (a : Result A PreFault). Formed place tokens a (Next a))
formed_one {A} place tokens Next next =
    case_one {A = Result A PreFault} (first_other tokens) Next (λ (other : Token) answer. answer ≡ Err (fault_at place other.span.line pre.BadToken))
    next (λ other. this_one (Err (fault_at place other.span.line pre.BadToken)))

changes_one : (Does : Result State PreFault → Type 0) → HasOne Does → HasOne (Changes Does)
changes_one Does does =
    reads_one Does (λ state answer. answer ≡ Ok (state, None)) does (λ state. this_one (Ok (state, None)))

module _ (laws : Laws) (place : Place) (limit line : ℕ) (state : State) where
  -- ---- control lines

  includes_one : (tokens : List Token) → HasOne (Includes place limit line state tokens)
  includes_one tokens =
      reads_one (Names place limit line state tokens) (λ found answer. answer ≡ Ok (found.1, Some found.0))
      (names_one laws place limit line state tokens) (λ found. this_one (Ok (found.1, Some found.0)))

  -- by the name behind the `#`: what is left where it is none of the names before
  abbrev FromUndef : Token → List Token → Effect → Type 0
  FromUndef name tokens answer =
      MatchBool (is (codes "undef") name) (Changes (λ found. found ≡ undefines place line state (undefined_name tokens)) answer)
      (MatchBool (is (codes "warning") name) (answer ≡ Ok (state, None)) (answer ≡ Err (fault_at place line pre.BadDirective)))

  from_undef_one : (name : Token) (tokens : List Token) → HasOne (FromUndef name tokens)
  from_undef_one name tokens =
      choice_one (is (codes "undef") name) (Changes (λ found. found ≡ undefines place line state (undefined_name tokens)))
      (λ answer. MatchBool (is (codes "warning") name) (answer ≡ Ok (state, None)) (answer ≡ Err (fault_at place line pre.BadDirective)))
      (changes_one (λ found. found ≡ undefines place line state (undefined_name tokens)) (this_one (undefines place line state (undefined_name tokens))))
      (choice_one (is (codes "warning") name) (λ answer. answer ≡ Ok (state, None)) (λ answer. answer ≡ Err (fault_at place line pre.BadDirective))
      (this_one (Ok (state, None))) (this_one (Err (fault_at place line pre.BadDirective))))

  named_one : (name : Token) (tokens : List Token) → HasOne (NamedActs place limit line state name tokens)
  named_one name tokens =
      choice_one (is (codes "include") name) (Includes place limit line state tokens)
      (λ answer. MatchBool (is (codes "define") name) (Changes (HasDefined place line state (definition_in tokens)) answer) (FromUndef name tokens answer))
      (includes_one tokens)
      (choice_one (is (codes "define") name) (Changes (HasDefined place line state (definition_in tokens))) (FromUndef name tokens)
      (changes_one (HasDefined place line state (definition_in tokens)) (has_defined_one laws place line state (definition_in tokens)))
      (from_undef_one name tokens))

  abbrev FromNamed : Token → List Token → Effect → Type 0
  FromNamed name tokens answer = Formed place (name ∷ tokens) answer (NamedActs place limit line state name tokens answer)

  pub acts_one : (tokens : List Token) → HasOne (Acts place limit line state tokens)
  acts_one [] a b f g = f ∙ sym g
  acts_one (name ∷ tokens) a b f g =
      choice_one (is (codes "error") name) (λ answer. answer ≡ Err (fault_at place line pre.Error))
      (λ answer. MatchBool (is (codes "pragma") name) (answer ≡ Ok (pragma place state tokens, None)) (FromNamed name tokens answer))
      (this_one (Err (fault_at place line pre.Error)))
      (choice_one (is (codes "pragma") name) (λ answer. answer ≡ Ok (pragma place state tokens, None)) (FromNamed name tokens)
      (this_one (Ok (pragma place state tokens, None))) (formed_one place (name ∷ tokens) (NamedActs place limit line state name tokens) (named_one name tokens))) a b f g

  -- ---- conditions

  pub condition_one : (tokens : List Token) → HasOne (Condition place limit line state tokens)
  condition_one tokens = formed_one place tokens (Holds place limit line state tokens) (holds_one laws place limit line state tokens)

  name_condition_one : (defined : Bool) (tokens : List Token) → HasOne (NameCondition place line defined state tokens)
  name_condition_one defined tokens =
      formed_one place tokens (λ answer. answer ≡ name_answer place line defined state (one_name tokens)) (this_one (name_answer place line defined state (one_name tokens)))

  pub first_condition_one : (name : Token) (tokens : List Token) → HasOne (FirstCondition place limit line state name tokens)
  first_condition_one name tokens =
      choice_one (is (codes "if") name) (Condition place limit line state tokens) (NameCondition place line (is (codes "ifdef") name) state tokens)
      (condition_one tokens) (name_condition_one (is (codes "ifdef") name) tokens)
