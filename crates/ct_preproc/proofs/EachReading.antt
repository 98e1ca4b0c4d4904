-- What is done with the tokens of a file has an answer.
use Rattle.std.proofs.Common.{◌≡◌, ℕ, ◌+◌, ◌-◌, ◌⊎◌, inl, inr, Bool, true, false, List, [], ◌∷◌, ◌++◌, Option, Some, None, refl, sym, ap, ◌∙◌}
use Rattle.std.specs.Prelude.{Result, Ok, Err, MatchOption, not}
use Rattle.std.specs.Str.{bytes_eq}
use Rattle.std.proofs.lemmas.Bool.{cases_Bool, false≢true}
use Rattle.ct_base.specs.declared.lexical.Token.{Token}
use Rattle.ct_token.specs.Lexing.{IsTokenization, LeavesOpen}
use Rattle.ct_token.proofs.Decided.{Decided, both_decided, same_decided}
use Rattle.ct_macro_call.specs.declared.definition.Macro.{Macro}
use Rattle.ct_macro_call.specs.Definition.{is_malformed, macro_named, spelling, SameDefinition, Defines, IsRedefined}
use Rattle.ct_macro.specs.declared.faults.MacroFault.{MacroFault}
use Rattle.ct_macro.specs.Expansion.{IsExpansion, IsRefusal}
use Rattle.ct_ppexpr.specs.declared.CondFault.{CondFault}
use Rattle.ct_ppexpr.specs.Conditions.{HasValue}
use Rattle.ct_directive.specs.declared.faults.PreFault.{PreFault}
use Rattle.ct_directive.specs.declared.faults.PreKind.TheVariants as pre
use Rattle.ct_directive.specs.declared.forms.Header.{Header}
use Rattle.ct_directive.specs.Forms.{has_operator, header_in, quoted_header, without_defined, without_pragmas}
use Rattle.ct_preproc.specs.declared.state.State.{State}
use Rattle.ct_preproc.specs.declared.state.Place.{Place}
use Rattle.ct_preproc.specs.Reading.{Ends, Expands, HasDefined, Holds, IsLexed, Judged, Names, NamesExpanded, condition_answer, fault_at, kind_of, line_in, placed, quoted_answer, with_macro}
use Rattle.ct_preproc.proofs.EachAnswer.{EachLaws, HasSome, this_some, choice_some, case_some, reads_some}

-- ---- whether two definitions are the same

list_decided : {A : Type 0} → ((x y : A) → Decided (x ≡ y)) → (xs ys : List A) → Decided (xs ≡ ys)
list_decided each [] [] = inl refl
list_decided each [] (y ∷ ys) = inr (λ e. cc)
list_decided each (x ∷ xs) [] = inr (λ e. cc)
list_decided {A} each (x ∷ xs) (y ∷ ys) = by_both (each x y) (list_decided each xs ys)
  where
    by_both : Decided (x ≡ y) → Decided (xs ≡ ys) → Decided (x ∷ xs ≡ y ∷ ys)
    by_both (inr apart) rest = inr (λ e. apart (let head : x ≡ y = cc in head))
    by_both (inl same) (inr apart) = inr (λ e. apart (let tail : xs ≡ ys = cc in tail))
    by_both (inl same) (inl rest) = inl (cc)

bool_decided : (x y : Bool) → Decided (x ≡ y)
bool_decided true true = inl refl
bool_decided false false = inl refl
bool_decided true false = inr (λ e. false≢true (sym e))
bool_decided false true = inr (λ e. false≢true e)

names_decided : (one other : Option (List (List ℕ))) → Decided (one ≡ other)
names_decided None None = inl refl
names_decided None (Some ys) = inr (λ e. cc)
names_decided (Some xs) None = inr (λ e. cc)
names_decided (Some xs) (Some ys) = by_names (list_decided same_decided xs ys)
  where
    by_names : Decided (xs ≡ ys) → Decided (◌≡◌ {A = Option (List (List ℕ))} (Some xs) (Some ys))
    by_names (inl same) = inl (ap (λ (l : List (List ℕ)). Some l) same)
    by_names (inr apart) = inr (λ e. apart (let same : xs ≡ ys = cc in same))

spelled_decided : (x y : List ℕ × Bool) → Decided (x ≡ y)
spelled_decided (a, s) (b, t) = by_both (same_decided a b) (bool_decided s t)
  where
    by_both : Decided (a ≡ b) → Decided (s ≡ t) → Decided (◌≡◌ {A = List ℕ × Bool} (a, s) (b, t))
    by_both (inr apart) rest = inr (λ e. apart (ap (λ (p : List ℕ × Bool). p.0) e))
    by_both (inl same) (inr apart) = inr (λ e. apart (ap (λ (p : List ℕ × Bool). p.1) e))
    by_both (inl same) (inl other) = inl (ap (λ (l : List ℕ). (l, s)) same ∙ ap (λ (u : Bool). (b, u)) other)

definition_decided : (one other : Macro) → Decided (SameDefinition one other)
definition_decided one other = by_parts (names_decided one.parameters other.parameters) (bool_decided one.variadic other.variadic) (list_decided spelled_decided (spelling one.body) (spelling other.body))
  where
    by_parts : Decided (one.parameters ≡ other.parameters) → Decided (one.variadic ≡ other.variadic) → Decided (spelling one.body ≡ spelling other.body) → Decided (SameDefinition one other)
    by_parts (inr apart) v b = inr (λ same. apart same.parameters)
    by_parts (inl p) (inr apart) b = inr (λ same. apart same.variadic)
    by_parts (inl p) (inl v) (inr apart) = inr (λ same. apart same.body)
    by_parts (inl p) (inl v) (inl b) = inl record { parameters = p; variadic = v; body = b }

-- ---- definitions

abbrev SetsAt : Place → ℕ → State → Macro → Option Macro → Result State PreFault → Type 0
SetsAt place line state m there answer =
    (MatchOption there ⊥ (λ old. SameDefinition old m → ⊥) × (answer ≡ Err (fault_at place line pre.Redefined)))
    ⊎ ((macros : List Macro) × MatchOption there (macros ≡ state.macros ++ m ∷ []) (λ old. SameDefinition old m × (macros ≡ state.macros)) × (answer ≡ Ok (with_macro place state m macros)))

sets_some : (place : Place) (line : ℕ) (state : State) (m : Macro) (there : Option Macro) → HasSome (SetsAt place line state m there)
sets_some place line state m None =
    (Ok (with_macro place state m (state.macros ++ m ∷ [])), inr (state.macros ++ m ∷ [], refl, refl))
sets_some place line state m (Some old) = by_same (definition_decided old m)
  where
    by_same : Decided (SameDefinition old m) → HasSome (SetsAt place line state m (Some old))
    by_same (inl same) = (Ok (with_macro place state m state.macros), inr (state.macros, (same, refl), refl))
    by_same (inr apart) = (Err (fault_at place line pre.Redefined), inl (apart, refl))

pub has_defined_some : (place : Place) (line : ℕ) (state : State) (m : Option Macro) → HasSome (HasDefined place line state m)
has_defined_some place line state None = (Err (fault_at place line pre.BadDirective), refl)
has_defined_some place line state (Some m) =
    choice_some (is_malformed m) (λ answer. answer ≡ Err (fault_at place line pre.BadDefinition)) (SetsAt place line state m (macro_named m.name state.macros))
    (this_some (Err (fault_at place line pre.BadDefinition))) (sets_some place line state m (macro_named m.name state.macros))

module _ (laws : EachLaws) where
  -- ---- the tokens of a text

  pub lexed_some : (place : Place) (built_in : Bool) (number : ℕ) (text : List ℕ) → HasSome (IsLexed place built_in number text)
  lexed_some place built_in number text = by_tokens (laws.tokens number text)
    where
      by_tokens : (((tokens : List Token) × IsTokenization number text tokens) ⊎ ((line : ℕ) × LeavesOpen text line)) → HasSome (IsLexed place built_in number text)
      by_tokens (inl found) = (Ok (placed built_in found.0), (found.0, found.1, refl))
      by_tokens (inr opened) = (Err (fault_at place (line_in built_in opened.0) pre.OpenComment), (opened.0, opened.1, refl))

  -- ---- expansions

  pub expands_some : (condition : Bool) (place : Place) (limit : ℕ) (state : State) (tokens : List Token) → HasSome (Expands condition place limit state tokens)
  expands_some condition place limit state tokens = by_list (laws.expansion condition state.macros tokens (limit - state.counted))
    where
      by_list : (((expanded : List Token) × (counted : ℕ) × IsExpansion condition state.macros tokens (limit - state.counted) expanded counted)
          ⊎ ((fault : MacroFault) × IsRefusal condition state.macros tokens (limit - state.counted) fault)) → HasSome (Expands condition place limit state tokens)
      by_list (inl found) =
          (Ok (without_pragmas found.0, record state { counted = state.counted + found.1 }), (found.0, found.1, found.2, refl, refl))
      by_list (inr refused) = (Err (fault_at place refused.0.line (kind_of refused.0.kind)), (refused.0, refused.1, refl))

  pub ends_some : (place : Place) (limit : ℕ) (state : State) (text : List Token) → HasSome (Ends place limit state text)
  ends_some place limit state text =
      reads_some (Expands false place limit state text) (λ found answer. answer ≡ Ok (record found.1 { tokens = found.1.tokens ++ found.0 }))
      (expands_some false place limit state text) (λ found. this_some (Ok (record found.1 { tokens = found.1.tokens ++ found.0 })))

  -- ---- conditions

  judged_some : (place : Place) (line : ℕ) (after : State) (words : List Token) → HasSome (Judged place line after words)
  judged_some place line after words =
      let value = laws.condition words in
      choice_some (has_operator words) (λ a. a ≡ Err (fault_at place line pre.Condition))
      (λ a. (value : Result Bool CondFault) × HasValue words value × (a ≡ condition_answer place line after value))
      (this_some (Err (fault_at place line pre.Condition))) (condition_answer place line after value.0, (value.0, value.1, refl))

  pub holds_some : (place : Place) (limit line : ℕ) (state : State) (tokens : List Token) → HasSome (Holds place limit line state tokens)
  holds_some place limit line state tokens =
      reads_some (Expands true place limit state (without_defined state.macros tokens))
      (λ found. Judged place line found.1 (without_defined found.1.macros found.0))
      (expands_some true place limit state (without_defined state.macros tokens))
      (λ found. judged_some place line found.1 (without_defined found.1.macros found.0))

  -- ---- includes

  names_expanded_some : (place : Place) (limit line : ℕ) (state : State) (tokens : List Token) → HasSome (NamesExpanded place limit line state tokens)
  names_expanded_some place limit line state tokens =
      reads_some (Expands false place limit state tokens) (λ found answer. answer ≡ quoted_answer place line found.1 (quoted_header found.0))
      (expands_some false place limit state tokens) (λ found. this_some (quoted_answer place line found.1 (quoted_header found.0)))

  pub names_some : (place : Place) (limit line : ℕ) (state : State) (tokens : List Token) → HasSome (Names place limit line state tokens)
  names_some place limit line state tokens =
      case_some (header_in tokens) (NamesExpanded place limit line state tokens) (λ (header : Header) answer. answer ≡ Ok (header, state))
      (names_expanded_some place limit line state tokens) (λ header. this_some (Ok (header, state)))
