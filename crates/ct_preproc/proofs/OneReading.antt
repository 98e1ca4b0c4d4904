-- What is done with the tokens of a file has one answer at most.
use Rattle.std.proofs.Common.{◌≡◌, ℕ, ◌+◌, ◌-◌, ◌⊎◌, inl, inr, Bool, true, false, List, [], ◌∷◌, ◌++◌, Option, Some, None, sym, ap, ◌∙◌}
use Rattle.std.specs.Prelude.{Result, Ok, Err, MatchOption}
use Rattle.ct_base.specs.declared.lexical.Token.{Token}
use Rattle.ct_macro_call.specs.declared.definition.Macro.{Macro}
use Rattle.ct_macro_call.specs.Definition.{is_malformed, macro_named, SameDefinition, Defines, IsRedefined}
use Rattle.ct_macro.specs.declared.faults.MacroFault.{MacroFault}
use Rattle.ct_ppexpr.specs.declared.CondFault.{CondFault}
use Rattle.ct_ppexpr.specs.Conditions.{HasValue}
use Rattle.ct_directive.specs.declared.faults.PreFault.{PreFault}
use Rattle.ct_directive.specs.declared.faults.PreKind.TheVariants as pre
use Rattle.ct_directive.specs.declared.forms.Header.{Header}
use Rattle.ct_directive.specs.Forms.{has_operator, header_in, quoted_header, without_defined, without_pragmas}
use Rattle.ct_preproc.specs.declared.state.State.{State}
use Rattle.ct_preproc.specs.declared.state.Place.{Place}
use Rattle.ct_preproc.specs.Reading.{Ends, Expands, HasDefined, Holds, IsLexed, Judged, Names, NamesExpanded, condition_answer, fault_at, kind_of, line_in, placed, quoted_answer, with_macro}
use Rattle.ct_preproc.proofs.OneAnswer.{HasOne, this_one, choice_one, case_one, reads_one}
use Rattle.ct_preproc.proofs.OneLaws.{Laws}

module _ (laws : Laws) where
  -- ---- the tokens of a text

  pub lexed_one : (place : Place) (built_in : Bool) (number : ℕ) (text : List ℕ) → HasOne (IsLexed place built_in number text)
  lexed_one place built_in number text (Ok a) (Ok b) f g =
      ap Ok (f.2 ∙ ap (placed built_in) (laws.tokens number text f.0 g.0 f.1 g.1) ∙ sym g.2)
  lexed_one place built_in number text (Ok a) (Err b) f g = absurd (laws.closed number text f.0 g.0 f.1 g.1)
  lexed_one place built_in number text (Err a) (Ok b) f g = absurd (laws.closed number text g.0 f.0 g.1 f.1)
  lexed_one place built_in number text (Err a) (Err b) f g =
      ap Err (f.2 ∙ ap (λ (line : ℕ). fault_at place (line_in built_in line) pre.OpenComment) (laws.comment text f.0 g.0 f.1 g.1) ∙ sym g.2)

  -- ---- expansions

  same_found : (a b : List Token × State) → a.0 ≡ b.0 → a.1 ≡ b.1 → a ≡ b
  same_found a b tokens state = ap (λ (ts : List Token). (ts, a.1)) tokens ∙ ap (λ (s : State). (b.0, s)) state

  pub expands_one : (condition : Bool) (place : Place) (limit : ℕ) (state : State) (tokens : List Token) → HasOne (Expands condition place limit state tokens)
  expands_one condition place limit state tokens (Ok a) (Ok b) f g =
      let same = laws.expansion condition state.macros tokens f.0 g.0 (limit - state.counted) f.1 g.1 f.2 g.2 in
      ap Ok (same_found a b (f.3 ∙ ap without_pragmas same.0 ∙ sym g.3) (f.4 ∙ ap (λ (n : ℕ). record state { counted = state.counted + n }) same.1 ∙ sym g.4))
  expands_one condition place limit state tokens (Ok a) (Err b) f g =
      absurd (laws.apart condition state.macros tokens f.0 (limit - state.counted) f.1 g.0 f.2 g.1)
  expands_one condition place limit state tokens (Err a) (Ok b) f g =
      absurd (laws.apart condition state.macros tokens g.0 (limit - state.counted) g.1 f.0 g.2 f.1)
  expands_one condition place limit state tokens (Err a) (Err b) f g =
      ap Err (f.2 ∙ ap (λ (fault : MacroFault). fault_at place fault.line (kind_of fault.kind))
      (laws.refusal condition state.macros tokens (limit - state.counted) f.0 g.0 f.1 g.1) ∙ sym g.2)

  pub ends_one : (place : Place) (limit : ℕ) (state : State) (text : List Token) → HasOne (Ends place limit state text)
  ends_one place limit state text =
      reads_one (Expands false place limit state text) (λ found answer. answer ≡ Ok (record found.1 { tokens = found.1.tokens ++ found.0 }))
      (expands_one false place limit state text) (λ found. this_one (Ok (record found.1 { tokens = found.1.tokens ++ found.0 })))

  -- ---- conditions

  value_one : (place : Place) (line : ℕ) (after : State) (words : List Token)
      → HasOne (λ (a : Result (Bool × State) PreFault). (value : Result Bool CondFault) × HasValue words value × (a ≡ condition_answer place line after value))
  value_one place line after words a b f g =
      f.2 ∙ ap (condition_answer place line after) (laws.condition words f.0 g.0 f.1 g.1) ∙ sym g.2

  judged_one : (place : Place) (line : ℕ) (after : State) (words : List Token) → HasOne (Judged place line after words)
  judged_one place line after words =
      choice_one (has_operator words) (λ a. a ≡ Err (fault_at place line pre.Condition))
      (λ a. (value : Result Bool CondFault) × HasValue words value × (a ≡ condition_answer place line after value))
      (this_one (Err (fault_at place line pre.Condition))) (value_one place line after words)

  pub holds_one : (place : Place) (limit line : ℕ) (state : State) (tokens : List Token) → HasOne (Holds place limit line state tokens)
  holds_one place limit line state tokens =
      reads_one (Expands true place limit state (without_defined state.macros tokens))
      (λ found. Judged place line found.1 (without_defined found.1.macros found.0))
      (expands_one true place limit state (without_defined state.macros tokens))
      (λ found. judged_one place line found.1 (without_defined found.1.macros found.0))

  -- ---- definitions

  defines_at : (before : List Macro) (m : Macro) (there : Option Macro) → HasOne (λ (after : List Macro). MatchOption there (after ≡ before ++ m ∷ []) (λ old. SameDefinition old m × (after ≡ before)))
  defines_at before m None a b f g = f ∙ sym g
  defines_at before m (Some old) a b f g = f.1 ∙ sym g.1

  defines_one : (before : List Macro) (m : Macro) → HasOne (Defines before m)
  defines_one before m a b f g = defines_at before m (macro_named m.name before) a b f g

  defined_or_not : (before after : List Macro) (m : Macro) (there : Option Macro) → MatchOption there (after ≡ before ++ m ∷ []) (λ old. SameDefinition old m × (after ≡ before))
      → MatchOption there ⊥ (λ old. SameDefinition old m → ⊥) → ⊥
  defined_or_not before after m None f g = g
  defined_or_not before after m (Some old) f g = g f.0

  set_one : (place : Place) (line : ℕ) (state : State) (m : Macro)
      → HasOne (λ (a : Result State PreFault). (IsRedefined state.macros m × (a ≡ Err (fault_at place line pre.Redefined)))
      ⊎ ((macros : List Macro) × Defines state.macros m macros × (a ≡ Ok (with_macro place state m macros))))
  set_one place line state m a b (inl f) (inl g) = f.1 ∙ sym g.1
  set_one place line state m a b (inl f) (inr g) = absurd (defined_or_not state.macros g.0 m (macro_named m.name state.macros) g.1 f.0)
  set_one place line state m a b (inr f) (inl g) = absurd (defined_or_not state.macros f.0 m (macro_named m.name state.macros) f.1 g.0)
  set_one place line state m a b (inr f) (inr g) =
      f.2 ∙ ap (λ (macros : List Macro). Ok (with_macro place state m macros)) (defines_one state.macros m f.0 g.0 f.1 g.1) ∙ sym g.2

  pub has_defined_one : (place : Place) (line : ℕ) (state : State) (m : Option Macro) → HasOne (HasDefined place line state m)
  has_defined_one place line state None a b f g = f ∙ sym g
  has_defined_one place line state (Some m) a b f g =
      choice_one (is_malformed m) (λ c. c ≡ Err (fault_at place line pre.BadDefinition))
      (λ c. (IsRedefined state.macros m × (c ≡ Err (fault_at place line pre.Redefined)))
      ⊎ ((macros : List Macro) × Defines state.macros m macros × (c ≡ Ok (with_macro place state m macros))))
      (this_one (Err (fault_at place line pre.BadDefinition))) (set_one place line state m) a b f g

  -- ---- includes

  names_expanded_one : (place : Place) (limit line : ℕ) (state : State) (tokens : List Token) → HasOne (NamesExpanded place limit line state tokens)
  names_expanded_one place limit line state tokens =
      reads_one (Expands false place limit state tokens) (λ found answer. answer ≡ quoted_answer place line found.1 (quoted_header found.0))
      (expands_one false place limit state tokens) (λ found. this_one (quoted_answer place line found.1 (quoted_header found.0)))

  pub names_one : (place : Place) (limit line : ℕ) (state : State) (tokens : List Token) → HasOne (Names place limit line state tokens)
  names_one place limit line state tokens =
      case_one (header_in tokens) (NamesExpanded place limit line state tokens) (λ (header : Header) answer. answer ≡ Ok (header, state))
      (names_expanded_one place limit line state tokens) (λ header. this_one (Ok (header, state)))
