-- The expansion of a list of tokens (C11 6.10.3, 6.10.3.4). Each token carries the macros that may not expand it: where
-- the standard leaves open whether a name is replaced again, this set decides.
use Rattle.std.specs.Prelude.{◌≡◌, ℕ, ◌+◌, ◌<◌, ◌≤◌, ◌⊎◌, ◌&&◌, Bool, true, false, List, [], ◌∷◌, ◌++◌, length, take, drop, Option, Some, None, map, if◌then◌else◌}
use Rattle.std.specs.Str.{bytes_eq}
use Rattle.std.specs.Fmt.{decimal}
use Rattle.ct_base.specs.declared.lexical.Token.{Token}
use Rattle.ct_base.specs.declared.lexical.TokenKind.{TokenKind}
use Rattle.ct_base.specs.declared.lexical.TokenKind.TheVariants.{Number, Line}
use Rattle.ct_macro_call.specs.declared.definition.Macro.{Macro}
use Rattle.ct_macro.specs.declared.faults.MacroFault.{MacroFault}
use Rattle.ct_macro.specs.declared.faults.MacroKind.{MacroKind}
use Rattle.ct_macro.specs.declared.faults.MacroKind.TheVariants.{Arguments, OpenCall, BadPaste, TooLong}
use Rattle.ct_macro_call.specs.declared.marked.Marked.{Marked}
use Rattle.ct_macro_call.specs.Words.{is_open, is_name, is_operator, line_name}
use Rattle.ct_macro_call.specs.Definition.{is_named}
use Rattle.ct_macro_call.specs.Calls.{IsCall, IsOpenCall, AreArguments, separators, arguments_for}
use Rattle.ct_macro_call.specs.Sets.{is_in, common}
use Rattle.ct_macro_call.specs.declared.call.Call.{Call}
use Rattle.ct_macro_call.specs.Substitution.{IsReplacement, call_of, full_arguments}

-- ---- what is replaced

-- `__LINE__` is replaced as by an object-like macro whose body is the number of its line (6.10.8.1)
abbrev pub line_macro : Token → Macro
line_macro token =
    record { name = line_name; parameters = None; variadic = false; body = record { kind = Number; text = decimal token.span.line; span = token.span; spaced = token.spaced } ∷ [] }

-- the macro of a name, with its place in the table
abbrev pub placed_macro : ℕ → List ℕ → List Macro → Option (ℕ × Macro)
placed_macro place name [] = None
placed_macro place name (definition ∷ macros) = if is_named name definition then Some (place, definition) else placed_macro (place + 1) name macros

abbrev pub macro_of : List Macro → Token → Option (ℕ × Macro)
macro_of macros token =
    if bytes_eq token.text line_name then Some (length macros, line_macro token) else placed_macro 0 token.text macros

-- How a token reads before the tokens behind it: it stays, or it is the name of an object-like macro, or of a
-- function-like one with its parameter list and an opening parenthesis behind it.
pub data Use : Type 0 where
  stays : Use
  object : (place : ℕ) → (definition : Macro) → Use
  opened : (place : ℕ) → (definition : Macro) → (names : List (List ℕ)) → (behind : List Marked) → Use

abbrev pub use_of_function : ℕ → Macro → List (List ℕ) → List Marked → Use
use_of_function place definition names [] = stays
use_of_function place definition names (next ∷ behind) = if is_open next.token then opened place definition names behind else stays

abbrev pub use_of_macro : ℕ → Macro → Option (List (List ℕ)) → List Marked → Use
use_of_macro place definition None rest = object place definition
use_of_macro place definition (Some names) rest = use_of_function place definition names rest

abbrev pub use_of_found : Option (ℕ × Macro) → Marked → List Marked → Use
use_of_found None first rest = stays
use_of_found (Some found) first rest =
    if is_in found.0 first.hidden then stays else use_of_macro found.0 found.1 found.1.parameters rest

abbrev pub use_of : List Macro → Marked → List Marked → Use
use_of macros first rest = use_of_found (macro_of macros first.token) first rest

-- what becomes of a token before the tokens behind it: nothing, a refusal, or a call with the arguments that are to be
-- expanded, and the tokens behind the call
pub data Reading : Type 0 where
  kept : Reading
  refused : (kind : MacroKind) → Reading
  replaced : (call : Call) → (fulls : List (List Marked)) → (after : List Marked) → Reading

-- the result of an object-like macro gets the macros that may not expand its name, and the macro itself
abbrev pub reading_of_object : Marked → ℕ → Macro → List Marked → Reading
reading_of_object name place definition rest = replaced (call_of name definition (name.hidden ++ place ∷ []) []) (full_arguments definition []) rest

-- that of a function-like macro gets the macro, and those that may expand neither its name nor the closing parenthesis
abbrev pub reading_of_call : Marked → ℕ → Macro → Marked → List Marked → Option (List (List Marked)) → Reading
reading_of_call name place definition close after None = refused Arguments
reading_of_call name place definition close after (Some arguments) =
    replaced (call_of name definition (common name.hidden close.hidden ++ place ∷ []) arguments) (full_arguments definition arguments) after

pub record ReadsCall (name : Marked) (place : ℕ) (definition : Macro) (names : List (List ℕ)) (behind : List Marked) (reading : Reading) : Type 0 where
  pub inside : List Marked
  pub close : Marked
  pub after : List Marked
  pub arguments : List (List Marked)
  pub call : IsCall behind inside close after
  pub separated : AreArguments (separators definition.variadic names) inside arguments
  pub reading_is : reading ≡ reading_of_call name place definition close after (arguments_for definition.variadic (length names) arguments)

abbrev pub ReadsUse : Marked → List Marked → Use → Reading → Type 0
ReadsUse first rest stays reading = reading ≡ kept
ReadsUse first rest (object place definition) reading = reading ≡ reading_of_object first place definition rest
ReadsUse first rest (opened place definition names behind) reading =
    (IsOpenCall behind × (reading ≡ refused OpenCall)) ⊎ ReadsCall first place definition names behind reading

abbrev pub IsReading : List Macro → Marked → List Marked → Reading → Type 0
IsReading macros first rest reading = ReadsUse first rest (use_of macros first rest) reading

-- ---- what `defined` keeps

abbrev pub begins_with_name : List Marked → Bool
begins_with_name [] = false
begins_with_name (first ∷ rest) = is_name first.token

-- How many tokens stay as they stand behind a `defined` in a condition: a name, or a name behind `(`, with the token
-- behind it (6.10.1p1, p4).
abbrev pub modified : List Marked → ℕ
modified [] = 0
modified (first ∷ rest) = if is_name first.token then 1 else (if is_open first.token && begins_with_name rest then 3 else 0)

-- how many tokens stay behind a token that stays, in a condition or not
abbrev pub stay_behind : Bool → Marked → List Marked → ℕ
stay_behind condition first rest = if condition && is_operator first.token then modified rest else 0

-- ---- the whole list

-- the tokens, or lists of them, with the number of tokens put so far; or the first refusal
pub data ExpansionOutcome (T : Type 0) : Type 0 where
  done : (tokens : T) → (counted : ℕ) → ExpansionOutcome T
  stopped : (fault : MacroFault) → ExpansionOutcome T

abbrev pub fault_at : MacroKind → Marked → MacroFault
fault_at kind name = record { kind = kind; name = name.token.text; line = name.token.span.line }

abbrev pub led_by : {A : Type 0} → A → ExpansionOutcome (List A) → ExpansionOutcome (List A)
led_by first (done rest counted) = done (first ∷ rest) counted
led_by first (stopped fault) = stopped fault

-- tokens before those of an outcome
abbrev pub led_all : {A : Type 0} → List A → ExpansionOutcome (List A) → ExpansionOutcome (List A)
led_all before (done rest counted) = done (before ++ rest) counted
led_all before (stopped fault) = stopped fault

module _ (macros : List Macro) (room : ℕ) where
  mutual
    -- What a list becomes, where so many tokens were put before. In the list of a condition, what a `defined` modifies
    -- stays, also where a macro made the `defined`; an argument of a call in it is expanded as any text.
    pub data Expands : Bool → ℕ → List Marked → ExpansionOutcome (List Marked) → Type 0 where
      nothing : {condition : Bool} {counted : ℕ} → Expands condition counted [] (done [] counted)
      keeps : {condition : Bool} {counted : ℕ} {first : Marked} {rest : List Marked} {outcome : ExpansionOutcome (List Marked)} → IsReading macros first rest kept
          → Expands condition counted (drop (stay_behind condition first rest) rest) outcome
          → Expands condition counted (first ∷ rest) (led_all (first ∷ take (stay_behind condition first rest) rest) outcome)
      refuses : {condition : Bool} {counted : ℕ} {first : Marked} {rest : List Marked} {kind : MacroKind} → IsReading macros first rest (refused kind)
          → Expands condition counted (first ∷ rest) (stopped (fault_at kind first))
      replaces : {condition : Bool} {counted : ℕ} {first : Marked} {rest : List Marked} {call : Call} {arguments : List (List Marked)} {after : List Marked} {fulls : ExpansionOutcome (List (List Marked))} {outcome : ExpansionOutcome (List Marked)}
          → IsReading macros first rest (replaced call arguments after) → ExpandsEach counted arguments fulls
          → Continues condition call after fulls outcome → Expands condition counted (first ∷ rest) outcome

    -- what each of some lists becomes, one after another
    pub data ExpandsEach : ℕ → List (List Marked) → ExpansionOutcome (List (List Marked)) → Type 0 where
      none : {counted : ℕ} → ExpandsEach counted [] (done [] counted)
      each : {counted later : ℕ} {first tokens : List Marked} {rest : List (List Marked)} {outcome : ExpansionOutcome (List (List Marked))}
          → Expands false counted first (done tokens later) → ExpandsEach later rest outcome
          → ExpandsEach counted (first ∷ rest) (led_by tokens outcome)
      ends : {counted : ℕ} {first : List Marked} {rest : List (List Marked)} {fault : MacroFault}
          → Expands false counted first (stopped fault) → ExpandsEach counted (first ∷ rest) (stopped fault)

    -- what a call and the tokens behind it become, once the arguments are expanded: what the call puts is counted, and
    -- read again together with the tokens behind
    pub data Continues : Bool → Call → List Marked → ExpansionOutcome (List (List Marked)) → ExpansionOutcome (List Marked) → Type 0 where
      stops : {condition : Bool} {call : Call} {after : List Marked} {fault : MacroFault} → Continues condition call after (stopped fault) (stopped fault)
      unpasted : {condition : Bool} {call : Call} {after : List Marked} {fulls : List (List Marked)} {counted : ℕ}
          → ((put : List Marked) → IsReplacement call fulls put → ⊥)
          → Continues condition call after (done fulls counted) (stopped (fault_at BadPaste call.name))
      passes : {condition : Bool} {call : Call} {after : List Marked} {fulls : List (List Marked)} {counted : ℕ} {put : List Marked}
          → IsReplacement call fulls put → room < counted + length put
          → Continues condition call after (done fulls counted) (stopped (fault_at TooLong call.name))
      again : {condition : Bool} {call : Call} {after : List Marked} {fulls : List (List Marked)} {counted : ℕ} {put : List Marked} {outcome : ExpansionOutcome (List Marked)}
          → IsReplacement call fulls put → counted + length put ≤ room → Expands condition (counted + length put) (put ++ after) outcome
          → Continues condition call after (done fulls counted) outcome

-- ---- the list of a text

-- new-lines count as white space before the next token
abbrev pub unbroken : Bool → List Token → List Marked
unbroken broken [] = []
unbroken broken (token ∷ tokens) = by_kind token.kind (unbroken true tokens) (unbroken false tokens)
  where
    kept_token : Marked
    kept_token = record { token = if broken then record token { spaced = true } else token; hidden = [] }

    by_kind : TokenKind → List Marked → List Marked → List Marked
    by_kind Line broken_rest rest = broken_rest
    by_kind kind broken_rest rest = kept_token ∷ rest

-- the tokens of a condition, or of a text, become these tokens, and so many are put
abbrev pub IsExpansion : Bool → List Macro → List Token → ℕ → List Token → ℕ → Type 0
IsExpansion condition macros tokens room expanded counted =
    (marked : List Marked) × Expands macros room condition 0 (unbroken false tokens) (done marked counted) × (expanded ≡ map (λ m. m.token) marked)

-- the first refusal
abbrev pub IsRefusal : Bool → List Macro → List Token → ℕ → MacroFault → Type 0
IsRefusal condition macros tokens room fault = Expands macros room condition 0 (unbroken false tokens) (stopped fault)
