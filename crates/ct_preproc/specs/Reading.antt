-- What is done with the tokens of a file while it is read: each step gives the state behind it, or the first refusal
-- (C11 6.10).
use Rattle.std.specs.Prelude.{◌≡◌, ◌⊎◌, ℕ, ◌+◌, ◌-◌, ◌||◌, ◌==◌, not, is_some, nat_lt, Bool, true, false, List, [], ◌∷◌, ◌++◌, Option, Some, None, Result, Ok, Err, MatchOption, codes, map, if◌then◌else◌}
use Rattle.std.specs.Bool.{MatchBool}
use Rattle.std.specs.List.{list_any}
use Rattle.std.specs.Str.{bytes_eq}
use Rattle.ct_base.specs.declared.lexical.Token.{Token}
use Rattle.ct_base.specs.declared.lexical.TokenKind.{TokenKind}
use Rattle.ct_base.specs.declared.lexical.TokenKind.TheVariants as kinds
use Rattle.ct_base.specs.declared.limits.LimitKind.TheVariants.{Tokens}
use Rattle.ct_base.specs.declared.memory.Fail.{Fail}
use Rattle.ct_base.specs.declared.memory.Fail.TheVariants.{Fault, OutOfMemory}
use Rattle.ct_token.specs.Lexing.{IsTokenization, LeavesOpen}
use Rattle.ct_macro_call.specs.declared.definition.Macro.{Macro}
use Rattle.ct_macro.specs.declared.faults.MacroFault.{MacroFault}
use Rattle.ct_macro.specs.declared.faults.MacroKind.{MacroKind}
use Rattle.ct_macro.specs.declared.faults.MacroKind.TheVariants as macro
use Rattle.ct_macro_call.specs.Definition.{is_malformed, macro_named, Defines, IsRedefined, without}
use Rattle.ct_macro.specs.Expansion.{IsExpansion, IsRefusal}
use Rattle.ct_ppexpr.specs.declared.CondFault.{CondFault}
use Rattle.ct_ppexpr.specs.Conditions.{HasValue}
use Rattle.ct_directive.specs.declared.faults.PreFault.{PreFault}
use Rattle.ct_directive.specs.declared.faults.PreKind.{PreKind}
use Rattle.ct_directive.specs.declared.faults.PreKind.TheVariants as pre
use Rattle.ct_preproc.specs.declared.state.State.{State}
use Rattle.ct_preproc.specs.declared.state.Place.{Place}
use Rattle.ct_preproc.specs.declared.units.Definition.{Definition}
use Rattle.ct_directive.specs.declared.forms.Header.{Header}
use Rattle.ct_directive.specs.Forms.{header_in, quoted_header, is_defined, without_defined, without_pragmas, has_operator, object_like}

-- ---- refusals

abbrev pub fault_at : Place → ℕ → PreKind → PreFault
fault_at place line kind = record { file = place.path; line = line; kind = kind }

-- goes on from an answer that is no refusal
abbrev pub Goes : {A B : Type 0} → Result A PreFault → Result B PreFault → (A → Type 0) → Type 0
Goes (Ok value) answer next = next value
Goes (Err fault) answer next = answer ≡ Err fault

-- the same, where what is read is said
abbrev pub DoesThen : {A B : Type 0} → (Result A PreFault → Type 0) → Result B PreFault → (A → Type 0) → Type 0
DoesThen {A} Does answer next = (found : Result A PreFault) × Does found × Goes found answer next

-- a refusal, unless memory ran out
abbrev pub IsFault : Fail PreFault → PreFault → Type 0
IsFault OutOfMemory fault = Unit {0}
IsFault (Fault found) fault = found ≡ fault

-- ---- the path of the file that is read, as `__FILE__` (6.10.8.1)

abbrev pub escaped : List ℕ → List ℕ
escaped [] = []
escaped (byte ∷ bytes) = if (byte == 34) || (byte == 92) then 92 ∷ byte ∷ escaped bytes else byte ∷ escaped bytes

abbrev pub one_token : TokenKind → List ℕ → List Token
one_token kind text = record { kind = kind; text = text; span = record { file = 0; line = 0 }; spaced = false } ∷ []

abbrev pub with_path : List ℕ → List Macro → List Macro
with_path path macros =
    without (codes "__FILE__") macros ++ object_like (codes "__FILE__") (one_token kinds.Text (34 ∷ escaped path ++ 34 ∷ [])) ∷ []

-- ---- the files of a unit, by their numbers

abbrev pub with_file : List ℕ → List (List ℕ) → List (List ℕ)
with_file path files = if list_any (bytes_eq path) files then files else files ++ path ∷ []

abbrev pub file_number : List ℕ → List (List ℕ) → ℕ
file_number path [] = 0
file_number path (file ∷ files) = if bytes_eq path file then 0 else file_number path files + 1

-- the tokens of a built-in header have no line
abbrev pub unplaced : Token → Token
unplaced token = record token { span = record token.span { line = 0 } }

abbrev pub placed : Bool → List Token → List Token
placed true tokens = map unplaced tokens
placed false tokens = tokens

abbrev pub line_in : Bool → ℕ → ℕ
line_in true line = 0
line_in false line = line

-- ---- the tokens of a text

abbrev pub IsLexed : Place → Bool → ℕ → List ℕ → Result (List Token) PreFault → Type 0
IsLexed place built_in number text (Ok tokens) = (found : List Token) × IsTokenization number text found × (tokens ≡ placed built_in found)
IsLexed place built_in number text (Err fault) = (line : ℕ) × LeavesOpen text line × (fault ≡ fault_at place (line_in built_in line) pre.OpenComment)

-- ---- text

-- The count behind a text line: a token that begins no preprocessing token is refused, and so is the token that passes
-- the limit. New-lines do not count.
abbrev pub counts : Place → ℕ → ℕ → List Token → Result ℕ PreFault
counts place limit counted [] = Ok counted
counts place limit counted (token ∷ tokens) =
    by_kind token.kind (counts place limit counted tokens) (counts place limit (counted + 1) tokens)
  where
    by_kind : TokenKind → Result ℕ PreFault → Result ℕ PreFault → Result ℕ PreFault
    by_kind kinds.Line same more = same
    by_kind kinds.Other same more = Err (fault_at place token.span.line pre.BadToken)
    by_kind kind same more = if nat_lt counted limit then more else Err (fault_at place token.span.line (pre.Limit Tokens))

abbrev pub kind_of : MacroKind → PreKind
kind_of macro.BadDefinition = pre.BadDefinition
kind_of macro.Redefined = pre.Redefined
kind_of macro.Arguments = pre.Arguments
kind_of macro.OpenCall = pre.OpenCall
kind_of macro.BadPaste = pre.BadPaste
kind_of macro.TooLong = pre.Limit Tokens

-- what the tokens of a condition, or of a text, are expanded to, without the pragmas among them (6.10.3.4p3), and with the
-- tokens that this counts
abbrev pub Expands : Bool → Place → ℕ → State → List Token → Result (List Token × State) PreFault → Type 0
Expands condition place limit state tokens (Ok found) =
    (expanded : List Token) × (counted : ℕ) × IsExpansion condition state.macros tokens (limit - state.counted) expanded counted
    × (found.0 ≡ without_pragmas expanded) × (found.1 ≡ record state { counted = state.counted + counted })
Expands condition place limit state tokens (Err fault) =
    (found : MacroFault) × IsRefusal condition state.macros tokens (limit - state.counted) found × (fault ≡ fault_at place found.line (kind_of found.kind))

-- the text lines behind the last directive are expanded as one list
abbrev pub Ends : Place → ℕ → State → List Token → Result State PreFault → Type 0
Ends place limit state text answer =
    DoesThen (Expands false place limit state text) answer (λ found. answer ≡ Ok (record found.1 { tokens = found.1.tokens ++ found.0 }))

-- ---- conditions (6.10.1)

abbrev pub condition_answer : Place → ℕ → State → Result Bool CondFault → Result (Bool × State) PreFault
condition_answer place line state (Ok holds) = Ok (holds, state)
condition_answer place line state (Err fault) = Err (fault_at place line pre.Condition)

-- tokens in which each `defined` with its name is replaced hold where their value is not 0
abbrev pub Judged : Place → ℕ → State → List Token → Result (Bool × State) PreFault → Type 0
Judged place line after words answer =
    MatchBool (has_operator words) (answer ≡ Err (fault_at place line pre.Condition))
    ((value : Result Bool CondFault) × HasValue words value × (answer ≡ condition_answer place line after value))

-- `defined` is replaced before the expansion, and again behind it, where macros made it
abbrev pub Holds : Place → ℕ → ℕ → State → List Token → Result (Bool × State) PreFault → Type 0
Holds place limit line state tokens answer =
    DoesThen (Expands true place limit state (without_defined state.macros tokens)) answer
    (λ found. Judged place line found.1 (without_defined found.1.macros found.0) answer)

-- `#ifdef` asks whether a name is defined, and `#ifndef` whether it is not
abbrev pub name_answer : Place → ℕ → Bool → State → Option (List ℕ) → Result (Bool × State) PreFault
name_answer place line defined state None = Err (fault_at place line pre.BadDirective)
name_answer place line defined state (Some name) = Ok ((if defined then is_defined state.macros name else not (is_defined state.macros name)), state)

-- ---- definitions

-- A definition is noted with the file in which it stands. Where the same one stands already, that one counts.
abbrev pub with_definition : Place → List ℕ → List Macro → List Definition → List Definition
with_definition place name macros definitions =
    if is_some (macro_named name macros) then definitions
    else definitions ++ record { name = name; path = place.path; built_in = place.built_in } ∷ []

abbrev pub with_macro : Place → State → Macro → List Macro → State
with_macro place state definition macros =
    record state { macros = macros; definitions = with_definition place definition.name state.macros state.definitions }

abbrev pub HasDefined : Place → ℕ → State → Option Macro → Result State PreFault → Type 0
HasDefined place line state None answer = answer ≡ Err (fault_at place line pre.BadDirective)
HasDefined place line state (Some definition) answer =
    MatchBool (is_malformed definition) (answer ≡ Err (fault_at place line pre.BadDefinition))
    ((IsRedefined state.macros definition × (answer ≡ Err (fault_at place line pre.Redefined)))
    ⊎ ((macros : List Macro) × Defines state.macros definition macros × (answer ≡ Ok (with_macro place state definition macros))))

abbrev pub undefines : Place → ℕ → State → Option (List ℕ) → Result State PreFault
undefines place line state None = Err (fault_at place line pre.BadDirective)
undefines place line state (Some name) = Ok (record state { macros = without name state.macros })

-- ---- includes (6.10.2)

abbrev pub quoted_answer : Place → ℕ → State → Option Header → Result (Header × State) PreFault
quoted_answer place line after None = Err (fault_at place line pre.BadDirective)
quoted_answer place line after (Some header) = Ok (header, after)

-- tokens of another form are expanded, and are then one string
abbrev pub NamesExpanded : Place → ℕ → ℕ → State → List Token → Result (Header × State) PreFault → Type 0
NamesExpanded place limit line state tokens answer =
    DoesThen (Expands false place limit state tokens) answer (λ found. answer ≡ quoted_answer place line found.1 (quoted_header found.0))

-- the header name of a directive
abbrev pub Names : Place → ℕ → ℕ → State → List Token → Result (Header × State) PreFault → Type 0
Names place limit line state tokens answer =
    MatchOption (header_in tokens) (NamesExpanded place limit line state tokens answer) (λ header. answer ≡ Ok (header, state))
