-- The unit of a file: what its text becomes, with the files that it includes (C11 5.1.1.2p1.4, 6.10).
use Rattle.std.specs.Prelude.{◌≡◌, ℕ, ◌^◌, ◌-◌, Bool, true, false, List, [], ◌∷◌, ◌++◌, Some, Result, Ok, Err, MatchOption, codes, if◌then◌else◌}
use Rattle.std.specs.FinMap.{get}
use Rattle.ct_base.specs.declared.lexical.Token.{Token}
use Rattle.ct_base.specs.declared.lexical.TokenKind.TheVariants as kinds
use Rattle.ct_macro_call.specs.declared.definition.Macro.{Macro}
use Rattle.ct_macro_call.specs.Definition.{is_malformed, without}
use Rattle.ct_outside.specs.Files.{Files}
use Rattle.ct_settings.specs.declared.record.Define.{Define}
use Rattle.ct_directive.specs.declared.faults.PreFault.{PreFault}
use Rattle.ct_directive.specs.declared.faults.PreKind.TheVariants as pre
use Rattle.ct_directive.specs.declared.heads.Heads.{Heads}
use Rattle.ct_preproc.specs.declared.state.State.{State}
use Rattle.ct_preproc.specs.declared.state.Place.{Place}
use Rattle.ct_preproc.specs.declared.units.SourceUnit.{SourceUnit}
use Rattle.ct_preproc.specs.Files.{ReadsFile, Enters}
use Rattle.ct_directive.specs.Forms.{first_other, object_like}
use Rattle.ct_directive.specs.Headers.{BuiltIn}
use Rattle.ct_directive.specs.Lines.{words_of}
use Rattle.ct_preproc.specs.Reading.{DoesThen, fault_at, one_token, IsLexed}

-- ---- the limits of a unit; a generated one has others

abbrev pub most_tokens : Bool → ℕ
most_tokens true = 2 ^ 64 - 1
most_tokens false = 1000000

abbrev pub most_includes : Bool → ℕ
most_includes true = 66
most_includes false = 64

-- ---- the macros at its begin

-- a define of the project is a definition in line 0 that replaces an earlier one
abbrev pub replaced : Place → List Macro → List ℕ → List Token → Result (List Macro) PreFault
replaced place macros name body =
    if is_malformed (object_like name body) then Err (fault_at place 0 pre.BadDefinition) else Ok (without name macros ++ object_like name body ∷ [])

abbrev pub Defined : Place → List Macro → List ℕ → List Token → Result (List Macro) PreFault → Type 0
Defined place macros name body answer =
    MatchOption (first_other body) (answer ≡ replaced place macros name body) (λ other. answer ≡ Err (fault_at place 0 pre.BadToken))

abbrev pub HasDefine : Place → List Macro → Define → Result (List Macro) PreFault → Type 0
HasDefine place macros define answer =
    DoesThen (IsLexed place true 0 define.text) answer (λ tokens. Defined place macros define.name (words_of tokens) answer)

abbrev pub HaveDefines : Place → List Macro → List Define → Result (List Macro) PreFault → Type 0
HaveDefines place macros [] answer = answer ≡ Ok macros
HaveDefines place macros (define ∷ defines) answer =
    DoesThen (HasDefine place macros define) answer (λ more. HaveDefines place more defines answer)

abbrev pub with_number : List ℕ → List ℕ → List Macro → List Macro
with_number name text macros = without name macros ++ object_like name (one_token kinds.Number text) ∷ []

-- `__STDC__` and `__STDC_VERSION__` (6.10.8.1)
abbrev pub predefined : List Macro
predefined = with_number (codes "__STDC_VERSION__") (codes "201112L") (with_number (codes "__STDC__") (codes "1") [])

-- ---- the unit

abbrev pub unit_of : State → SourceUnit
unit_of state =
    record { tokens = state.tokens; files = state.files; includes = state.includes; macros = state.macros; definitions = state.definitions }

abbrev pub main_file : List ℕ → Place
main_file path = record { path = path; depth = 0; built_in = false }

abbrev pub empty : List Macro → State
empty macros = record { tokens = []; files = []; includes = []; macros = macros; definitions = []; counted = 0; once = [] }

-- the unit of a text, where these macros stand at its begin
abbrev pub ReadsUnit : Files → List (List ℕ) → Heads → List BuiltIn → Bool → Place → List ℕ → List Macro → Result SourceUnit PreFault → Type 0
ReadsUnit files folders heads headers tool place text macros answer =
    DoesThen (ReadsFile (most_tokens tool) (Enters files folders heads headers (most_tokens tool) (most_includes tool)) place text (empty macros)) answer
    (λ state. answer ≡ Ok (unit_of state))

-- the same, where the defines of the project do
abbrev pub DefinesUnit : Files → List (List ℕ) → Heads → List BuiltIn → Bool → Place → List ℕ → List Define → Result SourceUnit PreFault → Type 0
DefinesUnit files folders heads headers tool place text defines answer =
    DoesThen (HaveDefines place predefined defines) answer (λ macros. ReadsUnit files folders heads headers tool place text macros answer)

-- The unit of the file at a path, or its first refusal in reading order.
abbrev pub IsPreprocessedUnit : Files → List (List ℕ) → Heads → List BuiltIn → List Define → List ℕ → Bool → Result SourceUnit PreFault → Type 0
IsPreprocessedUnit files folders heads headers defines path tool answer =
    (text : List ℕ) × (get files path ≡ Some text) × DefinesUnit files folders heads headers tool (main_file path) text defines answer
