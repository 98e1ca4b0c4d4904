-- What a directive does (C11 6.10): a control line changes the state or includes a header, and the condition of a group
-- says whether the group is read.
use Rattle.std.specs.Prelude.{◌≡◌, ℕ, Bool, false, List, [], ◌∷◌, Option, Some, None, Result, Ok, Err, MatchOption, codes, if◌then◌else◌}
use Rattle.std.specs.Bool.{MatchBool}
use Rattle.ct_base.specs.declared.lexical.Token.{Token}
use Rattle.ct_directive.specs.declared.faults.PreFault.{PreFault}
use Rattle.ct_directive.specs.declared.faults.PreKind.TheVariants as pre
use Rattle.ct_directive.specs.declared.forms.Header.{Header}
use Rattle.ct_preproc.specs.declared.state.State.{State}
use Rattle.ct_preproc.specs.declared.state.Place.{Place}
use Rattle.ct_directive.specs.Forms.{one_name, undefined_name, definition_in, is, first_other}
use Rattle.ct_preproc.specs.Reading.{DoesThen, fault_at, Holds, name_answer, HasDefined, undefines, Names, with_file}

-- Tokens of which one begins no preprocessing token are refused.
abbrev pub Formed : {A : Type 0} → Place → List Token → Result A PreFault → Type 0 → Type 0
Formed place tokens answer Next =
    MatchOption (first_other tokens) Next (λ other. answer ≡ Err (fault_at place other.span.line pre.BadToken))

-- ---- control lines

-- what a control line leaves: the state, and the header that is to be included now
abbrev pub Effect : Type 0
Effect = Result (State × Option Header) PreFault

-- `#pragma once` and other pragmas
abbrev pub is_once : List Token → Bool
is_once (token ∷ []) = is (codes "once") token
is_once tokens = false

abbrev pub pragma : Place → State → List Token → State
pragma place state tokens = if is_once tokens then record state { once = with_file place.path state.once } else state

abbrev pub Changes : (Result State PreFault → Type 0) → Effect → Type 0
Changes Does answer = DoesThen Does answer (λ state. answer ≡ Ok (state, None))

abbrev pub Includes : Place → ℕ → ℕ → State → List Token → Effect → Type 0
Includes place limit line state tokens answer =
    DoesThen (Names place limit line state tokens) answer (λ found. answer ≡ Ok (found.1, Some found.0))

-- by the name behind the `#`, where each token is a preprocessing token
abbrev pub NamedActs : Place → ℕ → ℕ → State → Token → List Token → Effect → Type 0
NamedActs place limit line state name tokens answer =
    MatchBool (is (codes "include") name) (Includes place limit line state tokens answer)
    (MatchBool (is (codes "define") name) (Changes (HasDefined place line state (definition_in tokens)) answer)
    (MatchBool (is (codes "undef") name) (Changes (λ found. found ≡ undefines place line state (undefined_name tokens)) answer)
    (MatchBool (is (codes "warning") name) (answer ≡ Ok (state, None)) (answer ≡ Err (fault_at place line pre.BadDirective)))))

-- What the control line with these tokens behind its `#` does: `#error` is refused, and a pragma may hold any tokens.
abbrev pub Acts : Place → ℕ → ℕ → State → List Token → Effect → Type 0
Acts place limit line state [] answer = answer ≡ Ok (state, None)
Acts place limit line state (name ∷ tokens) answer =
    MatchBool (is (codes "error") name) (answer ≡ Err (fault_at place line pre.Error))
    (MatchBool (is (codes "pragma") name) (answer ≡ Ok (pragma place state tokens, None))
    (Formed place (name ∷ tokens) answer (NamedActs place limit line state name tokens answer)))

-- ---- the conditions of groups (6.10.1)

-- whether the group of an `#if` or `#elif` is read
abbrev pub Condition : Place → ℕ → ℕ → State → List Token → Result (Bool × State) PreFault → Type 0
Condition place limit line state tokens answer = Formed place tokens answer (Holds place limit line state tokens answer)

-- that of an `#ifdef`, where a name shall be defined, or of an `#ifndef`, where it shall not
abbrev pub NameCondition : Place → ℕ → Bool → State → List Token → Result (Bool × State) PreFault → Type 0
NameCondition place line defined state tokens answer =
    Formed place tokens answer (answer ≡ name_answer place line defined state (one_name tokens))

-- that of a directive of this name which opens a conditional
abbrev pub FirstCondition : Place → ℕ → ℕ → State → Token → List Token → Result (Bool × State) PreFault → Type 0
FirstCondition place limit line state name tokens answer =
    MatchBool (is (codes "if") name) (Condition place limit line state tokens answer)
    (NameCondition place line (is (codes "ifdef") name) state tokens answer)
