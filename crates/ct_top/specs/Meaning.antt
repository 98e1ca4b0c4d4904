-- What a test file means.
use Rattle.std.specs.Prelude.{◌≡◌, ◌⊎◌, ℕ, List, [], ◌∷◌, ◌++◌, Result, Ok, Err, codes}
use Rattle.ct_base.specs.declared.lexical.Token.{Token}
use Rattle.ct_base.specs.declared.refusals.Refusal.{Refusal}
use Rattle.ct_core.specs.declared.units.CoreUnit.{CoreUnit}
use Rattle.ct_form.specs.declared.outside.Outside.{Outside}
use Rattle.ct_form.specs.Form.{HasForm}
use Rattle.ct_phases.specs.Linked.{runner_of, table_in_order}
use Rattle.ct_meaning.specs.Written.{written_log, written_world}
use Rattle.ct_report.specs.declared.logs.RunLog.{RunLog}
use Rattle.ct_token.specs.Lexing.{IsTokenization, LeavesOpen}

-- the steps that a test may take
abbrev pub step_budget : ℕ
step_budget = 1000000

-- The log of a test file that is one core unit: the written meaning of the unit, whose functions are numbered as in the
-- program that it makes with its runner.
abbrev pub unit_log : List ℕ → CoreUnit → RunLog
unit_log path unit =
    written_log (written_world (unit ∷ []) (table_in_order (unit ∷ runner_of path (unit ∷ []) ∷ [])) step_budget)

-- the number of the kind of refusals of words outside what is read
abbrev pub unsupported_kind : ℕ
unsupported_kind = 7

-- the refusal of what is outside the form, by its first token
abbrev pub unsupported : List ℕ → Outside → Refusal
unsupported path outside = record { kind = unsupported_kind; file = path; line = outside.line; text = codes "Unsupported " ++ outside.word }

abbrev pub answer_of : List ℕ → Result CoreUnit Outside → Result RunLog Refusal
answer_of path (Ok unit) = Ok (unit_log path unit)
answer_of path (Err outside) = Err (unsupported path outside)

-- A test file of this path and these tokens has this log, or is refused so.
abbrev pub TokensMean : List ℕ → List Token → Result RunLog Refusal → Type 0
TokensMean path tokens answer = (form : Result CoreUnit Outside) × HasForm path tokens form × (answer ≡ answer_of path form)

-- the number of the kind of refusals of a text that is no list of tokens
abbrev pub lex_kind : ℕ
lex_kind = 5

-- the refusal of a comment that opens on this line and is not closed
abbrev pub open_comment : List ℕ → ℕ → Refusal
open_comment path line = record { kind = lex_kind; file = path; line = line; text = codes "Lex OpenComment" }

-- A test file of this path and text has this log, or is refused so.
abbrev pub FileMeans : List ℕ → List ℕ → Result RunLog Refusal → Type 0
FileMeans path text answer =
    ((tokens : List Token) × IsTokenization 0 text tokens × TokensMean path tokens answer)
    ⊎ ((line : ℕ) × LeavesOpen text line × (answer ≡ Err (open_comment path line)))
