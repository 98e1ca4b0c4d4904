-- What a test file may contain: includes of `unity.h`, and functions.
--
--   file = { include | function }
use Rattle.std.specs.Prelude.{◌≡◌, ◌≢◌, ℕ, ◌<◌, ◌⊎◌, Bool, true, false, IsTrue, List, [], ◌∷◌, ◌++◌, All, length, Some, None, Result, Ok, Err, codes}
use Rattle.ct_base.specs.declared.lexical.Token.{Token}
use Rattle.ct_core.specs.declared.values.Space.TheVariants.{Project}
use Rattle.ct_core.specs.declared.units.CoreUnit.{CoreUnit}
use Rattle.ct_core.specs.declared.units.CoreFunction.{CoreFunction}
use Rattle.ct_form.specs.declared.names.Signature.{Signature}
use Rattle.ct_form.specs.declared.outside.Outside.{Outside}
use Rattle.ct_form.specs.Words.{is_line, first_word}
use Rattle.ct_form.specs.Functions.{IsFunction}

-- these tokens have these texts one by one, and none is the end of a line
abbrev pub SpellEach : List (List ℕ) → List Token → Type 0
SpellEach [] [] = Unit {0}
SpellEach [] (token ∷ tokens) = ⊥
SpellEach (text ∷ texts) [] = ⊥
SpellEach (text ∷ texts) (token ∷ tokens) = (is_line token ≡ false) × (token.text ≡ text) × SpellEach texts tokens

-- the words `# include "unity.h"` on one line
abbrev pub include_words : List (List ℕ)
include_words = codes "#" ∷ codes "include" ∷ (34 ∷ codes "unity.h" ++ 34 ∷ []) ∷ []

-- the end of a line or of the file
abbrev pub EndsLine : List Token → Type 0
EndsLine [] = Unit {0}
EndsLine (token ∷ tokens) = IsTrue (is_line token)

-- An include line stands at the front of the tokens: it begins the file or follows the end of a line, and ends before
-- one or at the end of the file.
pub record StandsInclude (is_first : Bool) (tokens rest : List Token) : Type 0 where
  pub lines : List Token
  pub directive : List Token
  pub split : tokens ≡ lines ++ directive ++ rest
  pub are_lines : All (λ token. IsTrue (is_line token)) lines
  pub begins_line : IsTrue is_first ⊎ (lines ≢ [])
  pub spelled : SpellEach include_words directive
  pub ends_line : EndsLine rest

-- how many functions a file may have
abbrev pub most_functions : ℕ
most_functions = 1000

-- What was read of a file before a place: whether nothing was, whether an include was, the signatures of the functions in
-- order, and how many statements and declarations.
pub record Before : Type 0 where
  pub is_first : Bool
  pub unity : Bool
  pub signatures : List Signature
  pub serial : ℕ

abbrev pub with_include : Before → Before
with_include before = record before { is_first = false; unity = true }

abbrev pub with_function : Before → Signature → ℕ → Before
with_function before signature next = record before { is_first = false; signatures = before.signatures ++ signature ∷ []; serial = next }

abbrev pub StandsFunction : Before → List Token → CoreFunction → Signature → ℕ → List Token → Type 0
StandsFunction before tokens function signature next rest =
    (length before.signatures < most_functions)
    × IsFunction before.signatures before.unity before.serial tokens function signature next rest

-- a function before those that follow
abbrev pub led_by : CoreFunction → Result (List CoreFunction) Token → Result (List CoreFunction) Token
led_by function (Ok functions) = Ok (function ∷ functions)
led_by function (Err token) = Err token

-- Items are read as long as one stands at the place: the functions of the file from here on, or the first token that is
-- left, other than ends of lines.
pub data Reads : Before → List Token → Result (List CoreFunction) Token → Type 0 where
  ends : {before : Before} {tokens : List Token}
      → first_word tokens ≡ None
      → Reads before tokens (Ok [])
  include : {before : Before} {tokens rest : List Token} {outcome : Result (List CoreFunction) Token}
      → StandsInclude before.is_first tokens rest → Reads (with_include before) rest outcome
      → Reads before tokens outcome
  function : {before : Before} {tokens rest : List Token} {outcome : Result (List CoreFunction) Token} {function : CoreFunction} {signature : Signature} {next : ℕ}
      → StandsFunction before tokens function signature next rest → Reads (with_function before signature next) rest outcome
      → Reads before tokens (led_by function outcome)
  outside : {before : Before} {tokens after : List Token} {token : Token}
      → first_word tokens ≡ Some (token, after)
      → ((rest : List Token) → StandsInclude before.is_first tokens rest → ⊥)
      → ((function : CoreFunction) (signature : Signature) (next : ℕ) (rest : List Token)
      → StandsFunction before tokens function signature next rest → ⊥)
      → Reads before tokens (Err token)

-- at the beginning of a file
abbrev pub start : Before
start = record { is_first = true; unity = false; signatures = []; serial = 0 }

-- the core unit of a test file with this path
abbrev pub unit_of : List ℕ → List CoreFunction → CoreUnit
unit_of path functions = record { space = Project; files = path ∷ []; functions = functions; texts = []; structs = [] }

abbrev pub outside_of : Token → Outside
outside_of token = record { line = token.span.line; word = token.text }

-- What a test file of this path and these tokens is: its core unit, or the first token of what is no item.
abbrev pub HasForm : List ℕ → List Token → Result CoreUnit Outside → Type 0
HasForm path tokens (Ok unit) = (functions : List CoreFunction) × Reads start tokens (Ok functions) × (unit ≡ unit_of path functions)
HasForm path tokens (Err refused) = (token : Token) × Reads start tokens (Err token) × (refused ≡ outside_of token)
