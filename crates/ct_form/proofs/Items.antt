-- How far a file is read, and what is left there.
use Rattle.std.proofs.Common.{◌≡◌, ℕ, ◌+◌, ◌<◌, ◌≤◌, Bool, List, [], ◌∷◌, ◌++◌, length, true, false, refl, sym, ap, ◌∙◌, append_assoc, arith}
use Rattle.std.proofs.lemmas.List.{length-append}
use Rattle.std.specs.Prelude.{Some, None, Result, Ok, Err}
use Rattle.ct_base.specs.declared.lexical.Token.{Token}
use Rattle.ct_core.specs.declared.units.CoreFunction.{CoreFunction}
use Rattle.ct_core.specs.declared.units.CoreUnit.{CoreUnit}
use Rattle.ct_form.specs.declared.names.Signature.{Signature}
use Rattle.ct_form.specs.declared.outside.Outside.{Outside}
use Rattle.ct_form.specs.Words.{Nothing, first_word}
use Rattle.ct_form.specs.Form.{Before, StandsInclude, Reads, ends, include, function, outside, start, most_functions, led_by, unit_of, outside_of, HasForm}
use Rattle.ct_form.specs.Readers.{HasNoItem, ReadsUpTo, led_by_all}
use Rattle.ct_form.proofs.OneFile.{hash_of}
use Rattle.ct_form.proofs.OneWord.{Stands-shorter}
use Rattle.ct_form.proofs.WhichFunction.{FunctionThere, function-shorter}

abbrev pub before_of : Bool → Bool → List Signature → ℕ → Before
before_of is_first unity signatures serial = record { is_first = is_first; unity = unity; signatures = signatures; serial = serial }

-- a file is read up to some functions and a place, and has as many signatures as functions there
pub record ItemsRead (tokens : List Token) (functions : List CoreFunction) (is_first unity : Bool) (signatures : List Signature) (serial : ℕ) (rest : List Token) : Type 0 where
  pub read : ReadsUpTo tokens functions (before_of is_first unity signatures serial) rest
  pub as_many : length signatures ≡ length functions

led_by_none : (outcome : Result (List CoreFunction) Token) → led_by_all [] outcome ≡ outcome
led_by_none (Ok more) = refl
led_by_none (Err token) = refl

led_by_one : (functions : List CoreFunction) (f : CoreFunction) (outcome : Result (List CoreFunction) Token)
    → led_by_all (functions ++ f ∷ []) outcome ≡ led_by_all functions (led_by f outcome)
led_by_one functions f (Ok more) = ap (λ l. Ok l) (append_assoc functions (f ∷ []) more)
led_by_one functions f (Err token) = refl

Reads-to : {before : Before} {tokens : List Token} {o o' : Result (List CoreFunction) Token} → o ≡ o' → Reads before tokens o' → Reads before tokens o
Reads-to p h = rw p h

pub items_begin : (tokens : List Token) {functions : List CoreFunction} {signatures : List Signature} → functions ≡ [] → signatures ≡ [] → ItemsRead tokens functions true false signatures 0 tokens
items_begin tokens e f = rw (e, f) (record {
  read = λ outcome r. Reads-to (led_by_none outcome) r;
  as_many = refl;
})

pub items_include : {tokens rest after : List Token} {functions : List CoreFunction} {is_first unity : Bool} {signatures : List Signature} {serial : ℕ}
    → ItemsRead tokens functions is_first unity signatures serial rest → StandsInclude is_first rest after
    → ItemsRead tokens functions false true signatures serial after
items_include i s = record {
  read = λ outcome r. i.read outcome (include s r);
  as_many = i.as_many;
}

pub items_function : {tokens rest after : List Token} {functions all : List CoreFunction} {is_first unity : Bool} {signatures new : List Signature} {serial next : ℕ} {f : CoreFunction}
    → ItemsRead tokens functions is_first unity signatures serial rest → length functions < most_functions
    → FunctionThere signatures unity serial rest (f, new, next) after → all ≡ functions ++ f ∷ []
    → ItemsRead tokens all false unity new next after
items_function {functions = functions} {signatures = signatures} {f = f} i few h e = rw (e, h.2) (record {
  read = λ outcome r. Reads-to (led_by_one functions f outcome) (i.read (led_by f outcome) (function (omega (arith, i.as_many), h.1) r));
  as_many = length-append signatures (h.0 ∷ []) ∙ ap (λ n. n + 1) i.as_many ∙ sym (length-append functions (f ∷ []));
})

-- where a file has all the functions that it may have, or no function stands, it is read to its end
pub no_more : {rest : List Token} {is_first unity : Bool} {signatures : List Signature} {serial : ℕ}
    → ((after : List Token) → StandsInclude is_first rest after → ⊥) → most_functions ≤ length signatures
    → HasNoItem (before_of is_first unity signatures serial) rest
no_more n h = record { no_include = n; no_function = λ f s next after k. omega (arith, k.0, h) }

pub no_item : {rest : List Token} {is_first unity : Bool} {signatures : List Signature} {serial : ℕ}
    → ((after : List Token) → StandsInclude is_first rest after → ⊥) → Nothing (FunctionThere signatures unity serial rest)
    → HasNoItem (before_of is_first unity signatures serial) rest
no_item n m = record { no_include = n; no_function = λ f s next after k. m (f, _, next) after (s, k.1, refl) }

pub include-shorter : {is_first : Bool} {tokens rest : List Token} → StandsInclude is_first tokens rest → length rest < length tokens
include-shorter s = let a = Stands-shorter (hash_of s).2 in omega arith

pub item-shorter : {signatures : List Signature} {unity : Bool} {serial : ℕ} {tokens after : List Token} {what : CoreFunction × List Signature × ℕ}
    → FunctionThere signatures unity serial tokens what after → length after < length tokens
item-shorter h = function-shorter h.1

append-nil : {A : Type 0} (xs : List A) → xs ++ [] ≡ xs
append-nil [] = refl
append-nil (x ∷ xs) = ap (λ ys. x ∷ ys) (append-nil xs)

pub has_unit : (path : List ℕ) (functions : List CoreFunction) {tokens rest : List Token} {before : Before} {unit : CoreUnit}
    → ReadsUpTo tokens functions before rest → first_word rest ≡ None → unit ≡ unit_of path functions → HasForm path tokens (Ok unit)
has_unit path functions r e u =
    (functions, Reads-to (ap (λ (l : List CoreFunction). Ok l) (sym (append-nil functions))) (r (Ok []) (ends e)), u)

pub has_refusal : (path : List ℕ) (functions : List CoreFunction) {tokens rest after : List Token} {before : Before} {token : Token} {refused : Outside}
    → ReadsUpTo tokens functions before rest → HasNoItem before rest → first_word rest ≡ Some (token, after) → refused ≡ outside_of token
    → HasForm path tokens (Err refused)
has_refusal path functions {token = token} r n e u = (token, r (Err token) (outside e n.no_include n.no_function), u)
