-- Words at the front of tokens: at most one stands there.
use Rattle.std.proofs.Common.{◌≡◌, ℕ, ◌<◌, ◌^◌, zero, suc, get_or, List, [], ◌∷◌, length, Bool, true, false, refl, sym, ap, subst, ◌∙◌, arith}
use Rattle.std.specs.Prelude.{Option, Some, IsTrue, codes, decimal, bytes_eq, if◌then◌else◌}
use Rattle.std.specs.Str.Parse.{digits_value}
use Rattle.std.proofs.lemmas.Fmt.{decimal_is_IsNumeral, decimal_digit, first_decimal}
use Rattle.std.proofs.lemmas.Slice.Eq.{bytes_eq-Decides}
use Rattle.ct_base.specs.declared.lexical.Token.{Token}
use Rattle.ct_base.specs.declared.lexical.TokenKind.{TokenKind}
use Rattle.ct_base.specs.declared.lexical.TokenKind.TheVariants.{Name, Number, Char, Text, Punct, Other, Line}
use Rattle.ct_form.specs.Words.{Stands, StandsName, StandsNumber, IsNumber, first_word, is_free_name, is_line, is_name_kind, is_number_kind}

-- two pairs of which one thing was found are equal part by part
pub pair_parts : {A B : Type 0} {x : Option (A × B)} {a a' : A} {b b' : B} → x ≡ Some (a, b) → x ≡ Some (a', b') → (a ≡ a') × (b ≡ b')
pair_parts {A} {B} {a = a} {a' = a'} {b = b} {b' = b'} e f =
    let h : ◌≡◌ {A = A × B} (a, b) (a', b') = cc in
    (ap (λ (p : A × B). p.0) h, ap (λ (p : A × B). p.1) h)

-- the same word has the same rest
pub one_rest : {text text' : List ℕ} {tokens rest rest' : List Token} → Stands text tokens rest → Stands text' tokens rest' → rest ≡ rest'
one_rest s s' = (pair_parts s.first s'.first).1

-- no two words stand at one front
pub not_both : {text text' : List ℕ} {tokens rest rest' : List Token} → Stands text tokens rest → Stands text' tokens rest' → bytes_eq text text' ≡ false → ⊥
not_both {text} {text'} s s' differ =
    let e = (pair_parts s.first s'.first).0 in
    let same : text ≡ text' = sym s.spelled ∙ ap (λ (t : Token). t.text) e ∙ s'.spelled in
    let test = (bytes_eq-Decides text text').1 same in
    cc

pub one_name : {tokens rest rest' : List Token} {name name' : Token} → StandsName tokens name rest → StandsName tokens name' rest' → (name ≡ name') × (rest ≡ rest')
one_name s s' = pair_parts s.first s'.first

-- no name is a word that is not free
pub no_name : {text : List ℕ} {tokens rest rest' : List Token} {name : Token} → Stands text tokens rest → StandsName tokens name rest' → is_free_name text ≡ false → ⊥
no_name {text} s s' free =
    let e = (pair_parts s.first s'.first).0 in
    let same : s.token.text ≡ text = s.spelled in
    let it : is_free_name text ≡ true = subst (λ t. is_free_name t ≡ true) same (subst (λ (t : Token). is_free_name t.text ≡ true) (sym e) s'.free) in
    cc

-- a number is spelled in one way
one_value : {text : List ℕ} {m n : ℕ} → IsNumber text m → IsNumber text n → m ≡ n
one_value {text} {m} {n} a b =
    let p : digits_value 10 (decimal m) ≡ m = (decimal_is_IsNumeral m (omega (arith, a.0))).1 in
    let q : digits_value 10 (decimal n) ≡ n = (decimal_is_IsNumeral n (omega (arith, b.0))).1 in
    sym p ∙ ap (digits_value 10) (sym a.1 ∙ b.1) ∙ q

pub one_number : {tokens rest rest' : List Token} {m n : ℕ} → StandsNumber tokens m rest → StandsNumber tokens n rest' → (m ≡ n) × (rest ≡ rest')
one_number {m = m} s s' =
    let e = pair_parts s.first s'.first in
    (one_value (subst (λ (t : Token). IsNumber t.text m) e.0 s.digits) s'.digits, e.1)

kinds_apart : (kind : TokenKind) → IsTrue (is_name_kind kind) → IsTrue (is_number_kind kind) → ⊥
kinds_apart Name p q = cc
kinds_apart Number p q = cc
kinds_apart Char p q = cc
kinds_apart Text p q = cc
kinds_apart Punct p q = cc
kinds_apart Other p q = cc
kinds_apart Line p q = cc

-- no number is a name
pub number_or_name : {tokens rest rest' : List Token} {name : Token} {value : ℕ} → StandsName tokens name rest → StandsNumber tokens value rest' → ⊥
number_or_name s s' =
    let e = (pair_parts s.first s'.first).0 in
    kinds_apart s'.token.kind (subst (λ (t : Token). IsTrue (is_name_kind t.kind)) e s.kind) s'.kind

open_or_digits : (n : ℕ) → n < 2 ^ 64 → codes "(" ≡ decimal n → ⊥
open_or_digits zero small e =
    let h : 40 ≡ 48 = ap (λ l. get_or l 0 0) (e ∙ decimal_digit 0 (omega arith)) in
    omega (arith, h)
open_or_digits (suc n) small e =
    let first = first_decimal (suc n) (omega arith) small in
    let h : 40 ≡ get_or (decimal (suc n)) 0 0 = ap (λ l. get_or l 0 0) e in
    omega (arith, h, first)

-- no number is an opening parenthesis
pub number_or_group : {tokens rest rest' : List Token} {value : ℕ} → Stands (codes "(") tokens rest → StandsNumber tokens value rest' → ⊥
number_or_group {value = value} s s' =
    let e = (pair_parts s.first s'.first).0 in
    let same : codes "(" ≡ decimal value = sym s.spelled ∙ ap (λ (t : Token). t.text) e ∙ s'.digits.1 in
    open_or_digits value (omega (arith, s'.digits.0)) same

shorter_by_line : (line : Bool) (first : Token) (tokens : List Token) {token : Token} {rest : List Token}
    → (first_word tokens ≡ Some (token, rest) → length rest < length tokens)
    → (if line then first_word tokens else Some (first, tokens)) ≡ Some (token, rest) → length rest < length (first ∷ tokens)
shorter_by_line true first tokens h f = let k = h f in omega arith
shorter_by_line false first tokens h f = let e = (pair_parts refl f).1 in omega (arith, ap length e)

-- what follows the first word is shorter
pub first_word-shorter : (tokens : List Token) {token : Token} {rest : List Token} → first_word tokens ≡ Some (token, rest) → length rest < length tokens
first_word-shorter [] e = absurd (cc)
first_word-shorter (first ∷ tokens) {token} {rest} e = shorter_by_line (is_line first) first tokens (λ f. first_word-shorter tokens f) e

pub Stands-shorter : {text : List ℕ} {tokens rest : List Token} → Stands text tokens rest → length rest < length tokens
Stands-shorter {text} {tokens} {rest} s = first_word-shorter tokens s.first

pub StandsName-shorter : {tokens rest : List Token} {name : Token} → StandsName tokens name rest → length rest < length tokens
StandsName-shorter {tokens} s = first_word-shorter tokens s.first

pub StandsNumber-shorter : {tokens rest : List Token} {value : ℕ} → StandsNumber tokens value rest → length rest < length tokens
StandsNumber-shorter {tokens} s = first_word-shorter tokens s.first
