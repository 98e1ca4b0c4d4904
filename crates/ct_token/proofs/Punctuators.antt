-- What a punctuator begins with, and how long it is.
use Rattle.std.proofs.Common.{◌≡◌, ℕ, ◌≤◌, Bool, true, false, ◌&&◌, ◌||◌, List, [], ◌∷◌, length, refl, sym, ◌∙◌, ⊎_elim, arith}
use Rattle.std.specs.Prelude.{◌==◌, codes}
use Rattle.std.proofs.lemmas.Bool.Decides.{nat_tests}
use Rattle.std.proofs.lemmas.Bool.{and_parts, or_cases, false≢true, false_from_ne_true}
use Rattle.ct_base.specs.Bytes.{is_between, is_digit, is_nondigit}
use Rattle.ct_token.specs.Bytes.{is_blank, is_quote}
use Rattle.ct_token.specs.Lexing.{is_one_of, is_punctuator}

-- a graphic byte other than a letter, a digit, `_`, a quote, `$`, `@`, a backslash or a backquote
abbrev pub is_mark : ℕ → Bool
is_mark byte =
    (byte == 33) || (byte == 35) || is_between 37 38 byte || is_between 40 47 byte || is_between 58 63 byte
    || (byte == 91) || is_between 93 94 byte || is_between 123 126 byte

pub mark_one : (a : ℕ) → is_punctuator (a ∷ []) ≡ true → is_mark a ≡ true
mark_one a h = grind (arith, nat_tests)

mark_operator : (a : ℕ) → is_one_of (codes "<>=!*/%+-&^|") a ≡ true → is_mark a ≡ true
mark_operator a h = grind (arith, nat_tests)

mark_double : (a : ℕ) → is_one_of (codes "+-<>&|#") a ≡ true → is_mark a ≡ true
mark_double a h = grind (arith, nat_tests)

mark_arrow : (a : ℕ) → (a == 45) ≡ true → is_mark a ≡ true
mark_arrow a h = grind (arith, nat_tests)

mark_less : (a : ℕ) → (a == 60) ≡ true → is_mark a ≡ true
mark_less a h = grind (arith, nat_tests)

mark_percent : (a : ℕ) → (a == 37) ≡ true → is_mark a ≡ true
mark_percent a h = grind (arith, nat_tests)

mark_colon : (a : ℕ) → (a == 58) ≡ true → is_mark a ≡ true
mark_colon a h = grind (arith, nat_tests)

pub mark_two : (a b : ℕ) → is_punctuator (a ∷ b ∷ []) ≡ true → is_mark a ≡ true
mark_two a b h =
    ⊎_elim
    (λ h. ⊎_elim
    (λ h. ⊎_elim
    (λ h. ⊎_elim
    (λ h. ⊎_elim
    (λ h. mark_operator a (and_parts operator (b == 61) h).0)
    (λ h. mark_double a (and_parts double (b == a) h).0)
    (or_cases (operator && (b == 61)) (double && (b == a)) h))
    (λ h. mark_arrow a (and_parts (a == 45) (b == 62) h).0)
    (or_cases ((operator && (b == 61)) || (double && (b == a))) arrow h))
    (λ h. mark_less a (and_parts (a == 60) (is_one_of (codes ":%") b) h).0)
    (or_cases ((operator && (b == 61)) || (double && (b == a)) || arrow) less h))
    (λ h. mark_percent a (and_parts (a == 37) (is_one_of (codes ">:") b) h).0)
    (or_cases ((operator && (b == 61)) || (double && (b == a)) || arrow || less) percent h))
    (λ h. mark_colon a (and_parts (a == 58) (b == 62) h).0)
    (or_cases ((operator && (b == 61)) || (double && (b == a)) || arrow || less || percent) ((a == 58) && (b == 62)) h)
  where
    operator : Bool
    operator = is_one_of (codes "<>=!*/%+-&^|") a

    double : Bool
    double = is_one_of (codes "+-<>&|#") a

    arrow : Bool
    arrow = (a == 45) && (b == 62)

    less : Bool
    less = (a == 60) && is_one_of (codes ":%") b

    percent : Bool
    percent = (a == 37) && is_one_of (codes ">:") b

pub mark_three : (a b c : ℕ) → is_punctuator (a ∷ b ∷ c ∷ []) ≡ true → is_mark a ≡ true
mark_three a b c h = grind (arith, nat_tests)

pub mark_four : (a b c d : ℕ) → is_punctuator (a ∷ b ∷ c ∷ d ∷ []) ≡ true → is_mark a ≡ true
mark_four a b c d h = grind (arith, nat_tests)

pub begins_with_mark : (first : ℕ) (more : List ℕ) → is_punctuator (first ∷ more) ≡ true → is_mark first ≡ true
begins_with_mark a [] h = mark_one a h
begins_with_mark a (b ∷ []) h = mark_two a b h
begins_with_mark a (b ∷ c ∷ []) h = mark_three a b c h
begins_with_mark a (b ∷ c ∷ d ∷ []) h = mark_four a b c d h
begins_with_mark a (b ∷ c ∷ d ∷ e ∷ more) h = absurd (false≢true h)

pub at_most_four : (first : ℕ) (more : List ℕ) → is_punctuator (first ∷ more) ≡ true → length more ≤ 3
at_most_four a [] h = omega arith
at_most_four a (b ∷ []) h = omega arith
at_most_four a (b ∷ c ∷ []) h = omega arith
at_most_four a (b ∷ c ∷ d ∷ []) h = omega arith
at_most_four a (b ∷ c ∷ d ∷ e ∷ more) h = absurd (false≢true h)

pub nondigit_no_mark : (byte : ℕ) → is_nondigit byte ≡ true → is_mark byte ≡ false
nondigit_no_mark byte h = grind (arith, nat_tests)

pub digit_no_mark : (byte : ℕ) → is_digit byte ≡ true → is_mark byte ≡ false
digit_no_mark byte h = grind (arith, nat_tests)

pub quote_no_mark : (byte : ℕ) → is_quote byte ≡ true → is_mark byte ≡ false
quote_no_mark byte h = grind (arith, nat_tests)

pub blank_no_mark : (byte : ℕ) → is_blank byte ≡ true → is_mark byte ≡ false
blank_no_mark byte h = grind (arith, nat_tests)

no_punctuator : (first : ℕ) (more : List ℕ) → is_mark first ≡ false → is_punctuator (first ∷ more) ≡ true → ⊥
no_punctuator first more apart h = false≢true (sym apart ∙ begins_with_mark first more h)

-- a byte that is no mark begins no punctuator
pub unmarked : (first : ℕ) (more : List ℕ) → is_mark first ≡ false → is_punctuator (first ∷ more) ≡ false
unmarked first more apart = false_from_ne_true (is_punctuator (first ∷ more)) (no_punctuator first more apart)

-- nor does a dot before a digit
pub dot_digit_two : (second : ℕ) → is_digit second ≡ true → is_punctuator (46 ∷ second ∷ []) ≡ false
dot_digit_two second h = grind (arith, nat_tests)

pub dot_digit_three : (second c : ℕ) → is_digit second ≡ true → is_punctuator (46 ∷ second ∷ c ∷ []) ≡ false
dot_digit_three second c h = grind (arith, nat_tests)

pub dot_digit : (second : ℕ) (more : List ℕ) → is_digit second ≡ true → is_punctuator (46 ∷ second ∷ more) ≡ false
dot_digit b [] h = dot_digit_two b h
dot_digit b (c ∷ []) h = dot_digit_three b c h
dot_digit b (c ∷ d ∷ []) h = refl
dot_digit b (c ∷ d ∷ e ∷ more) h = refl
