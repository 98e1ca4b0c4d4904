-- Bytes that begin tokens of different kinds.
use Rattle.std.proofs.Common.{◌≡◌, ℕ, Bool, true, false, ◌||◌, [], ◌∷◌, ap, not, arith}
use Rattle.std.specs.Prelude.{◌==◌}
use Rattle.std.proofs.lemmas.Bool.Decides.{nat_tests}
use Rattle.std.proofs.lemmas.Bool.{or_from}
use Rattle.ct_base.specs.Bytes.{is_digit, is_nondigit, is_name_byte}
use Rattle.ct_token.specs.Bytes.{is_newline, is_blank}
use Rattle.ct_token.specs.Lexing.{is_punctuator, is_other}

-- a digit or a dot, with which a number begins
abbrev pub is_digit_or_dot : ℕ → Bool
is_digit_or_dot byte = is_digit byte || (byte == 46)

pub nondigit_no_number : (b : ℕ) → is_nondigit b ≡ true → is_digit_or_dot b ≡ false
nondigit_no_number b h = grind (arith, nat_tests)

pub digit_is_name_byte : (b : ℕ) → is_digit b ≡ true → is_name_byte b ≡ true
digit_is_name_byte b h = grind (arith, nat_tests)

pub nondigit_is_name_byte : (b : ℕ) → is_nondigit b ≡ true → is_name_byte b ≡ true
nondigit_is_name_byte b h = grind (arith, nat_tests)

pub prefix_byte_is_nondigit : (b : ℕ) → ((b == 76) || (b == 117) || (b == 85)) ≡ true → is_nondigit b ≡ true
prefix_byte_is_nondigit b h = grind (arith, nat_tests)

pub no_name_byte : (b : ℕ) → is_nondigit b ≡ false → is_digit b ≡ false → is_name_byte b ≡ false
no_name_byte b h k = grind (arith, nat_tests)

pub other_from : (b : ℕ) → is_blank b ≡ false → is_name_byte b ≡ false → is_newline b ≡ false → is_punctuator (b ∷ []) ≡ false → is_other b ≡ true
other_from b blank name line mark =
    ap not (or_from (is_name_byte b || is_newline b || is_blank b) (is_punctuator (b ∷ [])) (or_from (is_name_byte b || is_newline b) (is_blank b) (or_from (is_name_byte b) (is_newline b) name line) blank) mark)
