-- Prefixes are ASCII, and so UTF-8.
use Rattle.std.proofs.Common.{◌≡◌, ◌<◌, ℕ, true, List, [], ◌∷◌, arith}
use Rattle.std.proofs.lemmas.Bool.Decides.{nat_tests}
use Rattle.std.specs.List.{list_all}
use Rattle.std.specs.Str.{IsAscii, is_utf8}
use Rattle.std.proofs.lemmas.Str.{IsUtf8-from_ascii, is_utf8-from_IsUtf8}
use Rattle.std.proofs.lemmas.Str.Ascii.{IsAscii-nil, IsAscii-cons}
use Rattle.std.proofs.lemmas.Bool.{and_parts, false≢true}
use Rattle.ct_base.specs.Bytes.{is_letter, is_name_byte}
use Rattle.ct_settings.specs.Names.{is_prefix, is_mock_prefix}

letter_ascii : (byte : ℕ) → is_letter byte ≡ true → byte < 128
letter_ascii byte h = grind (arith, nat_tests)

name_ascii : (byte : ℕ) → is_name_byte byte ≡ true → byte < 128
name_ascii byte h = grind (arith, nat_tests)

names_ascii : (bytes : List ℕ) → list_all is_name_byte bytes ≡ true → IsAscii bytes
names_ascii [] h = IsAscii-nil
names_ascii (byte ∷ bytes) h =
    let both = and_parts (is_name_byte byte) (list_all is_name_byte bytes) h in
    IsAscii-cons byte bytes (name_ascii byte both.0) (names_ascii bytes both.1)

pub prefix_utf8 : (text : List ℕ) → is_prefix text ≡ true → is_utf8 text ≡ true
prefix_utf8 [] h = absurd (false≢true h)
prefix_utf8 (byte ∷ bytes) h =
    let both = and_parts (is_name_byte byte) (list_all is_name_byte bytes) h in
    is_utf8-from_IsUtf8 (byte ∷ bytes) (IsUtf8-from_ascii (byte ∷ bytes) (IsAscii-cons byte bytes (name_ascii byte both.0) (names_ascii bytes both.1)))

pub mock_prefix_utf8 : (text : List ℕ) → is_mock_prefix text ≡ true → is_utf8 text ≡ true
mock_prefix_utf8 [] h = absurd (false≢true h)
mock_prefix_utf8 (byte ∷ bytes) h =
    let both = and_parts (is_letter byte) (list_all is_name_byte bytes) h in
    is_utf8-from_IsUtf8 (byte ∷ bytes) (IsUtf8-from_ascii (byte ∷ bytes) (IsAscii-cons byte bytes (letter_ascii byte both.0) (names_ascii bytes both.1)))

pub ruleset ascii_rules = (prefix_utf8, mock_prefix_utf8)
