-- Integer constants (C11 6.4.4.1), and the bytes of character constants and string literals (6.4.4.4, 6.4.5).
use Rattle.std.specs.Prelude.{◌≡◌, ◌≢◌, ℕ, ◌+◌, ◌*◌, ◌-◌, ◌^◌, ◌==◌, ◌&&◌, ◌||◌, not, min, Bool, true, false, IsTrue, List, [], ◌∷◌, ◌++◌, Option, None, Some, option_and_then, if◌then◌else◌, nat_lt, nat_le, slice_index, length, take, drop, fold}
use Rattle.std.specs.List.{prefix_len}
use Rattle.ct_base.specs.Bytes.{is_between, is_digit}
use Rattle.ct_token.specs.Bytes.{is_octal_digit, is_hexadecimal_digit, is_quote}
use Rattle.ct_token.specs.declared.constants.Base.{Base}
use Rattle.ct_token.specs.declared.constants.Base.TheVariants.{Octal, Decimal, Hexadecimal}
use Rattle.ct_token.specs.declared.constants.Literal.{Literal}
use Rattle.ct_token.specs.declared.constants.Suffix.{Suffix}
use Rattle.ct_token.specs.declared.constants.Element.{Element}

abbrev pub radix : Base → ℕ
radix Octal = 8
radix Decimal = 10
radix Hexadecimal = 16

abbrev pub is_digit_in : Base → ℕ → Bool
is_digit_in Octal byte = is_octal_digit byte
is_digit_in Decimal byte = is_digit byte
is_digit_in Hexadecimal byte = is_hexadecimal_digit byte

-- what a digit stands for: `0` to `9`, then `a` or `A` to `f` or `F`
abbrev pub digit_value : ℕ → ℕ
digit_value byte =
    if is_digit byte then byte - 48 else (if is_between 97 102 byte then byte - 87 else byte - 55)

-- what digits stand for together, the most significant first
abbrev pub number_in : Base → List ℕ → ℕ
number_in base digits = fold (λ value digit. radix base * value + digit_value digit) 0 digits

-- the digits of a base that a text begins with, and what stands behind them
abbrev pub digits_in : Base → List ℕ → List ℕ
digits_in base text = take (prefix_len (is_digit_in base) text) text

abbrev pub behind_digits : Base → List ℕ → List ℕ
behind_digits base text = drop (prefix_len (is_digit_in base) text) text

-- `x` or `X`
abbrev pub is_x : ℕ → Bool
is_x byte = (byte == 120) || (byte == 88)

-- the base of an integer constant, by what it begins with: `0x` or `0X`, or `0`, or another byte
abbrev pub base_of : List ℕ → Base
base_of [] = Decimal
base_of (first ∷ []) = if first == 48 then Octal else Decimal
base_of (first ∷ second ∷ bytes) =
    if first == 48 then (if is_x second then Hexadecimal else Octal) else Decimal

-- the digits and the suffix, without a prefix `0x` or `0X`
abbrev pub unprefixed : Base → List ℕ → List ℕ
unprefixed Octal text = text
unprefixed Decimal text = text
unprefixed Hexadecimal text = drop 2 text

-- `u` or `U`
abbrev pub is_u : ℕ → Bool
is_u byte = (byte == 117) || (byte == 85)

-- `l` or `L`
abbrev pub is_l : ℕ → Bool
is_l byte = (byte == 108) || (byte == 76)

-- no letter, one `l` or `L`, or two of the same case
abbrev pub longs_of : List ℕ → Option ℕ
longs_of [] = Some 0
longs_of (first ∷ []) = if is_l first then Some 1 else None
longs_of (first ∷ second ∷ []) = if is_l first && (first == second) then Some 2 else None
longs_of (first ∷ second ∷ third ∷ bytes) = None

abbrev pub suffix_with : Bool → Option ℕ → Option Suffix
suffix_with unsigned longs = option_and_then (λ count. Some (record { unsigned = unsigned; longs = count })) longs

-- The suffix of an integer constant: those letters, and before or else behind them at most one `u` or `U`.
abbrev pub suffix_of : List ℕ → Option Suffix
suffix_of text =
    if is_u (slice_index text 0) then suffix_with true (longs_of (drop 1 text))
    else (if is_u (slice_index text (length text - 1)) then suffix_with true (longs_of (take (length text - 1) text))
    else suffix_with false (longs_of text))

-- what a constant is below: a decimal one without `u` has a signed type (6.4.4.1p5)
abbrev pub bound_of : Base → Bool → ℕ
bound_of Decimal false = 2 ^ 63
bound_of base unsigned = 2 ^ 64

abbrev pub is_decimal : Base → Bool
is_decimal Decimal = true
is_decimal base = false

-- what digits and a suffix stand for, where there are digits and they fit
abbrev pub literal_of : Base → List ℕ → Option Suffix → Option Literal
literal_of base digits None = None
literal_of base digits (Some suffix) =
    if nat_lt 0 (length digits) && nat_lt (number_in base digits) (bound_of base suffix.unsigned)
    then Some (record {
      value = number_in base digits;
      decimal = is_decimal base;
      unsigned = suffix.unsigned;
      longs = suffix.longs;
    })
    else None

-- The integer constant that a text is, if it is one of 64 bits: a prefix, digits and a suffix (6.4.4.1).
abbrev pub integer_of : List ℕ → Option Literal
integer_of text =
    let base = base_of text in
    let rest = unprefixed base text in
    literal_of base (digits_in base rest) (suffix_of (behind_digits base rest))

-- a byte that stands for itself between these quotes: not the quote, a backslash or a new-line
abbrev pub is_plain : ℕ → ℕ → Bool
is_plain quote byte = not ((byte == quote) || (byte == 92) || (byte == 10))

-- what a byte behind a backslash stands for, where it is one of `' " ? \ a b f n r t v` (6.4.4.4p3)
abbrev pub simple_escape : ℕ → Option ℕ
simple_escape byte =
    if (byte == 39) || (byte == 34) || (byte == 63) || (byte == 92) then Some byte
    else (if byte == 97 then Some 7
    else (if byte == 98 then Some 8
    else (if byte == 102 then Some 12
    else (if byte == 110 then Some 10
    else (if byte == 114 then Some 13
    else (if byte == 116 then Some 9
    else (if byte == 118 then Some 11 else None)))))))

-- a byte, spelled by so many bytes
abbrev pub element : ℕ → ℕ → Element
element byte count = record { byte = byte; count = count }

-- the byte that digits behind so many bytes stand for, where there are digits and it is at most 255
abbrev pub numeric_escape : Base → List ℕ → ℕ → Option Element
numeric_escape base digits before =
    if nat_lt 0 (length digits) && nat_le (number_in base digits) 255
    then Some (element (number_in base digits) (before + length digits))
    else None

-- What a text behind a backslash begins with, the backslash counted: up to three octal digits, or `x` and
-- hexadecimal digits, as many as there are, or one byte (6.4.4.4).
abbrev pub escape_of : List ℕ → Option Element
escape_of [] = None
escape_of (first ∷ rest) =
    if is_octal_digit first
    then numeric_escape Octal (take (min 3 (prefix_len is_octal_digit (first ∷ rest))) (first ∷ rest)) 1
    else (if first == 120 then numeric_escape Hexadecimal (digits_in Hexadecimal rest) 2
    else option_and_then (λ byte. Some (element byte 2)) (simple_escape first))

-- what a text between these quotes begins with
abbrev pub element_of : ℕ → List ℕ → Option Element
element_of quote [] = None
element_of quote (first ∷ rest) =
    if first == 92 then escape_of rest else (if is_plain quote first then Some (element first 1) else None)

-- the text between these quotes spells these bytes
abbrev pub SpellsBytes : ℕ → List ℕ → List ℕ → Type 0
SpellsBytes quote text [] = text ≡ []
SpellsBytes quote text (byte ∷ bytes) =
    (count : ℕ) × (element_of quote text ≡ Some (element byte count)) × SpellsBytes quote (drop count text) bytes

-- The text is a character constant or a string literal, without an encoding prefix, that spells these bytes.
-- A character constant has at least one.
pub record Decodes (text bytes : List ℕ) : Type 0 where
  pub quote : ℕ
  pub inside : List ℕ
  pub quotes : text ≡ quote ∷ inside ++ quote ∷ []
  pub one_of : IsTrue (is_quote quote)
  pub spells : SpellsBytes quote inside bytes
  pub some : quote ≡ 39 → bytes ≢ []
