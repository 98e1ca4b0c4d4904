-- Classes of bytes of which tokens are made (C11 6.4).
use Rattle.std.specs.Prelude.{ℕ, ◌==◌, ◌||◌, Bool}
use Rattle.ct_base.specs.Bytes.{is_between, is_digit}

abbrev pub is_octal_digit : ℕ → Bool
is_octal_digit byte = is_between 48 55 byte

abbrev pub is_hexadecimal_digit : ℕ → Bool
is_hexadecimal_digit byte = is_digit byte || is_between 65 70 byte || is_between 97 102 byte

-- the quote of a string literal or of a character constant
abbrev pub is_quote : ℕ → Bool
is_quote byte = (byte == 34) || (byte == 39)

abbrev pub is_newline : ℕ → Bool
is_newline byte = byte == 10

-- white space other than a new-line: a space, a tab, a vertical tab or a form feed (6.4p3)
abbrev pub is_blank : ℕ → Bool
is_blank byte = (byte == 32) || (byte == 9) || (byte == 11) || (byte == 12)
