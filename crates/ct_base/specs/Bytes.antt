-- Classes of bytes, and bytes that stand side by side.
use Rattle.std.specs.Prelude.{ℕ, ◌==◌, ◌&&◌, ◌||◌, Bool, true, false, nat_le, List, [], ◌∷◌}

abbrev pub is_between : ℕ → ℕ → ℕ → Bool
is_between low high byte = nat_le low byte && nat_le byte high

-- a letter of ASCII
abbrev pub is_letter : ℕ → Bool
is_letter byte = is_between 65 90 byte || is_between 97 122 byte

-- a decimal digit
abbrev pub is_digit : ℕ → Bool
is_digit byte = is_between 48 57 byte

-- a letter or `_` (C11 6.4.2.1)
abbrev pub is_nondigit : ℕ → Bool
is_nondigit byte = is_letter byte || (byte == 95)

-- a byte of an identifier: a letter, `_` or a digit (C11 6.4.2.1)
abbrev pub is_name_byte : ℕ → Bool
is_name_byte byte = is_nondigit byte || is_digit byte

-- whether the second byte stands right behind the first somewhere
abbrev pub has_pair : ℕ → ℕ → List ℕ → Bool
has_pair first second [] = false
has_pair first second (byte ∷ []) = false
has_pair first second (byte ∷ next ∷ bytes) = ((byte == first) && (next == second)) || has_pair first second (next ∷ bytes)
