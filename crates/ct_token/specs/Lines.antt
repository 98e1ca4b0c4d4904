-- The characters of a text, and the text with joined lines (C11 5.1.1.2, the first two phases of translation).
use Rattle.std.specs.Prelude.{ℕ, ◌+◌, ◌==◌, ◌&&◌, List, [], ◌∷◌, map, count_by, if◌then◌else◌}
use Rattle.ct_token.specs.Bytes.{is_newline}

-- The characters of a text: its bytes, but for each carriage return right before a new-line, with which it ends a line.
abbrev pub source_characters : List ℕ → List ℕ
source_characters [] = []
source_characters (byte ∷ []) = byte ∷ []
source_characters (byte ∷ next ∷ text) =
    if (byte == 13) && is_newline next then source_characters (next ∷ text) else byte ∷ source_characters (next ∷ text)

-- how many lines end in a text
abbrev pub newlines : List ℕ → ℕ
newlines text = count_by is_newline text

-- a byte, and the physical line on which it stands
pub record Placed : Type 0 where
  pub byte : ℕ
  pub line : ℕ

abbrev pub placed : ℕ → ℕ → Placed
placed byte line = record { byte = byte; line = line }

-- The bytes of a text that begins on this line, but for each backslash right before a new-line and for that
-- new-line.
abbrev pub joined : ℕ → List ℕ → List Placed
joined line [] = []
joined line (byte ∷ []) = placed byte line ∷ []
joined line (byte ∷ next ∷ text) =
    if (byte == 92) && is_newline next then joined (line + 1) text
    else placed byte line ∷ joined (line + newlines (byte ∷ [])) (next ∷ text)

-- the bytes of the text with joined lines
abbrev pub joined_bytes : List ℕ → List ℕ
joined_bytes text = map (λ at. at.byte) (joined 1 text)

-- the physical lines of those bytes, counted from 1
abbrev pub joined_lines : List ℕ → List ℕ
joined_lines text = map (λ at. at.line) (joined 1 text)
