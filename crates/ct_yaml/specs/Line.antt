-- What stands on one line.
use Rattle.std.specs.Prelude.{◌≡◌, ◌⊎◌, ℕ, ◌+◌, ◌==◌, ◌&&◌, ◌||◌, not, Bool, true, false, IsTrue, List, [], ◌∷◌, ◌++◌, map, flat_map, replicate, codes, if◌then◌else◌}
use Rattle.std.specs.List.{list_any}
use Rattle.ct_base.specs.Bytes.{has_pair}
use Rattle.ct_yaml.specs.declared.node.Node.TheVariants.{Scalar}
use Rattle.ct_yaml.specs.declared.mark.Inline.{Inline}
use Rattle.ct_yaml.specs.declared.mark.Inline.TheVariants as inline
use Rattle.ct_yaml.specs.declared.mark.Mark.{Mark}
use Rattle.ct_yaml.specs.declared.mark.Mark.TheVariants.{Dash, Key, Value}

-- ---- the end of a line

-- a space or a tab
abbrev pub is_blank : ℕ → Bool
is_blank byte = (byte == 32) || (byte == 9)

-- Nothing counts on the rest of a line: blanks, and maybe a comment, whose `#` stands behind a space.
-- The first argument says whether the rest stands behind one.
abbrev pub is_rest : Bool → List ℕ → Bool
is_rest spaced [] = true
is_rest spaced (byte ∷ bytes) = (spaced && (byte == 35)) || (is_blank byte && is_rest (byte == 32) bytes)

-- what may follow a value
abbrev pub is_end : List ℕ → Bool
is_end bytes = is_rest false bytes

-- what may follow a key's colon or an item's `-`: a space, or nothing that counts
abbrev pub is_gap : List ℕ → Bool
is_gap [] = true
is_gap (byte ∷ bytes) = (byte == 32) || is_end (byte ∷ bytes)

-- a blank line or a comment's, which counts for nothing; a `#` at its start begins a comment too
abbrev pub is_blank_line : List ℕ → Bool
is_blank_line line = is_rest true line

abbrev pub spaces : ℕ → List ℕ
spaces n = replicate n 32

-- ---- scalars

-- `& * ! | > % @`, backquote, quotes, brackets, braces, `#` and `,`
abbrev pub indicators : List ℕ
indicators = codes "&*!|>%@`'\"[]{}#,"

-- a byte that begins no plain scalar; a space belongs to what stands before
abbrev pub is_indicator : ℕ → Bool
is_indicator byte = list_any (λ other. other == byte) indicators || (byte == 32)

-- `-` or `?`, which begin a plain scalar only where it goes on with no space
abbrev pub is_dash_or_question : ℕ → Bool
is_dash_or_question byte = (byte == 45) || (byte == 63)

abbrev pub begins_plain : List ℕ → Bool
begins_plain [] = false
begins_plain (byte ∷ []) = not (is_indicator byte || is_dash_or_question byte)
begins_plain (byte ∷ next ∷ bytes) = not (is_indicator byte) && not (is_dash_or_question byte && (next == 32))

-- ends in no `:`, space or tab
abbrev pub ends_plain : List ℕ → Bool
ends_plain [] = false
ends_plain (byte ∷ []) = not ((byte == 58) || is_blank byte)
ends_plain (byte ∷ next ∷ bytes) = ends_plain (next ∷ bytes)

-- a plain scalar contains no `: ` and no ` #`
abbrev pub is_plain : List ℕ → Bool
is_plain text = begins_plain text && not (has_pair 58 32 text) && not (has_pair 32 35 text) && ends_plain text

-- a comma or a bracket
abbrev pub is_flow_mark : ℕ → Bool
is_flow_mark byte = (byte == 44) || (byte == 91) || (byte == 93)

-- a plain scalar in a flow list
abbrev pub is_flow_plain : List ℕ → Bool
is_flow_plain text = is_plain text && not (list_any is_flow_mark text)

-- in single quotes a quote is doubled
abbrev pub doubled : ℕ → List ℕ
doubled byte = if byte == 39 then 39 ∷ 39 ∷ [] else byte ∷ []

-- in double quotes: the byte behind a backslash, and what both stand for
abbrev pub IsEscape : ℕ → ℕ → Type 0
IsEscape letter meaning =
    ((letter ≡ 92) × (meaning ≡ 92)) ⊎ (((letter ≡ 34) × (meaning ≡ 34)) ⊎ (((letter ≡ 110) × (meaning ≡ 10)) ⊎ ((letter ≡ 116) × (meaning ≡ 9))))

-- the bytes between double quotes that stand for a text: each byte of it by itself or by an escape
abbrev pub StandsFor : List ℕ → List ℕ → Type 0
StandsFor inner [] = inner ≡ []
StandsFor inner (byte ∷ text) = (more : List ℕ) × StandsFor more text
    × (((inner ≡ byte ∷ more) × IsTrue (not ((byte == 34) || (byte == 92))))
    ⊎ ((letter : ℕ) × (inner ≡ 92 ∷ letter ∷ more) × IsEscape letter byte))

abbrev pub IsQuoted : List ℕ → List ℕ → Type 0
IsQuoted written text =
    (written ≡ 39 ∷ flat_map doubled text ++ 39 ∷ []) ⊎ ((inner : List ℕ) × (written ≡ 34 ∷ inner ++ 34 ∷ []) × StandsFor inner text)

-- what is written, and the text that it stands for
abbrev pub IsScalar : List ℕ → List ℕ → Type 0
IsScalar written text = ((written ≡ text) × IsTrue (is_plain text)) ⊎ IsQuoted written text

abbrev pub IsFlowScalar : List ℕ → List ℕ → Type 0
IsFlowScalar written text = ((written ≡ text) × IsTrue (is_flow_plain text)) ⊎ IsQuoted written text

-- ---- values

-- The scalars of a flow list up to its bracket: one comma between two, and any number of spaces round each.
abbrev pub AreElements : List ℕ → List (List ℕ) → Type 0
AreElements written [] = ⊥
AreElements written (text ∷ []) = (n m : ℕ) × (scalar : List ℕ)
    × (written ≡ spaces n ++ scalar ++ spaces m ++ 93 ∷ []) × IsFlowScalar scalar text
AreElements written (text ∷ next ∷ texts) = (n m : ℕ) × (scalar more : List ℕ)
    × (written ≡ spaces n ++ scalar ++ spaces m ++ 44 ∷ more) × IsFlowScalar scalar text × AreElements more (next ∷ texts)

abbrev pub IsFlow : List ℕ → List (List ℕ) → Type 0
IsFlow written texts =
    ((n : ℕ) × (written ≡ 91 ∷ spaces n ++ 93 ∷ []) × (texts ≡ [])) ⊎ ((elements : List ℕ) × (written ≡ 91 ∷ elements) × AreElements elements texts)

-- `{}`
abbrev pub AreBraces : List ℕ → Type 0
AreBraces written = (n : ℕ) × (written ≡ 123 ∷ spaces n ++ 125 ∷ [])

-- a value on one line
abbrev pub IsInline : List ℕ → Inline → Type 0
IsInline written (inline.Scalar text) = IsScalar written text
IsInline written (inline.Flow items) = (texts : List (List ℕ)) × (items ≡ map Scalar texts) × IsFlow written texts
IsInline written inline.Braces = AreBraces written

-- ---- lines

-- a value, or nothing
abbrev pub IsAtMostValue : List Mark → Type 0
IsAtMostValue [] = Unit {0}
IsAtMostValue (Value value ∷ marks) = Unit {0}
IsAtMostValue (_ ∷ marks) = ⊥

-- What stands on a line from a column on: nothing, a value, an entry's key with a value or nothing behind it, or
-- an item's `-` with any of these behind it. One or more spaces stand between a colon or a `-` and what follows.
abbrev pub IsLineFrom : ℕ → List ℕ → List Mark → Type 0
IsLineFrom column bytes [] = IsTrue (is_end bytes)
IsLineFrom column bytes (Value value ∷ marks) = (n : ℕ) × (written rest : List ℕ)
    × (bytes ≡ spaces n ++ written ++ rest) × IsInline written value × IsTrue (is_end rest) × (marks ≡ [])
IsLineFrom column bytes (Key at key ∷ marks) = (n : ℕ) × (written rest : List ℕ)
    × (bytes ≡ spaces n ++ written ++ 58 ∷ rest) × (at ≡ column + n) × IsScalar written key
    × IsTrue (is_gap rest) × IsAtMostValue marks × IsLineFrom (at + 1) rest marks
IsLineFrom column bytes (Dash at ∷ marks) = (n : ℕ) × (rest : List ℕ)
    × (bytes ≡ spaces n ++ 45 ∷ rest) × (at ≡ column + n) × IsTrue (is_gap rest) × IsLineFrom (at + 1) rest marks

-- no value begins a line
abbrev pub IsOpened : List Mark → Type 0
IsOpened (Value value ∷ marks) = ⊥
IsOpened _ = Unit {0}

-- whether a tab stands in the indentation, right behind its spaces
abbrev pub has_tab_indent : List ℕ → Bool
has_tab_indent [] = false
has_tab_indent (byte ∷ bytes) = (byte == 9) || ((byte == 32) && has_tab_indent bytes)

-- the marks of a line, which is indented by spaces
abbrev pub IsLine : List ℕ → List Mark → Type 0
IsLine line marks = IsTrue (not (has_tab_indent line)) × IsOpened marks × IsLineFrom 0 line marks

-- a line that is the text and nothing else that counts
abbrev pub IsMarker : List ℕ → List ℕ → Type 0
IsMarker text line = (rest : List ℕ) × (line ≡ text ++ rest) × IsTrue (is_end rest)
