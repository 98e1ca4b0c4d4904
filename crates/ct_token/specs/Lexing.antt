-- Preprocessing tokens (C11 5.1.1.2 and 6.4): the text with joined lines is cut into white space, comments and
-- tokens, and each token is the longest that begins at its place.
use Rattle.std.specs.Prelude.{◌≡◌, ◌≢◌, ℕ, ◌+◌, ◌==◌, ◌&&◌, ◌||◌, not, Bool, true, false, IsTrue, List, [], ◌∷◌, ◌++◌, All, length, slice_index, codes, if◌then◌else◌}
use Rattle.std.specs.List.{list_any}
use Rattle.ct_base.specs.declared.lexical.Token.{Token}
use Rattle.ct_base.specs.declared.lexical.TokenKind.{TokenKind}
use Rattle.ct_base.specs.declared.lexical.TokenKind.TheVariants.{Name, Number, Char, Text, Punct, Other, Line}
use Rattle.ct_base.specs.Bytes.{is_digit, is_nondigit, is_name_byte}
use Rattle.ct_token.specs.Bytes.{is_newline, is_blank}
use Rattle.ct_token.specs.Constants.{is_plain}
use Rattle.ct_token.specs.Lines.{source_characters, joined_bytes, joined_lines}

-- one of these bytes
abbrev pub is_one_of : List ℕ → ℕ → Bool
is_one_of bytes byte = list_any (λ other. other == byte) bytes

-- A punctuator (6.4.6), the digraphs among them: one byte; an operator and `=`, a byte twice, `->` or a digraph;
-- `...`, `<<=` or `>>=`; `%:%:`.
abbrev pub is_punctuator : List ℕ → Bool
is_punctuator [] = false
is_punctuator (first ∷ []) = is_one_of (codes "[](){}.&*+-~!/%<>^|?:;=,#") first
is_punctuator (first ∷ second ∷ []) =
    (is_one_of (codes "<>=!*/%+-&^|") first && (second == 61)) || (is_one_of (codes "+-<>&|#") first && (second == first))
    || ((first == 45) && (second == 62)) || ((first == 60) && is_one_of (codes ":%") second) || ((first == 37) && is_one_of (codes ">:") second)
    || ((first == 58) && (second == 62))
is_punctuator (first ∷ second ∷ third ∷ []) =
    ((first == 46) && (second == 46) && (third == 46)) || (is_one_of (codes "<>") first && (second == first) && (third == 61))
is_punctuator (first ∷ second ∷ third ∷ fourth ∷ []) = (first == 37) && (second == 58) && (third == 37) && (fourth == 58)
is_punctuator (first ∷ second ∷ third ∷ fourth ∷ fifth ∷ bytes) = false

-- a byte that begins none of the other tokens; a quote may begin a longer one
abbrev pub is_other : ℕ → Bool
is_other byte = not (is_name_byte byte || is_newline byte || is_blank byte || is_punctuator (byte ∷ []))

-- one of `e E p P`
abbrev pub is_exponent : ℕ → Bool
is_exponent byte = (byte == 101) || (byte == 69) || (byte == 112) || (byte == 80)

-- `+` or `-`
abbrev pub is_sign : ℕ → Bool
is_sign byte = (byte == 43) || (byte == 45)

-- whether a byte goes on with a preprocessing number after the byte before it: a digit, a letter, `_`
-- or `.`, or a sign right behind an exponent's letter (6.4.8)
abbrev pub continues_number : ℕ → ℕ → Bool
continues_number before byte = is_name_byte byte || (byte == 46) || (is_exponent before && is_sign byte)

abbrev pub all_continue : ℕ → List ℕ → Bool
all_continue before [] = true
all_continue before (byte ∷ bytes) = continues_number before byte && all_continue byte bytes

-- a digit, or a dot and a digit, and what goes on with it (6.4.8)
abbrev pub is_number : List ℕ → Bool
is_number [] = false
is_number (first ∷ []) = is_digit first
is_number (first ∷ second ∷ bytes) =
    (is_digit first && all_continue first (second ∷ bytes)) || ((first == 46) && is_digit second && all_continue second bytes)

-- What may stand between these quotes: bytes that stand for themselves, and backslashes, each with the byte
-- behind it, which is no new-line (6.4.4.4, 6.4.5).
abbrev pub is_inside : ℕ → List ℕ → Bool
is_inside quote [] = true
is_inside quote (byte ∷ []) = is_plain quote byte
is_inside quote (byte ∷ next ∷ bytes) =
    if byte == 92 then not (is_newline next) && is_inside quote bytes
    else is_plain quote byte && is_inside quote (next ∷ bytes)

-- an encoding prefix before a quote, or none: `L`, `u` or `U`, and before a string literal also `u8`
-- (6.4.4.4, 6.4.5)
abbrev pub is_prefix : ℕ → List ℕ → Bool
is_prefix quote [] = true
is_prefix quote (byte ∷ []) = (byte == 76) || (byte == 117) || (byte == 85)
is_prefix quote (byte ∷ digit ∷ []) = (quote == 34) && (byte == 117) && (digit == 56)
is_prefix quote (byte ∷ digit ∷ next ∷ bytes) = false

-- two quotes with what may stand between them, behind an encoding prefix or none
abbrev pub IsQuoted : ℕ → List ℕ → List ℕ → Type 0
IsQuoted quote inside text =
    (prefix : List ℕ) × IsTrue (is_prefix quote prefix) × (text ≡ prefix ++ (quote ∷ inside ++ quote ∷ [])) × IsTrue (is_inside quote inside)

-- What a token of each kind is, as a whole. A character constant has something between its quotes.
abbrev pub IsToken : TokenKind → List ℕ → Type 0
IsToken Name text = (first : ℕ) × (more : List ℕ) × (text ≡ first ∷ more) × IsTrue (is_nondigit first) × All (λ byte. IsTrue (is_name_byte byte)) more
IsToken Number text = IsTrue (is_number text)
IsToken Char text = (inside : List ℕ) × (inside ≢ []) × IsQuoted 39 inside text
IsToken Text text = (inside : List ℕ) × IsQuoted 34 inside text
IsToken Punct text = IsTrue (is_punctuator text)
IsToken Other text = (byte : ℕ) × (text ≡ byte ∷ []) × IsTrue (is_other byte)
IsToken Line text = text ≡ 10 ∷ []

-- a token, and no longer one begins at its place, where this text follows it
pub record IsLongest (kind : TokenKind) (text after : List ℕ) : Type 0 where
  pub token : IsToken kind text
  pub longest : (other : TokenKind) (more rest : List ℕ) → after ≡ more ++ rest → IsToken other (text ++ more) → more ≡ []

-- `/*` or `//`
abbrev pub begins_comment : List ℕ → Bool
begins_comment [] = false
begins_comment (first ∷ []) = false
begins_comment (first ∷ second ∷ bytes) = (first == 47) && ((second == 42) || (second == 47))

-- the end of the text, or a new-line
abbrev pub ends_line : List ℕ → Bool
ends_line [] = true
ends_line (byte ∷ bytes) = is_newline byte

-- no `*/` stands in the text
abbrev pub HasNoClose : List ℕ → Type 0
HasNoClose text = (front back : List ℕ) → text ≡ front ++ 42 ∷ 47 ∷ back → ⊥

-- What stands at a place of a text: a byte of white space, a comment, or a token.
pub data Piece : Type 0 where
  Blank : ℕ → Piece
  BlockComment : List ℕ → Piece
  LineComment : List ℕ → Piece
  Word : TokenKind → List ℕ → Piece

abbrev pub bytes_of : Piece → List ℕ
bytes_of (Blank byte) = byte ∷ []
bytes_of (BlockComment inside) = 47 ∷ 42 ∷ inside ++ 42 ∷ 47 ∷ []
bytes_of (LineComment inside) = 47 ∷ 47 ∷ inside
bytes_of (Word kind text) = text

-- A piece that stands right before a text: a comment ends at the first `*/`, or before the first new-line (6.4.9),
-- and a token is the longest at its place, where no comment begins.
abbrev pub IsPiece : Piece → List ℕ → Type 0
IsPiece (Blank byte) after = IsTrue (is_blank byte)
IsPiece (BlockComment inside) after = HasNoClose (inside ++ 42 ∷ [])
IsPiece (LineComment inside) after = All (λ byte. is_newline byte ≡ false) inside × IsTrue (ends_line after)
IsPiece (Word kind text) after = IsLongest kind text after × (begins_comment (text ++ after) ≡ false)

-- the text of pieces, one behind another, and then this text
abbrev pub spelled : List Piece → List ℕ → List ℕ
spelled [] after = after
spelled (piece ∷ pieces) after = bytes_of piece ++ spelled pieces after

-- each piece stands where it may, before the pieces behind it and then this text
abbrev pub ArePieces : List Piece → List ℕ → Type 0
ArePieces [] after = Unit {0}
ArePieces (piece ∷ pieces) after = IsPiece piece (spelled pieces after) × ArePieces pieces after

-- The tokens among pieces that begin at this place, of which this says whether white space stands before it; the
-- lines of all places are given. A comment is white space.
abbrev pub tokens_of : ℕ → List ℕ → ℕ → Bool → List Piece → List Token
tokens_of file lines place spaced [] = []
tokens_of file lines place spaced (Word kind text ∷ pieces) =
    record { kind = kind; text = text; span = record { file = file; line = slice_index lines place }; spaced = spaced }
    ∷ tokens_of file lines (place + length text) false pieces
tokens_of file lines place spaced (piece ∷ pieces) =
    tokens_of file lines (place + length (bytes_of piece)) true pieces

-- the tokens of a text with joined lines, of whose bytes these are the lines: it is a list of pieces, and these are
-- the tokens among them
abbrev pub AreTokens : ℕ → List ℕ → List ℕ → List Token → Type 0
AreTokens file bytes lines tokens =
    (pieces : List Piece) × (bytes ≡ spelled pieces []) × ArePieces pieces [] × (tokens ≡ tokens_of file lines 0 false pieces)

-- in a text with joined lines a comment that opens on this line is not closed: behind pieces stands `/*`, with no
-- `*/` behind it
abbrev pub IsOpenAt : List ℕ → List ℕ → ℕ → Type 0
IsOpenAt bytes lines line =
    (pieces : List Piece) × (inside : List ℕ) × (bytes ≡ spelled pieces (47 ∷ 42 ∷ inside))
    × ArePieces pieces (47 ∷ 42 ∷ inside) × HasNoClose inside × (line ≡ slice_index lines (length (spelled pieces [])))

-- The tokens of a whole text.
abbrev pub IsTokenization : ℕ → List ℕ → List Token → Type 0
IsTokenization file text tokens = AreTokens file (joined_bytes (source_characters text)) (joined_lines (source_characters text)) tokens

-- The text leaves a comment open that begins on this line.
abbrev pub LeavesOpen : List ℕ → ℕ → Type 0
LeavesOpen text line = IsOpenAt (joined_bytes (source_characters text)) (joined_lines (source_characters text)) line
