-- The lines of a file, and which of them are directives (C11 6.10p2).
use Rattle.std.specs.Prelude.{◌||◌, not, Bool, true, false, List, [], ◌∷◌, Option, Some, None, codes, filter, if◌then◌else◌}
use Rattle.std.specs.Str.{bytes_eq}
use Rattle.ct_base.specs.declared.lexical.Token.{Token}
use Rattle.ct_base.specs.declared.lexical.TokenKind.{TokenKind}
use Rattle.ct_base.specs.declared.lexical.TokenKind.TheVariants.{Line}

abbrev pub is_line_kind : TokenKind → Bool
is_line_kind Line = true
is_line_kind kind = false

-- a new-line
abbrev pub is_line_end : Token → Bool
is_line_end token = is_line_kind token.kind

-- lines whose first begins with this token too
abbrev pub begun : Token → List (List Token) → List (List Token)
begun first [] = (first ∷ []) ∷ []
begun first (line ∷ lines) = (first ∷ line) ∷ lines

-- the tokens of each line, the new-line that ends it among them
abbrev pub lines_of : List Token → List (List Token)
lines_of [] = []
lines_of (token ∷ tokens) = if is_line_end token then (token ∷ []) ∷ lines_of tokens else begun token (lines_of tokens)

-- the tokens that are no new-lines
abbrev pub words_of : List Token → List Token
words_of tokens = filter (λ token. not (is_line_end token)) tokens

-- the tokens of a line without the new-line that ends it
abbrev pub unended : List Token → List Token
unended [] = []
unended (token ∷ []) = if is_line_end token then [] else token ∷ []
unended (token ∷ next ∷ tokens) = token ∷ unended (next ∷ tokens)

abbrev pub is_hash : Token → Bool
is_hash token = bytes_eq token.text (codes "#") || bytes_eq token.text (codes "%:")

-- the `#` that a directive begins with, and the tokens behind it
abbrev pub directive_in : List Token → Option (Token × List Token)
directive_in [] = None
directive_in (first ∷ rest) = if is_hash first then Some (first, unended rest) else None
