-- What `#` and `##` make of tokens (C11 6.10.3.2, 6.10.3.3).
use Rattle.std.specs.Prelude.{◌≡◌, ℕ, ◌==◌, ◌||◌, Bool, true, false, List, [], ◌∷◌, ◌++◌, if◌then◌else◌}
use Rattle.std.specs.List.{flat_map}
use Rattle.ct_base.specs.declared.lexical.Token.{Token}
use Rattle.ct_base.specs.declared.lexical.TokenKind.{TokenKind}
use Rattle.ct_base.specs.declared.lexical.TokenKind.TheVariants.{Char, Text, Other}
use Rattle.ct_token.specs.Lexing.{IsTokenization}
use Rattle.ct_macro_call.specs.declared.marked.Marked.{Marked}
use Rattle.ct_macro_call.specs.Sets.{common}

-- ---- `#`

abbrev pub is_quoted : TokenKind → Bool
is_quoted Char = true
is_quoted Text = true
is_quoted kind = false

-- in a string, a quote or a backslash takes a backslash before it
abbrev pub escaped_byte : ℕ → List ℕ
escaped_byte byte = if (byte == 34) || (byte == 92) then 92 ∷ byte ∷ [] else byte ∷ []

-- the spelling of a token in a string: those of string literals and character constants are escaped (6.10.3.2p2)
abbrev pub escaped : Token → List ℕ
escaped token = if is_quoted token.kind then flat_map escaped_byte token.text else token.text

abbrev pub space_before : Token → List ℕ
space_before token = if token.spaced then 32 ∷ [] else []

abbrev pub spelled_behind : List Marked → List ℕ
spelled_behind [] = []
spelled_behind (marked ∷ tokens) = space_before marked.token ++ escaped marked.token ++ spelled_behind tokens

-- the spelling of an argument: one space where white space stands between two tokens
abbrev pub spelled : List Marked → List ℕ
spelled [] = []
spelled (marked ∷ tokens) = escaped marked.token ++ spelled_behind tokens

-- the string literal in the place of `#` and its parameter
abbrev pub string_of : Token → List Marked → Marked
string_of hash argument =
    record { token = record { kind = Text; text = 34 ∷ spelled argument ++ 34 ∷ []; span = hash.span; spaced = hash.spaced }; hidden = [] }

-- ---- `##`

-- the text is one token, of this kind
abbrev pub IsOneToken : List ℕ → TokenKind → Type 0
IsOneToken text kind = (token : Token) × IsTokenization 0 text (token ∷ []) × (token.text ≡ text) × (token.kind ≡ kind)

-- a placemarker stands where an argument without tokens does (6.10.3.3p2); it has no bytes
abbrev pub placemarker : Token → Marked
placemarker place =
    record { token = record { kind = Other; text = []; span = place.span; spaced = place.spaced }; hidden = [] }

abbrev pub respaced : Bool → Marked → Marked
respaced spaced marked = record marked { token = record marked.token { spaced = spaced } }

-- The token that two make. With a placemarker it is the other. White space stands before it as before the left one,
-- and the macros that may expand neither may not expand it.
abbrev pub PastesTexts : List ℕ → List ℕ → Marked → Marked → Marked → Type 0
PastesTexts [] right_text left right pasted = pasted ≡ respaced left.token.spaced right
PastesTexts (byte ∷ bytes) [] left right pasted = pasted ≡ left
PastesTexts (byte ∷ bytes) (first ∷ more) left right pasted =
    IsOneToken (byte ∷ bytes ++ first ∷ more) pasted.token.kind
    × (pasted ≡ record { token = record { kind = pasted.token.kind; text = byte ∷ bytes ++ first ∷ more; span = left.token.span; spaced = left.token.spaced }; hidden = common left.hidden right.hidden })

abbrev pub Pastes : Marked → Marked → Marked → Type 0
Pastes left right pasted = PastesTexts left.token.text right.token.text left right pasted

-- the last token of one list and the first of another are pasted
pub record Joins (left right joint : List Marked) : Type 0 where
  pub front : List Marked
  pub last : Marked
  pub first : Marked
  pub back : List Marked
  pub pasted : Marked
  pub left_is : left ≡ front ++ last ∷ []
  pub right_is : right ≡ first ∷ back
  pub pastes : Pastes last first pasted
  pub joint_is : joint ≡ front ++ pasted ∷ back
