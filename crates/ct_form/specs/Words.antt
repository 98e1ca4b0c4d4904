-- The words of a test file: its tokens without the ends of lines.
use Rattle.std.specs.Prelude.{◌≡◌, ℕ, ◌==◌, ◌&&◌, ◌||◌, Bool, true, false, IsTrue, not, List, [], ◌∷◌, nat_eq, nat_le, ◌≤◌, bytes_eq, Option, Some, None, codes, decimal, if◌then◌else◌}
use Rattle.std.specs.List.{starts_with, list_any}
use Rattle.ct_base.specs.Bytes.{is_letter, is_name_byte}
use Rattle.ct_base.specs.declared.lexical.Token.{Token}
use Rattle.ct_base.specs.declared.lexical.TokenKind.{TokenKind}
use Rattle.ct_base.specs.declared.lexical.TokenKind.TheVariants.{Name, Number, Char, Text, Punct, Other, Line}

abbrev pub is_line : Token → Bool
is_line token = elim token.kind [ Name ↦ false | Number ↦ false | Char ↦ false | Text ↦ false | Punct ↦ false | Other ↦ false | Line ↦ true ]

abbrev pub is_number_kind : TokenKind → Bool
is_number_kind Name = false
is_number_kind Number = true
is_number_kind Char = false
is_number_kind Text = false
is_number_kind Punct = false
is_number_kind Other = false
is_number_kind Line = false

abbrev pub is_name_kind : TokenKind → Bool
is_name_kind Name = true
is_name_kind Number = false
is_name_kind Char = false
is_name_kind Text = false
is_name_kind Punct = false
is_name_kind Other = false
is_name_kind Line = false

-- the first token that is no end of a line, and what follows it
abbrev pub first_word : List Token → Option (Token × List Token)
first_word [] = None
first_word (token ∷ tokens) = if is_line token then first_word tokens else Some (token, tokens)

-- A word of this text stands at the front of the tokens, and these follow it. The text of a token decides its kind.
pub record Stands (text : List ℕ) (tokens rest : List Token) : Type 0 where
  pub token : Token
  pub first : first_word tokens ≡ Some (token, rest)
  pub spelled : token.text ≡ text

-- nothing of a kind stands at the front of some tokens, or at a place
abbrev pub Nothing : {C R : Type 0} → (C → R → Type 0) → Type 0
Nothing {C} {R} StandsThere = (what : C) (rest : R) → StandsThere what rest → ⊥

-- no word of this text stands at the front
abbrev pub Absent : List ℕ → List Token → Type 0
Absent text tokens = (rest : List Token) → Stands text tokens rest → ⊥

-- the words of C that begin with no underscore (C11 6.4.1), and `asm`
abbrev pub c_words : List (List ℕ)
c_words =
    codes "asm" ∷ codes "auto" ∷ codes "break" ∷ codes "case" ∷ codes "char" ∷ codes "const" ∷ codes "continue" ∷ codes "default"
    ∷ codes "do" ∷ codes "double" ∷ codes "else" ∷ codes "enum" ∷ codes "extern" ∷ codes "float" ∷ codes "for" ∷ codes "goto"
    ∷ codes "if" ∷ codes "inline" ∷ codes "int" ∷ codes "long" ∷ codes "register" ∷ codes "restrict" ∷ codes "return"
    ∷ codes "short" ∷ codes "signed" ∷ codes "sizeof" ∷ codes "static" ∷ codes "struct" ∷ codes "switch" ∷ codes "typedef"
    ∷ codes "union" ∷ codes "unsigned" ∷ codes "void" ∷ codes "volatile" ∷ codes "while" ∷ []

abbrev pub begins_with : List ℕ → List ℕ → Bool
begins_with text front = starts_with nat_eq text front

abbrev pub begins_with_letter : List ℕ → Bool
begins_with_letter [] = false
begins_with_letter (byte ∷ bytes) = is_letter byte

abbrev pub is_other_byte : ℕ → Bool
is_other_byte byte = not (is_name_byte byte)

-- an identifier that begins with a letter
abbrev pub is_identifier : List ℕ → Bool
is_identifier text = begins_with_letter text && not (list_any is_other_byte text)

-- A name that a test file may declare: it begins with a letter, and so with no underscore as those do that are kept for
-- the compiler; it is no word of C, none of those kept for the assertions and this tool, and not the program's entry.
abbrev pub is_free_name : List ℕ → Bool
is_free_name text =
    is_identifier text && not (list_any (bytes_eq text) c_words) && not (begins_with text (codes "TEST_"))
    && not (begins_with text (codes "ceedling_")) && not (bytes_eq text (codes "main"))

-- a name stands at the front of the tokens, and these follow it
pub record StandsName (tokens : List Token) (token : Token) (rest : List Token) : Type 0 where
  pub first : first_word tokens ≡ Some (token, rest)
  pub kind : IsTrue (is_name_kind token.kind)
  pub free : IsTrue (is_free_name token.text)

-- the greatest value of an `int`
abbrev pub int_max : ℕ
int_max = 2147483647

-- the digits of a value of `int`, without a leading zero
abbrev pub IsNumber : List ℕ → ℕ → Type 0
IsNumber text value = (value ≤ int_max) × (text ≡ decimal value)

-- a number stands at the front of the tokens, and these follow it
pub record StandsNumber (tokens : List Token) (value : ℕ) (rest : List Token) : Type 0 where
  pub token : Token
  pub first : first_word tokens ≡ Some (token, rest)
  pub kind : IsTrue (is_number_kind token.kind)
  pub digits : IsNumber token.text value
