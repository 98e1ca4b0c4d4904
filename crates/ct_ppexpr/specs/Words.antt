-- What a token is in an expression.
use Rattle.std.specs.Prelude.{◌≡◌, ◌⊎◌, ℕ, ◌==◌, if◌then◌else◌, List, [], ◌∷◌, Option, None, Some}
use Rattle.ct_base.specs.declared.lexical.Token.{Token}
use Rattle.ct_base.specs.declared.lexical.TokenKind.{TokenKind}
use Rattle.ct_base.specs.declared.lexical.TokenKind.TheVariants.{Name, Number, Char, Text, Punct, Other, Line}
use Rattle.ct_base.specs.declared.operators.BinaryOp.{BinaryOp}
use Rattle.ct_base.specs.declared.operators.BinaryOp.TheVariants as op
use Rattle.ct_token.specs.Constants.{integer_of, Decodes}
use Rattle.ct_token.specs.declared.constants.Literal.{Literal}
use Rattle.ct_ppexpr.specs.Values.{name_value, literal_value, character_value}
use Rattle.ct_ppexpr.specs.declared.words.Infix.TheVariants.{Compute, Both, Either, Comma}
use Rattle.ct_ppexpr.specs.declared.words.Mark.TheVariants as m
use Rattle.ct_ppexpr.specs.declared.words.Word.{Word}
use Rattle.ct_ppexpr.specs.declared.words.Word.TheVariants as w

abbrev pub computing : BinaryOp → Word
computing op = w.Mark (m.Infix (Compute op))

abbrev pub single_mark : ℕ → Word
single_mark byte =
    if byte == 40 then w.Mark m.Open
    else (if byte == 41 then w.Mark m.Close
    else (if byte == 63 then w.Mark m.Question
    else (if byte == 58 then w.Mark m.Colon
    else (if byte == 126 then w.Mark m.Tilde
    else (if byte == 33 then w.Mark m.Bang
    else (if byte == 42 then computing op.Multiply
    else (if byte == 47 then computing op.Divide
    else (if byte == 37 then computing op.Remainder
    else (if byte == 43 then computing op.Add
    else (if byte == 45 then computing op.Subtract
    else (if byte == 60 then computing op.Less
    else (if byte == 62 then computing op.Greater
    else (if byte == 38 then computing op.And
    else (if byte == 94 then computing op.Xor
    else (if byte == 124 then computing op.Or
    else (if byte == 44 then w.Mark (m.Infix Comma) else w.Stray))))))))))))))))

-- the same byte twice
abbrev pub double_mark : ℕ → Word
double_mark byte =
    if byte == 60 then computing op.ShiftLeft
    else (if byte == 62 then computing op.ShiftRight
    else (if byte == 61 then computing op.Equal
    else (if byte == 38 then w.Mark (m.Infix Both)
    else (if byte == 124 then w.Mark (m.Infix Either) else w.Stray))))

-- a byte before `=`
abbrev pub mark_before_equal : ℕ → Word
mark_before_equal byte =
    if byte == 60 then computing op.LessEqual
    else (if byte == 62 then computing op.GreaterEqual
    else (if byte == 33 then computing op.NotEqual else w.Stray))

-- the mark that a punctuator is
abbrev pub mark_of : List ℕ → Word
mark_of [] = w.Stray
mark_of (first ∷ []) = single_mark first
mark_of (first ∷ second ∷ []) = if first == second then double_mark first else (if second == 61 then mark_before_equal first else w.Stray)
mark_of (first ∷ second ∷ third ∷ bytes) = w.Stray

abbrev pub number_word : Option Literal → Word
number_word (Some literal) = w.Constant (literal_value literal)
number_word None = w.Stray

-- a character constant of one byte is a constant, and any other is in no expression
abbrev pub bytes_word : List ℕ → Word
bytes_word [] = w.Stray
bytes_word (byte ∷ []) = w.Constant (character_value byte)
bytes_word (first ∷ second ∷ bytes) = w.Stray

abbrev pub IsCharacter : List ℕ → Word → Type 0
IsCharacter text word =
    ((bytes : List ℕ) × Decodes text bytes × (word ≡ bytes_word bytes))
    ⊎ (((bytes : List ℕ) → Decodes text bytes → ⊥) × (word ≡ w.Stray))

abbrev pub IsWordOf : TokenKind → List ℕ → Word → Type 0
IsWordOf Name text word = word ≡ w.Constant name_value
IsWordOf Number text word = word ≡ number_word (integer_of text)
IsWordOf Char text word = IsCharacter text word
IsWordOf Text text word = word ≡ w.Stray
IsWordOf Punct text word = word ≡ mark_of text
IsWordOf Other text word = word ≡ w.Stray
IsWordOf Line text word = word ≡ w.Stray

-- each word is that of its token
abbrev pub AreWords : List Token → List Word → Type 0
AreWords [] words = words ≡ []
AreWords (token ∷ tokens) [] = ⊥
AreWords (token ∷ tokens) (word ∷ words) = IsWordOf token.kind token.text word × AreWords tokens words
