-- The tokens of the grammar: names, constants, texts, marks and keywords.
use Rattle.std.specs.Prelude.{ℕ, Bool, true, false, List, [], ◌∷◌, map, filter, codes, find, Option, Some, None, if◌then◌else◌}
use Rattle.std.specs.Str.{bytes_eq}
use Rattle.std.specs.List.{list_any}
use Rattle.ct_base.specs.declared.lexical.Token.{Token}
use Rattle.ct_base.specs.declared.lexical.TokenKind.{TokenKind}
use Rattle.ct_base.specs.declared.lexical.TokenKind.TheVariants as k
use Rattle.ct_base.specs.declared.operators.BinaryOp.TheVariants as b
use Rattle.ct_syntax.specs.declared.words.StepOp.TheVariants as step
use Rattle.ct_syntax.specs.declared.words.PrefixOp.{PrefixOp}
use Rattle.ct_syntax.specs.declared.words.PrefixOp.TheVariants as p
use Rattle.ct_syntax.specs.declared.words.InfixOp.TheVariants as i
use Rattle.ct_syntax.specs.declared.words.AssignOp.TheVariants as a
use Rattle.ct_syntax.specs.declared.words.MemberOp.TheVariants as member
use Rattle.ct_syntax.specs.declared.words.Qualifier.{Qualifier}
use Rattle.ct_syntax.specs.declared.words.Qualifier.TheVariants as q
use Rattle.ct_syntax.specs.declared.words.SpecWord.TheVariants as s
use Rattle.ct_syntax.specs.declared.words.Mark.{Mark}
use Rattle.ct_syntax.specs.declared.words.Mark.TheVariants as m
use Rattle.ct_syntax.specs.declared.words.Keyword.{Keyword}
use Rattle.ct_syntax.specs.declared.words.Keyword.TheVariants as w

abbrev pub Text : Type 0
Text = List ℕ

-- A token without its place. The text of a character constant and of a string literal has its quotes.
pub data Word : Type 0 where
  Named : (text : Text) → Word
  Numbered : (text : Text) → Word
  -- a character constant
  Quote : (text : Text) → Word
  -- a string literal
  Literal : (text : Text) → Word
  Sign : (mark : Mark) → Word
  Key : (keyword : Keyword) → Word
  -- a token that the grammar does not have
  Stray : Word

abbrev pub mark_text : Mark → Text
mark_text m.Open = codes "("
mark_text m.Close = codes ")"
mark_text m.OpenBracket = codes "["
mark_text m.CloseBracket = codes "]"
mark_text m.OpenBrace = codes "{"
mark_text m.CloseBrace = codes "}"
mark_text m.Comma = codes ","
mark_text m.Semicolon = codes ";"
mark_text m.Colon = codes ":"
mark_text m.Question = codes "?"
mark_text m.Ellipsis = codes "..."
mark_text m.Complement = codes "~"
mark_text m.Not = codes "!"
mark_text (m.Member member.Dot) = codes "."
mark_text (m.Member member.Arrow) = codes "->"
mark_text (m.Step step.Increment) = codes "++"
mark_text (m.Step step.Decrement) = codes "--"
mark_text (m.Infix (i.Number b.Multiply)) = codes "*"
mark_text (m.Infix (i.Number b.Divide)) = codes "/"
mark_text (m.Infix (i.Number b.Remainder)) = codes "%"
mark_text (m.Infix (i.Number b.Add)) = codes "+"
mark_text (m.Infix (i.Number b.Subtract)) = codes "-"
mark_text (m.Infix (i.Number b.ShiftLeft)) = codes "<<"
mark_text (m.Infix (i.Number b.ShiftRight)) = codes ">>"
mark_text (m.Infix (i.Number b.Less)) = codes "<"
mark_text (m.Infix (i.Number b.Greater)) = codes ">"
mark_text (m.Infix (i.Number b.LessEqual)) = codes "<="
mark_text (m.Infix (i.Number b.GreaterEqual)) = codes ">="
mark_text (m.Infix (i.Number b.Equal)) = codes "=="
mark_text (m.Infix (i.Number b.NotEqual)) = codes "!="
mark_text (m.Infix (i.Number b.And)) = codes "&"
mark_text (m.Infix (i.Number b.Xor)) = codes "^"
mark_text (m.Infix (i.Number b.Or)) = codes "|"
mark_text (m.Infix i.LogicalAnd) = codes "&&"
mark_text (m.Infix i.LogicalOr) = codes "||"
mark_text (m.Assign a.Plain) = codes "="
mark_text (m.Assign a.Multiply) = codes "*="
mark_text (m.Assign a.Divide) = codes "/="
mark_text (m.Assign a.Remainder) = codes "%="
mark_text (m.Assign a.Add) = codes "+="
mark_text (m.Assign a.Subtract) = codes "-="
mark_text (m.Assign a.ShiftLeft) = codes "<<="
mark_text (m.Assign a.ShiftRight) = codes ">>="
mark_text (m.Assign a.And) = codes "&="
mark_text (m.Assign a.Xor) = codes "^="
mark_text (m.Assign a.Or) = codes "|="

abbrev pub keyword_text : Keyword → Text
keyword_text (w.Spec s.Typedef) = codes "typedef"
keyword_text (w.Spec s.Extern) = codes "extern"
keyword_text (w.Spec s.Static) = codes "static"
keyword_text (w.Spec s.Auto) = codes "auto"
keyword_text (w.Spec s.Register) = codes "register"
keyword_text (w.Spec s.Inline) = codes "inline"
keyword_text (w.Spec s.Const) = codes "const"
keyword_text (w.Spec s.Volatile) = codes "volatile"
keyword_text (w.Spec s.Void) = codes "void"
keyword_text (w.Spec s.Bool) = codes "_Bool"
keyword_text (w.Spec s.Char) = codes "char"
keyword_text (w.Spec s.Short) = codes "short"
keyword_text (w.Spec s.Int) = codes "int"
keyword_text (w.Spec s.Long) = codes "long"
keyword_text (w.Spec s.Signed) = codes "signed"
keyword_text (w.Spec s.Unsigned) = codes "unsigned"
keyword_text w.Struct = codes "struct"
keyword_text w.Enum = codes "enum"
keyword_text w.Restrict = codes "restrict"
keyword_text w.Sizeof = codes "sizeof"
keyword_text w.StaticAssert = codes "_Static_assert"
keyword_text w.If = codes "if"
keyword_text w.Else = codes "else"
keyword_text w.While = codes "while"
keyword_text w.Do = codes "do"
keyword_text w.For = codes "for"
keyword_text w.Switch = codes "switch"
keyword_text w.Case = codes "case"
keyword_text w.Default = codes "default"
keyword_text w.Break = codes "break"
keyword_text w.Continue = codes "continue"
keyword_text w.Return = codes "return"

abbrev pub marks : List Mark
marks =
    m.Open ∷ m.Close ∷ m.OpenBracket ∷ m.CloseBracket ∷ m.OpenBrace ∷ m.CloseBrace ∷ m.Comma ∷ m.Semicolon ∷ m.Colon
    ∷ m.Question ∷ m.Ellipsis ∷ m.Complement ∷ m.Not ∷ m.Member member.Dot ∷ m.Member member.Arrow
    ∷ m.Step step.Increment ∷ m.Step step.Decrement ∷ m.Infix (i.Number b.Multiply) ∷ m.Infix (i.Number b.Divide)
    ∷ m.Infix (i.Number b.Remainder) ∷ m.Infix (i.Number b.Add) ∷ m.Infix (i.Number b.Subtract)
    ∷ m.Infix (i.Number b.ShiftLeft) ∷ m.Infix (i.Number b.ShiftRight) ∷ m.Infix (i.Number b.Less)
    ∷ m.Infix (i.Number b.Greater) ∷ m.Infix (i.Number b.LessEqual) ∷ m.Infix (i.Number b.GreaterEqual)
    ∷ m.Infix (i.Number b.Equal) ∷ m.Infix (i.Number b.NotEqual) ∷ m.Infix (i.Number b.And) ∷ m.Infix (i.Number b.Xor)
    ∷ m.Infix (i.Number b.Or) ∷ m.Infix i.LogicalAnd ∷ m.Infix i.LogicalOr ∷ m.Assign a.Plain ∷ m.Assign a.Multiply
    ∷ m.Assign a.Divide ∷ m.Assign a.Remainder ∷ m.Assign a.Add ∷ m.Assign a.Subtract ∷ m.Assign a.ShiftLeft
    ∷ m.Assign a.ShiftRight ∷ m.Assign a.And ∷ m.Assign a.Xor ∷ m.Assign a.Or ∷ []

abbrev pub keywords : List Keyword
keywords =
    w.Spec s.Typedef ∷ w.Spec s.Extern ∷ w.Spec s.Static ∷ w.Spec s.Auto ∷ w.Spec s.Register ∷ w.Spec s.Inline
    ∷ w.Spec s.Const ∷ w.Spec s.Volatile ∷ w.Spec s.Void ∷ w.Spec s.Bool ∷ w.Spec s.Char ∷ w.Spec s.Short
    ∷ w.Spec s.Int ∷ w.Spec s.Long ∷ w.Spec s.Signed ∷ w.Spec s.Unsigned ∷ w.Struct ∷ w.Enum ∷ w.Restrict ∷ w.Sizeof
    ∷ w.StaticAssert ∷ w.If ∷ w.Else ∷ w.While ∷ w.Do ∷ w.For ∷ w.Switch ∷ w.Case ∷ w.Default ∷ w.Break ∷ w.Continue
    ∷ w.Return ∷ []

-- The words that are left out of the language: no name is spelled like one.
abbrev pub left_out : List Text
left_out =
    codes "float" ∷ codes "double" ∷ codes "_Complex" ∷ codes "_Imaginary" ∷ codes "union" ∷ codes "goto"
    ∷ codes "_Generic" ∷ codes "_Atomic" ∷ codes "_Thread_local" ∷ codes "_Alignas" ∷ codes "_Alignof"
    ∷ codes "_Noreturn" ∷ codes "asm" ∷ codes "__asm" ∷ codes "__asm__" ∷ codes "__attribute__" ∷ codes "__func__" ∷ []

abbrev pub is_left_out : Text → Bool
is_left_out text = list_any (bytes_eq text) left_out

abbrev pub keyword_of : Text → Option Keyword
keyword_of text = find (λ keyword. bytes_eq text (keyword_text keyword)) keywords

abbrev pub mark_of : Text → Option Mark
mark_of text = find (λ mark. bytes_eq text (mark_text mark)) marks

abbrev pub key_or : Option Keyword → Word → Word
key_or (Some keyword) other = Key keyword
key_or None other = other

abbrev pub sign_or : Option Mark → Word → Word
sign_or (Some mark) other = Sign mark
sign_or None other = other

-- A keyword is no name (C11 6.4.1), and a mark is spelled as in C11 6.4.6, without the digraphs.
abbrev pub word_by : TokenKind → Text → Word
word_by k.Name text = if is_left_out text then Stray else key_or (keyword_of text) (Named text)
word_by k.Number text = Numbered text
word_by k.Char text = Quote text
word_by k.Text text = Literal text
word_by k.Punct text = sign_or (mark_of text) Stray
word_by k.Other text = Stray
word_by k.Line text = Stray

abbrev pub word : Token → Word
word token = word_by token.kind token.text

abbrev pub words : List Token → List Word
words tokens = map word tokens

abbrev pub is_text : TokenKind → Bool
is_text k.Line = false
is_text _ = true

-- the tokens of a text but for its new-lines, of which a unit has none
abbrev pub text_tokens : List Token → List Token
text_tokens tokens = filter (λ token. is_text token.kind) tokens

-- The mark of an operator before its operand.
abbrev pub prefix_mark : PrefixOp → Mark
prefix_mark p.Address = m.Infix (i.Number b.And)
prefix_mark p.Dereference = m.Infix (i.Number b.Multiply)
prefix_mark p.Plus = m.Infix (i.Number b.Add)
prefix_mark p.Minus = m.Infix (i.Number b.Subtract)
prefix_mark p.Complement = m.Complement
prefix_mark p.Not = m.Not

-- The mark that makes a pointer.
abbrev pub star : Mark
star = m.Infix (i.Number b.Multiply)

abbrev pub qualifier_keyword : Qualifier → Keyword
qualifier_keyword q.Const = w.Spec s.Const
qualifier_keyword q.Volatile = w.Spec s.Volatile
qualifier_keyword q.Restrict = w.Restrict
