-- Which tokens are left out of the language.
use Rattle.std.specs.Prelude.{◌≡◌, ◌≢◌, ℕ, IsTrue, List, ◌∷◌, ◌++◌, length, None, All}
use Rattle.ct_base.specs.declared.lexical.Token.{Token}
use Rattle.ct_base.specs.declared.lexical.TokenKind.{TokenKind}
use Rattle.ct_base.specs.declared.lexical.TokenKind.TheVariants as k
use Rattle.ct_syntax.specs.Words.{is_left_out}
use Rattle.ct_token.specs.Constants.{integer_of, Decodes}

-- A keyword that is left out; a number that is no integer constant of 64 bits; a character constant that spells other
-- than one byte, and a string literal that spells no bytes.
abbrev pub IsUnsupportedText : TokenKind → List ℕ → Type 0
IsUnsupportedText k.Name text = IsTrue (is_left_out text)
IsUnsupportedText k.Number text = integer_of text ≡ None
IsUnsupportedText k.Char text = (bytes : List ℕ) → Decodes text bytes → length bytes ≢ 1
IsUnsupportedText k.Text text = (bytes : List ℕ) → Decodes text bytes → ⊥
IsUnsupportedText k.Punct text = ⊥
IsUnsupportedText k.Other text = ⊥
IsUnsupportedText k.Line text = ⊥

abbrev pub IsUnsupported : Token → Type 0
IsUnsupported token = IsUnsupportedText token.kind token.text

-- the first of some tokens that is left out stands at this place
pub record IsFirst (tokens : List Token) (place : ℕ) : Type 0 where
  pub before : List Token
  pub token : Token
  pub after : List Token
  pub split : tokens ≡ before ++ token ∷ after
  pub place_is : place ≡ length before
  pub supported : All (λ t. IsUnsupported t → ⊥) before
  pub unsupported : IsUnsupported token
