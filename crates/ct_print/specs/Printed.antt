-- Which texts a tree spells, and which tokens are what they are without their neighbours.
use Rattle.std.specs.Prelude.{◌≡◌, ℕ, List, [], ◌∷◌, All}
use Rattle.ct_base.specs.declared.lexical.Token.{Token}
use Rattle.ct_token.specs.Lexing.{IsTokenization}
use Rattle.ct_syntax.specs.Words.{Text, words, text_tokens}
use Rattle.ct_syntax.specs.Trees.{Item}
use Rattle.ct_syntax.specs.Scopes.{Scope}
use Rattle.ct_syntax.specs.Units.{SpellsItems}

-- with its kind, the one token of its text alone
pub record StandsAlone (token : Token) : Type 0 where
  pub alone : Token
  pub tokens : IsTokenization 0 token.text (alone ∷ [])
  pub same_kind : alone.kind ≡ token.kind
  pub same_text : alone.text ≡ token.text

-- items that spell some list of such tokens, where they stand in a scope
pub record IsPrintable (scope : Scope) (items : List Item) : Type 0 where
  pub tokens : List Token
  pub spells : SpellsItems scope items (words tokens)
  pub alone : All StandsAlone tokens

-- The text, as that of a file, has tokens, and the items spell them, the new-lines among them aside.
pub record IsTextOf (scope : Scope) (items : List Item) (file : ℕ) (text : Text) : Type 0 where
  pub tokens : List Token
  pub tokenization : IsTokenization file text tokens
  pub spells : SpellsItems scope items (words (text_tokens tokens))
