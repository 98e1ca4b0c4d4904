-- The tokens of the text in which a tree is printed.
use Rattle.std.specs.Prelude.{◌≡◌, ℕ, List, []}
use Rattle.ct_base.specs.declared.lexical.Token.{Token}
use Rattle.ct_token.specs.Lexing.{IsTokenization}
use Rattle.ct_syntax.specs.Words.{text_tokens}
use Rattle.ct_syntax.specs.Scopes.{Scope}
use Rattle.ct_syntax.specs.Trees.{Item}
use Rattle.ct_syntax.specs.Spelling.{spell_unit}
use Rattle.ct_print.specs.Text.{text_of}
use Rattle.ct_print.specs.Printed.{IsPrintable}

-- The items are printable in the scope, and these are the tokens of its printed text, as that of a file, but for the new-lines.
pub record AreOfPrinted (scope : Scope) (items : List Item) (tokens : List Token) : Type 0 where
  pub printable : IsPrintable scope items
  pub file : ℕ
  pub all : List Token
  pub tokenization : IsTokenization file (text_of (spell_unit items [])) all
  pub kept : tokens ≡ text_tokens all
