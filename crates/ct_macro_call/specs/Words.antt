-- The tokens and words that macros know, and how a definition names its arguments (C11 6.10.3). A token is told by
-- its bytes alone, since they decide its kind.
use Rattle.std.specs.Prelude.{ℕ, ◌&&◌, ◌||◌, Bool, true, false, List, [], ◌∷◌, ◌++◌, Option, Some, None, codes}
use Rattle.std.specs.Str.{bytes_eq}
use Rattle.ct_base.specs.declared.lexical.Token.{Token}
use Rattle.ct_base.specs.declared.lexical.TokenKind.{TokenKind}
use Rattle.ct_base.specs.declared.lexical.TokenKind.TheVariants.{Name}
use Rattle.ct_macro_call.specs.declared.definition.Macro.{Macro}

-- `#`, also as a digraph (6.4.6p3)
abbrev pub is_hash : Token → Bool
is_hash token = bytes_eq token.text (codes "#") || bytes_eq token.text (codes "%:")

-- `##`, also as a digraph
abbrev pub is_paste : Token → Bool
is_paste token = bytes_eq token.text (codes "##") || bytes_eq token.text (codes "%:%:")

abbrev pub is_open : Token → Bool
is_open token = bytes_eq token.text (codes "(")

abbrev pub is_close : Token → Bool
is_close token = bytes_eq token.text (codes ")")

abbrev pub is_comma : Token → Bool
is_comma token = bytes_eq token.text (codes ",")

abbrev pub is_name_kind : TokenKind → Bool
is_name_kind Name = true
is_name_kind kind = false

abbrev pub is_name : Token → Bool
is_name token = is_name_kind token.kind

-- `defined`, which is an operator in a condition (6.10.1p1)
abbrev pub is_operator : Token → Bool
is_operator token = is_name token && bytes_eq token.text (codes "defined")

-- `__VA_ARGS__`
abbrev pub variable_arguments : List ℕ
variable_arguments = codes "__VA_ARGS__"

-- `__LINE__`
abbrev pub line_name : List ℕ
line_name = codes "__LINE__"

-- with `__VA_ARGS__` as the last, where the parameter list ends in `...`
abbrev pub with_variable : Bool → List (List ℕ) → List (List ℕ)
with_variable true names = names ++ variable_arguments ∷ []
with_variable false names = names

-- the names that stand for arguments in the body of a function-like macro
abbrev pub parameters_of : Macro → Option (List (List ℕ))
parameters_of definition = listed definition.parameters
  where
    listed : Option (List (List ℕ)) → Option (List (List ℕ))
    listed None = None
    listed (Some names) = Some (with_variable definition.variadic names)
