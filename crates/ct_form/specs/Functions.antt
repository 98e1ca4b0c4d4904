-- Functions (C11 6.9.1).
--
--   function = ["static"] ("void" | "int") name "(" ("void" | "int" name {"," "int" name}) ")" block
use Rattle.std.specs.Prelude.{◌≡◌, ℕ, ◌-◌, ◌<◌, ◌==◌, ◌||◌, ◌&&◌, Bool, true, false, IsTrue, not, List, [], ◌∷◌, ◌++◌, length, bytes_eq, codes}
use Rattle.std.specs.List.{list_any}
use Rattle.ct_base.specs.declared.lexical.Token.{Token}
use Rattle.ct_core.specs.declared.trees.CoreStatement.{CoreStatement}
use Rattle.ct_core.specs.declared.trees.CoreStatement.TheVariants.{Block}
use Rattle.ct_core.specs.declared.units.Linkage.{Linkage}
use Rattle.ct_core.specs.declared.units.Linkage.TheVariants.{External, Internal}
use Rattle.ct_core.specs.declared.units.CoreFunction.{CoreFunction}
use Rattle.ct_form.specs.declared.names.Binding.{Binding}
use Rattle.ct_form.specs.declared.names.Signature.{Signature}
use Rattle.ct_form.specs.Words.{Stands, Absent, StandsName}
use Rattle.ct_form.specs.Names.{is_declared, is_signed, type_of}
use Rattle.ct_form.specs.Statements.{At, IsBody, moved, begun, declared, binding, mark, nested, most_variables}

-- the word that may stand before the result
pub data IsLinkage : List Token → Linkage → List Token → Type 0 where
  external : {tokens : List Token} → Absent (codes "static") tokens → IsLinkage tokens External tokens
  internal : {tokens rest : List Token} → Stands (codes "static") tokens rest → IsLinkage tokens Internal rest

-- whether the function gives a value
pub data IsResult : List Token → Bool → List Token → Type 0 where
  nothing : {tokens rest : List Token} → Stands (codes "void") tokens rest → IsResult tokens false rest
  value : {tokens rest : List Token} → Stands (codes "int") tokens rest → IsResult tokens true rest

-- Parameters: behind the place, with the declarations so far, come those that follow, with the closing parenthesis. No two
-- have one name.
pub data IsParameters : List Binding → At → List Binding → At → Type 0 where
  last : {own : List Binding} {at : At} {name : Token} {behind middle rest : List Token}
      → Stands (codes "int") at.tokens behind → StandsName behind name middle
      → is_declared own name.text ≡ false → length at.variables < most_variables → Stands (codes ")") middle rest
      → IsParameters own at (own ++ binding at name ∷ []) (declared (moved at rest) name)
  more : {own all : List Binding} {at after : At} {name : Token} {behind middle rest : List Token}
      → Stands (codes "int") at.tokens behind → StandsName behind name middle
      → is_declared own name.text ≡ false → length at.variables < most_variables → Stands (codes ",") middle rest
      → IsParameters (own ++ binding at name ∷ []) (declared (moved at rest) name) all after
      → IsParameters own at all after

-- what stands between the parentheses of the heading, with the closing one
pub data IsParameterList : At → List Binding → At → Type 0 where
  none : {at : At} {behind rest : List Token}
      → Stands (codes "void") at.tokens behind → Stands (codes ")") behind rest
      → IsParameterList at [] (moved at rest)
  some : {at after : At} {own : List Binding}
      → Absent (codes "void") at.tokens → IsParameters [] at own after
      → IsParameterList at own after

-- `setUp` and `tearDown` take nothing and give nothing
abbrev pub is_allowed : Signature → Bool
is_allowed signature =
    not (bytes_eq signature.name (codes "setUp") || bytes_eq signature.name (codes "tearDown"))
    || (not signature.gives_value && (signature.parameters == 0))

abbrev pub signature_of : Token → Bool → List Binding → Signature
signature_of name gives_value own = record { name = name.text; gives_value = gives_value; parameters = length own }

-- A function stands at the front of the tokens, behind functions of these signatures and so many begun statements; and
-- these tokens follow it. Its parameters and its block share one scope, and its name is in scope in the block. Its block
-- is the first of the statements with parts.
pub record IsFunction (signatures : List Signature) (unity : Bool) (serial : ℕ) (tokens : List Token)
    (function : CoreFunction) (signature : Signature) (next : ℕ) (rest : List Token) : Type 0 where
  pub linkage : Linkage
  pub kind_at : List Token
  pub is_linkage : IsLinkage tokens linkage kind_at
  pub gives_value : Bool
  pub name_at : List Token
  pub is_result : IsResult kind_at gives_value name_at
  pub name : Token
  pub open_at : List Token
  pub is_name : StandsName name_at name open_at
  pub first_at : List Token
  pub opened : Stands (codes "(") open_at first_at
  pub own : List Binding
  pub heading : At
  pub is_parameter_list : IsParameterList (record { tokens = first_at; serial = serial; variables = [] }) own heading
  pub signature_is : signature ≡ signature_of name gives_value own
  pub is_new : list_any (is_signed name.text) signatures ≡ false
  pub allowed : IsTrue (is_allowed signature)
  pub inside : List Token
  pub braced : Stands (codes "{") heading.tokens inside
  pub numbers : List ℕ
  pub parts : List CoreStatement
  pub ending : At
  pub body : IsBody (signatures ++ signature ∷ []) unity gives_value (nested - 1) [] own (begun heading inside) numbers parts ending
  pub function_is : function ≡ record {
    name = name.text;
    kind = type_of signature;
    linkage = linkage;
    span = name.span;
    parameters = length own;
    variables = ending.variables;
    body = Block (mark heading) numbers parts;
  }
  pub next_is : next ≡ ending.serial
  pub rest_is : rest ≡ ending.tokens
