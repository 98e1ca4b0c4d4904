-- Statements and declarations of a block: the words that spell one, and the core tree that it means (C11 6.7, 6.8).
--
--   block     = "{" { "int" name ["=" expr] ";" | statement } "}"
--   statement = block | name "=" expr ";" | name "(" [args] ")" ";"
--             | "if" "(" expr ")" statement ["else" statement] | "while" "(" expr ")" statement
--             | "return" expr ";" | "TEST_ASSERT_EQUAL_INT" "(" expr "," expr ")" ";"
use Rattle.std.specs.Prelude.{◌≡◌, ℕ, ◌+◌, ◌-◌, ◌<◌, Bool, false, IsTrue, pos, List, [], ◌∷◌, ◌++◌, length, Option, Some, None, codes}
use Rattle.ct_base.specs.declared.lexical.Token.{Token}
use Rattle.ct_base.specs.declared.lexical.Span.{Span}
use Rattle.ct_ctype.specs.declared.kinds.IntKind.TheVariants.{UnsignedInt, LongLong}
use Rattle.ct_core.specs.declared.trees.CoreExpression.{CoreExpression}
use Rattle.ct_core.specs.declared.trees.CoreExpression.TheVariants.{Constant, Variable, Function, Assign, Convert, Call}
use Rattle.ct_core.specs.declared.trees.CoreStatement.{CoreStatement}
use Rattle.ct_core.specs.declared.trees.CoreStatement.TheVariants.{Run, Block, Declare, If, While, Return}
use Rattle.ct_core.specs.declared.trees.Mark.{Mark}
use Rattle.ct_core.specs.declared.units.Variable.{Variable as Object}
use Rattle.ct_form.specs.declared.names.Binding.{Binding}
use Rattle.ct_form.specs.declared.names.Signature.{Signature}
use Rattle.ct_form.specs.Words.{Stands, Absent, StandsName, first_word}
use Rattle.ct_form.specs.Names.{variable_number, is_declared, int_type, assertion_type}
use Rattle.ct_form.specs.Expressions.{IsExpression, IsCall, int}

-- A place in the text of a function: the tokens that are left, how many statements and declarations of the unit began
-- before it, and the parameters and variables that the function declared before it.
pub record At : Type 0 where
  pub tokens : List Token
  pub serial : ℕ
  pub variables : List Object

abbrev pub span_of_word : Option (Token × List Token) → Span
span_of_word None = record { file = 0; line = 0 }
span_of_word (Some found) = found.0.span

-- the mark of a statement that begins here
abbrev pub mark : At → Mark
mark at = record { span = span_of_word (first_word at.tokens); serial = at.serial }

-- a place further on
abbrev pub moved : At → List Token → At
moved at rest = record at { tokens = rest }

-- a place further on, with one more begun
abbrev pub begun : At → List Token → At
begun at rest = record at { tokens = rest; serial = at.serial + 1 }

-- a variable of this name is declared, and its number is how many there were before
abbrev pub declared : At → Token → At
declared at name =
    record at { variables = at.variables ++ record { name = name.text; kind = int_type; constant = false; span = name.span } ∷ [] }

abbrev pub binding : At → Token → Binding
binding at name = record { name = name.text; number = length at.variables }

-- how many parentheses may open in one another, and how many statements with parts
abbrev pub parentheses : ℕ
parentheses = 64

abbrev pub nested : ℕ
nested = 32

-- how many parameters and variables a function may have
abbrev pub most_variables : ℕ
most_variables = 128

-- what the assertion calls, with the line of the macro's name
abbrev pub assertion_core : Mark → CoreExpression → CoreExpression → CoreExpression
assertion_core mark expected actual =
    Call assertion_type (Function (codes "ceedling_assert_TEST_ASSERT_EQUAL_INT"))
    (Constant UnsignedInt (pos mark.span.line) ∷ Convert LongLong expected ∷ Convert LongLong actual ∷ [])

-- the initialiser of a declaration, which may be absent
module _ (signatures : List Signature) (scope : List Binding) where
  pub data IsStart : List Token → Option CoreExpression → List Token → Type 0 where
    absent : {tokens : List Token} → Absent (codes "=") tokens → IsStart tokens None tokens
    present : {tokens behind rest : List Token} {core : CoreExpression}
        → Stands (codes "=") tokens behind → IsExpression signatures scope parentheses behind core rest
        → IsStart tokens (Some core) rest

  -- `( expr )`
  pub record IsTest (tokens : List Token) (core : CoreExpression) (rest : List Token) : Type 0 where
    pub inside : List Token
    pub middle : List Token
    pub opened : Stands (codes "(") tokens inside
    pub test : IsExpression signatures scope (parentheses - 1) inside core middle
    pub closed : Stands (codes ")") middle rest

  -- `( expr , expr )`
  pub record IsPair (tokens : List Token) (first second : CoreExpression) (rest : List Token) : Type 0 where
    pub inside : List Token
    pub middle : List Token
    pub behind : List Token
    pub ending : List Token
    pub opened : Stands (codes "(") tokens inside
    pub one : IsExpression signatures scope (parentheses - 1) inside first middle
    pub comma : Stands (codes ",") middle behind
    pub other : IsExpression signatures scope (parentheses - 1) behind second ending
    pub closed : Stands (codes ")") ending rest

-- In each relation the number is how many statements with parts (blocks, `if` and `while`) may still begin in one
-- another at the place, then come the scope, the place, what a front of its tokens spells, and the place behind.
-- `unity` says whether `unity.h`, which declares the assertion, was included; `gives_value` is of the function around.
module _ (signatures : List Signature) (unity gives_value : Bool) where
  mutual
    pub data IsStatement : ℕ → List Binding → At → CoreStatement → At → Type 0 where
      block : {room : ℕ} {scope : List Binding} {at after : At} {inside : List Token} {numbers : List ℕ} {parts : List CoreStatement}
          → Stands (codes "{") at.tokens inside → 0 < room
          → IsBody (room - 1) scope [] (begun at inside) numbers parts after
          → IsStatement room scope at (Block (mark at) numbers parts) after
      assignment : {room number : ℕ} {scope : List Binding} {at : At} {name : Token} {middle behind ending rest : List Token} {core : CoreExpression}
          → StandsName at.tokens name middle → Stands (codes "=") middle behind → variable_number scope name.text ≡ Some number
          → IsExpression signatures scope parentheses behind core ending → Stands (codes ";") ending rest
          → IsStatement room scope at (Run (mark at) (Assign int (Variable number) core)) (begun at rest)
      call : {room : ℕ} {scope : List Binding} {at : At} {signature : Signature} {core : CoreExpression} {ending rest : List Token}
          → IsCall signatures scope parentheses at.tokens signature core ending → Stands (codes ";") ending rest
          → IsStatement room scope at (Run (mark at) core) (begun at rest)
      -- an `else` is that of the nearest `if` before it that has none
      only : {room : ℕ} {scope : List Binding} {at after : At} {behind inside : List Token} {test : CoreExpression} {yes : CoreStatement}
          → Stands (codes "if") at.tokens behind → 0 < room → IsTest signatures scope behind test inside
          → IsStatement (room - 1) scope (begun at inside) yes after → Absent (codes "else") after.tokens
          → IsStatement room scope at (If (mark at) test yes None) after
      either : {room : ℕ} {scope : List Binding} {at middle after : At} {behind inside others : List Token} {test : CoreExpression} {yes no : CoreStatement}
          → Stands (codes "if") at.tokens behind → 0 < room → IsTest signatures scope behind test inside
          → IsStatement (room - 1) scope (begun at inside) yes middle → Stands (codes "else") middle.tokens others
          → IsStatement (room - 1) scope (moved middle others) no after
          → IsStatement room scope at (If (mark at) test yes (Some no)) after
      while : {room : ℕ} {scope : List Binding} {at after : At} {behind inside : List Token} {test : CoreExpression} {turn : CoreStatement}
          → Stands (codes "while") at.tokens behind → 0 < room → IsTest signatures scope behind test inside
          → IsStatement (room - 1) scope (begun at inside) turn after
          → IsStatement room scope at (While (mark at) test turn) after
      -- in a function that gives a value alone
      returned : {room : ℕ} {scope : List Binding} {at : At} {behind ending rest : List Token} {core : CoreExpression}
          → Stands (codes "return") at.tokens behind → IsTrue gives_value
          → IsExpression signatures scope parentheses behind core ending → Stands (codes ";") ending rest
          → IsStatement room scope at (Return (mark at) (Some core)) (begun at rest)
      assertion : {room : ℕ} {scope : List Binding} {at : At} {behind ending rest : List Token} {expected actual : CoreExpression}
          → Stands (codes "TEST_ASSERT_EQUAL_INT") at.tokens behind → IsTrue unity
          → IsPair signatures scope behind expected actual ending → Stands (codes ";") ending rest
          → IsStatement room scope at (Run (mark at) (assertion_core (mark at) expected actual)) (begun at rest)

    -- What stands in a block, with its closing brace: behind the scope around it come the declarations of the block itself
    -- so far. It gives the numbers of the variables that the block declares from here on, and its parts.
    pub data IsBody : ℕ → List Binding → List Binding → At → List ℕ → List CoreStatement → At → Type 0 where
      close : {room : ℕ} {scope own : List Binding} {at : At} {rest : List Token}
          → Stands (codes "}") at.tokens rest
          → IsBody room scope own at [] [] (moved at rest)
      -- the scope of a variable begins before its initialiser (C11 6.2.1p7)
      declaration : {room : ℕ} {scope own : List Binding} {at after : At} {name : Token} {behind middle ending rest : List Token}
          {start : Option CoreExpression} {numbers : List ℕ} {parts : List CoreStatement}
          → Stands (codes "int") at.tokens behind → StandsName behind name middle
          → is_declared own name.text ≡ false → length at.variables < most_variables
          → IsStart signatures (scope ++ own ++ binding at name ∷ []) middle start ending → Stands (codes ";") ending rest
          → IsBody room scope (own ++ binding at name ∷ []) (declared (begun at rest) name) numbers parts after
          → IsBody room scope own at (length at.variables ∷ numbers) (Declare (mark at) (length at.variables) int start ∷ parts) after
      statement : {room : ℕ} {scope own : List Binding} {at middle after : At} {first : CoreStatement} {numbers : List ℕ} {parts : List CoreStatement}
          → Absent (codes "}") at.tokens → Absent (codes "int") at.tokens
          → IsStatement room (scope ++ own) at first middle → IsBody room scope own middle numbers parts after
          → IsBody room scope own at numbers (first ∷ parts) after
