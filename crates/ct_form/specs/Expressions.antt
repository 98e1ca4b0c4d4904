-- Expressions: the words that spell one, and the core tree that it means (C11 6.5).
--
--   expr = sum ["<" sum]      sum = unit { ("+" | "-") unit }
--   unit = number | name | name "(" [args] ")" | "(" expr ")"      args = expr {"," expr}
use Rattle.std.specs.Prelude.{◌≡◌, ℕ, ◌-◌, ◌<◌, IsTrue, pos, List, [], ◌∷◌, length, Some, codes}
use Rattle.ct_base.specs.declared.lexical.Token.{Token}
use Rattle.ct_base.specs.declared.operators.BinaryOp.{BinaryOp}
use Rattle.ct_base.specs.declared.operators.BinaryOp.TheVariants.{Add, Subtract, Less}
use Rattle.ct_ctype.specs.declared.kinds.IntKind.TheVariants.{Int}
use Rattle.ct_core.specs.declared.objects.Scalar.{Scalar}
use Rattle.ct_core.specs.declared.objects.Scalar.TheVariants as scalar
use Rattle.ct_core.specs.declared.trees.CoreExpression.{CoreExpression}
use Rattle.ct_core.specs.declared.trees.CoreExpression.TheVariants.{Constant, Variable, Function, Load, Binary, Call}
use Rattle.ct_form.specs.declared.names.Binding.{Binding}
use Rattle.ct_form.specs.declared.names.Signature.{Signature}
use Rattle.ct_form.specs.Words.{Nothing, Stands, Absent, StandsName, StandsNumber}
use Rattle.ct_form.specs.Names.{variable_number, callee, type_of}

abbrev pub int : Scalar
int = scalar.Int Int

-- what the variable of this number holds
abbrev pub value_of : ℕ → CoreExpression
value_of number = Load int (Variable number)

-- the operator of a sum
pub data IsSign : List Token → BinaryOp → List Token → Type 0 where
  plus : {tokens rest : List Token} → Stands (codes "+") tokens rest → IsSign tokens Add rest
  minus : {tokens rest : List Token} → Stands (codes "-") tokens rest → IsSign tokens Subtract rest

-- In each relation the number is how many parentheses may still open at the place, then come the tokens, the core tree
-- that a front of them spells, and the tokens that are left.
module _ (signatures : List Signature) (scope : List Binding) where
  mutual
    pub data IsExpression : ℕ → List Token → CoreExpression → List Token → Type 0 where
      sum : {room : ℕ} {tokens rest : List Token} {core : CoreExpression}
          → IsSum room tokens core rest → Absent (codes "<") rest
          → IsExpression room tokens core rest
      less : {room : ℕ} {tokens middle behind rest : List Token} {left right : CoreExpression}
          → IsSum room tokens left middle → Stands (codes "<") middle behind → IsSum room behind right rest
          → IsExpression room tokens (Binary Less Int left right) rest

    pub data IsSum : ℕ → List Token → CoreExpression → List Token → Type 0 where
      units : {room : ℕ} {tokens middle rest : List Token} {first core : CoreExpression}
          → IsUnit room tokens first middle → IsSumOf room first middle core rest
          → IsSum room tokens core rest

    -- what goes on after the value so far; the operators group to the left
    pub data IsSumOf : ℕ → CoreExpression → List Token → CoreExpression → List Token → Type 0 where
      whole : {room : ℕ} {sofar : CoreExpression} {tokens : List Token}
          → Nothing (IsSign tokens)
          → IsSumOf room sofar tokens sofar tokens
      further : {room : ℕ} {op : BinaryOp} {sofar right core : CoreExpression} {tokens behind middle rest : List Token}
          → IsSign tokens op behind → IsUnit room behind right middle
          → IsSumOf room (Binary op Int sofar right) middle core rest
          → IsSumOf room sofar tokens core rest

    pub data IsUnit : ℕ → List Token → CoreExpression → List Token → Type 0 where
      number : {room value : ℕ} {tokens rest : List Token}
          → StandsNumber tokens value rest
          → IsUnit room tokens (Constant Int (pos value)) rest
      variable : {room place : ℕ} {tokens rest : List Token} {name : Token}
          → StandsName tokens name rest → Absent (codes "(") rest → variable_number scope name.text ≡ Some place
          → IsUnit room tokens (value_of place) rest
      -- a call in an expression gives a value
      call : {room : ℕ} {tokens rest : List Token} {signature : Signature} {core : CoreExpression}
          → IsCall room tokens signature core rest → IsTrue signature.gives_value
          → IsUnit room tokens core rest
      group : {room : ℕ} {tokens inside middle rest : List Token} {core : CoreExpression}
          → Stands (codes "(") tokens inside → 0 < room → IsExpression (room - 1) inside core middle
          → Stands (codes ")") middle rest
          → IsUnit room tokens core rest

    -- a call of a function of this signature, with one argument for each parameter
    pub data IsCall : ℕ → List Token → Signature → CoreExpression → List Token → Type 0 where
      named : {room : ℕ} {tokens behind inside rest : List Token} {name : Token} {signature : Signature} {arguments : List CoreExpression}
          → StandsName tokens name behind → Stands (codes "(") behind inside
          → callee signatures scope name.text ≡ Some signature → 0 < room
          → IsArguments (room - 1) inside arguments rest → length arguments ≡ signature.parameters
          → IsCall room tokens signature (Call (type_of signature) (Function name.text) arguments) rest

    -- the arguments of a call, with the closing parenthesis
    pub data IsArguments : ℕ → List Token → List CoreExpression → List Token → Type 0 where
      none : {room : ℕ} {tokens rest : List Token}
          → Stands (codes ")") tokens rest
          → IsArguments room tokens [] rest
      some : {room : ℕ} {tokens rest : List Token} {arguments : List CoreExpression}
          → Absent (codes ")") tokens → IsList room tokens arguments rest
          → IsArguments room tokens arguments rest

    -- one expression or more, with the closing parenthesis
    pub data IsList : ℕ → List Token → List CoreExpression → List Token → Type 0 where
      last : {room : ℕ} {tokens middle rest : List Token} {core : CoreExpression}
          → IsExpression room tokens core middle → Stands (codes ")") middle rest
          → IsList room tokens (core ∷ []) rest
      more : {room : ℕ} {tokens middle behind rest : List Token} {core : CoreExpression} {cores : List CoreExpression}
          → IsExpression room tokens core middle → Stands (codes ",") middle behind → IsList room behind cores rest
          → IsList room tokens (core ∷ cores) rest

  -- what stands behind an opening parenthesis, with the closing one
  pub record IsGroup (room : ℕ) (inside : List Token) (core : CoreExpression) (rest : List Token) : Type 0 where
    pub middle : List Token
    pub is_open : 0 < room
    pub value : IsExpression (room - 1) inside core middle
    pub closed : Stands (codes ")") middle rest

  -- a call that gives a value
  pub record IsValueOfCall (room : ℕ) (tokens : List Token) (core : CoreExpression) (rest : List Token) : Type 0 where
    pub signature : Signature
    pub is_call : IsCall room tokens signature core rest
    pub gives : IsTrue signature.gives_value
