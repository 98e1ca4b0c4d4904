-- The expressions of conditions: which words an expression is spelled by (6.5.3 to 6.5.17, 6.6), and its value.
use Rattle.std.specs.Prelude.{◌≡◌, ℕ, ◌+◌, ◌≤◌, List, [], ◌∷◌}
use Rattle.ct_base.specs.declared.operators.BinaryOp.{BinaryOp}
use Rattle.ct_base.specs.declared.operators.BinaryOp.TheVariants as op
use Rattle.ct_base.specs.declared.operators.UnaryOp.{UnaryOp}
use Rattle.ct_base.specs.declared.operators.UnaryOp.TheVariants as prefix
use Rattle.ct_ppexpr.specs.declared.values.Value.{Value}
use Rattle.ct_ppexpr.specs.declared.words.Infix.{Infix}
use Rattle.ct_ppexpr.specs.declared.words.Infix.TheVariants.{Compute, Both, Either, Comma}
use Rattle.ct_ppexpr.specs.declared.words.Mark.{Mark}
use Rattle.ct_ppexpr.specs.declared.words.Mark.TheVariants as m
use Rattle.ct_ppexpr.specs.declared.words.Word.{Word}
use Rattle.ct_ppexpr.specs.declared.words.Word.TheVariants as w
use Rattle.ct_ppexpr.specs.Values.{infix_value, unary_value, choice_value}

pub data Tree : Type 0 where
  Constant : (value : Value) → Tree
  Paren : (inner : Tree) → Tree
  Prefix : (operator : UnaryOp) → (operand : Tree) → Tree
  Between : (operator : Infix) → (left : Tree) → (right : Tree) → Tree
  Choice : (test : Tree) → (one : Tree) → (other : Tree) → Tree

-- how tightly an operator binds its operands
abbrev pub binary_level : BinaryOp → ℕ
binary_level op.Or = 5
binary_level op.Xor = 6
binary_level op.And = 7
binary_level op.Equal = 8
binary_level op.NotEqual = 8
binary_level op.Less = 9
binary_level op.Greater = 9
binary_level op.LessEqual = 9
binary_level op.GreaterEqual = 9
binary_level op.ShiftLeft = 10
binary_level op.ShiftRight = 10
binary_level op.Add = 11
binary_level op.Subtract = 11
binary_level op.Multiply = 12
binary_level op.Divide = 12
binary_level op.Remainder = 12

abbrev pub infix_level : Infix → ℕ
infix_level Comma = 1
infix_level Either = 3
infix_level Both = 4
infix_level (Compute op) = binary_level op

-- the production that an expression is of: an expression with commas, a conditional expression, one of another operator,
-- a unary or a primary expression
abbrev pub tree_level : Tree → ℕ
tree_level (Choice test one other) = 2
tree_level (Between op left right) = infix_level op
tree_level (Prefix op operand) = 13
tree_level (Paren inner) = 14
tree_level (Constant value) = 14

abbrev pub prefix_mark : UnaryOp → Mark
prefix_mark prefix.Plus = m.Infix (Compute op.Add)
prefix_mark prefix.Minus = m.Infix (Compute op.Subtract)
prefix_mark prefix.Complement = m.Tilde
prefix_mark prefix.Not = m.Bang

-- the words of an expression, and then others
abbrev pub spell : Tree → List Word → List Word
spell (Constant value) rest = w.Constant value ∷ rest
spell (Paren inner) rest = w.Mark m.Open ∷ spell inner (w.Mark m.Close ∷ rest)
spell (Prefix op operand) rest = w.Mark (prefix_mark op) ∷ spell operand rest
spell (Between op left right) rest = spell left (w.Mark (m.Infix op) ∷ spell right rest)
spell (Choice test one other) rest = spell test (w.Mark m.Question ∷ spell one (w.Mark m.Colon ∷ spell other rest))

-- the grammar makes the expression: each part is of a production that may stand there
abbrev pub IsWellFormed : Tree → Type 0
IsWellFormed (Constant value) = Unit {0}
IsWellFormed (Paren inner) = IsWellFormed inner
IsWellFormed (Prefix op operand) = (13 ≤ tree_level operand) × IsWellFormed operand
IsWellFormed (Between op left right) =
    (infix_level op ≤ tree_level left) × (infix_level op + 1 ≤ tree_level right) × IsWellFormed left × IsWellFormed right
IsWellFormed (Choice test one other) =
    (3 ≤ tree_level test) × (2 ≤ tree_level other) × IsWellFormed test × IsWellFormed one × IsWellFormed other

-- The expression spells the words, all of them.
pub record SpellsCondition (tree : Tree) (words : List Word) : Type 0 where
  pub well_formed : IsWellFormed tree
  pub spelled : spell tree [] ≡ words

-- the value of an expression
abbrev pub value_of : Tree → Value
value_of (Constant value) = value
value_of (Paren inner) = value_of inner
value_of (Prefix op operand) = unary_value op (value_of operand)
value_of (Between op left right) = infix_value op (value_of left) (value_of right)
value_of (Choice test one other) = choice_value (value_of test) (value_of one) (value_of other)
