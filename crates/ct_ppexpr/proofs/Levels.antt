-- How tightly operators, marks and frames bind.
use Rattle.std.proofs.Common.{ℕ, ◌+◌, ◌<◌, ◌≤◌, [], ◌∷◌, arith}
use Rattle.ct_base.specs.declared.operators.BinaryOp.{BinaryOp}
use Rattle.ct_base.specs.declared.operators.BinaryOp.TheVariants as op
use Rattle.ct_ppexpr.specs.declared.words.Infix.{Infix}
use Rattle.ct_ppexpr.specs.declared.words.Infix.TheVariants.{Compute, Both, Either, Comma}
use Rattle.ct_ppexpr.specs.declared.words.Mark.{Mark}
use Rattle.ct_ppexpr.specs.declared.words.Mark.TheVariants as m
use Rattle.ct_ppexpr.specs.Trees.{Tree, Constant, Paren, Prefix, Between, Choice, binary_level, infix_level, tree_level}
use Rattle.ct_ppexpr.specs.Machine.{Frame, InParen, InPrefix, InBetween, InYes, InNo, Stack, pull, holds}

binary_range : (o : BinaryOp) → (5 ≤ binary_level o) × (binary_level o ≤ 12)
binary_range op.Or = (omega arith, omega arith)
binary_range op.Xor = (omega arith, omega arith)
binary_range op.And = (omega arith, omega arith)
binary_range op.Equal = (omega arith, omega arith)
binary_range op.NotEqual = (omega arith, omega arith)
binary_range op.Less = (omega arith, omega arith)
binary_range op.Greater = (omega arith, omega arith)
binary_range op.LessEqual = (omega arith, omega arith)
binary_range op.GreaterEqual = (omega arith, omega arith)
binary_range op.ShiftLeft = (omega arith, omega arith)
binary_range op.ShiftRight = (omega arith, omega arith)
binary_range op.Add = (omega arith, omega arith)
binary_range op.Subtract = (omega arith, omega arith)
binary_range op.Multiply = (omega arith, omega arith)
binary_range op.Divide = (omega arith, omega arith)
binary_range op.Remainder = (omega arith, omega arith)

pub infix_range : (o : Infix) → (1 ≤ infix_level o) × (infix_level o ≤ 12)
infix_range Comma = (omega arith, omega arith)
infix_range Either = (omega arith, omega arith)
infix_range Both = (omega arith, omega arith)
infix_range (Compute o) = (omega (arith, binary_range o), omega (arith, binary_range o))

-- no operator binds as tightly as a conditional expression does
pub infix_apart : (o : Infix) → 2 ≤ infix_level o → 3 ≤ infix_level o
infix_apart Comma h = absurd (omega (arith, h))
infix_apart Either h = omega arith
infix_apart Both h = omega arith
infix_apart (Compute o) h = omega (arith, binary_range o)

infix_below : (o : Infix) → infix_level o < 3 → infix_level o ≤ 1
infix_below Comma h = omega arith
infix_below Either h = absurd (omega (arith, h))
infix_below Both h = absurd (omega (arith, h))
infix_below (Compute o) h = absurd (omega (arith, h, binary_range o))

pub level_positive : (t : Tree) → 1 ≤ tree_level t
level_positive (Constant v) = omega arith
level_positive (Paren x) = omega arith
level_positive (Prefix o x) = omega arith
level_positive (Between o l r) = omega (arith, infix_range o)
level_positive (Choice c y n) = omega arith

pub pull_range : (k : Mark) → (1 ≤ pull k) × (pull k ≤ 12)
pull_range m.Open = (omega arith, omega arith)
pull_range m.Close = (omega arith, omega arith)
pull_range m.Question = (omega arith, omega arith)
pull_range m.Colon = (omega arith, omega arith)
pull_range m.Tilde = (omega arith, omega arith)
pull_range m.Bang = (omega arith, omega arith)
pull_range (m.Infix o) = (omega (arith, infix_range o), omega (arith, infix_range o))

module _ {A : Type 0} where
  -- the production that the part of a frame is at least of
  abbrev pub needs : Frame A → ℕ
  needs (InPrefix o) = 13
  needs (InBetween o l) = infix_level o + 1
  needs (InNo c y) = 2
  needs _ = 1

  abbrev pub stack_needs : Stack A → ℕ
  stack_needs [] = 1
  stack_needs (f ∷ fs) = needs f

  abbrev pub stack_holds : Stack A → ℕ
  stack_holds [] = 0
  stack_holds (f ∷ fs) = holds f

  frame_loose : (f : Frame A) (p : ℕ) → needs f ≤ p → (2 ≤ p → 3 ≤ p) → 1 ≤ p → p ≤ 12 → holds f < p
  frame_loose InParen p n apart lo hi = omega arith
  frame_loose (InPrefix o) p n apart lo hi = absurd (omega arith)
  frame_loose (InBetween o l) p n apart lo hi = omega arith
  frame_loose (InYes c) p n apart lo hi = omega arith
  frame_loose (InNo c y) p n apart lo hi = apart n

  pub loose : (s : Stack A) (p : ℕ) → stack_needs s ≤ p → (2 ≤ p → 3 ≤ p) → 1 ≤ p → p ≤ 12 → stack_holds s < p
  loose [] p n apart lo hi = omega arith
  loose (f ∷ s) p n apart lo hi = frame_loose f p n apart lo hi

  frame_low : (f : Frame A) → needs f ≤ 2 → holds f < 3
  frame_low InParen n = omega arith
  frame_low (InPrefix o) n = absurd (omega arith)
  frame_low (InBetween o l) n = omega arith
  frame_low (InYes c) n = omega arith
  frame_low (InNo c y) n = omega arith

  pub low : (s : Stack A) → stack_needs s ≤ 2 → stack_holds s < 3
  low [] n = omega arith
  low (f ∷ s) n = frame_low f n

  frame_modest : (f : Frame A) → needs f ≤ 13
  frame_modest InParen = omega arith
  frame_modest (InPrefix o) = omega arith
  frame_modest (InBetween o l) = omega (arith, infix_range o)
  frame_modest (InYes c) = omega arith
  frame_modest (InNo c y) = omega arith

  pub modest : (s : Stack A) → stack_needs s ≤ 13
  modest [] = omega arith
  modest (f ∷ s) = frame_modest f

  frame_room : (f : Frame A) (p : ℕ) → holds f < p → 1 ≤ p → p ≤ 12 → needs f ≤ p
  frame_room InParen p h lo hi = omega arith
  frame_room (InPrefix o) p h lo hi = absurd (omega arith)
  frame_room (InBetween o l) p h lo hi = omega arith
  frame_room (InYes c) p h lo hi = omega arith
  frame_room (InNo c y) p h lo hi = omega arith

  pub room : (s : Stack A) (p : ℕ) → stack_holds s < p → 1 ≤ p → p ≤ 12 → stack_needs s ≤ p
  room [] p h lo hi = omega arith
  room (f ∷ s) p h lo hi = frame_room f p h lo hi

  frame_lowest : (f : Frame A) → holds f < 3 → needs f ≤ 2
  frame_lowest InParen h = omega arith
  frame_lowest (InPrefix o) h = absurd (omega arith)
  frame_lowest (InBetween o l) h = omega (arith, infix_below o h)
  frame_lowest (InYes c) h = omega arith
  frame_lowest (InNo c y) h = omega arith

  pub lowest : (s : Stack A) → stack_holds s < 3 → stack_needs s ≤ 2
  lowest [] h = omega arith
  lowest (f ∷ s) h = frame_lowest f h
