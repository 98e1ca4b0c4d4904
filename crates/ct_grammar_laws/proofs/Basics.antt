-- Levels, and what a word behind an operand ends.
use Rattle.std.proofs.Common.{◌≡◌, ℕ, ◌<◌, ◌≤◌, List, [], ◌∷◌, Option, Some, refl, ap, arith}
use Rattle.std.proofs.lemmas.Bool.{le-ltb, lt-ltb}
use Rattle.ct_base.specs.declared.operators.BinaryOp.TheVariants as b
use Rattle.ct_syntax.specs.declared.words.InfixOp.{InfixOp}
use Rattle.ct_syntax.specs.declared.words.InfixOp.TheVariants as i
use Rattle.ct_syntax.specs.declared.words.Mark.{Mark}
use Rattle.ct_syntax.specs.declared.words.Mark.TheVariants as m
use Rattle.ct_syntax.specs.Words.{Word, Literal, Sign}
use Rattle.ct_syntax.specs.Scopes.{Scope}
use Rattle.ct_syntax.specs.Grammar.{infix_level, expression_level}
use Rattle.ct_syntax.specs.Trees as t
use Rattle.ct_grammar_machine.specs.Algebra.{Tree, trees_built}
use Rattle.ct_grammar_machine.specs.Frames.{Frame, InCall, InPrefix, InUnary, InSizeof, InCast, InInfix, InElse, InAssign, InComma, InEnumerator, InArray, DeclInit, InItem, InPlace, InAssert, InCase}
use Rattle.ct_grammar_machine.specs.Frames.{Mode, Want, Have, Stack, State, mark_pull, pull, needs, stack_needs, holds}
use Rattle.ct_grammar_machine.specs.Steps.{plug, reduced, act, at, on_comma, then_run, run}

pub infix_range : (o : InfixOp) → (4 ≤ infix_level o) × (infix_level o ≤ 13)
infix_range i.LogicalOr = (omega arith, omega arith)
infix_range i.LogicalAnd = (omega arith, omega arith)
infix_range (i.Number b.Or) = (omega arith, omega arith)
infix_range (i.Number b.Xor) = (omega arith, omega arith)
infix_range (i.Number b.And) = (omega arith, omega arith)
infix_range (i.Number b.Equal) = (omega arith, omega arith)
infix_range (i.Number b.NotEqual) = (omega arith, omega arith)
infix_range (i.Number b.Less) = (omega arith, omega arith)
infix_range (i.Number b.Greater) = (omega arith, omega arith)
infix_range (i.Number b.LessEqual) = (omega arith, omega arith)
infix_range (i.Number b.GreaterEqual) = (omega arith, omega arith)
infix_range (i.Number b.ShiftLeft) = (omega arith, omega arith)
infix_range (i.Number b.ShiftRight) = (omega arith, omega arith)
infix_range (i.Number b.Add) = (omega arith, omega arith)
infix_range (i.Number b.Subtract) = (omega arith, omega arith)
infix_range (i.Number b.Multiply) = (omega arith, omega arith)
infix_range (i.Number b.Divide) = (omega arith, omega arith)
infix_range (i.Number b.Remainder) = (omega arith, omega arith)

pub level_range : (x : t.Expression) → (1 ≤ expression_level x) × (expression_level x ≤ 16)
level_range (t.Comma x y) = (omega arith, omega arith)
level_range (t.Assign o x y) = (omega arith, omega arith)
level_range (t.Conditional c x y) = (omega arith, omega arith)
level_range (t.Infix o x y) = let r = infix_range o in (omega (arith, r.0), omega (arith, r.1))
level_range (t.Cast ss d x) = (omega arith, omega arith)
level_range _ = (omega arith, omega arith)

-- How far the first word reaches back.
abbrev pub next_pull : List Word → ℕ
next_pull [] = 17
next_pull (w ∷ ws) = pull w

-- no word reaches to 14 or 15 alone
mark_reach : (k : Mark) → mark_pull k ≤ 15 → mark_pull k ≤ 13
mark_reach m.Open p = absurd (omega arith)
mark_reach m.OpenBracket p = absurd (omega arith)
mark_reach (m.Member o) p = absurd (omega arith)
mark_reach (m.Step o) p = absurd (omega arith)
mark_reach (m.Infix o) p = (infix_range o).1
mark_reach _ p = omega arith

pub unary_reach : (rest : List Word) → next_pull rest ≤ 15 → next_pull rest ≤ 13
unary_reach [] p = absurd (omega arith)
unary_reach (Sign k ∷ ws) p = mark_reach k p
unary_reach (Literal t ∷ ws) p = absurd (omega arith)
unary_reach (_ ∷ ws) p = omega arith

abbrev pub TreeStack : Type 0
TreeStack = Stack Tree

abbrev pub stack_holds : Stack Tree → ℕ
stack_holds [] = 0
stack_holds (f ∷ s) = holds f

reduced_more : (p : ℕ) (f : Frame Tree) (s : Stack Tree) (x : t.Expression) → p ≤ holds f → reduced trees_built p (f ∷ s) x ≡ reduced trees_built p s (plug trees_built f x)
reduced_more p f s x le = rw (le-ltb (holds f) p le) refl

pub kept : (p : ℕ) (s : Stack Tree) (x : t.Expression) → stack_holds s < p → reduced trees_built p s x ≡ (s, x)
kept p [] x lt = refl
kept p (f ∷ s) x lt = rw (lt-ltb (holds f) p lt) refl

frame_loose : (f : Frame Tree) (p : ℕ) → needs f ≤ p → 4 ≤ p → p ≤ 13 → holds f < p
frame_loose (InPrefix o) p n lo hi = absurd (omega arith)
frame_loose InSizeof p n lo hi = absurd (omega arith)
frame_loose (InUnary o) p n lo hi = absurd (omega arith)
frame_loose (InCast ss d) p n lo hi = absurd (omega arith)
frame_loose (InInfix o x) p n lo hi = omega arith
frame_loose _ p n lo hi = omega arith

pub loose : (s : Stack Tree) (p : ℕ) → stack_needs s ≤ p → 4 ≤ p → p ≤ 13 → stack_holds s < p
loose [] p n lo hi = omega arith
loose (f ∷ s) p n lo hi = frame_loose f p n lo hi

frame_low : (f : Frame Tree) → needs f ≤ 3 → holds f < 4
frame_low (InPrefix o) n = absurd (omega arith)
frame_low InSizeof n = absurd (omega arith)
frame_low (InUnary o) n = absurd (omega arith)
frame_low (InCast ss d) n = absurd (omega arith)
frame_low (InInfix o x) n = absurd (omega (arith, (infix_range o).0))
frame_low _ n = omega arith

pub low : (s : Stack Tree) → stack_needs s ≤ 3 → stack_holds s < 4
low [] n = omega arith
low (f ∷ s) n = frame_low f n

frame_bare : (f : Frame Tree) → needs f ≤ 1 → holds f < 1
frame_bare (InPrefix o) n = absurd (omega arith)
frame_bare InSizeof n = absurd (omega arith)
frame_bare (InUnary o) n = absurd (omega arith)
frame_bare (InCast ss d) n = absurd (omega arith)
frame_bare (InInfix o x) n = absurd (omega (arith, (infix_range o).0))
frame_bare (InElse c x) n = absurd (omega arith)
frame_bare (InAssign o x) n = absurd (omega arith)
frame_bare (InComma x) n = absurd (omega arith)
frame_bare _ n = omega arith

pub bare : (s : Stack Tree) → stack_needs s ≤ 1 → stack_holds s < 1
bare [] n = omega arith
bare (f ∷ s) n = frame_bare f n

frame_below : (f : Frame Tree) → holds f < 16
frame_below (InInfix o x) = omega (arith, (infix_range o).1)
frame_below _ = omega arith

pub below : (s : Stack Tree) → stack_holds s < 16
below [] = omega arith
below (f ∷ s) = frame_below f

abbrev pub R : List Word → Scope → Stack Tree → Mode Tree → Option (State Tree)
R ws scope s mode = run trees_built ws scope s mode

-- a frame that the next word ends
pub ended : (scope : Scope) (f : Frame Tree) (s : Stack Tree) (x : t.Expression) (rest : List Word) → next_pull rest ≤ holds f → R rest scope (f ∷ s) (Have x) ≡ R rest scope s (Have (plug trees_built f x))
ended scope f s x [] le = absurd (omega (arith, frame_below f))
ended scope f s x (Sign k ∷ ws) le = ap (λ pair. then_run trees_built (run trees_built ws) (at trees_built scope k pair)) (reduced_more (mark_pull k) f s x le)
ended scope f s x (_ ∷ ws) le = refl

-- a mark that ends nothing
pub acts : (scope : Scope) (k : Mark) (s : Stack Tree) (x : t.Expression) (rest : List Word) → stack_holds s < mark_pull k → R (Sign k ∷ rest) scope s (Have x) ≡ then_run trees_built (run trees_built rest) (act trees_built scope k s x)
acts scope k s x rest lt = ap (λ pair. then_run trees_built (run trees_built rest) (at trees_built scope k pair)) (kept (mark_pull k) s x lt)

pub comma_acts : (scope : Scope) (s : Stack Tree) (x : t.Expression) → stack_needs s ≤ 1 → on_comma trees_built scope s x ≡ Some (scope, InComma x ∷ s, Want)
comma_acts scope [] x n = refl
comma_acts scope (InPrefix o ∷ s) x n = absurd (omega arith)
comma_acts scope (InSizeof ∷ s) x n = absurd (omega arith)
comma_acts scope (InUnary o ∷ s) x n = absurd (omega arith)
comma_acts scope (InCast ss d ∷ s) x n = absurd (omega arith)
comma_acts scope (InInfix o y ∷ s) x n = absurd (omega (arith, (infix_range o).0))
comma_acts scope (InElse c y ∷ s) x n = absurd (omega arith)
comma_acts scope (InAssign o y ∷ s) x n = absurd (omega arith)
comma_acts scope (InComma y ∷ s) x n = absurd (omega arith)
comma_acts scope (InCall f xs ∷ s) x n = absurd (omega arith)
comma_acts scope (InArray k d ∷ s) x n = absurd (omega arith)
comma_acts scope (InEnumerator ss tag es u ∷ s) x n = absurd (omega arith)
comma_acts scope (DeclInit ss ds d ∷ s) x n = absurd (omega arith)
comma_acts scope (InItem is g ∷ s) x n = absurd (omega arith)
comma_acts scope (InPlace is ∷ s) x n = absurd (omega arith)
comma_acts scope (InAssert ∷ s) x n = absurd (omega arith)
comma_acts scope (InCase ∷ s) x n = absurd (omega arith)
comma_acts scope (_ ∷ s) x n = refl
