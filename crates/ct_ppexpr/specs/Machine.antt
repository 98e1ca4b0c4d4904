-- Expressions read word after word, with a stack of operators that wait for their last operand. What is built of the
-- operands is left open: it is trees, or values.
use Rattle.std.specs.Prelude.{ℕ, nat_lt, if◌then◌else◌, List, [], ◌∷◌, Option, Some, None}
use Rattle.ct_base.specs.declared.operators.BinaryOp.TheVariants as op
use Rattle.ct_base.specs.declared.operators.UnaryOp.{UnaryOp}
use Rattle.ct_base.specs.declared.operators.UnaryOp.TheVariants as prefix
use Rattle.ct_ppexpr.specs.declared.values.Value.{Value}
use Rattle.ct_ppexpr.specs.declared.words.Infix.{Infix}
use Rattle.ct_ppexpr.specs.declared.words.Infix.TheVariants.{Compute}
use Rattle.ct_ppexpr.specs.declared.words.Mark.{Mark}
use Rattle.ct_ppexpr.specs.declared.words.Mark.TheVariants as m
use Rattle.ct_ppexpr.specs.declared.words.Word.{Word}
use Rattle.ct_ppexpr.specs.declared.words.Word.TheVariants as w
use Rattle.ct_ppexpr.specs.Trees.{Tree, infix_level, value_of}
use Rattle.ct_ppexpr.specs.Trees as t
use Rattle.ct_ppexpr.specs.Values.{infix_value, unary_value, choice_value}

-- what is built
pub record Algebra (A : Type 0) : Type 0 where
  pub constant : Value → A
  pub paren : A → A
  pub prefixed : UnaryOp → A → A
  pub between : Infix → A → A → A
  pub choice : A → A → A → A

-- a production that waits for its last part
pub data Frame (A : Type 0) : Type 0 where
  InParen : Frame A
  InPrefix : (operator : UnaryOp) → Frame A
  InBetween : (operator : Infix) → (left : A) → Frame A
  InYes : (test : A) → Frame A
  InNo : (test : A) → (one : A) → Frame A

-- an operand comes next, or an operator or an end
pub data Mode (A : Type 0) : Type 0 where
  Want : Mode A
  Have : (operand : A) → Mode A

-- how far a mark behind an operand reaches back: it ends the frames that hold at least so tightly
abbrev pub pull : Mark → ℕ
pull (m.Infix op) = infix_level op
pull m.Question = 3
pull _ = 1

-- how tightly a frame holds the operand behind it: 0 where only its own mark ends it
abbrev pub holds : {A : Type 0} → Frame A → ℕ
holds (InPrefix op) = 13
holds (InBetween op left) = infix_level op
holds (InNo test one) = 2
holds _ = 0

abbrev pub prefix_of : Mark → Option UnaryOp
prefix_of (m.Infix (Compute op.Add)) = Some prefix.Plus
prefix_of (m.Infix (Compute op.Subtract)) = Some prefix.Minus
prefix_of m.Tilde = Some prefix.Complement
prefix_of m.Bang = Some prefix.Not
prefix_of _ = None

abbrev pub Stack : Type 0 → Type 0
Stack A = List (Frame A)

abbrev pub Step : Type 0 → Type 0
Step A = Option (Stack A × Mode A)

abbrev pub with_prefix : {A : Type 0} → Stack A → Option UnaryOp → Step A
with_prefix stack (Some op) = Some (InPrefix op ∷ stack, Want)
with_prefix stack None = None

module _ {A : Type 0} (build : Algebra A) where
  -- a frame that no mark of its own ends, with its last part
  abbrev pub plug : Frame A → A → A
  plug (InPrefix op) x = build.prefixed op x
  plug (InBetween op left) x = build.between op left x
  plug (InNo test one) x = build.choice test one x
  plug _ x = x

  -- ends the frames that hold at least so tightly
  abbrev pub reduced : ℕ → Stack A → A → Stack A × A
  reduced p [] x = ([], x)
  reduced p (f ∷ fs) x = if nat_lt (holds f) p then (f ∷ fs, x) else reduced p fs (plug f x)

  abbrev pub on_close : Stack A → A → Step A
  on_close (InParen ∷ stack) x = Some (stack, Have (build.paren x))
  on_close _ x = None

  abbrev pub on_colon : Stack A → A → Step A
  on_colon (InYes test ∷ stack) x = Some (InNo test x ∷ stack, Want)
  on_colon _ x = None

  -- a mark behind an operand, once what it ends is ended
  abbrev pub act : Mark → Stack A → A → Step A
  act (m.Infix op) stack x = Some (InBetween op x ∷ stack, Want)
  act m.Question stack x = Some (InYes x ∷ stack, Want)
  act m.Close stack x = on_close stack x
  act m.Colon stack x = on_colon stack x
  act _ stack x = None

  abbrev pub at : Mark → Stack A × A → Step A
  at k p = act k p.0 p.1

  abbrev pub after : Stack A → A → Word → Step A
  after stack x (w.Mark k) = at k (reduced (pull k) stack x)
  after stack x _ = None

  abbrev pub begin : Stack A → Word → Step A
  begin stack (w.Constant value) = Some (stack, Have (build.constant value))
  begin stack (w.Mark m.Open) = Some (InParen ∷ stack, Want)
  begin stack (w.Mark k) = with_prefix stack (prefix_of k)
  begin stack w.Stray = None

  abbrev pub step : Stack A → Mode A → Word → Step A
  step stack Want word = begin stack word
  step stack (Have x) word = after stack x word

  -- at the end every frame is ended, and none is left
  abbrev pub whole : Stack A × A → Option A
  whole ([], x) = Some x
  whole (f ∷ fs, x) = None

  abbrev pub finish : Stack A → Mode A → Option A
  finish stack (Have x) = whole (reduced 1 stack x)
  finish stack Want = None

  abbrev pub then_run : (Stack A → Mode A → Option A) → Step A → Option A
  then_run go None = None
  then_run go (Some (stack, mode)) = go stack mode

  abbrev pub run : List Word → Stack A → Mode A → Option A
  run [] stack mode = finish stack mode
  run (word ∷ words) stack mode = then_run (run words) (step stack mode word)

  abbrev pub run_all : List Word → Option A
  run_all words = run words [] Want

abbrev pub trees : Algebra Tree
trees = record { constant = t.Constant; paren = t.Paren; prefixed = t.Prefix; between = t.Between; choice = t.Choice }

abbrev pub values : Algebra Value
values = record { constant = λ x. x; paren = λ x. x; prefixed = unary_value; between = infix_value; choice = choice_value }
