-- Which functions each form of expression and statement names.
use Rattle.std.proofs.Common.{◌≡◌, ℕ, List, map, Bool, true, Option, Some, None, ℤ}
use Rattle.std.specs.Prelude.{◌&&◌, option_map}
use Rattle.std.specs.List.{list_all}
use Rattle.ct_base.specs.declared.operators.BinaryOp.{BinaryOp}
use Rattle.ct_ctype.specs.declared.kinds.IntKind.{IntKind}
use Rattle.ct_ctype.specs.declared.types.FunctionType.{FunctionType}
use Rattle.ct_core.specs.declared.objects.Scalar.{Scalar}
use Rattle.ct_core.specs.declared.trees.Mark.{Mark}
use Rattle.ct_core.specs.declared.trees.CoreExpression as expressions
use Rattle.ct_core.specs.declared.trees.CoreStatement as statements
use Rattle.ct_core.specs.declared.trees.CoreExpression.{CoreExpression, fold-roll-CoreExpression}
use Rattle.ct_core.specs.declared.trees.CoreExpression.TheOpen.{CoreExpression-F}
use Rattle.ct_core.specs.declared.trees.CoreExpression.TheVariants.{Constant, Variable, Text, Function, Load, Assign, Convert, Binary, Call}
use Rattle.ct_core.specs.declared.trees.CoreStatement.{CoreStatement, fold-roll-CoreStatement}
use Rattle.ct_core.specs.declared.trees.CoreStatement.TheOpen.{CoreStatement-F}
use Rattle.ct_core.specs.declared.trees.CoreStatement.TheVariants.{Run, Block, Declare, If, While, Return}
use Rattle.ct_meaning_laws.specs.Names.{expression_names_step, expression_names, all_of, statement_names_step, statement_names}

module _ (ok : List ℕ → Bool) where
  pub constant_names : (k : IntKind) (z : ℤ) → expression_names ok (Constant k z) ≡ true
  unfolding expression_names expressions.roll-CoreExpression denote.Hole.Carrier.roll
  constant_names k z = fold-roll-CoreExpression Bool (expression_names_step ok) (CoreExpression-F.Constant k z)

  pub variable_names : (place : ℕ) → expression_names ok (Variable place) ≡ true
  unfolding expression_names expressions.roll-CoreExpression denote.Hole.Carrier.roll
  variable_names place = fold-roll-CoreExpression Bool (expression_names_step ok) (CoreExpression-F.Variable place)

  pub text_names : (text : ℕ) → expression_names ok (Text text) ≡ true
  unfolding expression_names expressions.roll-CoreExpression denote.Hole.Carrier.roll
  text_names text = fold-roll-CoreExpression Bool (expression_names_step ok) (CoreExpression-F.Text text)

  pub function_names : (name : List ℕ) → expression_names ok (Function name) ≡ ok name
  unfolding expression_names expressions.roll-CoreExpression denote.Hole.Carrier.roll
  function_names name = fold-roll-CoreExpression Bool (expression_names_step ok) (CoreExpression-F.Function name)

  pub load_names : (t : Scalar) (a : CoreExpression) → expression_names ok (Load t a) ≡ expression_names ok a
  unfolding expression_names expressions.roll-CoreExpression denote.Hole.Carrier.roll
  load_names t a = fold-roll-CoreExpression Bool (expression_names_step ok) (CoreExpression-F.Load t a)

  pub assign_names : (t : Scalar) (a b : CoreExpression) → expression_names ok (Assign t a b) ≡ (expression_names ok a && expression_names ok b)
  unfolding expression_names expressions.roll-CoreExpression denote.Hole.Carrier.roll
  assign_names t a b = fold-roll-CoreExpression Bool (expression_names_step ok) (CoreExpression-F.Assign t a b)

  pub convert_names : (k : IntKind) (a : CoreExpression) → expression_names ok (Convert k a) ≡ expression_names ok a
  unfolding expression_names expressions.roll-CoreExpression denote.Hole.Carrier.roll
  convert_names k a = fold-roll-CoreExpression Bool (expression_names_step ok) (CoreExpression-F.Convert k a)

  pub binary_names : (op : BinaryOp) (k : IntKind) (a b : CoreExpression) → expression_names ok (Binary op k a b) ≡ (expression_names ok a && expression_names ok b)
  unfolding expression_names expressions.roll-CoreExpression denote.Hole.Carrier.roll
  binary_names op k a b = fold-roll-CoreExpression Bool (expression_names_step ok) (CoreExpression-F.Binary op k a b)

  pub call_names : (type : FunctionType) (f : CoreExpression) (arguments : List CoreExpression)
      → expression_names ok (Call type f arguments) ≡ (expression_names ok f && list_all (λ b. b) (map (expression_names ok) arguments))
  unfolding expression_names expressions.roll-CoreExpression denote.Hole.Carrier.roll
  call_names type f arguments = fold-roll-CoreExpression Bool (expression_names_step ok) (CoreExpression-F.Call type f arguments)

  pub run_names : (mark : Mark) (e : CoreExpression) → statement_names ok (Run mark e) ≡ expression_names ok e
  unfolding statement_names statements.roll-CoreStatement denote.Hole.Carrier.roll
  run_names mark e = fold-roll-CoreStatement Bool (statement_names_step ok) (CoreStatement-F.Run mark e)

  pub block_names : (mark : Mark) (places : List ℕ) (all : List CoreStatement) → statement_names ok (Block mark places all) ≡ list_all (λ b. b) (map (statement_names ok) all)
  unfolding statement_names statements.roll-CoreStatement denote.Hole.Carrier.roll
  block_names mark places all = fold-roll-CoreStatement Bool (statement_names_step ok) (CoreStatement-F.Block mark places all)

  pub declare_names : (mark : Mark) (place : ℕ) (t : Scalar) (e : Option CoreExpression) → statement_names ok (Declare mark place t e) ≡ all_of (option_map (expression_names ok) e)
  unfolding statement_names statements.roll-CoreStatement denote.Hole.Carrier.roll
  declare_names mark place t e = fold-roll-CoreStatement Bool (statement_names_step ok) (CoreStatement-F.Declare mark place t e)

  pub if_names : (mark : Mark) (e : CoreExpression) (a : CoreStatement) (b : Option CoreStatement)
      → statement_names ok (If mark e a b) ≡ (expression_names ok e && (statement_names ok a && all_of (option_map (statement_names ok) b)))
  unfolding statement_names statements.roll-CoreStatement denote.Hole.Carrier.roll
  if_names mark e a None = fold-roll-CoreStatement Bool (statement_names_step ok) (CoreStatement-F.If mark e a None)
  if_names mark e a (Some b) = fold-roll-CoreStatement Bool (statement_names_step ok) (CoreStatement-F.If mark e a (Some b))

  pub while_names : (mark : Mark) (e : CoreExpression) (body : CoreStatement) → statement_names ok (While mark e body) ≡ (expression_names ok e && statement_names ok body)
  unfolding statement_names statements.roll-CoreStatement denote.Hole.Carrier.roll
  while_names mark e body = fold-roll-CoreStatement Bool (statement_names_step ok) (CoreStatement-F.While mark e body)

  pub return_names : (mark : Mark) (e : Option CoreExpression) → statement_names ok (Return mark e) ≡ all_of (option_map (expression_names ok) e)
  unfolding statement_names statements.roll-CoreStatement denote.Hole.Carrier.roll
  return_names mark e = fold-roll-CoreStatement Bool (statement_names_step ok) (CoreStatement-F.Return mark e)
