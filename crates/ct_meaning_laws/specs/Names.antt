-- The functions that a part of a program names.
use Rattle.std.specs.Prelude.{ℕ, Bool, true, ◌&&◌, List, Option, Some, None, option_map}
use Rattle.std.specs.List.{list_all}
use Rattle.ct_core.specs.declared.trees.CoreExpression.{CoreExpression, fold-CoreExpression}
use Rattle.ct_core.specs.declared.trees.CoreExpression.TheOpen.{CoreExpression-F}
use Rattle.ct_core.specs.declared.trees.CoreStatement.{CoreStatement, fold-CoreStatement}
use Rattle.ct_core.specs.declared.trees.CoreStatement.TheOpen.{CoreStatement-F}

abbrev pub expression_names_step : (List ℕ → Bool) → CoreExpression-F Bool → Bool
expression_names_step ok (CoreExpression-F.Constant k z) = true
expression_names_step ok (CoreExpression-F.Variable place) = true
expression_names_step ok (CoreExpression-F.Text text) = true
expression_names_step ok (CoreExpression-F.Function name) = ok name
expression_names_step ok (CoreExpression-F.Load t a) = a
expression_names_step ok (CoreExpression-F.Assign t a b) = a && b
expression_names_step ok (CoreExpression-F.Convert k a) = a
expression_names_step ok (CoreExpression-F.Binary op k a b) = a && b
expression_names_step ok (CoreExpression-F.Call type f arguments) = f && list_all (λ b. b) arguments

-- whether each function that an expression names has such a name
unfoldable pub expression_names : (List ℕ → Bool) → CoreExpression → Bool
expression_names ok = fold-CoreExpression Bool (expression_names_step ok)

abbrev pub all_of : Option Bool → Bool
all_of (Some b) = b
all_of None = true

abbrev pub statement_names_step : (List ℕ → Bool) → CoreStatement-F Bool → Bool
statement_names_step ok (CoreStatement-F.Run mark e) = expression_names ok e
statement_names_step ok (CoreStatement-F.Block mark places all) = list_all (λ b. b) all
statement_names_step ok (CoreStatement-F.Declare mark place t e) = all_of (option_map (expression_names ok) e)
statement_names_step ok (CoreStatement-F.If mark e a b) = expression_names ok e && (a && all_of b)
statement_names_step ok (CoreStatement-F.While mark e body) = expression_names ok e && body
statement_names_step ok (CoreStatement-F.Return mark e) = all_of (option_map (expression_names ok) e)

-- whether each function that a statement names has such a name
unfoldable pub statement_names : (List ℕ → Bool) → CoreStatement → Bool
statement_names ok = fold-CoreStatement Bool (statement_names_step ok)
