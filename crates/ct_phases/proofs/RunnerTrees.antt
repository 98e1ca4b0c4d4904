-- What the few forms of the runner's trees do.
use Rattle.std.proofs.Common.{◌≡◌, ℕ, List, [], ◌∷◌, map, Option, Some, None, ℤ, refl, ap, ◌∙◌}
use Rattle.ct_base.specs.declared.faults.FaultKind.TheVariants.{BadCall}
use Rattle.ct_ctype.specs.declared.kinds.IntKind.{IntKind}
use Rattle.ct_ctype.specs.declared.types.FunctionType.{FunctionType}
use Rattle.ct_core.specs.declared.values.Pointer.{Pointer}
use Rattle.ct_core.specs.declared.values.Value.{Value}
use Rattle.ct_core.specs.declared.values.Value.TheVariants.{Int}
use Rattle.ct_core.specs.declared.trees.Mark.{Mark}
use Rattle.ct_core.specs.declared.trees.CoreExpression as expressions
use Rattle.ct_core.specs.declared.trees.CoreStatement as statements
use Rattle.ct_core.specs.declared.trees.CoreExpression.{CoreExpression, fold-roll-CoreExpression}
use Rattle.ct_core.specs.declared.trees.CoreExpression.TheOpen.{CoreExpression-F}
use Rattle.ct_core.specs.declared.trees.CoreExpression.TheVariants.{Constant, Text, Function, Call}
use Rattle.ct_core.specs.declared.trees.CoreStatement.{CoreStatement, fold-roll-CoreStatement}
use Rattle.ct_core.specs.declared.trees.CoreStatement.TheOpen.{CoreStatement-F}
use Rattle.ct_core.specs.declared.trees.CoreStatement.TheVariants.{Run, Block, Return}
use Rattle.ct_core.specs.declared.units.CoreFunction.{CoreFunction}
use Rattle.ct_core.specs.declared.units.Variable.{Variable}
use Rattle.ct_meaning.specs.declared.state.State.{State}
use Rattle.ct_meaning.specs.declared.state.Ending.{Ending}
use Rattle.ct_meaning.specs.declared.state.Ending.TheVariants.{Onward, Returned}
use Rattle.ct_meaning.specs.Doing.{Does, ◌>>=◌, ◌>>◌, pure, each}
use Rattle.ct_meaning.specs.World.{World, Where, function_at, variable_at, variable_of}
use Rattle.ct_meaning.specs.Rules.{failed, literal, designator, begun, begin_objects, end_objects}
use Rattle.ct_meaning.specs.Meaning.{Calls, Evaluates, Executes, apply_call, used_value, expression_step, expression, statement_step, statement, in_turn, within, scalar_of_variable, initialise_parameter, initialise_parameters, defined_body}
use Rattle.ct_phases.specs.Runner.{unmarked, empty_function}

module _ (w : World) (call : Calls) where
  -- ---- expressions

  pub call_means : (type : FunctionType) (f : CoreExpression) (arguments : List CoreExpression) (h : Where)
      → expression w call (Call type f arguments) h
      ≡ (expression w call f h >>= (λ callee. each (map (used_value w h) (map (expression w call) arguments)) >>= apply_call w h call callee))
  unfolding expression expressions.roll-CoreExpression denote.Hole.Carrier.roll
  call_means type f arguments h =
      ap (λ (p : Evaluates). p h) (fold-roll-CoreExpression Evaluates (expression_step w call) (CoreExpression-F.Call type f arguments))

  pub function_means : (name : List ℕ) (h : Where) → expression w call (Function name) h ≡ designator w h name
  unfolding expression expressions.roll-CoreExpression denote.Hole.Carrier.roll
  function_means name h = ap (λ (p : Evaluates). p h) (fold-roll-CoreExpression Evaluates (expression_step w call) (CoreExpression-F.Function name))

  pub text_means : (text : ℕ) (h : Where) → expression w call (Text text) h ≡ literal w h text
  unfolding expression expressions.roll-CoreExpression denote.Hole.Carrier.roll
  text_means text h = ap (λ (p : Evaluates). p h) (fold-roll-CoreExpression Evaluates (expression_step w call) (CoreExpression-F.Text text))

  pub constant_means : (k : IntKind) (z : ℤ) (h : Where) → expression w call (Constant k z) h ≡ pure (Int z)
  unfolding expression expressions.roll-CoreExpression denote.Hole.Carrier.roll
  constant_means k z h = ap (λ (p : Evaluates). p h) (fold-roll-CoreExpression Evaluates (expression_step w call) (CoreExpression-F.Constant k z))

  -- ---- statements

  module _ (n : ℕ) where
    pub run_means : (mark : Mark) (e : CoreExpression) (h : Where) → statement w n call (Run mark e) h ≡ (expression w call e (begun w h mark) >> pure Onward)
    unfolding statement statements.roll-CoreStatement denote.Hole.Carrier.roll
    run_means mark e h = ap (λ (p : Executes). p h) (fold-roll-CoreStatement Executes (statement_step w n call) (CoreStatement-F.Run mark e))

    pub block_means : (mark : Mark) (places : List ℕ) (all : List CoreStatement) (h : Where)
        → statement w n call (Block mark places all) h ≡ within w (begun w h mark) places (λ inner. in_turn inner (map (statement w n call) all))
    unfolding statement statements.roll-CoreStatement denote.Hole.Carrier.roll
    block_means mark places all h = ap (λ (p : Executes). p h) (fold-roll-CoreStatement Executes (statement_step w n call) (CoreStatement-F.Block mark places all))

    pub return_means : (mark : Mark) (e : CoreExpression) (h : Where)
        → statement w n call (Return mark (Some e)) h ≡ (used_value w (begun w h mark) (expression w call e) >>= (λ v. pure (Returned v)))
    unfolding statement statements.roll-CoreStatement denote.Hole.Carrier.roll
    return_means mark e h = ap (λ (p : Executes). p h) (fold-roll-CoreStatement Executes (statement_step w n call) (CoreStatement-F.Return mark (Some e)))

end_nothing : (frame : List (ℕ × Pointer)) (s : State) → end_objects 0 frame s ≡ s
unfolding end_objects
end_nothing frame s = refl

-- what has no objects
pub within_nothing : (w : World) (h : Where) (p : Executes) (s : State) → within w h [] p s ≡ p h s
unfolding begin_objects
within_nothing w h p s = ap (λ (t : State). ((p h s).0, t)) (end_nothing h.frame (p h s).1)

-- ---- an empty function

module _ (w : World) (n : ℕ) (call : Calls) (unit place : ℕ) (name : List ℕ) (is : function_at w unit place ≡ Some (empty_function name)) (h : Where) where
  abbrev at : Where
  at = record h { unit = unit; function = place; frame = [] }

  abbrev body : Executes
  body = statement w n call (Block unmarked [] [])

  empty_block : (s : State) → body at s ≡ (Some Onward, s)
  empty_block s =
      ap (λ (p : Does Ending). p s) (block_means w call n unmarked [] [] at)
      ∙ within_nothing w (begun w at unmarked) (λ inner. pure Onward) s

  -- it takes no argument
  pub empty_body : (s : State) → defined_body w n call unit place (empty_function name) [] h s ≡ (Some Onward, s)
  unfolding initialise_parameters
  empty_body s = within_nothing w at (λ inner. initialise_parameters w inner 0 [] >> statement w n call (Block unmarked [] []) inner) s ∙ empty_block s

  no_variable : variable_at w at 0 ≡ None
  no_variable = ap (λ (f : Option CoreFunction). variable_of f 0) is

  pub empty_stops : (v : Value) (values : List Value) (s : State) → defined_body w n call unit place (empty_function name) (v ∷ values) h s ≡ (None, failed w h BadCall s)
  unfolding initialise_parameters failed
  empty_stops v values s =
      within_nothing w at (λ inner. initialise_parameters w inner 0 (v ∷ values) >> statement w n call (Block unmarked [] []) inner) s
      ∙ ap (λ (o : Option Variable). ((initialise_parameter w at 0 v (scalar_of_variable o) >> initialise_parameters w at 1 values) >> body at) s) no_variable
