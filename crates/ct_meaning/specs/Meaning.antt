-- The meaning of expressions, statements and calls.
use Rattle.std.specs.Prelude.{ℕ, zero, suc, ◌+◌, Bool, if◌then◌else◌, List, [], ◌∷◌, map, length, Option, Some, None, option_map}
use Rattle.ct_base.specs.declared.faults.FaultKind.TheVariants.{NullPointer, BadCall, MissingReturn, StepBudget}
use Rattle.ct_core.specs.declared.values.Value.{Value}
use Rattle.ct_core.specs.declared.values.Value.TheVariants.{Void, Int, Null, Object, Function, Struct}
use Rattle.ct_core.specs.declared.objects.Scalar.{Scalar}
use Rattle.ct_core.specs.declared.built_ins.BuiltIn.{BuiltIn}
use Rattle.ct_core.specs.declared.built_ins.BuiltIn.TheVariants.{AssertEqualInt, RunCall, RunEnd, RunPhase, RunTest}
use Rattle.ct_core.specs.declared.units.CoreFunction.{CoreFunction}
use Rattle.ct_core.specs.declared.units.Variable.{Variable}
use Rattle.ct_core.specs.declared.trees.CoreExpression.{CoreExpression, fold-CoreExpression}
use Rattle.ct_core.specs.declared.trees.CoreExpression.TheOpen.{CoreExpression-F}
use Rattle.ct_core.specs.declared.trees.CoreStatement.{CoreStatement, fold-CoreStatement}
use Rattle.ct_core.specs.declared.trees.CoreStatement.TheOpen.{CoreStatement-F}
use Rattle.ct_meaning.specs.declared.state.Ending.{Ending}
use Rattle.ct_meaning.specs.declared.state.Ending.TheVariants.{Onward, Returned}
use Rattle.ct_meaning.specs.Doing.{Does, ◌>>=◌, ◌>>◌, pure, each, finally}
use Rattle.ct_meaning.specs.World.{World, Where, Row, Empty, Target, Outside, Defined, Given, target_of, variable_at}
use Rattle.ct_meaning.specs.Rules.{stop, given, used, truth_in, apply_binary, apply_conversion, variable, literal, designator, load, store, initialise, begin_objects, end_objects, scalar_of, check_level, take_step, begun, argument, assert_equal_int, run_test, run_end, run_phase, run_call}

-- What the function of a number does with its arguments, at its level, once the call took its step.
abbrev pub Calls : Type 0
Calls = ℕ → List Value → Where → Does Ending

-- ---- calls (6.5.2.2)

-- the value of a call; a function that ended without one has none (6.9.1p12)
abbrev pub value_of : Ending → Value
value_of (Returned v) = v
value_of Onward = Void

-- a function that a unit defines, or that a row answers, takes a level and a step
abbrev pub enter : World → Where → Calls → ℕ → List Value → Does Value
enter w h call number values =
    check_level w h >> (take_step w h >> (call number values (record h { level = h.level + 1; frame = [] }) >>= (λ flow. pure (value_of flow))))

abbrev pub call_target : World → Where → Calls → (BuiltIn → List Value → Does Value) → ℕ → List Value → Option Target → Does Value
call_target w h call built_in number values (Some (Outside row)) = enter w h call number values
call_target w h call built_in number values (Some (Defined unit place f)) = enter w h call number values
call_target w h call built_in number values (Some (Given b)) = built_in b values
call_target w h call built_in number values None = stop w h BadCall

-- a call of a value, with what the built-in functions do
abbrev pub call_value : World → Where → Calls → (BuiltIn → List Value → Does Value) → Value → List Value → Does Value
call_value w h call built_in (Function number) values = call_target w h call built_in number values (target_of w number)
call_value w h call built_in Null values = stop w h NullPointer
call_value w h call built_in (Object p) values = stop w h BadCall
call_value w h call built_in Void values = stop w h MissingReturn
call_value w h call built_in (Int z) values = stop w h BadCall
call_value w h call built_in (Struct cells) values = stop w h BadCall

-- of the built-in functions these two have the type void (void)
abbrev pub procedure : World → Where → BuiltIn → List Value → Does Value
procedure w h RunEnd values = run_end h
procedure w h RunPhase values = run_phase h
procedure w h AssertEqualInt values = stop w h BadCall
procedure w h RunTest values = stop w h BadCall
procedure w h RunCall values = stop w h BadCall

-- `ceedling_run_call` calls the function that it is handed, without arguments
abbrev pub handed_call : World → Where → Calls → List Value → Does Value
handed_call w h call values = given w h (argument 0 values) >>= (λ callee. call_value w h call (procedure w h) callee [])

abbrev pub built_in : World → Where → Calls → BuiltIn → List Value → Does Value
built_in w h call AssertEqualInt values = assert_equal_int w h values
built_in w h call RunTest values = run_test w h values
built_in w h call RunEnd values = run_end h
built_in w h call RunPhase values = run_phase h
built_in w h call RunCall values = run_call h (handed_call w h call values)

unfoldable pub apply_call : World → Where → Calls → Value → List Value → Does Value
apply_call w h call callee values = call_value w h call (built_in w h call) callee values

-- ---- expressions (6.5): parts before the whole, from left to right

-- an expression in its place
abbrev pub Evaluates : Type 0
Evaluates = Where → Does Value

-- its value, which is used: as an argument, or by `return`
abbrev pub used_value : World → Where → Evaluates → Does Value
used_value w h e = e h >>= (λ v. given w h (used v))

abbrev pub expression_step : World → Calls → CoreExpression-F Evaluates → Evaluates
expression_step w call (CoreExpression-F.Constant k z) h = pure (Int z)
expression_step w call (CoreExpression-F.Variable place) h = variable w h place
expression_step w call (CoreExpression-F.Text text) h = literal w h text
expression_step w call (CoreExpression-F.Function name) h = designator w h name
expression_step w call (CoreExpression-F.Load t a) h = a h >>= load w h t
expression_step w call (CoreExpression-F.Assign t a b) h = a h >>= (λ x. b h >>= store w h t x)
expression_step w call (CoreExpression-F.Convert k a) h = a h >>= apply_conversion w h k
expression_step w call (CoreExpression-F.Binary op k a b) h = a h >>= (λ x. b h >>= apply_binary w h op k x)
expression_step w call (CoreExpression-F.Call type f arguments) h =
    f h >>= (λ callee. each (map (used_value w h) arguments) >>= apply_call w h call callee)

unfoldable pub expression : World → Calls → CoreExpression → Evaluates
expression w call = fold-CoreExpression Evaluates (expression_step w call)

-- ---- statements (6.8)

abbrev pub Executes : Type 0
Executes = Where → Does Ending

abbrev pub then_go : Ending → Does Ending → Does Ending
then_go Onward rest = rest
then_go (Returned v) rest = pure (Returned v)

abbrev pub in_turn : Where → List Executes → Does Ending
in_turn h [] = pure Onward
in_turn h (p ∷ ps) = p h >>= (λ flow. then_go flow (in_turn h ps))

-- The objects of variables exist while this is done, and end with it, also by an abort (6.2.4p6).
abbrev pub within : World → Where → List ℕ → Executes → Does Ending
within w h places p =
    begin_objects w h places h.frame >>= (λ frame. finally (p (record h { frame = frame })) (end_objects (length places) frame))

-- whether a controlling expression holds
abbrev pub holds : World → Where → Evaluates → Does Bool
holds w h e = e h >>= (λ v. given w h (truth_in v))

-- A loop: each turn takes a step (6.8.5). There are fewer turns than the number.
abbrev pub turns : World → Where → ℕ → Evaluates → Executes → Does Ending
turns w h zero test body = stop w h StepBudget
turns w h (suc n) test body =
    holds w h test >>= (λ yes.
    if yes then (take_step w h >> (body h >>= (λ flow. then_go flow (turns w h n test body)))) else pure Onward)

abbrev pub otherwise : Where → Option Executes → Does Ending
otherwise h (Some p) = p h
otherwise h None = pure Onward

-- A declaration without initialiser is to leave nothing in its object, each time that it is reached (6.2.4p6). It need not
-- store where nothing is there yet: where it stands itself among the statements of the block that has the variable, as the
-- only one of that variable, and each expression that names the variable stands behind it. Such are the trees of C without
-- `goto` (6.2.1p7): there it is reached once at most in the life of the object.
abbrev pub declare : World → Where → ℕ → Scalar → Option Evaluates → Does Ending
declare w h place t (Some e) = e h >>= (λ v. initialise w h place t v >> pure Onward)
declare w h place t None = pure Onward

abbrev pub return_of : World → Where → Option Evaluates → Does Ending
return_of w h (Some e) = used_value w h e >>= (λ v. pure (Returned v))
return_of w h None = pure (Returned Void)

-- each statement begins before its parts
abbrev pub statement_step : World → ℕ → Calls → CoreStatement-F Executes → Executes
statement_step w n call (CoreStatement-F.Run mark e) h = expression w call e (begun w h mark) >> pure Onward
statement_step w n call (CoreStatement-F.Block mark places all) h = within w (begun w h mark) places (λ inner. in_turn inner all)
statement_step w n call (CoreStatement-F.Declare mark place t e) h =
    declare w (begun w h mark) place t (option_map (expression w call) e)
statement_step w n call (CoreStatement-F.If mark e a b) h =
    holds w (begun w h mark) (expression w call e) >>= (λ yes. if yes then a (begun w h mark) else otherwise (begun w h mark) b)
statement_step w n call (CoreStatement-F.While mark e body) h = turns w (begun w h mark) n (expression w call e) body
statement_step w n call (CoreStatement-F.Return mark e) h = return_of w (begun w h mark) (option_map (expression w call) e)

unfoldable pub statement : World → ℕ → Calls → CoreStatement → Executes
statement w n call = fold-CoreStatement Executes (statement_step w n call)

-- ---- functions (6.9.1)

abbrev pub places_from : ℕ → ℕ → List ℕ
places_from start zero = []
places_from start (suc n) = start ∷ places_from (suc start) n

abbrev pub scalar_of_variable : Option Variable → Option Scalar
scalar_of_variable (Some v) = scalar_of v.kind
scalar_of_variable None = None

abbrev pub initialise_parameter : World → Where → ℕ → Value → Option Scalar → Does Value
initialise_parameter w h place v (Some t) = initialise w h place t v
initialise_parameter w h place v None = stop w h BadCall

-- each parameter has its argument (6.5.2.2p4)
unfoldable pub initialise_parameters : World → Where → ℕ → List Value → Does (Unit {0})
initialise_parameters w h place [] = pure tt
initialise_parameters w h place (v ∷ values) =
    initialise_parameter w h place v (scalar_of_variable (variable_at w h place)) >> initialise_parameters w h (suc place) values

abbrev pub defined_body : World → ℕ → Calls → ℕ → ℕ → CoreFunction → List Value → Where → Does Ending
defined_body w n call unit place f values h =
    within w (record h { unit = unit; function = place; frame = [] }) (places_from 0 f.parameters)
    (λ inner. initialise_parameters w inner 0 values >> statement w n call f.body inner)

-- an empty function of the type void (void); typed trees hand it no argument
abbrev pub row_body : World → Where → Row → List Value → Does Ending
row_body w h Empty [] = pure Onward
row_body w h Empty (v ∷ values) = stop w h BadCall

abbrev pub body_of : World → ℕ → Calls → Option Target → List Value → Where → Does Ending
body_of w n call (Some (Defined unit place f)) values h = defined_body w n call unit place f values h
body_of w n call (Some (Outside row)) values h = row_body w h row values
body_of w n call (Some (Given b)) values h = pure Onward
body_of w n call None values h = pure Onward

-- what functions do whose calls and turns nest less deeply than the number
unfoldable pub calls : World → ℕ → Calls
calls w zero number values h = stop w h StepBudget
calls w (suc n) number values h = body_of w n (calls w n) (target_of w number) values h
