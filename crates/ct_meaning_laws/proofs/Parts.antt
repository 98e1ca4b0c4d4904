-- What goes on through `>>=` and holds of the rules, holds of each part of a program: an induction over trees, for two answers
-- of calls side by side. G says what is to hold of what a part does under the one answer and under the other.
use Rattle.std.proofs.Common.{ℕ, zero, suc, ◌+◌, List, [], ◌∷◌, ◌++◌, map, Bool, true, false, ℤ, Option, Some, None, Result, Ok, Err, sym, subst, length, nat_lt}
use Rattle.std.specs.Prelude.{if◌then◌else◌, option_map}
use Rattle.ct_base.specs.declared.faults.FaultKind.{FaultKind}
use Rattle.ct_base.specs.declared.faults.FaultKind.TheVariants.{StepBudget, CallDepth, BadCall, NullPointer, MissingReturn}
use Rattle.ct_core.specs.declared.values.Pointer.{Pointer}
use Rattle.ct_core.specs.declared.values.Value.{Value}
use Rattle.ct_core.specs.declared.values.Value.TheVariants.{Void, Int, Null, Object, Function, Struct}
use Rattle.ct_core.specs.declared.objects.Scalar.{Scalar}
use Rattle.ct_core.specs.declared.built_ins.BuiltIn.{BuiltIn}
use Rattle.ct_core.specs.declared.built_ins.BuiltIn.TheVariants.{AssertEqualInt, RunCall, RunEnd, RunPhase, RunTest}
use Rattle.ct_core.specs.declared.trees.Mark.{Mark}
use Rattle.ct_core.specs.declared.units.CoreFunction.{CoreFunction}
use Rattle.ct_core.specs.declared.trees.CoreExpression.{CoreExpression, roll-CoreExpression, map-CoreExpression, fold-roll-CoreExpression, ind-CoreExpression}
use Rattle.ct_core.specs.declared.trees.CoreExpression.TheOpen.{CoreExpression-F}
use Rattle.ct_core.specs.declared.trees.CoreStatement.{CoreStatement, roll-CoreStatement, map-CoreStatement, fold-roll-CoreStatement, ind-CoreStatement}
use Rattle.ct_core.specs.declared.trees.CoreStatement.TheOpen.{CoreStatement-F}
use Rattle.ct_core.specs.declared.values.Space.{Space}
use Rattle.ct_core.specs.declared.values.Space.TheVariants.{Project, Tool}
use Rattle.ct_meaning.specs.declared.state.Ending.{Ending}
use Rattle.ct_meaning.specs.declared.state.Ending.TheVariants.{Onward, Returned}
use Rattle.ct_meaning.specs.Doing.{Does, ◌>>=◌, ◌>>◌, pure, each_onto, finally}
use Rattle.ct_meaning.specs.World.{World, Where, Target, Row, Empty, Outside, Defined, Given, target_of, unit_space, variable_at}
use Rattle.ct_meaning.specs.Rules.{stop, given, used, truth_in, variable, literal, designator, load, store, initialise, begin_objects, end_objects, check_level, level_limit, take_step, begun, begun_in, argument, equal_check, failed_at, assert_equal_int, run_test, run_end, run_phase, run_call}
use Rattle.ct_meaning.specs.Meaning.{Calls, value_of, enter, call_target, call_value, procedure, handed_call, built_in, apply_call, Evaluates, used_value, expression_step, expression, Executes, then_go, in_turn, within, holds, turns, declare, return_of, statement_step, statement, places_from, scalar_of_variable, initialise_parameter, initialise_parameters, defined_body, row_body, body_of}

-- what each rule has, at the levels of L
pub record Holds (w : World) (L : ℕ → Type 0) (G : (A : Type 0) → Does A → Does A → Type 0) : Type 1 where
  pub value : (A : Type 0) (a : A) → G A (pure a) (pure a)
  pub bind : (A B : Type 0) (p q : Does A) (k l : A → Does B) → G A p q → ((a : A) → G B (k a) (l a)) → G B (p >>= k) (q >>= l)
  pub ends : (n : ℕ) (frame : List (ℕ × Pointer)) (p q : Does Ending) → G Ending p q
      → G Ending (finally p (end_objects n frame)) (finally q (end_objects n frame))
  pub stops : (A : Type 0) (h : Where) (fault : FaultKind) → G A (stop w h fault) (stop w h fault)
  pub loads : (h : Where) (t : Scalar) (a : Value) → G Value (load w h t a) (load w h t a)
  pub stores : (h : Where) (t : Scalar) (a x : Value) → G Value (store w h t a x) (store w h t a x)
  pub initialises : (h : Where) (place : ℕ) (t : Scalar) (x : Value) → G Value (initialise w h place t x) (initialise w h place t x)
  pub begins : (h : Where) (places : List ℕ) (frame : List (ℕ × Pointer)) → G (List (ℕ × Pointer)) (begin_objects w h places frame) (begin_objects w h places frame)
  pub steps : (h : Where) → G (Unit {0}) (take_step w h) (take_step w h)
  pub fails : (line : ℤ) (text : Option (List ℕ)) → G Value (failed_at line text) (failed_at line text)
  pub tests : (h : Where) → L h.level → (values : List Value) → G Value (run_test w h values) (run_test w h values)
  pub test_ends : (h : Where) → L h.level → G Value (run_end h) (run_end h)
  pub phases : (h : Where) → L h.level → G Value (run_phase h) (run_phase h)
  pub phase_calls : (h : Where) → L h.level → (p q : Does Value) → G Value p q → G Value (run_call h p) (run_call h q)

begun_level : (space : Space) (h : Where) (mark : Mark) (L : ℕ → Type 0) → L h.level → L (begun_in space h mark).level
begun_level Project h mark L l = l
begun_level Tool h mark L l = l

module _ (w : World) (L : ℕ → Type 0) (G : (A : Type 0) → Does A → Does A → Type 0) (rules : Holds w L G) where
  -- the answer of a rule
  given_holds : (A : Type 0) (h : Where) (r : Result A FaultKind) → G A (given w h r) (given w h r)
  unfolding given
  given_holds A h (Ok a) = rules.value A a
  given_holds A h (Err fault) = rules.stops A h fault

  if_holds : (A : Type 0) (b : Bool) (p p' q q' : Does A) → G A p q → G A p' q' → G A (if b then p else p') (if b then q else q')
  if_holds A true p p' q q' h k = h
  if_holds A false p p' q q' h k = k

  level_holds : (h : Where) → G (Unit {0}) (check_level w h) (check_level w h)
  unfolding check_level
  level_holds h = if_holds (Unit {0}) (nat_lt h.level level_limit) _ _ _ _ (rules.value (Unit {0}) tt) (rules.stops (Unit {0}) h CallDepth)

  -- a call, with what the function does one level deeper
  pub enter_holds : (f g : Calls) (h : Where) (number : ℕ) (values : List Value)
      → G Ending (f number values (record h { level = h.level + 1; frame = [] })) (g number values (record h { level = h.level + 1; frame = [] }))
      → G Value (enter w h f number values) (enter w h g number values)
  enter_holds f g h number values k =
      rules.bind (Unit {0}) Value _ _ _ _ (level_holds h) (λ _. rules.bind (Unit {0}) Value _ _ _ _ (rules.steps h) (λ _.
      rules.bind Ending Value _ _ _ _ k (λ flow. rules.value Value (value_of flow))))

  -- calls at the levels of L
  abbrev pub Enters : Calls → Calls → Type 0
  Enters f g = (h : Where) → L h.level → (number : ℕ) (values : List Value) → G Value (enter w h f number values) (enter w h g number values)

  module _ (f g : Calls) (enters : Enters f g) where
    -- ---- calls

    target_holds : (h : Where) → L h.level → (b c : BuiltIn → List Value → Does Value) → ((i : BuiltIn) (xs : List Value) → G Value (b i xs) (c i xs))
        → (number : ℕ) (xs : List Value) (t : Option Target) → G Value (call_target w h f b number xs t) (call_target w h g c number xs t)
    target_holds h l b c k number xs (Some (Outside row)) = enters h l number xs
    target_holds h l b c k number xs (Some (Defined unit place function)) = enters h l number xs
    target_holds h l b c k number xs (Some (Given i)) = k i xs
    target_holds h l b c k number xs None = rules.stops Value h BadCall

    value_holds : (h : Where) → L h.level → (b c : BuiltIn → List Value → Does Value) → ((i : BuiltIn) (xs : List Value) → G Value (b i xs) (c i xs))
        → (x : Value) (xs : List Value) → G Value (call_value w h f b x xs) (call_value w h g c x xs)
    value_holds h l b c k (Function number) xs = target_holds h l b c k number xs (target_of w number)
    value_holds h l b c k Null xs = rules.stops Value h NullPointer
    value_holds h l b c k (Object p) xs = rules.stops Value h BadCall
    value_holds h l b c k Void xs = rules.stops Value h MissingReturn
    value_holds h l b c k (Int z) xs = rules.stops Value h BadCall
    value_holds h l b c k (Struct cells) xs = rules.stops Value h BadCall

    procedure_holds : (h : Where) → L h.level → (i : BuiltIn) (xs : List Value) → G Value (procedure w h i xs) (procedure w h i xs)
    procedure_holds h l RunEnd xs = rules.test_ends h l
    procedure_holds h l RunPhase xs = rules.phases h l
    procedure_holds h l AssertEqualInt xs = rules.stops Value h BadCall
    procedure_holds h l RunTest xs = rules.stops Value h BadCall
    procedure_holds h l RunCall xs = rules.stops Value h BadCall

    handed_holds : (h : Where) → L h.level → (xs : List Value) → G Value (handed_call w h f xs) (handed_call w h g xs)
    handed_holds h l xs = rules.bind Value Value _ _ _ _ (given_holds Value h (argument 0 xs)) (λ x. value_holds h l _ _ (procedure_holds h l) x [])

    assert_holds : (h : Where) (xs : List Value) → G Value (assert_equal_int w h xs) (assert_equal_int w h xs)
    unfolding assert_equal_int
    assert_holds h xs = rules.bind _ Value _ _ _ _ (given_holds _ h (equal_check xs)) (λ check. rules.fails check.0 check.1)

    built_in_holds : (h : Where) → L h.level → (i : BuiltIn) (xs : List Value) → G Value (built_in w h f i xs) (built_in w h g i xs)
    built_in_holds h l AssertEqualInt xs = assert_holds h xs
    built_in_holds h l RunTest xs = rules.tests h l xs
    built_in_holds h l RunEnd xs = rules.test_ends h l
    built_in_holds h l RunPhase xs = rules.phases h l
    built_in_holds h l RunCall xs = rules.phase_calls h l _ _ (handed_holds h l xs)

    apply_holds : (h : Where) → L h.level → (x : Value) (xs : List Value) → G Value (apply_call w h f x xs) (apply_call w h g x xs)
    unfolding apply_call
    apply_holds h l x xs = value_holds h l _ _ (built_in_holds h l) x xs

    -- ---- expressions

    abbrev ExpressionHolds : CoreExpression → Type 0
    ExpressionHolds e = (h : Where) → L h.level → G Value (expression w f e h) (expression w g e h)

    used_holds : (h : Where) (p q : Evaluates) → G Value (p h) (q h) → G Value (used_value w h p) (used_value w h q)
    used_holds h p q k = rules.bind Value Value _ _ _ _ k (λ x. given_holds Value h (used x))

    each_holds : (h : Where) → L h.level → (all : List ((e : CoreExpression) × ExpressionHolds e)) (xs : List Value)
        → G (List Value) (each_onto xs (map (used_value w h) (map (expression w f) (map (λ e. e.0) all)))) (each_onto xs (map (used_value w h) (map (expression w g) (map (λ e. e.0) all))))
    each_holds h l [] xs = rules.value (List Value) xs
    each_holds h l (e ∷ all) xs =
        rules.bind Value (List Value) _ _ _ _ (used_holds h (expression w f e.0) (expression w g e.0) (e.1 h l)) (λ x. each_holds h l all (xs ++ x ∷ []))

    variable_holds : (h : Where) (place : ℕ) → G Value (variable w h place) (variable w h place)
    unfolding variable
    variable_holds h place = given_holds Value h _

    literal_holds : (h : Where) (text : ℕ) → G Value (literal w h text) (literal w h text)
    unfolding literal
    literal_holds h text = rules.value Value _

    designator_holds : (h : Where) (name : List ℕ) → G Value (designator w h name) (designator w h name)
    unfolding designator
    designator_holds h name = given_holds Value h _

    layer_holds : (y : CoreExpression-F ((e : CoreExpression) × ExpressionHolds e)) (h : Where) → L h.level
        → G Value
        (expression_step w f (map-CoreExpression CoreExpression Evaluates (expression w f) (map-CoreExpression ((e : CoreExpression) × ExpressionHolds e) CoreExpression (λ e. e.0) y)) h)
        (expression_step w g (map-CoreExpression CoreExpression Evaluates (expression w g) (map-CoreExpression ((e : CoreExpression) × ExpressionHolds e) CoreExpression (λ e. e.0) y)) h)
    layer_holds (CoreExpression-F.Constant i z) h l = rules.value Value (Int z)
    layer_holds (CoreExpression-F.Variable place) h l = variable_holds h place
    layer_holds (CoreExpression-F.Text text) h l = literal_holds h text
    layer_holds (CoreExpression-F.Function name) h l = designator_holds h name
    layer_holds (CoreExpression-F.Load t a) h l = rules.bind Value Value _ _ _ _ (a.1 h l) (λ x. rules.loads h t x)
    layer_holds (CoreExpression-F.Assign t a b) h l =
        rules.bind Value Value _ _ _ _ (a.1 h l) (λ x. rules.bind Value Value _ _ _ _ (b.1 h l) (λ y. rules.stores h t x y))
    layer_holds (CoreExpression-F.Convert i a) h l = rules.bind Value Value _ _ _ _ (a.1 h l) (λ x. given_holds Value h _)
    layer_holds (CoreExpression-F.Binary op i a b) h l =
        rules.bind Value Value _ _ _ _ (a.1 h l) (λ x. rules.bind Value Value _ _ _ _ (b.1 h l) (λ y. given_holds Value h _))
    layer_holds (CoreExpression-F.Call type callee arguments) h l =
        rules.bind Value Value _ _ _ _ (callee.1 h l) (λ x. rules.bind (List Value) Value _ _ _ _ (each_holds h l arguments []) (λ xs. apply_holds h l x xs))

    pub expression_holds : (e : CoreExpression) → ExpressionHolds e
    unfolding expression
    expression_holds = ind-CoreExpression ExpressionHolds (λ x y is h l.
        let P : CoreExpression-F CoreExpression → Type 0 = λ z. G Value (expression_step w f (map-CoreExpression CoreExpression Evaluates (expression w f) z) h) (expression_step w g (map-CoreExpression CoreExpression Evaluates (expression w g) z) h) in
        let Q : Evaluates → Type 0 = λ p. G Value (p h) (expression w g (roll-CoreExpression x) h) in
        let S : Evaluates → Type 0 = λ p. G Value (expression_step w f (map-CoreExpression CoreExpression Evaluates (expression w f) x) h) (p h) in
        subst Q (sym (fold-roll-CoreExpression Evaluates (expression_step w f) x)) (subst S (sym (fold-roll-CoreExpression Evaluates (expression_step w g) x)) (subst P is (layer_holds y h l))))

    -- ---- statements

    onward : G Ending (pure Onward) (pure Onward)
    onward = rules.value Ending Onward

    holds_holds : (h : Where) (p q : Evaluates) → G Value (p h) (q h) → G Bool (holds w h p) (holds w h q)
    holds_holds h p q k = rules.bind Value Bool _ _ _ _ k (λ x. given_holds Bool h (truth_in x))

    go_holds : (a : Ending) (p q : Does Ending) → G Ending p q → G Ending (then_go a p) (then_go a q)
    go_holds Onward p q k = k
    go_holds (Returned x) p q k = rules.value Ending (Returned x)

    turns_hold : (n : ℕ) (h : Where) (p q : Evaluates) (body body' : Executes) → G Value (p h) (q h) → G Ending (body h) (body' h)
        → G Ending (turns w h n p body) (turns w h n q body')
    turns_hold zero h p q body body' k j = rules.stops Ending h StepBudget
    turns_hold (suc n) h p q body body' k j =
        rules.bind Bool Ending _ _ _ _ (holds_holds h p q k) (λ yes. if_holds Ending yes _ _ _ _
        (rules.bind (Unit {0}) Ending _ _ _ _ (rules.steps h) (λ _. rules.bind Ending Ending _ _ _ _ j (λ flow. go_holds flow _ _ (turns_hold n h p q body body' k j))))
        onward)

    within_holds : (h : Where) → L h.level → (places : List ℕ) (p q : Executes) → ((h : Where) → L h.level → G Ending (p h) (q h))
        → G Ending (within w h places p) (within w h places q)
    within_holds h l places p q k =
        rules.bind (List (ℕ × Pointer)) Ending _ _ _ _ (rules.begins h places h.frame) (λ frame. rules.ends (length places) frame _ _ (k (record h { frame = frame }) l))

    -- a turn that has begun, and those after it
    pub turn_rest_holds : (n : ℕ) (h : Where) (p q : Evaluates) (body body' : Executes) → G Value (p h) (q h) → G Ending (body h) (body' h)
        → G Ending (body h >>= (λ flow. then_go flow (turns w h n p body))) (body' h >>= (λ flow. then_go flow (turns w h n q body')))
    turn_rest_holds n h p q body body' k j = rules.bind Ending Ending _ _ _ _ j (λ flow. go_holds flow _ _ (turns_hold n h p q body body' k j))

    module _ (n : ℕ) where
      abbrev StatementHolds : CoreStatement → Type 0
      StatementHolds b = (h : Where) → L h.level → G Ending (statement w n f b h) (statement w n g b h)

      turn_holds : (h : Where) → L h.level → (all : List ((b : CoreStatement) × StatementHolds b))
          → G Ending (in_turn h (map (statement w n f) (map (λ b. b.0) all))) (in_turn h (map (statement w n g) (map (λ b. b.0) all)))
      turn_holds h l [] = onward
      turn_holds h l (b ∷ all) = rules.bind Ending Ending _ _ _ _ (b.1 h l) (λ flow. go_holds flow _ _ (turn_holds h l all))

      declare_holds : (h : Where) → L h.level → (place : ℕ) (t : Scalar) (e : Option CoreExpression)
          → G Ending (declare w h place t (option_map (expression w f) e)) (declare w h place t (option_map (expression w g) e))
      declare_holds h l place t None = onward
      declare_holds h l place t (Some e) =
          rules.bind Value Ending _ _ _ _ (expression_holds e h l) (λ x. rules.bind Value Ending _ _ _ _ (rules.initialises h place t x) (λ _. onward))

      return_holds : (h : Where) → L h.level → (e : Option CoreExpression)
          → G Ending (return_of w h (option_map (expression w f) e)) (return_of w h (option_map (expression w g) e))
      return_holds h l None = rules.value Ending (Returned Void)
      return_holds h l (Some e) =
          rules.bind Value Ending _ _ _ _ (used_holds h (expression w f e) (expression w g e) (expression_holds e h l)) (λ x. rules.value Ending (Returned x))

      if_statement_holds : (h : Where) → L h.level → (e : CoreExpression) (p p' q q' : Does Ending) → G Ending p q → G Ending p' q'
          → G Ending (holds w h (expression w f e) >>= (λ yes. if yes then p else p')) (holds w h (expression w g e) >>= (λ yes. if yes then q else q'))
      if_statement_holds h l e p p' q q' k j =
          rules.bind Bool Ending _ _ _ _ (holds_holds h (expression w f e) (expression w g e) (expression_holds e h l)) (λ yes. if_holds Ending yes _ _ _ _ k j)

      at_begun : (h : Where) → L h.level → (mark : Mark) → L (begun w h mark).level
      at_begun h l mark = begun_level (unit_space w h.unit) h mark L l

      part_holds : (y : CoreStatement-F ((b : CoreStatement) × StatementHolds b)) (h : Where) → L h.level
          → G Ending
          (statement_step w n f (map-CoreStatement CoreStatement Executes (statement w n f) (map-CoreStatement ((b : CoreStatement) × StatementHolds b) CoreStatement (λ b. b.0) y)) h)
          (statement_step w n g (map-CoreStatement CoreStatement Executes (statement w n g) (map-CoreStatement ((b : CoreStatement) × StatementHolds b) CoreStatement (λ b. b.0) y)) h)
      part_holds (CoreStatement-F.Run mark e) h l = rules.bind Value Ending _ _ _ _ (expression_holds e _ (at_begun h l mark)) (λ _. onward)
      part_holds (CoreStatement-F.Block mark places all) h l =
          within_holds _ (at_begun h l mark) places
          (λ inner. in_turn inner (map (statement w n f) (map (λ (b : (b : CoreStatement) × StatementHolds b). b.0) all)))
          (λ inner. in_turn inner (map (statement w n g) (map (λ (b : (b : CoreStatement) × StatementHolds b). b.0) all)))
          (λ k j. turn_holds k j all)
      part_holds (CoreStatement-F.Declare mark place t e) h l = declare_holds _ (at_begun h l mark) place t e
      part_holds (CoreStatement-F.If mark e a (Some b)) h l =
          if_statement_holds _ (at_begun h l mark) e _ _ _ _ (a.1 _ (at_begun h l mark)) (b.1 _ (at_begun h l mark))
      part_holds (CoreStatement-F.If mark e a None) h l = if_statement_holds _ (at_begun h l mark) e _ _ _ _ (a.1 _ (at_begun h l mark)) onward
      part_holds (CoreStatement-F.While mark e body) h l =
          turns_hold n _ (expression w f e) (expression w g e) _ _ (expression_holds e _ (at_begun h l mark)) (body.1 _ (at_begun h l mark))
      part_holds (CoreStatement-F.Return mark e) h l = return_holds _ (at_begun h l mark) e

      pub statement_holds : (b : CoreStatement) → StatementHolds b
      unfolding statement
      statement_holds = ind-CoreStatement StatementHolds (λ x y is h l.
          let P : CoreStatement-F CoreStatement → Type 0 = λ z. G Ending (statement_step w n f (map-CoreStatement CoreStatement Executes (statement w n f) z) h) (statement_step w n g (map-CoreStatement CoreStatement Executes (statement w n g) z) h) in
          let Q : Executes → Type 0 = λ p. G Ending (p h) (statement w n g (roll-CoreStatement x) h) in
          let S : Executes → Type 0 = λ p. G Ending (statement_step w n f (map-CoreStatement CoreStatement Executes (statement w n f) x) h) (p h) in
          subst Q (sym (fold-roll-CoreStatement Executes (statement_step w n f) x)) (subst S (sym (fold-roll-CoreStatement Executes (statement_step w n g) x)) (subst P is (part_holds y h l))))

      -- ---- functions

      parameter_holds : (h : Where) (place : ℕ) (x : Value) (t : Option Scalar) → G Value (initialise_parameter w h place x t) (initialise_parameter w h place x t)
      parameter_holds h place x (Some t) = rules.initialises h place t x
      parameter_holds h place x None = rules.stops Value h BadCall

      parameters_hold : (h : Where) (place : ℕ) (xs : List Value) → G (Unit {0}) (initialise_parameters w h place xs) (initialise_parameters w h place xs)
      unfolding initialise_parameters
      parameters_hold h place [] = rules.value (Unit {0}) tt
      parameters_hold h place (x ∷ xs) =
          rules.bind Value (Unit {0}) _ _ _ _ (parameter_holds h place x (scalar_of_variable (variable_at w h place))) (λ _. parameters_hold h (suc place) xs)

      function_holds : (unit place : ℕ) (function : CoreFunction) (xs : List Value) (h : Where) → L h.level
          → G Ending (defined_body w n f unit place function xs h) (defined_body w n g unit place function xs h)
      function_holds unit place function xs h l =
          within_holds (record h { unit = unit; function = place; frame = [] }) l (places_from 0 function.parameters)
          (λ inner. initialise_parameters w inner 0 xs >> statement w n f function.body inner)
          (λ inner. initialise_parameters w inner 0 xs >> statement w n g function.body inner)
          (λ k j. rules.bind (Unit {0}) Ending _ _ _ _ (parameters_hold k 0 xs) (λ _. statement_holds function.body k j))

      row_holds : (h : Where) (row : Row) (xs : List Value) → G Ending (row_body w h row xs) (row_body w h row xs)
      row_holds h Empty [] = onward
      row_holds h Empty (x ∷ xs) = rules.stops Ending h BadCall

      pub body_holds : (t : Option Target) (xs : List Value) (h : Where) → L h.level → G Ending (body_of w n f t xs h) (body_of w n g t xs h)
      body_holds (Some (Defined unit place function)) xs h l = function_holds unit place function xs h l
      body_holds (Some (Outside row)) xs h l = row_holds h row xs
      body_holds (Some (Given i)) xs h l = onward
      body_holds None xs h l = onward
