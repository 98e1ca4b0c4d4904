-- The equations of the meaning, one for each form, and how outcomes go on.
use Rattle.std.proofs.Common.{◌≡◌, ℕ, suc, ◌+◌, ◌-◌, ◌<◌, ◌≤◌, List, [], ◌∷◌, ◌++◌, map, drop, length, get_or, ℤ, sym, ap, subst, ◌∙◌, Option, Some, None, Result, Err, add-one, drop-cons, arith}
use Rattle.ct_meaning.specs.declared.state.State.{State}
use Rattle.ct_meaning.specs.declared.state.Stop.{Stop}
use Rattle.ct_meaning.specs.declared.state.Stop.TheVariants.{Aborted, OutOfMemory}
use Rattle.ct_core.specs.declared.trees.CoreExpression.{CoreExpression, out-CoreExpression, map-CoreExpression, fold_out-CoreExpression}
use Rattle.ct_core.specs.declared.trees.CoreStatement.{CoreStatement, out-CoreStatement, map-CoreStatement, fold_out-CoreStatement}
use Rattle.std.proofs.lemmas.List.{drop_all}
use Rattle.std.specs.Prelude.{if◌then◌else◌, option_map}
use Rattle.ct_base.specs.declared.operators.BinaryOp.{BinaryOp}
use Rattle.ct_ctype.specs.declared.kinds.IntKind.{IntKind}
use Rattle.ct_ctype.specs.declared.types.FunctionType.{FunctionType}
use Rattle.ct_core.specs.declared.objects.Scalar.{Scalar}
use Rattle.ct_core.specs.declared.values.Value.{Value}
use Rattle.ct_core.specs.declared.values.Value.TheVariants.{Int, Void}
use Rattle.ct_base.specs.declared.faults.FaultKind.TheVariants.{StepBudget}
use Rattle.ct_core.specs.declared.built_ins.BuiltIn.{BuiltIn}
use Rattle.ct_core.specs.declared.units.CoreFunction.{CoreFunction}
use Rattle.ct_core.specs.declared.trees.Mark.{Mark}
use Rattle.ct_core.specs.declared.trees.CoreExpression.TheOpen.{CoreExpression-F}
use Rattle.ct_core.specs.declared.trees.CoreStatement.TheOpen.{CoreStatement-F}
use Rattle.ct_core.specs.declared.trees.CoreExpression.TheVariants.{Constant, Variable, Text, Function, Load, Assign, Convert, Binary, Call, outs-Constant, outs-Variable, outs-Text, outs-Function, outs-Load, outs-Assign, outs-Convert, outs-Binary, outs-Call}
use Rattle.ct_core.specs.declared.trees.CoreStatement.TheVariants.{Run, Block, Declare, If, While, Return, outs-Run, outs-Block, outs-Declare, outs-If, outs-While, outs-Return}
use Rattle.ct_meaning.specs.declared.state.Ending.TheVariants.{Onward, Returned}
use Rattle.ct_meaning.specs.Rules.{failed, apply_binary, apply_conversion, variable, literal, designator, load, store, begun}
use Rattle.ct_meaning.specs.Doing.{Does, ValueAndState, onwards, ◌>>=◌, pure, each, each_onto}
use Rattle.ct_meaning.specs.World.{World, Where, Target, Defined, Given, target_of, variable_at}
use Rattle.ct_meaning.specs.Views.{Gives}
use Rattle.ct_meaning.specs.Meaning.{Calls, Evaluates, Executes, used_value, apply_call, within, in_turn, then_go, holds, turns, otherwise, declare, return_of, initialise_parameter, initialise_parameters, scalar_of_variable, defined_body, body_of, calls, expression, expression_step, statement, statement_step}

pub expression_out : (w : World) (call : Calls) (e : CoreExpression) → expression w call e ≡ expression_step w call (map-CoreExpression CoreExpression Evaluates (expression w call) (out-CoreExpression e))
unfolding expression
expression_out w call e = fold_out-CoreExpression Evaluates (expression_step w call) e

pub statement_out : (w : World) (n : ℕ) (call : Calls) (b : CoreStatement) → statement w n call b ≡ statement_step w n call (map-CoreStatement CoreStatement Executes (statement w n call) (out-CoreStatement b))
unfolding statement
statement_out w n call b = fold_out-CoreStatement Executes (statement_step w n call) b

-- ---- a number that is not 0

pub deeper : {X : Type 0} (f : ℕ → X) (n : ℕ) → 0 < n → f n ≡ f (suc (n - 1))
deeper f n some = let e : n ≡ suc (n - 1) = omega arith in ap f e

-- ---- an outcome that is known

-- an abort, or memory that runs out, is handed on
pub stops : {A B : Type 0} (o : ValueAndState A) (f : A → Does B) (e : Stop) (s : State) → Gives o (Err e) s → Gives (onwards o f) (Err e) s
stops o f Aborted s h = ap (λ p. onwards p f) h
stops o f OutOfMemory s h = tt

-- after a value the rest goes on
pub goes_on : {A B : Type 0} (o : ValueAndState A) (f : A → Does B) (a : A) (s : State) (r : Result B Stop) (s' : State) → o ≡ (Some a, s) → Gives (f a s) r s' → Gives (onwards o f) r s'
goes_on o f a s r s' e h = let P : ValueAndState _ → Type 0 = λ p. Gives p r s' in subst P (sym (ap (λ p. onwards p f) e)) h

-- the same, under an equation for the outcome
pub stops_by : {A B : Type 0} (o : ValueAndState B) (p : ValueAndState A) (f : A → Does B) (e : Stop) (s : State) → o ≡ onwards p f → Gives p (Err e) s → Gives o (Err e) s
stops_by o p f e s same h = let P : ValueAndState _ → Type 0 = λ q. Gives q (Err e) s in subst P (sym same) (stops p f e s h)

pub goes_by : {A B : Type 0} (o : ValueAndState B) (p : ValueAndState A) (f : A → Does B) (a : A) (s : State) (r : Result B Stop) (s' : State) → o ≡ onwards p f → p ≡ (Some a, s) → Gives (f a s) r s' → Gives o r s'
goes_by o p f a s r s' same e h = let P : ValueAndState _ → Type 0 = λ q. Gives q r s' in subst P (sym same) (goes_on p f a s r s' e h)

pub gives_by : {A : Type 0} (o p : ValueAndState A) (r : Result A Stop) (s : State) → o ≡ p → Gives p r s → Gives o r s
gives_by o p r s same h = let P : ValueAndState _ → Type 0 = λ q. Gives q r s in subst P (sym same) h

-- ---- expressions

pub expression_constant : (w : World) (call : Calls) (k : IntKind) (z : ℤ) (h : Where) (s : State) → expression w call (Constant k z) h s ≡ (Some (Int z), s)
expression_constant w call k z h s = ap (λ (e : Evaluates). e h s) (expression_out w call (Constant k z) ∙ ap (λ (l : CoreExpression-F CoreExpression). expression_step w call (map-CoreExpression CoreExpression Evaluates (expression w call) l)) (outs-Constant k z))

pub expression_variable : (w : World) (call : Calls) (place : ℕ) (h : Where) (s : State) → expression w call (Variable place) h s ≡ variable w h place s
expression_variable w call place h s = ap (λ (e : Evaluates). e h s) (expression_out w call (Variable place) ∙ ap (λ (l : CoreExpression-F CoreExpression). expression_step w call (map-CoreExpression CoreExpression Evaluates (expression w call) l)) (outs-Variable place))

pub expression_text : (w : World) (call : Calls) (text : ℕ) (h : Where) (s : State) → expression w call (Text text) h s ≡ literal w h text s
expression_text w call text h s = ap (λ (e : Evaluates). e h s) (expression_out w call (Text text) ∙ ap (λ (l : CoreExpression-F CoreExpression). expression_step w call (map-CoreExpression CoreExpression Evaluates (expression w call) l)) (outs-Text text))

pub expression_function : (w : World) (call : Calls) (name : List ℕ) (h : Where) (s : State) → expression w call (Function name) h s ≡ designator w h name s
expression_function w call name h s = ap (λ (e : Evaluates). e h s) (expression_out w call (Function name) ∙ ap (λ (l : CoreExpression-F CoreExpression). expression_step w call (map-CoreExpression CoreExpression Evaluates (expression w call) l)) (outs-Function name))

pub expression_load : (w : World) (call : Calls) (t : Scalar) (a : CoreExpression) (h : Where) (s : State) → expression w call (Load t a) h s ≡ onwards (expression w call a h s) (load w h t)
expression_load w call t a h s = ap (λ (e : Evaluates). e h s) (expression_out w call (Load t a) ∙ ap (λ (l : CoreExpression-F CoreExpression). expression_step w call (map-CoreExpression CoreExpression Evaluates (expression w call) l)) (outs-Load t a))

pub expression_assign : (w : World) (call : Calls) (t : Scalar) (a b : CoreExpression) (h : Where) (s : State) → expression w call (Assign t a b) h s ≡ onwards (expression w call a h s) (λ x. expression w call b h >>= store w h t x)
expression_assign w call t a b h s = ap (λ (e : Evaluates). e h s) (expression_out w call (Assign t a b) ∙ ap (λ (l : CoreExpression-F CoreExpression). expression_step w call (map-CoreExpression CoreExpression Evaluates (expression w call) l)) (outs-Assign t a b))

pub expression_convert : (w : World) (call : Calls) (k : IntKind) (a : CoreExpression) (h : Where) (s : State) → expression w call (Convert k a) h s ≡ onwards (expression w call a h s) (apply_conversion w h k)
expression_convert w call k a h s = ap (λ (e : Evaluates). e h s) (expression_out w call (Convert k a) ∙ ap (λ (l : CoreExpression-F CoreExpression). expression_step w call (map-CoreExpression CoreExpression Evaluates (expression w call) l)) (outs-Convert k a))

pub expression_binary : (w : World) (call : Calls) (op : BinaryOp) (k : IntKind) (a b : CoreExpression) (h : Where) (s : State) → expression w call (Binary op k a b) h s ≡ onwards (expression w call a h s) (λ x. expression w call b h >>= apply_binary w h op k x)
expression_binary w call op k a b h s = ap (λ (e : Evaluates). e h s) (expression_out w call (Binary op k a b) ∙ ap (λ (l : CoreExpression-F CoreExpression). expression_step w call (map-CoreExpression CoreExpression Evaluates (expression w call) l)) (outs-Binary op k a b))

pub expression_call : (w : World) (call : Calls) (type : FunctionType) (f : CoreExpression) (arguments : List CoreExpression) (h : Where) (s : State) → expression w call (Call type f arguments) h s ≡ onwards (expression w call f h s) (λ callee. each (map (used_value w h) (map (expression w call) arguments)) >>= apply_call w h call callee)
expression_call w call type f arguments h s = ap (λ (e : Evaluates). e h s) (expression_out w call (Call type f arguments) ∙ ap (λ (l : CoreExpression-F CoreExpression). expression_step w call (map-CoreExpression CoreExpression Evaluates (expression w call) l)) (outs-Call type f arguments))

-- ---- statements

pub statement_run : (w : World) (n : ℕ) (call : Calls) (mark : Mark) (e : CoreExpression) (h : Where) (s : State) → statement w n call (Run mark e) h s ≡ (onwards (expression w call e (begun w h mark) s) (λ _. pure Onward))
statement_run w n call mark e h s = ap (λ (p : Executes). p h s) (statement_out w n call (Run mark e) ∙ ap (λ (l : CoreStatement-F CoreStatement). statement_step w n call (map-CoreStatement CoreStatement Executes (statement w n call) l)) (outs-Run mark e))

pub statement_block : (w : World) (n : ℕ) (call : Calls) (mark : Mark) (places : List ℕ) (all : List CoreStatement) (h : Where) (s : State) → statement w n call (Block mark places all) h s ≡ (within w (begun w h mark) places (λ inner. in_turn inner (map (statement w n call) all)) s)
statement_block w n call mark places all h s = ap (λ (p : Executes). p h s) (statement_out w n call (Block mark places all) ∙ ap (λ (l : CoreStatement-F CoreStatement). statement_step w n call (map-CoreStatement CoreStatement Executes (statement w n call) l)) (outs-Block mark places all))

pub statement_declare : (w : World) (n : ℕ) (call : Calls) (mark : Mark) (place : ℕ) (t : Scalar) (e : Option CoreExpression) (h : Where) (s : State) → statement w n call (Declare mark place t e) h s ≡ (declare w (begun w h mark) place t (option_map (expression w call) e) s)
statement_declare w n call mark place t e h s = ap (λ (p : Executes). p h s) (statement_out w n call (Declare mark place t e) ∙ ap (λ (l : CoreStatement-F CoreStatement). statement_step w n call (map-CoreStatement CoreStatement Executes (statement w n call) l)) (outs-Declare mark place t e))

pub statement_if : (w : World) (n : ℕ) (call : Calls) (mark : Mark) (e : CoreExpression) (a : CoreStatement) (b : Option CoreStatement) (h : Where) (s : State) → statement w n call (If mark e a b) h s ≡ (onwards (holds w (begun w h mark) (expression w call e) s) (λ yes. if yes then statement w n call a (begun w h mark) else otherwise (begun w h mark) (option_map (statement w n call) b)))
statement_if w n call mark e a None h s = ap (λ (p : Executes). p h s) (statement_out w n call (If mark e a None) ∙ ap (λ (l : CoreStatement-F CoreStatement). statement_step w n call (map-CoreStatement CoreStatement Executes (statement w n call) l)) (outs-If mark e a None))
statement_if w n call mark e a (Some b) h s = ap (λ (p : Executes). p h s) (statement_out w n call (If mark e a (Some b)) ∙ ap (λ (l : CoreStatement-F CoreStatement). statement_step w n call (map-CoreStatement CoreStatement Executes (statement w n call) l)) (outs-If mark e a (Some b)))

pub statement_while : (w : World) (n : ℕ) (call : Calls) (mark : Mark) (e : CoreExpression) (body : CoreStatement) (h : Where) (s : State) → statement w n call (While mark e body) h s ≡ (turns w (begun w h mark) n (expression w call e) (statement w n call body) s)
statement_while w n call mark e body h s = ap (λ (p : Executes). p h s) (statement_out w n call (While mark e body) ∙ ap (λ (l : CoreStatement-F CoreStatement). statement_step w n call (map-CoreStatement CoreStatement Executes (statement w n call) l)) (outs-While mark e body))

pub statement_return : (w : World) (n : ℕ) (call : Calls) (mark : Mark) (e : Option CoreExpression) (h : Where) (s : State) → statement w n call (Return mark e) h s ≡ (return_of w (begun w h mark) (option_map (expression w call) e) s)
statement_return w n call mark e h s = ap (λ (p : Executes). p h s) (statement_out w n call (Return mark e) ∙ ap (λ (l : CoreStatement-F CoreStatement). statement_step w n call (map-CoreStatement CoreStatement Executes (statement w n call) l)) (outs-Return mark e))

-- ---- parts one after another, at an index

next_at : {A : Type 0} (xs : List A) (i : ℕ) (x : A) → i < length xs → x ≡ get_or xs i x → drop i xs ≡ x ∷ drop (i + 1) xs
next_at xs i x h e =
    let cut : drop i xs ≡ get_or xs i x ∷ drop (i + 1) xs = rw add-one (drop-cons xs i x h) in
    cut ∙ ap (λ y. y ∷ drop (i + 1) xs) (sym e)

pub arguments_at : (w : World) (h : Where) (part : CoreExpression → Evaluates) (all : List CoreExpression) (i : ℕ) (e : CoreExpression) (done : List Value) (s : State) → i < length all → e ≡ get_or all i e
    → each_onto done (map (used_value w h) (map part (drop i all))) s ≡ onwards (used_value w h (part e) s) (λ v. each_onto (done ++ v ∷ []) (map (used_value w h) (map part (drop (i + 1) all))))
arguments_at w h part all i e done s lt is = ap (λ (l : List CoreExpression). each_onto done (map (used_value w h) (map part l)) s) (next_at all i e lt is)

pub turn_at : (h : Where) (part : CoreStatement → Executes) (all : List CoreStatement) (i : ℕ) (b : CoreStatement) (s : State) → i < length all → b ≡ get_or all i b
    → in_turn h (map part (drop i all)) s ≡ onwards (part b h s) (λ flow. then_go flow (in_turn h (map part (drop (i + 1) all))))
turn_at h part all i b s lt is = ap (λ (l : List CoreStatement). in_turn h (map part l) s) (next_at all i b lt is)

pub parameters_at : (w : World) (h : Where) (values : List Value) (place i : ℕ) (v : Value) (s : State) → i < length values → v ≡ get_or values i v
    → initialise_parameters w h place (drop i values) s ≡ onwards (initialise_parameter w h place v (scalar_of_variable (variable_at w h place)) s) (λ _. initialise_parameters w h (place + 1) (drop (i + 1) values))
unfolding initialise_parameters
parameters_at w h values place i v s lt is =
    let next : suc place ≡ place + 1 = omega arith in
    ap (λ (l : List Value). initialise_parameters w h place l s) (next_at values i v lt is)
    ∙ ap (λ (n : ℕ). onwards (initialise_parameter w h place v (scalar_of_variable (variable_at w h place)) s) (λ _. initialise_parameters w h n (drop (i + 1) values))) next

pub parameters_end : (w : World) (h : Where) (values : List Value) (place i : ℕ) (s : State) → length values ≤ i → initialise_parameters w h place (drop i values) s ≡ (Some tt, s)
unfolding initialise_parameters
parameters_end w h values place i s past = ap (λ (l : List Value). initialise_parameters w h place l s) (drop_all i values past)

-- ---- statements with and without an expression

pub statement_declares : (w : World) (n : ℕ) (call : Calls) (mark : Mark) (place : ℕ) (t : Scalar) (e : CoreExpression) (h : Where) (s : State) → statement w n call (Declare mark place t (Some e)) h s ≡ declare w (begun w h mark) place t (Some (expression w call e)) s
statement_declares w n call mark place t e h s = statement_declare w n call mark place t (Some e) h s

pub statement_declares_nothing : (w : World) (n : ℕ) (call : Calls) (mark : Mark) (place : ℕ) (t : Scalar) (h : Where) (s : State) → statement w n call (Declare mark place t None) h s ≡ (Some Onward, s)
statement_declares_nothing w n call mark place t h s = statement_declare w n call mark place t None h s

pub statement_returns : (w : World) (n : ℕ) (call : Calls) (mark : Mark) (e : CoreExpression) (h : Where) (s : State) → statement w n call (Return mark (Some e)) h s ≡ return_of w (begun w h mark) (Some (expression w call e)) s
statement_returns w n call mark e h s = statement_return w n call mark (Some e) h s

pub statement_returns_nothing : (w : World) (n : ℕ) (call : Calls) (mark : Mark) (h : Where) (s : State) → statement w n call (Return mark None) h s ≡ (Some (Returned Void), s)
statement_returns_nothing w n call mark h s = statement_return w n call mark None h s

-- ---- calls

pub calls_zero : (w : World) (n number : ℕ) (values : List Value) (h : Where) (s : State) → n ≡ 0 → calls w n number values h s ≡ (None, failed w h StepBudget s)
unfolding calls
calls_zero w n number values h s none = ap (λ (k : ℕ). calls w k number values h s) none

calls_target : (w : World) (n number : ℕ) (values : List Value) (h : Where) (s : State) (t : Option Target) → 0 < n → target_of w number ≡ t → calls w n number values h s ≡ body_of w (n - 1) (calls w (n - 1)) t values h s
unfolding calls
calls_target w n number values h s t some is =
    deeper (λ (k : ℕ). calls w k number values h s) n some ∙ ap (λ (t : Option Target). body_of w (n - 1) (calls w (n - 1)) t values h s) is

pub calls_defined : (w : World) (n number unit place : ℕ) (f : CoreFunction) (values : List Value) (h : Where) (s : State) → 0 < n → target_of w number ≡ Some (Defined unit place f)
    → calls w n number values h s ≡ defined_body w (n - 1) (calls w (n - 1)) unit place f values h s
calls_defined w n number unit place f values h s some is = calls_target w n number values h s (Some (Defined unit place f)) some is

pub calls_given : (w : World) (n number : ℕ) (b : BuiltIn) (values : List Value) (h : Where) (s : State) → 0 < n → target_of w number ≡ Some (Given b) → calls w n number values h s ≡ (Some Onward, s)
calls_given w n number b values h s some is = calls_target w n number values h s (Some (Given b)) some is

pub calls_none : (w : World) (n number : ℕ) (values : List Value) (h : Where) (s : State) → 0 < n → target_of w number ≡ None → calls w n number values h s ≡ (Some Onward, s)
calls_none w n number values h s some is = calls_target w n number values h s None some is
