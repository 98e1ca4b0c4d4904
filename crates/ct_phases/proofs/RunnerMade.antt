-- What the code of a runner and of a table makes.
use Rattle.std.proofs.Common.{◌≡◌, ℕ, zero, suc, ◌+◌, ◌<◌, List, [], ◌∷◌, ◌++◌, Bool, true, false, cond, Option, Result, Ok, Err, refl, sym, ap, ◌∙◌, arith, length, drop, map, get_or, append_assoc, append-nil}
use Rattle.std.specs.Prelude.{filter, IfOk, codes, not, if◌then◌else◌}
use Rattle.ct_base.specs.declared.memory.OutOfMemory.{OutOfMemory}
use Rattle.ct_ctype.specs.declared.types.StructLayout.{StructLayout}
use Rattle.ct_ctype.specs.declared.types.FunctionType.{FunctionType}
use Rattle.ct_core.specs.declared.trees.CoreExpression.{CoreExpression}
use Rattle.ct_core.specs.declared.trees.CoreStatement.{CoreStatement}
use Rattle.ct_core.specs.declared.values.Space.TheVariants.{Tool}
use Rattle.ct_core.specs.declared.units.CoreUnit.{CoreUnit}
use Rattle.ct_core.specs.declared.units.CoreFunction.{CoreFunction}
use Rattle.ct_core.specs.declared.units.Definition.{Definition}
use Rattle.ct_core.specs.declared.built_ins.BuiltIn.TheVariants.{AssertEqualInt, RunCall, RunEnd, RunPhase, RunTest}
use Rattle.ct_core.specs.BuiltIns.{Row}
use Rattle.ct_meaning.specs.Written.{is_test, defines}
use Rattle.ct_phases.specs.Runner.{call_statement, missing, main_function, runner_unit}
use Rattle.ct_phases.specs.Linked.{definition_of, definitions_from, unit_definitions, is_defined, built_in_definitions, tests_in, runner_of}

left_at : {X : Type 0} (xs : List X) (i : ℕ) (x : X) → i < length xs → x ≡ get_or xs i x → drop i xs ≡ x ∷ drop (i + 1) xs
left_at {X} [] i x h e = absurd (omega arith)
left_at {X} (y ∷ xs) zero x h e = ap (λ (z : X). z ∷ xs) (sym e)
left_at {X} (y ∷ xs) (suc i) x h e =
    let n : suc i + 1 ≡ suc (i + 1) = omega arith in
    let rest = left_at xs i x (omega arith) e in
    rest ∙ ap (λ (k : ℕ). x ∷ drop k (y ∷ xs)) (sym n)

tests_on : (f : CoreFunction) (fs : List CoreFunction) (b : Bool) → is_test f ≡ b → tests_in (f ∷ fs) ≡ cond b ((f.name, f.span.line) ∷ tests_in fs) (tests_in fs)
tests_on f fs true e = ap (λ (b : Bool). map (λ (f : CoreFunction). (f.name, f.span.line)) (cond b (f ∷ filter is_test fs) (filter is_test fs))) e
tests_on f fs false e = ap (λ (b : Bool). map (λ (f : CoreFunction). (f.name, f.span.line)) (cond b (f ∷ filter is_test fs) (filter is_test fs))) e

pub test_next : (fs : List CoreFunction) (i : ℕ) (f : CoreFunction) → i < length fs → f ≡ get_or fs i f → is_test f ≡ true → tests_in (drop i fs) ≡ (f.name, f.span.line) ∷ tests_in (drop (i + 1) fs)
test_next fs i f h e test = ap tests_in (left_at fs i f h e) ∙ tests_on f (drop (i + 1) fs) true test

pub no_test_next : (fs : List CoreFunction) (i : ℕ) (f : CoreFunction) → i < length fs → f ≡ get_or fs i f → is_test f ≡ false → tests_in (drop i fs) ≡ tests_in (drop (i + 1) fs)
no_test_next fs i f h e test = ap tests_in (left_at fs i f h e) ∙ tests_on f (drop (i + 1) fs) false test

pub definition_next : (unit : ℕ) (fs : List CoreFunction) (i : ℕ) (f : CoreFunction) → i < length fs → f ≡ get_or fs i f
    → definitions_from unit i (drop i fs) ≡ definition_of f unit i ∷ definitions_from unit (i + 1) (drop (i + 1) fs)
definition_next unit fs i f h e =
    let n : suc i ≡ i + 1 = omega arith in
    ap (definitions_from unit i) (left_at fs i f h e) ∙ ap (λ (k : ℕ). definition_of f unit i ∷ definitions_from unit k (drop (i + 1) fs)) n

pub unit_next : (us : List CoreUnit) (i : ℕ) (u : CoreUnit) → i < length us → u ≡ get_or us i u
    → unit_definitions i (drop i us) ≡ definitions_from i 0 u.functions ++ unit_definitions (i + 1) (drop (i + 1) us)
unit_next us i u h e =
    let n : suc i ≡ i + 1 = omega arith in
    ap (unit_definitions i) (left_at us i u h e) ∙ ap (λ (k : ℕ). definitions_from i 0 u.functions ++ unit_definitions k (drop (i + 1) us)) n

-- ---- what is built in

abbrev given : List CoreUnit → List ℕ → List Definition
given units name = if is_defined units name then [] else record { name = name; unit = length units; place = 0 } ∷ []

abbrev given_rows : List CoreUnit → List Row → List Definition
given_rows units rows = map (λ (row : Row). record { name = row.0; unit = length units; place = 0 }) (filter (λ (row : Row). not (is_defined units row.0)) rows)

given_next : (units : List CoreUnit) (row : Row) (rows : List Row) → given_rows units (row ∷ rows) ≡ given units row.0 ++ given_rows units rows
given_next units row rows = by (is_defined units row.0)
  where
    by : (b : Bool) → map (λ (row : Row). record { name = row.0; unit = length units; place = 0 }) (cond (not b) (row ∷ filter (λ (row : Row). not (is_defined units row.0)) rows) (filter (λ (row : Row). not (is_defined units row.0)) rows))
        ≡ (if b then [] else record { name = row.0; unit = length units; place = 0 } ∷ []) ++ given_rows units rows
    by true = refl
    by false = refl

given_put : (units : List CoreUnit) (a b : List Definition) (name : List ℕ) (row : Row) (rows : List Row) → name ≡ row.0 → b ≡ a ++ given units name
    → a ++ given_rows units (row ∷ rows) ≡ b ++ given_rows units rows
given_put units a b name row rows named put =
    ap (λ (l : List Definition). a ++ l) (given_next units row rows) ∙ sym (append_assoc a (given units row.0) (given_rows units rows))
    ∙ ap (λ (n : List ℕ). a ++ given units n ++ given_rows units rows) (sym named) ∙ ap (λ (l : List Definition). l ++ given_rows units rows) (sym put)

abbrev assertion : Row
assertion = (codes "ceedling_assert_TEST_ASSERT_EQUAL_INT", AssertEqualInt)

abbrev call : Row
call = (codes "ceedling_run_call", RunCall)

abbrev end : Row
end = (codes "ceedling_run_end", RunEnd)

abbrev phase : Row
phase = (codes "ceedling_run_phase", RunPhase)

abbrev test : Row
test = (codes "ceedling_run_test", RunTest)

pub given_all : (units : List CoreUnit) (a b c d e f : List Definition) (m n o p q : List ℕ)
    → m ≡ assertion.0 → n ≡ call.0 → o ≡ end.0 → p ≡ phase.0 → q ≡ test.0
    → b ≡ a ++ given units m → c ≡ b ++ given units n → d ≡ c ++ given units o → e ≡ d ++ given units p → f ≡ e ++ given units q
    → f ≡ a ++ built_in_definitions units
given_all units a b c d e f m n o p q first second third fourth fifth ab bc cd de ef =
    sym (append-nil f)
    ∙ sym (given_put units a b m assertion (call ∷ end ∷ phase ∷ test ∷ []) first ab ∙ given_put units b c n call (end ∷ phase ∷ test ∷ []) second bc
    ∙ given_put units c d o end (phase ∷ test ∷ []) third cd ∙ given_put units d e p phase (test ∷ []) fourth de ∙ given_put units e f q test [] fifth ef)

-- a statement of parts that are equal
pub same_call : (r : Result CoreStatement OutOfMemory) (kind k : FunctionType) (name n : List ℕ) (arguments a : List CoreExpression) → kind ≡ k → name ≡ n → arguments ≡ a
    → IfOk r (λ made. made ≡ call_statement kind name arguments) → IfOk r (λ made. made ≡ call_statement k n a)
same_call (Ok made) kind k name n arguments a ek en ea h =
    h ∙ ap (λ (kind : FunctionType). call_statement kind name arguments) ek ∙ ap (λ (name : List ℕ). call_statement k name arguments) en
    ∙ ap (λ (arguments : List CoreExpression). call_statement k n arguments) ea
same_call (Err e) kind k name n arguments a ek en ea h = tt

pub six : {X : Type 0} (a b c d e f g h i j k l : X) → a ≡ g → b ≡ h → c ≡ i → d ≡ j → e ≡ k → f ≡ l
    → a ∷ b ∷ c ∷ d ∷ e ∷ f ∷ [] ≡ g ∷ h ∷ i ∷ j ∷ k ∷ l ∷ []
six {X} a b c d e f g h i j k l ag bh ci dj ek fl =
    ap (λ (x : X). x ∷ b ∷ c ∷ d ∷ e ∷ f ∷ []) ag ∙ ap (λ (x : X). g ∷ x ∷ c ∷ d ∷ e ∷ f ∷ []) bh ∙ ap (λ (x : X). g ∷ h ∷ x ∷ d ∷ e ∷ f ∷ []) ci
    ∙ ap (λ (x : X). g ∷ h ∷ i ∷ x ∷ e ∷ f ∷ []) dj ∙ ap (λ (x : X). g ∷ h ∷ i ∷ j ∷ x ∷ f ∷ []) ek ∙ ap (λ (x : X). g ∷ h ∷ i ∷ j ∷ k ∷ x ∷ []) fl

pub one_pushed : {X : Type 0} (a b : List X) (x y : X) → a ≡ [] → b ≡ a ++ x ∷ [] → x ≡ y → b ≡ y ∷ []
one_pushed {X} a b x y none pushed e = pushed ∙ ap (λ (l : List X). l ++ x ∷ []) none ∙ ap (λ (z : X). z ∷ []) e

pub two_pushed : {X : Type 0} (a b c : List X) (x y z w : X) → a ≡ [] → b ≡ a ++ x ∷ [] → c ≡ b ++ y ∷ [] → x ≡ z → y ≡ w → c ≡ z ∷ w ∷ []
two_pushed {X} a b c x y z w none first second e f =
    second ∙ ap (λ (l : List X). l ++ y ∷ []) (one_pushed a b x z none first e) ∙ ap (λ (v : X). z ∷ v ∷ []) f

-- ---- the runner

pub put_together : {X : Type 0} (a b c d x y v w : List X) (z u : X) → a ≡ [] → b ≡ a ++ x → c ≡ b ++ y → d ≡ c ++ z ∷ [] → x ≡ v → y ≡ w → z ≡ u
    → d ≡ v ++ w ++ u ∷ []
put_together {X} a b c d x y v w z u none first second third xv yw zu =
    third ∙ ap (λ (l : List X). l ++ z ∷ []) second ∙ ap (λ (l : List X). l ++ y ++ z ∷ []) (first ∙ ap (λ (l : List X). l ++ x) none)
    ∙ ap (λ (l : List X). l ++ y ++ z ∷ []) xv ∙ ap (λ (l : List X). v ++ l ++ z ∷ []) yw ∙ ap (λ (t : X). v ++ w ++ t ∷ []) zu

abbrev own_functions : CoreUnit → List CoreFunction
own_functions unit =
    missing (defines (unit ∷ []) (codes "setUp")) (codes "setUp") ++ missing (defines (unit ∷ []) (codes "tearDown")) (codes "tearDown") ++ main_function (tests_in unit.functions) ∷ []

abbrev names_in : CoreUnit → List (List ℕ)
names_in unit = map (λ (test : List ℕ × ℕ). test.0) (tests_in unit.functions)

pub runner_made : (unit : CoreUnit) (path : List ℕ) (files : List (List ℕ)) (functions : List CoreFunction) (texts : List (List ℕ)) (structs : List (Option StructLayout))
    → files ≡ path ∷ []
    → functions ≡ own_functions unit
    → texts ≡ names_in unit
    → structs ≡ []
    → record { space = Tool; files = files; functions = functions; texts = texts; structs = structs } ≡ runner_of path (unit ∷ [])
unfolding runner_unit
runner_made unit path files functions texts structs fs ns ts none =
    ap (λ (files : List (List ℕ)). let made : CoreUnit = record { space = Tool; files = files; functions = functions; texts = texts; structs = structs } in made) fs
    ∙ ap (λ (functions : List CoreFunction). let made : CoreUnit = record { space = Tool; files = path ∷ []; functions = functions; texts = texts; structs = structs } in made) ns
    ∙ ap (λ (texts : List (List ℕ)). let made : CoreUnit = record { space = Tool; files = path ∷ []; functions = own_functions unit; texts = texts; structs = structs } in made) ts
    ∙ ap (λ (structs : List (Option StructLayout)). let made : CoreUnit = record { space = Tool; files = path ∷ []; functions = own_functions unit; texts = names_in unit; structs = structs } in made) none
