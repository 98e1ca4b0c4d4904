-- Two runs that stay related. Where each rule keeps two states and two values related, so does each part of a program: an
-- induction over trees, and over the numbers of nested calls and turns. R m says that two states are related, and that fewer
-- than m calls and turns are left.
use Rattle.std.proofs.Common.{◌≡◌, ℕ, zero, suc, ◌+◌, ◌<◌, ◌≤◌, List, [], ◌∷◌, ◌++◌, map, Bool, true, false, Option, Some, None, refl, sym, ap, subst, ◌∙◌, arith, length}
use Rattle.std.specs.Prelude.{if◌then◌else◌, option_map}
use Rattle.std.specs.List.{list_all}
use Rattle.ct_base.specs.declared.faults.FaultKind.{FaultKind}
use Rattle.ct_base.specs.declared.operators.BinaryOp.{BinaryOp}
use Rattle.ct_ctype.specs.declared.kinds.IntKind.{IntKind}
use Rattle.ct_core.specs.declared.values.Pointer.{Pointer}
use Rattle.ct_core.specs.declared.values.Value.{Value}
use Rattle.ct_core.specs.declared.values.Value.TheVariants.{Void, Int, Object, Function}
use Rattle.ct_core.specs.declared.objects.Scalar.{Scalar}
use Rattle.ct_core.specs.declared.trees.Mark.{Mark}
use Rattle.ct_core.specs.declared.units.CoreFunction.{CoreFunction}
use Rattle.ct_core.specs.declared.trees.CoreExpression.{CoreExpression, roll-CoreExpression, map-CoreExpression, fold-roll-CoreExpression, ind-CoreExpression}
use Rattle.ct_core.specs.declared.trees.CoreExpression.TheOpen.{CoreExpression-F}
use Rattle.ct_core.specs.declared.trees.CoreStatement.{CoreStatement, roll-CoreStatement, map-CoreStatement, fold-roll-CoreStatement, ind-CoreStatement}
use Rattle.ct_core.specs.declared.trees.CoreStatement.TheOpen.{CoreStatement-F}
use Rattle.ct_meaning.specs.declared.state.State.{State}
use Rattle.ct_meaning.specs.declared.state.Place.{Place}
use Rattle.ct_meaning.specs.declared.state.Ending.{Ending}
use Rattle.ct_meaning.specs.declared.state.Ending.TheVariants.{Onward, Returned}
use Rattle.ct_meaning.specs.Doing.{ValueAndState, Does, onwards, ◌>>=◌, ◌>>◌, pure, each_onto, finally}
use Rattle.ct_meaning.specs.World.{World, Where, Target, Defined, target_of, variable_at}
use Rattle.ct_meaning.specs.Rules.{stop, failed, given, used, truth_in, apply_binary, apply_conversion, variable, literal, designator, load, store, initialise, begin_objects, end_objects, check_level, take_step, begun}
use Rattle.ct_meaning.specs.Meaning.{Calls, value_of, enter, apply_call, Evaluates, used_value, expression_step, expression, Executes, then_go, in_turn, within, holds, turns, declare, return_of, statement_step, statement, places_from, scalar_of_variable, initialise_parameter, initialise_parameters, defined_body, body_of, calls}
use Rattle.ct_meaning_laws.specs.Names.{expression_names_step, expression_names, all_of, statement_names_step, statement_names}
use Rattle.ct_meaning_laws.proofs.Spends.{first_true, second_true}

-- ---- two outcomes

-- both have values, which are related, or both abort; and the states are related
abbrev pub Agree : {A B : Type 0} → (A → B → Type 0) → (State → State → Type 0) → ValueAndState A → ValueAndState B → Type 0
Agree V R (Some a, s) (Some b, t) = V a b × R s t
Agree V R (None, s) (None, t) = R s t
Agree V R (Some a, s) (None, t) = ⊥
Agree V R (None, s) (Some b, t) = ⊥

-- the same, with states that are related otherwise where there are values
abbrev pub Lower : {A B : Type 0} → (State → State → Type 0) → (State → State → Type 0) → ValueAndState A → ValueAndState B → Type 0
Lower S R (Some a, s) (Some b, t) = S s t
Lower S R (None, s) (None, t) = R s t
Lower S R (Some a, s) (None, t) = ⊥
Lower S R (None, s) (Some b, t) = ⊥

-- related states, of which fewer than m calls and turns are left, and fewer than n at most, stay so
pub record Keeps {A B : Type 0} (R : ℕ → State → State → Type 0) (V : A → B → Type 0) (n : ℕ) (p : Does A) (q : Does B) : Type 0 where
  pub at : (m : ℕ) → m ≤ n → (s t : State) → R m s t → Agree V (R m) (p s) (q t)

abbrev pub Always : {A B : Type 0} → A → B → Type 0
Always a b = Unit {0}

abbrev pub Equal : {A : Type 0} → A → A → Type 0
Equal a b = a ≡ b

abbrev pub Each : {A B : Type 0} → (A → B → Type 0) → List A → List B → Type 0
Each V [] [] = Unit {0}
Each V (a ∷ xs) (b ∷ ys) = V a b × Each V xs ys
Each V [] (b ∷ ys) = ⊥
Each V (a ∷ xs) [] = ⊥

abbrev pub Endings : (Value → Value → Type 0) → Ending → Ending → Type 0
Endings V Onward Onward = Unit {0}
Endings V (Returned v) (Returned w) = V v w
Endings V Onward (Returned w) = ⊥
Endings V (Returned v) Onward = ⊥

-- ---- what is the same of two places in the program

-- the statement at a place is of a unit of U
abbrev pub PlaceIn : (ℕ → Type 0) → Option Place → Type 0
PlaceIn U None = Unit {0}
PlaceIn U (Some place) = U place.unit

pub record SameCall (U : ℕ → Type 0) (h k : Where) : Type 0 where
  pub level : h.level ≡ k.level
  pub place : h.place ≡ k.place
  pub known : PlaceIn U h.place

abbrev pub Entry : (Value → Value → Type 0) → (ℕ × Pointer) → (ℕ × Pointer) → Type 0
Entry V a b = (a.0 ≡ b.0) × V (Object a.1) (Object b.1)

-- both are in the same function of a unit of U, at a level of L, and the objects of its variables are related
pub record SameWhere (U L : ℕ → Type 0) (V : Value → Value → Type 0) (h k : Where) : Type 0 where
  pub call : SameCall U h k
  pub deep : L h.level
  pub unit : h.unit ≡ k.unit
  pub within : U h.unit
  pub function : h.function ≡ k.function
  pub frame : Each (Entry V) h.frame k.frame

-- ---- what each rule keeps

-- In the units of U, at the levels of L, functions are named whose names are fine.
pub record Kin (w v : World) (U L : ℕ → Type 0) (fine : List ℕ → Bool) (V : Value → Value → Type 0) (R : ℕ → State → State → Type 0) : Type 0 where
  pub inside : (level : ℕ) → L (level + 1)
  pub some : (s t : State) → R 0 s t → ⊥
  pub more : (m : ℕ) (s t : State) → R m s t → R (suc m) s t
  pub step : (h k : Where) → SameCall U h k → (m : ℕ) (s t : State) → R (suc m) s t → Lower (R m) (R (suc m)) (take_step w h s) (take_step v k t)
  pub level : (h k : Where) → SameCall U h k → (n : ℕ) → Keeps R Always n (check_level w h) (check_level v k)
  pub void : V Void Void
  pub number : (z : _) → V (Int z) (Int z)
  pub stops : (h k : Where) → SameCall U h k → (fault : FaultKind) (m : ℕ) (s t : State) → R m s t → R m (failed w h fault s) (failed v k fault t)
  pub begins : (h k : Where) → SameWhere U L V h k → (mark : Mark) → SameWhere U L V (begun w h mark) (begun v k mark)
  pub used : (h k : Where) → SameWhere U L V h k → (n : ℕ) (x y : Value) → V x y → Keeps R V n (given w h (used x)) (given v k (used y))
  pub truth : (h k : Where) → SameWhere U L V h k → (n : ℕ) (x y : Value) → V x y → Keeps R Equal n (given w h (truth_in x)) (given v k (truth_in y))
  pub variable : (h k : Where) → SameWhere U L V h k → (n place : ℕ) → Keeps R V n (variable w h place) (variable v k place)
  pub literal : (h k : Where) → SameWhere U L V h k → (n text : ℕ) → Keeps R V n (literal w h text) (literal v k text)
  pub designator : (h k : Where) → SameWhere U L V h k → (n : ℕ) (name : List ℕ) → fine name ≡ true → Keeps R V n (designator w h name) (designator v k name)
  pub load : (h k : Where) → SameWhere U L V h k → (n : ℕ) (t : Scalar) (a b : Value) → V a b → Keeps R V n (load w h t a) (load v k t b)
  pub store : (h k : Where) → SameWhere U L V h k → (n : ℕ) (t : Scalar) (a b x y : Value) → V a b → V x y → Keeps R V n (store w h t a x) (store v k t b y)
  pub initialise : (h k : Where) → SameWhere U L V h k → (n place : ℕ) (t : Scalar) (x y : Value) → V x y → Keeps R Always n (initialise w h place t x) (initialise v k place t y)
  pub parameter : (h k : Where) → SameWhere U L V h k → (n place : ℕ) (x y : Value) → V x y
      → Keeps R Always n (initialise_parameter w h place x (scalar_of_variable (variable_at w h place))) (initialise_parameter v k place y (scalar_of_variable (variable_at v k place)))
  pub conversion : (h k : Where) → SameWhere U L V h k → (n : ℕ) (i : IntKind) (x y : Value) → V x y → Keeps R V n (apply_conversion w h i x) (apply_conversion v k i y)
  pub binary : (h k : Where) → SameWhere U L V h k → (n : ℕ) (op : BinaryOp) (i : IntKind) (x y x' y' : Value) → V x x' → V y y'
      → Keeps R V n (apply_binary w h op i x y) (apply_binary v k op i x' y')
  pub begin : (h k : Where) → SameWhere U L V h k → (n : ℕ) (places : List ℕ) (f g : List (ℕ × Pointer)) → Each (Entry V) f g
      → Keeps R (Each (Entry V)) n (begin_objects w h places f) (begin_objects v k places g)
  pub end : (n : ℕ) (f g : List (ℕ × Pointer)) → Each (Entry V) f g → (m : ℕ) (s t : State) → R m s t → R m (end_objects n f s) (end_objects n g t)
  pub call : (h k : Where) → SameWhere U L V h k → (n : ℕ) (f g : Calls)
      → ((number : ℕ) (xs ys : List Value) → V (Function number) (Function number) → Each V xs ys → Keeps R V n (enter w h f number xs) (enter v k g number ys))
      → (x y : Value) (xs ys : List Value) → V x y → Each V xs ys → Keeps R V n (apply_call w h f x xs) (apply_call v k g y ys)

-- ---- how related parts are put together

pub fewer : {A B : Type 0} (R : ℕ → State → State → Type 0) (V : A → B → Type 0) (m n : ℕ) (p : Does A) (q : Does B) → m ≤ n → Keeps R V n p q → Keeps R V m p q
fewer R V m n p q le h = record { at = λ i below s t r. h.at i (omega arith) s t r }

pub done : {A B : Type 0} (R : ℕ → State → State → Type 0) (V : A → B → Type 0) (n : ℕ) (a : A) (b : B) → V a b → Keeps R V n (pure a) (pure b)
done R V n a b h = record { at = λ m le s t r. (h, r) }

then_agree : {A B C D : Type 0} (R : ℕ → State → State → Type 0) (V : A → B → Type 0) (W : C → D → Type 0) (n m : ℕ) (o : ValueAndState A) (o' : ValueAndState B) (f : A → Does C) (g : B → Does D)
    → m ≤ n → Agree V (R m) o o' → ((a : A) (b : B) → V a b → Keeps R W n (f a) (g b)) → Agree W (R m) (onwards o f) (onwards o' g)
then_agree R V W n m (Some a, s) (Some b, t) f g le h k = (k a b h.0).at m le s t h.1
then_agree R V W n m (None, s) (None, t) f g le h k = h
then_agree R V W n m (Some a, s) (None, t) f g le h k = absurd h
then_agree R V W n m (None, s) (Some b, t) f g le h k = absurd h

pub bind : {A B C D : Type 0} (R : ℕ → State → State → Type 0) (V : A → B → Type 0) (W : C → D → Type 0) (n : ℕ) (p : Does A) (q : Does B) (f : A → Does C) (g : B → Does D)
    → Keeps R V n p q → ((a : A) (b : B) → V a b → Keeps R W n (f a) (g b)) → Keeps R W n (p >>= f) (q >>= g)
bind R V W n p q f g h k = record { at = λ m le s t r. then_agree R V W n m (p s) (q t) f g le (h.at m le s t r) k }

weaker_agree : {A B : Type 0} (V W : A → B → Type 0) (R : State → State → Type 0) (o : ValueAndState A) (o' : ValueAndState B) → ((a : A) (b : B) → V a b → W a b) → Agree V R o o' → Agree W R o o'
weaker_agree V W R (Some a, s) (Some b, t) k h = (k a b h.0, h.1)
weaker_agree V W R (None, s) (None, t) k h = h
weaker_agree V W R (Some a, s) (None, t) k h = absurd h
weaker_agree V W R (None, s) (Some b, t) k h = absurd h

pub weaker : {A B : Type 0} (R : ℕ → State → State → Type 0) (V W : A → B → Type 0) (n : ℕ) (p : Does A) (q : Does B) → ((a : A) (b : B) → V a b → W a b) → Keeps R V n p q → Keeps R W n p q
weaker R V W n p q k h = record { at = λ m le s t r. weaker_agree V W (R m) (p s) (q t) k (h.at m le s t r) }

finally_agree : {A B : Type 0} (R : State → State → Type 0) (V : A → B → Type 0) (o : ValueAndState A) (o' : ValueAndState B) (f g : State → State)
    → Agree V R o o' → ((s t : State) → R s t → R (f s) (g t)) → Agree V R (o.0, f o.1) (o'.0, g o'.1)
finally_agree R V (Some a, s) (Some b, t) f g h k = (h.0, k s t h.1)
finally_agree R V (None, s) (None, t) f g h k = k s t h
finally_agree R V (Some a, s) (None, t) f g h k = absurd h
finally_agree R V (None, s) (Some b, t) f g h k = absurd h

finally_keeps : {A B : Type 0} (R : ℕ → State → State → Type 0) (V : A → B → Type 0) (n : ℕ) (p : Does A) (q : Does B) (f g : State → State)
    → Keeps R V n p q → ((m : ℕ) (s t : State) → R m s t → R m (f s) (g t)) → Keeps R V n (finally p f) (finally q g)
finally_keeps R V n p q f g h k = record { at = λ m le s t r. finally_agree (R m) V (p s) (q t) f g (h.at m le s t r) (k m) }

if_keeps : {A B : Type 0} (R : ℕ → State → State → Type 0) (V : A → B → Type 0) (n : ℕ) (b c : Bool) (p p' : Does A) (q q' : Does B)
    → b ≡ c → Keeps R V n p q → Keeps R V n p' q' → Keeps R V n (if b then p else p') (if c then q else q')
if_keeps R V n b c p p' q q' e h k =
    let P : Bool → Type 0 = λ d. Keeps R V n (if b then p else p') (if d then q else q') in
    subst P e (if_same R V n b p p' q q' h k)
  where
    if_same : {A B : Type 0} (R : ℕ → State → State → Type 0) (V : A → B → Type 0) (n : ℕ) (b : Bool) (p p' : Does A) (q q' : Does B)
        → Keeps R V n p q → Keeps R V n p' q' → Keeps R V n (if b then p else p') (if b then q else q')
    if_same R V n true p p' q q' h k = h
    if_same R V n false p p' q q' h k = k

raised : {A B : Type 0} (V : A → B → Type 0) (R S : State → State → Type 0) (o : ValueAndState A) (o' : ValueAndState B) → ((s t : State) → R s t → S s t) → Agree V R o o' → Agree V S o o'
raised V R S (Some a, s) (Some b, t) h k = (k.0, h s t k.1)
raised V R S (None, s) (None, t) h k = h s t k
raised V R S (Some a, s) (None, t) h k = absurd k
raised V R S (None, s) (Some b, t) h k = absurd k

-- after a step there is one call or turn less
lower_agree : {A B C D : Type 0} (R : ℕ → State → State → Type 0) (V : C → D → Type 0) (n m : ℕ) (o : ValueAndState A) (o' : ValueAndState B) (p : Does C) (q : Does D)
    → m ≤ n → ((s t : State) → R m s t → R (suc m) s t) → Lower (R m) (R (suc m)) o o' → Keeps R V n p q → Agree V (R (suc m)) (onwards o (λ _. p)) (onwards o' (λ _. q))
lower_agree R V n m (Some a, s) (Some b, t) p q le more h k = raised V (R m) (R (suc m)) (p s) (q t) more (k.at m le s t h)
lower_agree R V n m (None, s) (None, t) p q le more h k = h
lower_agree R V n m (Some a, s) (None, t) p q le more h k = absurd h
lower_agree R V n m (None, s) (Some b, t) p q le more h k = absurd h

module _ (w v : World) (U L : ℕ → Type 0) (fine : List ℕ → Bool) (V : Value → Value → Type 0) (R : ℕ → State → State → Type 0) (kin : Kin w v U L fine V R) where
  stopped : {A B : Type 0} (W : A → B → Type 0) (n : ℕ) (h k : Where) (fault : FaultKind) → SameCall U h k → Keeps R W n (stop w h fault) (stop v k fault)
  stopped W n h k fault same = record { at = λ m le s t r. kin.stops h k same fault m s t r }

  at_zero : {A B : Type 0} (W : A → B → Type 0) (p : Does A) (q : Does B) → Keeps R W 0 p q
  at_zero W p q = record {
    at = λ m le s t r.
        let none : m ≡ 0 = omega arith in
        let P : ℕ → Type 0 = λ i. R i s t in absurd (kin.some s t (subst P none r));
  }

  step_at : {A B : Type 0} (W : A → B → Type 0) (n : ℕ) (h k : Where) (p : Does A) (q : Does B) → SameCall U h k → Keeps R W n p q
      → (m : ℕ) → m ≤ suc n → (s t : State) → R m s t → Agree W (R m) ((take_step w h >> p) s) ((take_step v k >> q) t)
  step_at W n h k p q same keep zero le s t r = absurd (kin.some s t r)
  step_at W n h k p q same keep (suc m) le s t r =
      lower_agree R W n m (take_step w h s) (take_step v k t) p q (omega arith) (kin.more m) (kin.step h k same m s t r) keep

  after_step : {A B : Type 0} (W : A → B → Type 0) (n : ℕ) (h k : Where) (p : Does A) (q : Does B) → SameCall U h k → Keeps R W n p q
      → Keeps R W (suc n) (take_step w h >> p) (take_step v k >> q)
  after_step W n h k p q same keep = record { at = step_at W n h k p q same keep }

  flow_value : (a b : Ending) → Endings V a b → V (value_of a) (value_of b)
  flow_value Onward Onward h = kin.void
  flow_value (Returned x) (Returned y) h = h
  flow_value Onward (Returned y) h = absurd h
  flow_value (Returned x) Onward h = absurd h

  deeper : (h k : Where) → SameCall U h k → SameCall U (record h { level = h.level + 1; frame = [] }) (record k { level = k.level + 1; frame = [] })
  deeper h k same = record { level = ap (λ n. n + 1) same.level; place = same.place; known = same.known }

  -- what calls do that nest less deeply
  abbrev pub CallsKeep : ℕ → Calls → Calls → Type 0
  CallsKeep n f g = (h k : Where) → SameCall U h k → L h.level → (number : ℕ) (xs ys : List Value) → V (Function number) (Function number) → Each V xs ys → Keeps R (Endings V) n (f number xs h) (g number ys k)

  entered : (n : ℕ) (f g : Calls) → CallsKeep n f g → (h k : Where) → SameCall U h k → (number : ℕ) (xs ys : List Value) → V (Function number) (Function number) → Each V xs ys
      → Keeps R V (suc n) (enter w h f number xs) (enter v k g number ys)
  entered n f g calls_keep h k same number xs ys reached alike =
      bind R Always V (suc n) _ _ _ _ (kin.level h k same (suc n)) (λ _ _ _.
      after_step V n h k _ _ same
      (bind R (Endings V) V n _ _ _ _ (calls_keep _ _ (deeper h k same) (kin.inside h.level) number xs ys reached alike) (λ a b e. done R V n (value_of a) (value_of b) (flow_value a b e))))

  -- calls at the same number or below
  abbrev pub EnterKeeps : ℕ → Calls → Calls → Type 0
  EnterKeeps n f g = (h k : Where) → SameCall U h k → (number : ℕ) (xs ys : List Value) → V (Function number) (Function number) → Each V xs ys → Keeps R V n (enter w h f number xs) (enter v k g number ys)

  -- ---- expressions

  module _ (n : ℕ) (f g : Calls) (enters : EnterKeeps n f g) where
    abbrev ExpressionKeeps : CoreExpression → Type 0
    ExpressionKeeps e = expression_names fine e ≡ true → (h k : Where) → SameWhere U L V h k → Keeps R V n (expression w f e h) (expression v g e k)

    used_keeps : (h k : Where) → SameWhere U L V h k → (p q : Evaluates) → Keeps R V n (p h) (q k) → Keeps R V n (used_value w h p) (used_value v k q)
    used_keeps h k same p q keep = bind R V V n _ _ _ _ keep (λ x y e. kin.used h k same n x y e)

    joined : {A B : Type 0} (W : A → B → Type 0) (xs : List A) (ys : List B) (a : A) (b : B) → Each W xs ys → W a b → Each W (xs ++ a ∷ []) (ys ++ b ∷ [])
    joined W [] [] a b h e = (e, tt)
    joined W (x ∷ xs) (y ∷ ys) a b h e = (h.0, joined W xs ys a b h.1 e)
    joined W [] (y ∷ ys) a b h e = absurd h
    joined W (x ∷ xs) [] a b h e = absurd h

    each_keeps : (h k : Where) → SameWhere U L V h k → (all : List ((e : CoreExpression) × ExpressionKeeps e)) (xs ys : List Value) → list_all (λ b. b) (map (expression_names fine) (map (λ e. e.0) all)) ≡ true → Each V xs ys
        → Keeps R (Each V) n (each_onto xs (map (used_value w h) (map (expression w f) (map (λ e. e.0) all)))) (each_onto ys (map (used_value v k) (map (expression v g) (map (λ e. e.0) all))))
    each_keeps h k same [] xs ys names alike = done R (Each V) n xs ys alike
    each_keeps h k same (e ∷ all) xs ys names alike =
        bind R V (Each V) n _ _ _ _ (used_keeps h k same (expression w f e.0) (expression v g e.0) (e.1 (first_true _ _ names) h k same))
        (λ x y r. each_keeps h k same all (xs ++ x ∷ []) (ys ++ y ∷ []) (second_true _ _ names) (joined V xs ys x y alike r))

    layer_keeps : (y : CoreExpression-F ((e : CoreExpression) × ExpressionKeeps e))
        → expression_names_step fine (map-CoreExpression CoreExpression Bool (expression_names fine) (map-CoreExpression ((e : CoreExpression) × ExpressionKeeps e) CoreExpression (λ e. e.0) y)) ≡ true
        → (h k : Where) → SameWhere U L V h k
        → Keeps R V n
        (expression_step w f (map-CoreExpression CoreExpression Evaluates (expression w f) (map-CoreExpression ((e : CoreExpression) × ExpressionKeeps e) CoreExpression (λ e. e.0) y)) h)
        (expression_step v g (map-CoreExpression CoreExpression Evaluates (expression v g) (map-CoreExpression ((e : CoreExpression) × ExpressionKeeps e) CoreExpression (λ e. e.0) y)) k)
    layer_keeps (CoreExpression-F.Constant i z) names h k same = done R V n (Int z) (Int z) (kin.number z)
    layer_keeps (CoreExpression-F.Variable place) names h k same = kin.variable h k same n place
    layer_keeps (CoreExpression-F.Text text) names h k same = kin.literal h k same n text
    layer_keeps (CoreExpression-F.Function name) names h k same = kin.designator h k same n name names
    layer_keeps (CoreExpression-F.Load t a) names h k same = bind R V V n _ _ _ _ (a.1 names h k same) (λ x y r. kin.load h k same n t x y r)
    layer_keeps (CoreExpression-F.Assign t a b) names h k same =
        bind R V V n _ _ _ _ (a.1 (first_true _ _ names) h k same) (λ x y r. bind R V V n _ _ _ _ (b.1 (second_true _ _ names) h k same) (λ x' y' r'. kin.store h k same n t x y x' y' r r'))
    layer_keeps (CoreExpression-F.Convert i a) names h k same = bind R V V n _ _ _ _ (a.1 names h k same) (λ x y r. kin.conversion h k same n i x y r)
    layer_keeps (CoreExpression-F.Binary op i a b) names h k same =
        bind R V V n _ _ _ _ (a.1 (first_true _ _ names) h k same) (λ x y r. bind R V V n _ _ _ _ (b.1 (second_true _ _ names) h k same) (λ x' y' r'. kin.binary h k same n op i x x' y y' r r'))
    layer_keeps (CoreExpression-F.Call type callee arguments) names h k same =
        bind R V V n _ _ _ _ (callee.1 (first_true _ _ names) h k same) (λ x y r.
        bind R (Each V) V n _ _ _ _ (each_keeps h k same arguments [] [] (second_true _ _ names) tt) (λ xs ys e. kin.call h k same n f g (enters h k same.call) x y xs ys r e))

    pub expression_keeps : (e : CoreExpression) → ExpressionKeeps e
    unfolding expression expression_names
    expression_keeps = ind-CoreExpression ExpressionKeeps (λ x y is names h k same.
        let N : CoreExpression-F CoreExpression → Type 0 = λ l. expression_names_step fine (map-CoreExpression CoreExpression Bool (expression_names fine) l) ≡ true in
        let all = subst N (sym is) (sym (fold-roll-CoreExpression Bool (expression_names_step fine) x) ∙ names) in
        let P : CoreExpression-F CoreExpression → Type 0 = λ l. Keeps R V n (expression_step w f (map-CoreExpression CoreExpression Evaluates (expression w f) l) h) (expression_step v g (map-CoreExpression CoreExpression Evaluates (expression v g) l) k) in
        let Q : Evaluates → Type 0 = λ p. Keeps R V n (p h) (expression v g (roll-CoreExpression x) k) in
        let S : Evaluates → Type 0 = λ p. Keeps R V n (expression_step w f (map-CoreExpression CoreExpression Evaluates (expression w f) x) h) (p k) in
        subst Q (sym (fold-roll-CoreExpression Evaluates (expression_step w f) x)) (subst S (sym (fold-roll-CoreExpression Evaluates (expression_step v g) x)) (subst P is (layer_keeps y all h k same))))

    -- ---- statements, in which loops have a number of turns on each side

    holds_keeps : (h k : Where) → SameWhere U L V h k → (p q : Evaluates) → Keeps R V n (p h) (q k) → Keeps R Equal n (holds w h p) (holds v k q)
    holds_keeps h k same p q keep = bind R V Equal n _ _ _ _ keep (λ x y r. kin.truth h k same n x y r)

    go_keeps : (m : ℕ) (a b : Ending) → Endings V a b → (p q : Does Ending) → Keeps R (Endings V) m p q → Keeps R (Endings V) m (then_go a p) (then_go b q)
    go_keeps m Onward Onward e p q keep = keep
    go_keeps m (Returned x) (Returned y) e p q keep = done R (Endings V) m (Returned x) (Returned y) e
    go_keeps m Onward (Returned y) e p q keep = absurd e
    go_keeps m (Returned x) Onward e p q keep = absurd e

    onward : (m : ℕ) → Keeps R (Endings V) m (pure Onward) (pure Onward)
    onward m = done R (Endings V) m Onward Onward tt

    turns_keep : (m i j : ℕ) → m ≤ n → m ≤ i → m ≤ j → (h k : Where) → SameWhere U L V h k → (p q : Evaluates) (body body' : Executes)
        → Keeps R V n (p h) (q k) → Keeps R (Endings V) n (body h) (body' k) → Keeps R (Endings V) m (turns w h i p body) (turns v k j q body')
    turns_keep zero i j le li lj h k same p q body body' test_keeps body_keeps = at_zero (Endings V) _ _
    turns_keep (suc m) zero j le li lj h k same p q body body' test_keeps body_keeps = absurd (omega arith)
    turns_keep (suc m) (suc i) zero le li lj h k same p q body body' test_keeps body_keeps = absurd (omega arith)
    turns_keep (suc m) (suc i) (suc j) le li lj h k same p q body body' test_keeps body_keeps =
        bind R Equal (Endings V) (suc m) _ _ _ _ (fewer R Equal (suc m) n _ _ le (holds_keeps h k same p q test_keeps)) (λ yes yes' e.
        if_keeps R (Endings V) (suc m) yes yes' _ _ _ _ e
        (after_step (Endings V) m h k _ _ same.call
        (bind R (Endings V) (Endings V) m _ _ _ _ (fewer R (Endings V) m n _ _ (omega arith) body_keeps)
        (λ a b r. go_keeps m a b r _ _ (turns_keep m i j (omega arith) (omega arith) (omega arith) h k same p q body body' test_keeps body_keeps))))
        (onward (suc m)))

    within_keeps : (h k : Where) → SameWhere U L V h k → (places : List ℕ) (p q : Executes)
        → ((h' k' : Where) → SameWhere U L V h' k' → Keeps R (Endings V) n (p h') (q k')) → Keeps R (Endings V) n (within w h places p) (within v k places q)
    within_keeps h k same places p q keep =
        bind R (Each (Entry V)) (Endings V) n _ _ _ _ (kin.begin h k same n places h.frame k.frame same.frame) (λ f' g' e.
        finally_keeps R (Endings V) n _ _ (end_objects (length places) f') (end_objects (length places) g')
        (keep (record h { frame = f' }) (record k { frame = g' }) (record { call = record { level = same.call.level; place = same.call.place; known = same.call.known }; deep = same.deep; unit = same.unit; within = same.within; function = same.function; frame = e }))
        (λ m s t r. kin.end (length places) f' g' e m s t r))

    module _ (i j : ℕ) (more : n ≤ i) (more' : n ≤ j) where
      abbrev StatementKeeps : CoreStatement → Type 0
      StatementKeeps b = statement_names fine b ≡ true → (h k : Where) → SameWhere U L V h k → Keeps R (Endings V) n (statement w i f b h) (statement v j g b k)

      turn_keeps : (h k : Where) → SameWhere U L V h k → (all : List ((b : CoreStatement) × StatementKeeps b)) → list_all (λ b. b) (map (statement_names fine) (map (λ b. b.0) all)) ≡ true
          → Keeps R (Endings V) n (in_turn h (map (statement w i f) (map (λ b. b.0) all))) (in_turn k (map (statement v j g) (map (λ b. b.0) all)))
      turn_keeps h k same [] names = onward n
      turn_keeps h k same (b ∷ all) names =
          bind R (Endings V) (Endings V) n _ _ _ _ (b.1 (first_true _ _ names) h k same) (λ x y r. go_keeps n x y r _ _ (turn_keeps h k same all (second_true _ _ names)))

      declare_keeps : (h k : Where) → SameWhere U L V h k → (place : ℕ) (t : Scalar) (e : Option CoreExpression) → all_of (option_map (expression_names fine) e) ≡ true
          → Keeps R (Endings V) n (declare w h place t (option_map (expression w f) e)) (declare v k place t (option_map (expression v g) e))
      declare_keeps h k same place t None names = onward n
      declare_keeps h k same place t (Some e) names =
          bind R V (Endings V) n _ _ _ _ (expression_keeps e names h k same) (λ x y r.
          bind R Always (Endings V) n _ _ _ _ (kin.initialise h k same n place t x y r) (λ _ _ _. onward n))

      return_keeps : (h k : Where) → SameWhere U L V h k → (e : Option CoreExpression) → all_of (option_map (expression_names fine) e) ≡ true
          → Keeps R (Endings V) n (return_of w h (option_map (expression w f) e)) (return_of v k (option_map (expression v g) e))
      return_keeps h k same None names = done R (Endings V) n (Returned Void) (Returned Void) kin.void
      return_keeps h k same (Some e) names =
          bind R V (Endings V) n _ _ _ _ (used_keeps h k same (expression w f e) (expression v g e) (expression_keeps e names h k same))
          (λ x y r. done R (Endings V) n (Returned x) (Returned y) r)

      part_keeps : (y : CoreStatement-F ((b : CoreStatement) × StatementKeeps b))
          → statement_names_step fine (map-CoreStatement CoreStatement Bool (statement_names fine) (map-CoreStatement ((b : CoreStatement) × StatementKeeps b) CoreStatement (λ b. b.0) y)) ≡ true
          → (h k : Where) → SameWhere U L V h k
          → Keeps R (Endings V) n
          (statement_step w i f (map-CoreStatement CoreStatement Executes (statement w i f) (map-CoreStatement ((b : CoreStatement) × StatementKeeps b) CoreStatement (λ b. b.0) y)) h)
          (statement_step v j g (map-CoreStatement CoreStatement Executes (statement v j g) (map-CoreStatement ((b : CoreStatement) × StatementKeeps b) CoreStatement (λ b. b.0) y)) k)
      part_keeps (CoreStatement-F.Run mark e) names h k same = bind R V (Endings V) n _ _ _ _ (expression_keeps e names _ _ (kin.begins h k same mark)) (λ _ _ _. onward n)
      part_keeps (CoreStatement-F.Block mark places all) names h k same =
          within_keeps _ _ (kin.begins h k same mark) places
          (λ inner. in_turn inner (map (statement w i f) (map (λ (b : (b : CoreStatement) × StatementKeeps b). b.0) all)))
          (λ inner. in_turn inner (map (statement v j g) (map (λ (b : (b : CoreStatement) × StatementKeeps b). b.0) all)))
          (λ h' k' same'. turn_keeps h' k' same' all names)
      part_keeps (CoreStatement-F.Declare mark place t e) names h k same = declare_keeps _ _ (kin.begins h k same mark) place t e names
      part_keeps (CoreStatement-F.If mark e a (Some b)) names h k same =
          bind R Equal (Endings V) n _ _ _ _ (holds_keeps _ _ (kin.begins h k same mark) (expression w f e) (expression v g e) (expression_keeps e (first_true _ _ names) _ _ (kin.begins h k same mark))) (λ yes yes' r.
          if_keeps R (Endings V) n yes yes' _ _ _ _ r (a.1 (first_true _ _ (second_true _ _ names)) _ _ (kin.begins h k same mark)) (b.1 (second_true _ _ (second_true _ _ names)) _ _ (kin.begins h k same mark)))
      part_keeps (CoreStatement-F.If mark e a None) names h k same =
          bind R Equal (Endings V) n _ _ _ _ (holds_keeps _ _ (kin.begins h k same mark) (expression w f e) (expression v g e) (expression_keeps e (first_true _ _ names) _ _ (kin.begins h k same mark))) (λ yes yes' r.
          if_keeps R (Endings V) n yes yes' _ _ _ _ r (a.1 (first_true _ _ (second_true _ _ names)) _ _ (kin.begins h k same mark)) (onward n))
      part_keeps (CoreStatement-F.While mark e body) names h k same =
          turns_keep n i j (omega arith) more more' _ _ (kin.begins h k same mark) (expression w f e) (expression v g e) _ _
          (expression_keeps e (first_true _ _ names) _ _ (kin.begins h k same mark)) (body.1 (second_true _ _ names) _ _ (kin.begins h k same mark))
      part_keeps (CoreStatement-F.Return mark e) names h k same = return_keeps _ _ (kin.begins h k same mark) e names

      pub statement_keeps : (b : CoreStatement) → StatementKeeps b
      unfolding statement statement_names
      statement_keeps = ind-CoreStatement StatementKeeps (λ x y is names h k same.
          let N : CoreStatement-F CoreStatement → Type 0 = λ l. statement_names_step fine (map-CoreStatement CoreStatement Bool (statement_names fine) l) ≡ true in
          let all = subst N (sym is) (sym (fold-roll-CoreStatement Bool (statement_names_step fine) x) ∙ names) in
          let P : CoreStatement-F CoreStatement → Type 0 = λ l. Keeps R (Endings V) n (statement_step w i f (map-CoreStatement CoreStatement Executes (statement w i f) l) h) (statement_step v j g (map-CoreStatement CoreStatement Executes (statement v j g) l) k) in
          let Q : Executes → Type 0 = λ p. Keeps R (Endings V) n (p h) (statement v j g (roll-CoreStatement x) k) in
          let S : Executes → Type 0 = λ p. Keeps R (Endings V) n (statement_step w i f (map-CoreStatement CoreStatement Executes (statement w i f) x) h) (p k) in
          subst Q (sym (fold-roll-CoreStatement Executes (statement_step w i f) x)) (subst S (sym (fold-roll-CoreStatement Executes (statement_step v j g) x)) (subst P is (part_keeps y all h k same))))

  -- ---- functions

  module _ (n : ℕ) (f g : Calls) (enters : EnterKeeps n f g) where
    parameters_keep : (h k : Where) → SameWhere U L V h k → (place : ℕ) (xs ys : List Value) → Each V xs ys
        → Keeps R Always n (initialise_parameters w h place xs) (initialise_parameters v k place ys)
    unfolding initialise_parameters
    parameters_keep h k same place [] [] e = done R Always n tt tt tt
    parameters_keep h k same place (x ∷ xs) (y ∷ ys) e =
        bind R Always Always n _ _ _ _ (kin.parameter h k same n place x y e.0) (λ _ _ _. parameters_keep h k same (suc place) xs ys e.1)
    parameters_keep h k same place [] (y ∷ ys) e = absurd e
    parameters_keep h k same place (x ∷ xs) [] e = absurd e

    pub function_keeps : (i j : ℕ) → n ≤ i → n ≤ j → (unit place : ℕ) → U unit → (function : CoreFunction) → statement_names fine function.body ≡ true → (xs ys : List Value) → Each V xs ys
        → (h k : Where) → SameCall U h k → L h.level → Keeps R (Endings V) n (defined_body w i f unit place function xs h) (defined_body v j g unit place function ys k)
    function_keeps i j more more' unit place u function names xs ys e h k same deep =
        within_keeps n f g enters _ _ (record { call = record { level = same.level; place = same.place; known = same.known }; deep = deep; unit = refl; within = u; function = refl; frame = tt })
        (places_from 0 function.parameters) _ _ (λ h' k' same'.
        bind R Always (Endings V) n _ _ _ _ (parameters_keep h' k' same' 0 xs ys e) (λ _ _ _.
        statement_keeps n f g enters i j more more' function.body names h' k' same'))

  -- ---- the functions of the program: those of units of U are the same on both sides, and each other one keeps what a body keeps

  abbrev pub BodyKeeps : ℕ → Type 0
  BodyKeeps number = (n i j : ℕ) → n ≤ i → n ≤ j → (f g : Calls) → EnterKeeps n f g → (xs ys : List Value) → Each V xs ys → (h k : Where) → SameCall U h k → L h.level
      → Keeps R (Endings V) n (body_of w i f (target_of w number) xs h) (body_of v j g (target_of v number) ys k)

  pub data Alike (number : ℕ) : Type 0 where
    Shared : (unit place : ℕ) (function : CoreFunction) → U unit → statement_names fine function.body ≡ true → target_of w number ≡ Some (Defined unit place function) → target_of v number ≡ Some (Defined unit place function) → Alike number
    Other : BodyKeeps number → Alike number

  alike_keeps : (number : ℕ) → Alike number → BodyKeeps number
  alike_keeps number (Other keep) n i j le le' f g enters xs ys e h k same deep = keep n i j le le' f g enters xs ys e h k same deep
  alike_keeps number (Shared unit place function u names here there) n i j le le' f g enters xs ys e h k same deep =
      let P : Option Target → Type 0 = λ t. Keeps R (Endings V) n (body_of w i f t xs h) (body_of v j g (target_of v number) ys k) in
      let Q : Option Target → Type 0 = λ t. Keeps R (Endings V) n (body_of w i f (Some (Defined unit place function)) xs h) (body_of v j g t ys k) in
      subst P (sym here) (subst Q (sym there) (function_keeps n f g enters i j le le' unit place u function names xs ys e h k same deep))

  module _ (alike : (number : ℕ) → V (Function number) (Function number) → Alike number) where
    pub entered_at : (m : ℕ) (f g : Calls) → ((n : ℕ) → n < m → CallsKeep n f g) → EnterKeeps m f g
    entered_at zero f g keep h k same number xs ys reached e = at_zero V _ _
    entered_at (suc m) f g keep h k same number xs ys reached e = entered m f g (keep m (omega arith)) h k same number xs ys reached e

    -- Calls keep two related runs related, whatever the numbers are, where they are above what is left.
    pub calls_keep : (i j m : ℕ) → m < i → m < j → CallsKeep m (calls w i) (calls v j)
    unfolding calls
    calls_keep zero j m li lj h k same deep number xs ys reached e = absurd (omega arith)
    calls_keep (suc i) zero m li lj h k same deep number xs ys reached e = absurd (omega arith)
    calls_keep (suc i) (suc j) m li lj h k same deep number xs ys reached e =
        alike_keeps number (alike number reached) m i j (omega arith) (omega arith) (calls w i) (calls v j)
        (entered_at m (calls w i) (calls v j) (λ n below. calls_keep i j n (omega arith) (omega arith))) xs ys e h k same deep
