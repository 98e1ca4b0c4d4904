-- In two such worlds two such runs stay related.
use Rattle.std.proofs.Common.{◌≡◌, ℕ, ◌<◌, List, [], ◌∷◌, take, Bool, false, Option, Some, None, refl, sym, ap, subst, ◌∙◌, arith, ne_eqb}
use Rattle.std.specs.Prelude.{option_and_then, slice_get, ◌==◌, ◌&&◌}
use Rattle.ct_core.specs.declared.values.Space.{Space}
use Rattle.ct_core.specs.declared.values.Space.TheVariants.{Project}
use Rattle.ct_core.specs.declared.values.Pointer.{Pointer}
use Rattle.ct_core.specs.declared.values.Value.{Value}
use Rattle.ct_core.specs.declared.objects.Object.{Object as Stored}
use Rattle.ct_core.specs.declared.trees.Mark.{Mark}
use Rattle.ct_core.specs.declared.objects.Kind.TheVariants.{Automatic}
use Rattle.ct_core.specs.declared.units.CoreUnit.{CoreUnit}
use Rattle.ct_core.specs.declared.units.Variable.{Variable}
use Rattle.ct_core.specs.Memory.{Memory, next_pointer, new_object, with_new}
use Rattle.ct_meaning.specs.declared.state.State.{State}
use Rattle.ct_meaning.specs.declared.state.Place.{Place}
use Rattle.ct_meaning.specs.Doing.{Does}
use Rattle.ct_meaning.specs.World.{World, Where, unit_space, space_of, variable_at, variable_of}
use Rattle.ct_meaning.specs.Rules.{begin_objects, end_objects, variable_memory, object_bytes, structs_of, begun, begun_in}
use Rattle.ct_meaning.specs.Program.{left_in}
use Rattle.ct_meaning_laws.proofs.Related.{Agree, Keeps, Equal, Each, Entry, PlaceIn, SameCall, SameWhere}
use Rattle.ct_meaning_laws.proofs.Numbers.{Any, same_where, same_frame}
use Rattle.ct_phases.proofs.ToolMemory.{Own, own_front, put, next_put, new_put, without_put}
use Rattle.ct_phases.proofs.RunnerValues.{SameValue}
use Rattle.ct_phases.proofs.RunnerRules.{Targets, Functions, Empties, BuiltIns, Nothings, Twins, Going, with_tool, SameRun, still_running}
use Rattle.ct_phases.proofs.RunnerRules as rule

-- levels inside a call
abbrev pub Deep : ℕ → Type 0
Deep level = 0 < level

-- a place in the code of a Project unit
pub record Inside (U : ℕ → Type 0) (h : Where) : Type 0 where
  pub call : SameCall U h h
  pub deep : Deep h.level
  pub unit : U h.unit
  pub frame : Own h.frame

module _ (U N : ℕ → Type 0) where
  equal_frame : (f g : List (ℕ × Pointer)) → Each (Entry (SameValue N)) f g → Each (Entry Equal) f g
  equal_frame [] [] e = tt
  equal_frame (a ∷ f) (b ∷ g) e = ((e.0.0, e.0.1.same), equal_frame f g e.1)
  equal_frame [] (b ∷ g) e = absurd e
  equal_frame (a ∷ f) [] e = absurd e

  own_frame : (f g : List (ℕ × Pointer)) → Each (Entry (SameValue N)) f g → Own f
  own_frame [] [] e = tt
  own_frame (a ∷ f) (b ∷ g) e = (e.0.1.safe, own_frame f g e.1)
  own_frame [] (b ∷ g) e = absurd e
  own_frame (a ∷ f) [] e = absurd e

  frame_entries : (f : List (ℕ × Pointer)) → Own f → Each (Entry (SameValue N)) f f
  frame_entries [] own = tt
  frame_entries (a ∷ f) own = ((refl, record { same = refl; safe = own.0 }), frame_entries f own.1)

  pub equal_values : (xs ys : List Value) → Each (SameValue N) xs ys → Each Equal xs ys
  equal_values [] [] e = tt
  equal_values (x ∷ xs) (y ∷ ys) e = (e.0.same, equal_values xs ys e.1)
  equal_values [] (y ∷ ys) e = absurd e
  equal_values (x ∷ xs) [] e = absurd e

  module _ (h k : Where) (same : SameWhere U Deep (SameValue N) h k) where
    known_any : PlaceIn Any h.place
    known_any = any_place h.place
      where
        any_place : (p : Option Place) → PlaceIn Any p
        any_place (Some p) = tt
        any_place None = tt

    pub where_same : h ≡ k
    where_same = same_where h k (record {
      call = record { level = same.call.level; place = same.call.place; known = known_any };
      deep = tt;
      unit = same.unit;
      within = tt;
      function = same.function;
      frame = equal_frame h.frame k.frame same.frame;
    })

    pub inside : Inside U h
    inside = record {
      call = record { level = refl; place = refl; known = same.call.known };
      deep = same.deep;
      unit = same.within;
      frame = own_frame h.frame k.frame same.frame;
    }

  pub where_inside : (h : Where) → Inside U h → SameWhere U Deep (SameValue N) h h
  where_inside h i = record { call = i.call; deep = i.deep; unit = refl; within = i.unit; function = refl; frame = frame_entries h.frame i.frame }

-- what the calls that act at level 0 alone do inside a call: nothing
module _ (h : Where) (deep : Deep h.level) where
  not_outermost : (h.level == 0) ≡ false
  not_outermost = ne_eqb h.level 0 (λ e. absurd (omega arith))

  pub never : (b : Bool) → ((h.level == 0) && b) ≡ false
  never b = let P : Bool → Type 0 = λ x. (x && b) ≡ false in subst P (sym not_outermost) refl

  pub never_both : (b c : Bool) → ((h.level == 0) && b && c) ≡ false
  never_both b c = let P : Bool → Type 0 = λ x. (x && c) ≡ false in subst P (sym (never b)) refl

module _ (plain written : World) (U N : ℕ → Type 0) (T : List Stored) (count : ℕ) (twins : Twins plain written U N) where
  abbrev R : ℕ → State → State → Type 0
  R = SameRun T written.budget count

  abbrev V : Value → Value → Type 0
  V = SameValue N

  -- one rule in two places that are the same
  pub placed : {A B : Type 0} (W : A → B → Type 0) (n : ℕ) (h k : Where) → SameWhere U Deep V h k → (p : Where → Does A) (q : Where → Does B)
      → ((x : Where) → Inside U x → Keeps R W n (p x) (q x)) → Keeps R W n (p h) (q k)
  placed W n h k same p q all =
      let P : Where → Type 0 = λ x. Keeps R W n (p h) (q x) in subst P (where_same U N h k same) (all h (inside U N h k same))

  -- ---- objects of variables

  module _ (h : Where) (i : Inside U h) (place : ℕ) (m : Memory) where
    pub variable_same : variable_at plain h place ≡ variable_at written h place
    variable_same =
        ap (λ (o : Option CoreUnit). variable_of (option_and_then (λ (u : CoreUnit). slice_get u.functions h.function) o) place) (twins.unit h.unit i.unit)

    pointer_same : next_pointer (unit_space plain h.unit) (put T m) ≡ next_pointer (unit_space written h.unit) m
    pointer_same =
        ap (λ (o : Option CoreUnit). next_pointer (space_of o) (put T m)) (twins.unit h.unit i.unit)
        ∙ next_put T (unit_space written h.unit) m (twins.space h.unit i.unit)

    memory_of : (v : Option Variable) → variable_memory plain h place v (put T m) ≡ put T (variable_memory written h place v m)
    memory_of (Some v) =
        ap (λ (o : Option CoreUnit). with_new (space_of o) (new_object Automatic place (object_bytes (structs_of o) v.kind) v.constant) (put T m)) (twins.unit h.unit i.unit)
        ∙ new_put T (unit_space written h.unit) (new_object Automatic place (object_bytes (structs_of (slice_get written.units h.unit)) v.kind) v.constant) m (twins.space h.unit i.unit)
    memory_of None =
        ap (λ (o : Option CoreUnit). with_new (space_of o) (new_object Automatic place 1 false) (put T m)) (twins.unit h.unit i.unit)
        ∙ new_put T (unit_space written h.unit) (new_object Automatic place 1 false) m (twins.space h.unit i.unit)

    memory_same : variable_memory plain h place (variable_at plain h place) (put T m) ≡ put T (variable_memory written h place (variable_at written h place) m)
    memory_same = ap (λ (v : Option Variable). variable_memory plain h place v (put T m)) variable_same ∙ memory_of (variable_at written h place)

  begin_at : (h : Where) → Inside U h → (places : List ℕ) (f : List (ℕ × Pointer)) → Own f → (m : ℕ) (t : State) → left_in written.budget t < m → Going count t
      → Agree (Each (Entry V)) (R m) (begin_objects plain h places f (with_tool T t)) (begin_objects written h places f t)
  unfolding begin_objects
  begin_at h i [] f own m t below going = (frame_entries U N f own, record { same = refl; below = below; going = going })
  begin_at h i (place ∷ places) f own m t below going =
      let next : State = record t { memory = variable_memory written h place (variable_at written h place) t.memory } in
      let at : Pointer = next_pointer (unit_space written h.unit) t.memory in
      let P : Pointer → Type 0 = λ q. Agree (Each (Entry V)) (R m)
      (begin_objects plain h places ((place, q) ∷ f) (record (with_tool T t) { memory = variable_memory plain h place (variable_at plain h place) (put T t.memory) }))
      (begin_objects written h places ((place, at) ∷ f) next) in
      let Q : Memory → Type 0 = λ x. Agree (Each (Entry V)) (R m) (begin_objects plain h places ((place, at) ∷ f) (record (with_tool T t) { memory = x })) (begin_objects written h places ((place, at) ∷ f) next) in
      subst P (sym (pointer_same h i place t.memory)) (subst Q (sym (memory_same h i place t.memory))
      (begin_at h i places ((place, at) ∷ f) (twins.space h.unit i.unit, own) m next below (record { running = going.running; unaborted = going.unaborted; count = going.count })))

  pub begins : (h k : Where) → SameWhere U Deep V h k → (n : ℕ) (places : List ℕ) (f g : List (ℕ × Pointer)) → Each (Entry V) f g
      → Keeps R (Each (Entry V)) n (begin_objects plain h places f) (begin_objects written k places g)
  begins h k same n places f g e =
      let P : List (ℕ × Pointer) → Type 0 = λ x. Keeps R (Each (Entry V)) n (begin_objects plain h places f) (begin_objects written k places x) in
      subst P (same_frame f g (equal_frame U N f g e)) (placed (Each (Entry V)) n h k same (λ x. begin_objects plain x places f) (λ x. begin_objects written x places f)
      (λ x i. rule.by_tool plain written U N T count twins (Each (Entry V)) n _ _ (λ m t below going. begin_at x i places f (own_frame U N f g e) m t below going)))

  pub ended : (n : ℕ) (f g : List (ℕ × Pointer)) → Each (Entry V) f g → (m : ℕ) (s t : State) → R m s t → R m (end_objects n f s) (end_objects n g t)
  unfolding end_objects
  ended n f g e m s t r =
      let P : List (ℕ × Pointer) → Type 0 = λ x. R m (end_objects n f s) (end_objects n x t) in
      let Q : State → Type 0 = λ x. R m (end_objects n f x) (end_objects n f t) in
      subst P (same_frame f g (equal_frame U N f g e)) (subst Q (sym r.same) (record {
        same = ap (λ (x : Memory). record (with_tool T t) { memory = x }) (without_put T (take n f) t.memory (own_front n f (own_frame U N f g e)));
        below = r.below;
        going = record { running = r.going.running; unaborted = r.going.unaborted; count = r.going.count };
      }))

  pub begun_same : (h k : Where) → SameWhere U Deep V h k → (mark : Mark) → SameWhere U Deep V (begun plain h mark) (begun written k mark)
  begun_same h k same mark =
      let i = inside U N h k same in
      let P : Where → Type 0 = λ x. SameWhere U Deep V (begun plain h mark) (begun written x mark) in
      let Q : Space → Type 0 = λ x. SameWhere U Deep V (begun_in x h mark) (begun written h mark) in
      let S : Space → Type 0 = λ x. SameWhere U Deep V (begun_in Project h mark) (begun_in x h mark) in
      subst P (where_same U N h k same) (subst Q (sym (ap space_of (twins.unit h.unit i.unit) ∙ twins.space h.unit i.unit)) (subst S (sym (twins.space h.unit i.unit))
      (where_inside U N (begun_in Project h mark) (record { call = record { level = refl; place = refl; known = i.unit }; deep = i.deep; unit = i.unit; frame = i.frame }))))
