-- Access to objects of Project units neither reads nor changes what lies in the Tool space.
use Rattle.std.proofs.Common.{◌≡◌, ℕ, ◌+◌, List, [], ◌∷◌, ◌++◌, length, take, Bool, true, false, Option, Some, None, Result, Ok, Err, refl, ap, ◌∙◌}
use Rattle.std.specs.Prelude.{slice_get, slice_set, slice_range, if◌then◌else◌}
use Rattle.ct_base.specs.declared.faults.FaultKind.{FaultKind}
use Rattle.ct_base.specs.declared.faults.FaultKind.TheVariants.{BadFree}
use Rattle.ct_core.specs.declared.values.Space.{Space}
use Rattle.ct_core.specs.declared.values.Space.TheVariants.{Project, Tool}
use Rattle.ct_core.specs.declared.values.Pointer.{Pointer}
use Rattle.ct_core.specs.declared.values.Value.{Value}
use Rattle.ct_core.specs.declared.objects.Object.{Object}
use Rattle.ct_core.specs.declared.objects.Scalar.{Scalar}
use Rattle.ct_core.specs.Memory.{Memory, objects_in, with_objects, object_of, with_object, next_pointer, with_new}
use Rattle.ct_core.specs.Access.{and_then, size_of, value_in, reached_object, load_result, writable_object, memory_with, store_result, initialise_result, is_begin, memory_without, end_result, string_at, live_object, text_in}
use Rattle.ct_meaning.specs.Rules.{result_or, without_objects}

-- the objects of a frame lie in the Project space
abbrev pub Own : List (ℕ × Pointer) → Type 0
Own [] = Unit {0}
Own (entry ∷ frame) = (entry.1.space ≡ Project) × Own frame

pub own_front : (n : ℕ) (frame : List (ℕ × Pointer)) → Own frame → Own (take n frame)
own_front n [] own = own_nothing n
  where
    own_nothing : (n : ℕ) → Own (take n [])
    own_nothing ℕ.zero = tt
    own_nothing (ℕ.suc n) = tt
own_front ℕ.zero (entry ∷ frame) own = tt
own_front (ℕ.suc n) (entry ∷ frame) own = (own.0, own_front n frame own.1)

module _ (T : List Object) where
  -- the memory with these objects in the Tool space
  abbrev pub put : Memory → Memory
  put m = record m { tool = T }

  abbrev pub put_in : Result Memory FaultKind → Result Memory FaultKind
  put_in (Ok m) = Ok (put m)
  put_in (Err fault) = Err fault

  objects_put : (space : Space) (m : Memory) → space ≡ Project → objects_in space (put m) ≡ objects_in space m
  objects_put Project m e = refl
  objects_put Tool m e = cc

  with_objects_put : (space : Space) (objects : List Object) (m : Memory) → space ≡ Project → with_objects space objects (put m) ≡ put (with_objects space objects m)
  with_objects_put Project objects m e = refl
  with_objects_put Tool objects m e = cc

  pub next_put : (space : Space) (m : Memory) → space ≡ Project → next_pointer space (put m) ≡ next_pointer space m
  next_put space m e = ap (λ (os : List Object). record { space = space; number = length os; offset = 0 }) (objects_put space m e)

  pub new_put : (space : Space) (o : Object) (m : Memory) → space ≡ Project → with_new space o (put m) ≡ put (with_new space o m)
  new_put space o m e =
      ap (λ (os : List Object). with_objects space (os ++ o ∷ []) (put m)) (objects_put space m e) ∙ with_objects_put space (objects_in space m ++ o ∷ []) m e

  module _ (at : Pointer) (m : Memory) (e : at.space ≡ Project) where
    object_put : object_of at (put m) ≡ object_of at m
    object_put = ap (λ (os : List Object). slice_get os at.number) (objects_put at.space m e)

    with_put : (o : Object) → with_object at o (put m) ≡ put (with_object at o m)
    with_put o =
        ap (λ (os : List Object). with_objects at.space (slice_set os at.number o) (put m)) (objects_put at.space m e)
        ∙ with_objects_put at.space (slice_set (objects_in at.space m) at.number o) m e

    pub load_put : (t : Scalar) → load_result at t (put m) ≡ load_result at t m
    unfolding load_result
    load_put t =
        ap (λ (o : Option Object). and_then (reached_object at t o) (λ (x : Object). value_in t (slice_range x.cells at.offset (at.offset + size_of t)))) object_put

    stored_put : (t : Scalar) (v : Value) (r : Result Object FaultKind)
        → and_then r (λ (x : Object). Ok (memory_with at t v (put m) x)) ≡ put_in (and_then r (λ (x : Object). Ok (memory_with at t v m x)))
    stored_put t v (Ok x) = ap (λ (n : Memory). Ok n) (with_put _)
    stored_put t v (Err fault) = refl

    pub store_put : (t : Scalar) (v : Value) → store_result at t v (put m) ≡ put_in (store_result at t v m)
    unfolding store_result
    store_put t v =
        ap (λ (o : Option Object). and_then (and_then (reached_object at t o) writable_object) (λ (x : Object). Ok (memory_with at t v (put m) x))) object_put
        ∙ stored_put t v (and_then (reached_object at t (object_of at m)) writable_object)

    pub initialise_put : (t : Scalar) (v : Value) → initialise_result at t v (put m) ≡ put_in (initialise_result at t v m)
    unfolding initialise_result
    initialise_put t v =
        ap (λ (o : Option Object). and_then (reached_object at t o) (λ (x : Object). Ok (memory_with at t v (put m) x))) object_put
        ∙ stored_put t v (reached_object at t (object_of at m))

    pub string_put : string_at at (put m) ≡ string_at at m
    unfolding string_at
    string_put = ap (λ (o : Option Object). and_then (live_object o) (λ (x : Object). text_in (Rattle.std.specs.Prelude.drop at.offset x.cells))) object_put

    ended : (b : Bool) (o : Option Object)
        → (if b then Ok (memory_without at (put m) o) else Err BadFree) ≡ put_in (if b then Ok (memory_without at m o) else Err BadFree)
    ended true (Some o) = ap (λ (n : Memory). Ok n) (with_put _)
    ended true None = refl
    ended false o = refl

    end_put : end_result at (put m) ≡ put_in (end_result at m)
    unfolding end_result
    end_put =
        ap (λ (o : Option Object). if is_begin at o then Ok (memory_without at (put m) o) else Err BadFree) object_put
        ∙ ended (is_begin at (object_of at m)) (object_of at m)

  result_put : (r : Result Memory FaultKind) (m : Memory) → result_or (put_in r) (put m) ≡ put (result_or r m)
  result_put (Ok n) m = refl
  result_put (Err fault) m = refl

  pub without_put : (frame : List (ℕ × Pointer)) (m : Memory) → Own frame → without_objects frame (put m) ≡ put (without_objects frame m)
  without_put [] m own = refl
  without_put (entry ∷ frame) m own =
      ap (λ (r : Result Memory FaultKind). without_objects frame (result_or r (put m))) (end_put entry.1 m own.0)
      ∙ ap (λ (n : Memory). without_objects frame n) (result_put (end_result entry.1 m) m)
      ∙ without_put frame (result_or (end_result entry.1 m) m) own.1
