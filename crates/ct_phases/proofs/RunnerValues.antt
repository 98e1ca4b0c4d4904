-- The values that Project code may have, and what the rules on values give.
use Rattle.std.proofs.Common.{◌≡◌, ℕ, ◌+◌, List, [], ◌∷◌, Bool, true, false, cond, ℤ, Option, Some, None, Result, Ok, Err, refl, ap, subst, ◌∙◌, eqb}
use Rattle.std.specs.Prelude.{if◌then◌else◌, slice_range, option_map, find, pos}
use Rattle.std.proofs.lemmas.Option.{none-some, same_Some}
use Rattle.ct_base.specs.declared.faults.FaultKind.{FaultKind}
use Rattle.ct_base.specs.declared.faults.FaultKind.TheVariants.{DeadObject, Uninitialised, PointerBytes}
use Rattle.ct_base.specs.declared.operators.BinaryOp.{BinaryOp}
use Rattle.ct_ctype.specs.declared.kinds.IntKind.{IntKind}
use Rattle.ct_ctype.specs.Operation.{binary_result}
use Rattle.ct_ctype.specs.Conversion.{converted}
use Rattle.ct_core.specs.declared.values.Space.TheVariants.{Project}
use Rattle.ct_core.specs.declared.values.Pointer.{Pointer}
use Rattle.ct_core.specs.declared.values.Cell.{Cell}
use Rattle.ct_core.specs.declared.values.Value.{Value}
use Rattle.ct_core.specs.declared.values.Value.TheVariants.{Void, Int, Null, Object, Function, Struct}
use Rattle.ct_core.specs.declared.objects.Object.{Object as Stored}
use Rattle.ct_core.specs.declared.objects.Scalar.{Scalar}
use Rattle.ct_core.specs.declared.objects.Scalar.TheVariants as scalar
use Rattle.ct_core.specs.Memory.{Memory, object_of}
use Rattle.std.specs.List.{list_any}
use Rattle.ct_core.specs.Access.{number_in as cells_number, is_nothing, is_part, and_then, size_of, value_in, reached_object, load_result, store_result, initialise_result}
use Rattle.ct_meaning.specs.World.{object_in}
use Rattle.ct_meaning.specs.Rules.{used, number_in, any_number_in, scalar_in, number_value, right_number, binary_value, converted_value, address_in, pointer_in, value_from, with_value, stored_value, first_value}
use Rattle.ct_phases.proofs.ToolMemory.{Own, put, put_in, load_put, store_put, initialise_put}

-- values that Project code may have: of addresses those of objects of its space, and those of the functions of N
abbrev pub Safe : (ℕ → Type 0) → Value → Type 0
Safe N (Object p) = p.space ≡ Project
Safe N (Function number) = N number
Safe N Void = Unit {0}
Safe N Null = Unit {0}
Safe N (Int z) = Unit {0}
Safe N (Struct cells) = Unit {0}

pub record SameValue (N : ℕ → Type 0) (x y : Value) : Type 0 where
  pub same : x ≡ y
  pub safe : Safe N x

abbrev pub SafeResult : (ℕ → Type 0) → Result Value FaultKind → Type 0
SafeResult N (Ok x) = Safe N x
SafeResult N (Err fault) = Unit {0}

abbrev pub SafeStored : (ℕ → Type 0) → Result (Value × Memory) FaultKind → Type 0
SafeStored N (Ok stored) = Safe N stored.0
SafeStored N (Err fault) = Unit {0}

module _ (N : ℕ → Type 0) where
  pub safe_used : (x : Value) → Safe N x → SafeResult N (used x)
  safe_used Void safe = tt
  safe_used Null safe = tt
  safe_used (Int z) safe = tt
  safe_used (Object p) safe = safe
  safe_used (Function number) safe = safe
  safe_used (Struct cells) safe = tt

  found_own : (frame : List (ℕ × Pointer)) → Own frame → (place : ℕ) (p : Pointer) → object_in frame place ≡ Some p → p.space ≡ Project
  found_own [] own place p e = absurd (none-some p e)
  found_own (entry ∷ frame) own place p e = here (eqb entry.0 place) (found_own frame own.1 place p) e
    where
      here : (b : Bool) → (object_in frame place ≡ Some p → p.space ≡ Project)
          → option_map (λ (x : ℕ × Pointer). x.1) (cond b (Some entry) (find (λ (x : ℕ × Pointer). eqb x.0 place) frame)) ≡ Some p → p.space ≡ Project
      here true further e = let P : Pointer → Type 0 = λ q. q.space ≡ Project in subst P (same_Some entry.1 p e) own.0
      here false further e = further e

  safe_pointer : (o : Option Pointer) → ((p : Pointer) → o ≡ Some p → p.space ≡ Project) → SafeResult N (elim o [ Some p ↦ Ok (Object p) | None ↦ Err DeadObject ])
  safe_pointer (Some p) own = own p refl
  safe_pointer None own = tt

  pub safe_address : (frame : List (ℕ × Pointer)) → Own frame → (place : ℕ) → SafeResult N (address_in frame place)
  safe_address frame own place = safe_pointer (object_in frame place) (found_own frame own place)

  safe_number : (r : Result ℤ FaultKind) → SafeResult N (number_value r)
  safe_number (Ok z) = tt
  safe_number (Err fault) = tt

  pub safe_converted : (k : IntKind) (x : Value) → SafeResult N (converted_value k x)
  unfolding converted_value
  safe_converted k x = at (any_number_in x)
    where
      at : (r : Result ℤ FaultKind) → SafeResult N (and_then r (λ z. Ok (Int (converted z k))))
      at (Ok z) = tt
      at (Err fault) = tt

  pub safe_binary : (op : BinaryOp) (k : IntKind) (x y : Value) → SafeResult N (binary_value op k x y)
  unfolding binary_value
  safe_binary op k x y = left (number_in k x)
    where
      right : (a : ℤ) (r : Result ℤ FaultKind) → SafeResult N (and_then r (λ b. number_value (binary_result op k a b)))
      right a (Ok b) = safe_number (binary_result op k a b)
      right a (Err fault) = tt

      left : (r : Result ℤ FaultKind) → SafeResult N (and_then r (λ a. and_then (right_number op k y) (λ b. number_value (binary_result op k a b))))
      left (Ok a) = right a (right_number op k y)
      left (Err fault) = tt

  safe_if : (a b : Bool) (z : ℤ) → SafeResult N (if a then Err Uninitialised else (if b then Err PointerBytes else Ok (Int z)))
  safe_if true b z = tt
  safe_if false true z = tt
  safe_if false false z = tt

  safe_cells : (t : Scalar) (cells : List Cell) → SafeResult N (value_in t cells)
  safe_cells (scalar.Int k) cells = safe_if (list_any is_nothing cells) (list_any is_part cells) (converted (pos (cells_number cells)) k)

  pub safe_loaded : (a : Value) (t : Scalar) (m : Memory) → SafeResult N (value_from a t m)
  unfolding load_result
  safe_loaded Void t m = tt
  safe_loaded Null t m = tt
  safe_loaded (Int z) t m = tt
  safe_loaded (Object p) t m = at (reached_object p t (object_of p m))
    where
      at : (r : Result Stored FaultKind) → SafeResult N (and_then r (λ object. value_in t (slice_range object.cells p.offset (p.offset + size_of t))))
      at (Ok object) = safe_cells t _
      at (Err fault) = tt
  safe_loaded (Function number) t m = tt
  safe_loaded (Struct cells) t m = tt

  -- what is stored by such a rule is a number
  safe_scalar : (t : Scalar) (x : Value) → SafeResult N (scalar_in t x)
  safe_scalar (scalar.Int k) x = at (number_in k x)
    where
      at : (r : Result ℤ FaultKind) → SafeResult N (and_then r (λ z. Ok (Int z)))
      at (Ok z) = tt
      at (Err fault) = tt

  safe_with : (x : Value) (r : Result Memory FaultKind) → Safe N x → SafeStored N (with_value x r)
  safe_with x (Ok m) safe = safe
  safe_with x (Err fault) safe = tt

  safe_kept : (f : Value → Result Memory FaultKind) (r : Result Value FaultKind) → SafeResult N r → SafeStored N (and_then r (λ x. with_value x (f x)))
  safe_kept f (Ok x) safe = safe_with x (f x) safe
  safe_kept f (Err fault) safe = tt

  safe_at : (f : Pointer → Result (Value × Memory) FaultKind) (r : Result Pointer FaultKind) → ((p : Pointer) → SafeStored N (f p)) → SafeStored N (and_then r f)
  safe_at f (Ok p) all = all p
  safe_at f (Err fault) all = tt

  pub safe_stored : (a : Value) (t : Scalar) (x : Value) (m : Memory) → SafeStored N (stored_value a t x m)
  safe_stored a t x m = safe_at _ (pointer_in a) (λ p. safe_kept (λ y. store_result p t y m) (scalar_in t x) (safe_scalar t x))

  pub safe_first : (a : Value) (t : Scalar) (x : Value) (m : Memory) → SafeStored N (first_value a t x m)
  safe_first a t x m = safe_at _ (pointer_in a) (λ p. safe_kept (λ y. initialise_result p t y m) (scalar_in t x) (safe_scalar t x))

  -- ---- with the objects of the Tool space

  module _ (T : List Stored) where
    abbrev pub put_stored : Result (Value × Memory) FaultKind → Result (Value × Memory) FaultKind
    put_stored (Ok stored) = Ok (stored.0, put T stored.1)
    put_stored (Err fault) = Err fault

    pub from_put : (a : Value) → Safe N a → (t : Scalar) (m : Memory) → value_from a t (put T m) ≡ value_from a t m
    from_put Void safe t m = refl
    from_put Null safe t m = refl
    from_put (Int z) safe t m = refl
    from_put (Object p) safe t m = load_put T p m safe t
    from_put (Function number) safe t m = refl
    from_put (Struct cells) safe t m = refl

    with_put : (x : Value) (r : Result Memory FaultKind) → with_value x (put_in T r) ≡ put_stored (with_value x r)
    with_put x (Ok m) = refl
    with_put x (Err fault) = refl

    kept_put : (f g : Value → Result Memory FaultKind) → ((x : Value) → f x ≡ put_in T (g x)) → (r : Result Value FaultKind)
        → and_then r (λ x. with_value x (f x)) ≡ put_stored (and_then r (λ x. with_value x (g x)))
    kept_put f g same (Ok x) = ap (λ (r : Result Memory FaultKind). with_value x r) (same x) ∙ with_put x (g x)
    kept_put f g same (Err fault) = refl

    pub stored_put : (a : Value) → Safe N a → (t : Scalar) (x : Value) (m : Memory) → stored_value a t x (put T m) ≡ put_stored (stored_value a t x m)
    stored_put Void safe t x m = refl
    stored_put Null safe t x m = refl
    stored_put (Int z) safe t x m = refl
    stored_put (Object p) safe t x m = kept_put (λ y. store_result p t y (put T m)) (λ y. store_result p t y m) (λ y. store_put T p m safe t y) (scalar_in t x)
    stored_put (Function number) safe t x m = refl
    stored_put (Struct cells) safe t x m = refl

    pub first_put : (a : Value) → Safe N a → (t : Scalar) (x : Value) (m : Memory) → first_value a t x (put T m) ≡ put_stored (first_value a t x m)
    first_put Void safe t x m = refl
    first_put Null safe t x m = refl
    first_put (Int z) safe t x m = refl
    first_put (Object p) safe t x m = kept_put (λ y. initialise_result p t y (put T m)) (λ y. initialise_result p t y m) (λ y. initialise_put T p m safe t y) (scalar_in t x)
    first_put (Function number) safe t x m = refl
    first_put (Struct cells) safe t x m = refl
