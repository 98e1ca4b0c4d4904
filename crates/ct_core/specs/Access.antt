-- Access to objects. Each gives its answer, or the first fault of this order: DeadObject, OutOfBounds, Misaligned,
-- WriteConst, Uninitialised, PointerBytes. The rules are this project's own, after C11 6.2.4p2, 6.2.6.1, 6.5p7 and 6.7.3p6.
use Rattle.std.specs.Prelude.{ℕ, zero, suc, ◌+◌, ◌*◌, ◌/◌, ◌%◌, ◌==◌, nat_lt, Bool, true, false, ◌&&◌, if◌then◌else◌, pos, List, [], ◌∷◌, ◌++◌, length, map, take, drop, slice_range, replicate, Option, Some, None, Result, Ok, Err}
use Rattle.std.specs.List.{list_any}
use Rattle.ct_base.specs.declared.faults.FaultKind.{FaultKind}
use Rattle.ct_base.specs.declared.faults.FaultKind.TheVariants.{DeadObject, OutOfBounds, Misaligned, WriteConst, Uninitialised, PointerBytes, BadFree}
use Rattle.ct_ctype.specs.Ranges.{InRange, low_bits}
use Rattle.ct_ctype.specs.Conversion.{converted}
use Rattle.ct_ctype.specs.Layout.{bytes_of}
use Rattle.ct_core.specs.declared.values.Pointer.{Pointer}
use Rattle.ct_core.specs.declared.values.Cell.{Cell}
use Rattle.ct_core.specs.declared.values.Cell.TheVariants.{Byte, Nothing, Part}
use Rattle.ct_core.specs.declared.values.Value.{Value}
use Rattle.ct_core.specs.declared.values.Value.TheVariants as value
use Rattle.ct_core.specs.declared.objects.Object.{Object}
use Rattle.ct_core.specs.declared.objects.Scalar.{Scalar}
use Rattle.ct_core.specs.declared.objects.Scalar.TheVariants.{Int}
use Rattle.ct_core.specs.Memory.{Memory, object_of, with_object, ended_object}

-- goes on with an answer, and stops at a fault
abbrev pub and_then : {A B : Type 0} → Result A FaultKind → (A → Result B FaultKind) → Result B FaultKind
and_then (Ok a) next = next a
and_then (Err fault) next = Err fault

-- ---- values in cells: bytes with the least first, numbers in two's complement

-- a scalar takes so many bytes, and its offset is a multiple of as many
abbrev pub size_of : Scalar → ℕ
size_of (Int k) = bytes_of k

-- a value that an object of this type can hold
abbrev pub IsOf : Scalar → Value → Type 0
IsOf (Int k) (value.Int z) = InRange k z
IsOf t _ = ⊥

-- the low bytes of a number, the least first
abbrev pub bytes_in : ℕ → ℕ → List ℕ
bytes_in zero n = []
bytes_in (suc count) n = n % 256 ∷ bytes_in count (n / 256)

-- the cells of a value
abbrev pub cells_of : Scalar → Value → List Cell
cells_of (Int k) (value.Int z) = map Byte (bytes_in (bytes_of k) (low_bits k z))
cells_of t _ = replicate (size_of t) Nothing

abbrev pub is_nothing : Cell → Bool
is_nothing (Byte b) = false
is_nothing Nothing = true
is_nothing (Part address k) = false

abbrev pub is_part : Cell → Bool
is_part (Byte b) = false
is_part Nothing = false
is_part (Part address k) = true

abbrev pub byte_of : Cell → ℕ
byte_of (Byte b) = b
byte_of Nothing = 0
byte_of (Part address k) = 0

-- the number that bytes stand for
abbrev pub number_in : List Cell → ℕ
number_in [] = 0
number_in (c ∷ cs) = byte_of c + 256 * number_in cs

-- the value that cells stand for. A `_Bool` is 0 where its byte is 0, and else 1
abbrev pub value_in : Scalar → List Cell → Result Value FaultKind
value_in (Int k) cells =
    if list_any is_nothing cells then Err Uninitialised
    else (if list_any is_part cells then Err PointerBytes else Ok (value.Int (converted (pos (number_in cells)) k)))

-- the cells with these in place of those from an offset on
abbrev pub cells_with : ℕ → List Cell → List Cell → List Cell
cells_with offset new cells = take offset cells ++ new ++ drop (offset + length new) cells

-- ---- access

-- the object, where it is live
abbrev pub live_object : Option Object → Result Object FaultKind
live_object None = Err DeadObject
live_object (Some object) = if object.alive then Ok object else Err DeadObject

-- the object, where so many bytes from the offset on lie in it
abbrev pub object_with : ℕ → ℕ → Object → Result Object FaultKind
object_with offset bytes object = if nat_lt (length object.cells) (offset + bytes) then Err OutOfBounds else Ok object

-- the object, where the offset is a multiple of this
abbrev pub aligned_object : ℕ → ℕ → Object → Result Object FaultKind
aligned_object offset alignment object = if offset % alignment == 0 then Ok object else Err Misaligned

-- the object that an access of a scalar reaches
abbrev pub reached_object : Pointer → Scalar → Option Object → Result Object FaultKind
reached_object at t object = and_then (and_then (live_object object) (object_with at.offset (size_of t))) (aligned_object at.offset (size_of t))

-- what a load gives
unfoldable pub load_result : Pointer → Scalar → Memory → Result Value FaultKind
load_result at t m = and_then (reached_object at t (object_of at m)) (λ object. value_in t (slice_range object.cells at.offset (at.offset + size_of t)))

-- the object, where it may be stored to
abbrev pub writable_object : Object → Result Object FaultKind
writable_object object = if object.constant then Err WriteConst else Ok object

-- the memory with a value stored at a place of an object
abbrev pub memory_with : Pointer → Scalar → Value → Memory → Object → Memory
memory_with at t v m object = with_object at (record object { cells = cells_with at.offset (cells_of t v) object.cells }) m

-- what a store leaves (6.5.16.1)
unfoldable pub store_result : Pointer → Scalar → Value → Memory → Result Memory FaultKind
store_result at t v m = and_then (and_then (reached_object at t (object_of at m)) writable_object) (λ object. Ok (memory_with at t v m object))

-- what the initialisation of an object leaves, `const` or not (6.7.9)
unfoldable pub initialise_result : Pointer → Scalar → Value → Memory → Result Memory FaultKind
initialise_result at t v m = and_then (reached_object at t (object_of at m)) (λ object. Ok (memory_with at t v m object))

-- whether a pointer is to the begin of a live object
abbrev pub is_begin : Pointer → Option Object → Bool
is_begin at None = false
is_begin at (Some object) = object.alive && at.offset == 0

abbrev pub memory_without : Pointer → Memory → Option Object → Memory
memory_without at m None = m
memory_without at m (Some object) = with_object at (ended_object object) m

-- what the end of an object leaves. A pointer that is not to the begin of a live object is BadFree
unfoldable pub end_result : Pointer → Memory → Result Memory FaultKind
end_result at m = if is_begin at (object_of at m) then Ok (memory_without at m (object_of at m)) else Err BadFree

-- a string: the bytes up to the first zero byte
abbrev pub text_in : List Cell → Result (List ℕ) FaultKind
text_in [] = Err OutOfBounds
text_in (Nothing ∷ cells) = Err Uninitialised
text_in (Part address k ∷ cells) = Err PointerBytes
text_in (Byte zero ∷ cells) = Ok []
text_in (Byte (suc b) ∷ cells) = and_then (text_in cells) (λ bytes. Ok (suc b ∷ bytes))

-- the string at a place
unfoldable pub string_at : Pointer → Memory → Result (List ℕ) FaultKind
string_at at m = and_then (live_object (object_of at m)) (λ object. text_in (drop at.offset object.cells))
