-- A string, byte by byte.
use Rattle.std.proofs.Common.{◌≡◌, ℕ, zero, suc, ◌+◌, ◌-◌, ◌==◌, ◌<◌, ◌≤◌, Bool, true, false, nat_lt, List, [], ◌∷◌, ◌++◌, length, take, drop, get_or, Option, Some, None, Result, Ok, Err, refl, sym, ap, ◌∙◌, arith, add-one, append_assoc, ltb-true, ne_eqb}
use Rattle.std.specs.Prelude.{if◌then◌else◌, slice_get, slice_range, option_and_then}
use Rattle.std.proofs.Math.ListN.{drop_of_length-le}
use Rattle.std.proofs.Math.Seq.{drop-cons}
use Rattle.std.proofs.Math.Nat.{mod-one}
use Rattle.std.proofs.lemmas.Bool.{ltb-false, le-ltb, lt-ltb}
use Rattle.std.proofs.lemmas.Option.{slice_get_within, get_or_from_slice_get, slice_get-get_or}
use Rattle.ct_base.specs.declared.faults.FaultKind.{FaultKind}
use Rattle.ct_base.specs.declared.faults.FaultKind.TheVariants.{DeadObject, OutOfBounds}
use Rattle.ct_ctype.specs.declared.kinds.IntKind.TheVariants.{UnsignedChar}
use Rattle.ct_core.specs.declared.values.Cell.{Cell}
use Rattle.ct_core.specs.declared.values.Cell.TheVariants.{Byte, Nothing, Part}
use Rattle.ct_core.specs.declared.values.Pointer.{Pointer}
use Rattle.ct_core.specs.declared.values.Value.{Value}
use Rattle.ct_core.specs.declared.objects.Object.{Object}
use Rattle.ct_core.specs.declared.objects.Scalar.TheVariants.{Int}
use Rattle.ct_core.specs.Memory.{Memory, object_of, cell_at}
use Rattle.ct_core.specs.Access.{and_then, byte_of, value_in, live_object, object_with, aligned_object, load_result, text_in, string_at}

-- what a load of a byte gives, and the string there
abbrev byte_read : ℕ → Object → Result Value FaultKind
byte_read n object = value_in (Int UnsignedChar) (slice_range object.cells n (n + 1))

abbrev reach : ℕ → Object → Result Object FaultKind
reach n object = and_then (object_with n 1 object) (aligned_object n 1)

abbrev read_from : ℕ → Result Object FaultKind → Result Value FaultKind
read_from n object = and_then (and_then (and_then object (object_with n 1)) (aligned_object n 1)) (byte_read n)

abbrev text_from : ℕ → Result Object FaultKind → Result (List ℕ) FaultKind
text_from n object = and_then object (λ (object : Object). text_in (drop n object.cells))

-- a string that begins with this byte
abbrev text_after : ℕ → Result (List ℕ) FaultKind → Result (List ℕ) FaultKind
text_after b rest = if b == 0 then Ok [] else and_then rest (λ bytes. Ok (b ∷ bytes))

-- ---- one cell

one_fault : (c : Cell) (rest : List Cell) (fault : FaultKind) → value_in (Int UnsignedChar) (c ∷ []) ≡ Err fault → text_in (c ∷ rest) ≡ Err fault
one_fault (Byte b) rest fault h = cc
one_fault Nothing rest fault h = cc
one_fault (Part address k) rest fault h = cc

one_byte : (c : Cell) (rest : List Cell) (v : Value) → value_in (Int UnsignedChar) (c ∷ []) ≡ Ok v → text_in (c ∷ rest) ≡ text_after (byte_of c) (text_in rest)
one_byte (Byte zero) rest v h = refl
one_byte (Byte (suc b)) rest v h = let more : (suc b == 0) ≡ false = ne_eqb (suc b) 0 (λ e. absurd (omega arith)) in rw more refl
one_byte Nothing rest v h = cc
one_byte (Part address k) rest v h = cc

-- ---- the cells from a place on

cell_there : (cells : List Cell) (n : ℕ) → n < length cells → drop n cells ≡ get_or cells n Nothing ∷ drop (n + 1) cells
cell_there cells n inside = rw add-one (drop-cons cells n Nothing inside)

range_there : (cells : List Cell) (n : ℕ) → n < length cells → slice_range cells n (n + 1) ≡ get_or cells n Nothing ∷ []
range_there cells n inside =
    let one : n + 1 - n ≡ suc zero = omega arith in
    ap (λ (k : ℕ). take k (drop n cells)) one ∙ ap (take (suc zero)) (cell_there cells n inside)

test_of : (b : Bool) (P : Bool → Type 0) → ((b ≡ true) → P true) → ((b ≡ false) → P false) → P b
test_of true P holds fails = holds refl
test_of false P holds fails = fails refl

reached : (n : ℕ) (object : Object) → n < length object.cells → reach n object ≡ Ok object
reached n object inside =
    let room : nat_lt (length object.cells) (n + 1) ≡ false = le-ltb (length object.cells) (n + 1) (omega arith) in
    rw (room, mod-one) refl

out_of : (n : ℕ) (object : Object) → length object.cells ≤ n → reach n object ≡ Err OutOfBounds
out_of n object past =
    let short : nat_lt (length object.cells) (n + 1) ≡ true = lt-ltb (length object.cells) (n + 1) (omega arith) in
    rw short refl

other_type : (a b : FaultKind) → ◌≡◌ {A = Result Value FaultKind} (Err a) (Err b) → ◌≡◌ {A = Result (List ℕ) FaultKind} (Err a) (Err b)
other_type a b h = cc

live_fault : (n : ℕ) (object : Object) (fault : FaultKind) → and_then (reach n object) (byte_read n) ≡ Err fault → text_in (drop n object.cells) ≡ Err fault
live_fault n object fault h =
    test_of (nat_lt n (length object.cells)) (λ b. text_in (drop n object.cells) ≡ Err fault)
    (λ within.
    let inside : n < length object.cells = ltb-true n (length object.cells) within in
    let read = rw (reached n object inside) at h in
    ap text_in (cell_there object.cells n inside)
    ∙ one_fault (get_or object.cells n Nothing) (drop (n + 1) object.cells) fault (rw (range_there object.cells n inside) at read))
    (λ beyond.
    let past : length object.cells ≤ n = ltb-false n (length object.cells) beyond in
    let read = rw (out_of n object past) at h in
    ap text_in (drop_of_length-le object.cells {i = n} past) ∙ other_type OutOfBounds fault read)

live_byte : (n : ℕ) (object : Object) (v : Value) (c : Cell) → and_then (reach n object) (byte_read n) ≡ Ok v → slice_get object.cells n ≡ Some c
    → text_in (drop n object.cells) ≡ text_after (byte_of c) (text_in (drop (n + 1) object.cells))
live_byte n object v c h there =
    let inside : n < length object.cells = slice_get_within object.cells n c there in
    let cell : get_or object.cells n Nothing ≡ c = get_or_from_slice_get object.cells n c Nothing there in
    let read = rw (reached n object inside, range_there object.cells n inside, cell) at h in
    ap text_in (cell_there object.cells n inside ∙ ap (λ (x : Cell). x ∷ drop (n + 1) object.cells) cell)
    ∙ one_byte c (drop (n + 1) object.cells) v read

live_none : (n : ℕ) (object : Object) → slice_get object.cells n ≡ None → text_in (drop n object.cells) ≡ Err OutOfBounds
live_none n object none =
    test_of (nat_lt n (length object.cells)) (λ b. text_in (drop n object.cells) ≡ Err OutOfBounds)
    (λ within. let some = slice_get-get_or object.cells n Nothing (ltb-true n (length object.cells) within) in cc)
    (λ beyond. ap text_in (drop_of_length-le object.cells {i = n} (ltb-false n (length object.cells) beyond)))

-- ---- live objects and others

either : (object : Object) (P : Result Object FaultKind → Type 0) → P (Ok object) → P (Err DeadObject) → P (live_object (Some object))
either object P live dead = elim object.alive as (λ b. P (if b then Ok object else Err DeadObject)) [ true ↦ live | false ↦ dead ]

fault_at : (n : ℕ) (o : Option Object) (fault : FaultKind) → read_from n (live_object o) ≡ Err fault → text_from n (live_object o) ≡ Err fault
fault_at n None fault h = other_type DeadObject fault h
fault_at n (Some object) fault h =
    either object (λ r. read_from n r ≡ Err fault → text_from n r ≡ Err fault) (λ read. live_fault n object fault read) (λ read. other_type DeadObject fault read) h

byte_at : (n : ℕ) (o : Option Object) (v : Value) (c : Cell) → read_from n (live_object o) ≡ Ok v → option_and_then (λ (object : Object). slice_get object.cells n) o ≡ Some c
    → text_from n (live_object o) ≡ text_after (byte_of c) (text_from (n + 1) (live_object o))
byte_at n None v c h there = cc
byte_at n (Some object) v c h there =
    either object (λ r. read_from n r ≡ Ok v → text_from n r ≡ text_after (byte_of c) (text_from (n + 1) r))
    (λ read. live_byte n object v c read there) (λ read. cc) h

none_at : (n : ℕ) (o : Option Object) (v : Value) → read_from n (live_object o) ≡ Ok v → option_and_then (λ (object : Object). slice_get object.cells n) o ≡ None
    → text_from n (live_object o) ≡ Err OutOfBounds
none_at n None v h there = cc
none_at n (Some object) v h there =
    either object (λ r. read_from n r ≡ Ok v → text_from n r ≡ Err OutOfBounds)
    (λ read. live_none n object there) (λ read. cc) h

-- ---- the first byte of a string

pub string_fault : (at : Pointer) (m : Memory) (fault : FaultKind) → load_result at (Int UnsignedChar) m ≡ Err fault → string_at at m ≡ Err fault
unfolding load_result string_at
string_fault at m fault h = fault_at at.offset (object_of at m) fault h

pub string_byte : (at : Pointer) (m : Memory) (v : Value) (c : Cell) → load_result at (Int UnsignedChar) m ≡ Ok v → cell_at at m ≡ Some c
    → string_at at m ≡ (if byte_of c == 0 then Ok [] else and_then (string_at (record at { offset = at.offset + 1 }) m) (λ rest. Ok (byte_of c ∷ rest)))
unfolding load_result string_at
string_byte at m v c h there = byte_at at.offset (object_of at m) v c h there

pub string_none : (at : Pointer) (m : Memory) (v : Value) → load_result at (Int UnsignedChar) m ≡ Ok v → cell_at at m ≡ None → string_at at m ≡ Err OutOfBounds
unfolding load_result string_at
string_none at m v h there = none_at at.offset (object_of at m) v h there

-- ---- what was read so far, and the rest

-- a string of which these bytes were read
abbrev pub string_onto : List ℕ → Result (List ℕ) FaultKind → Result (List ℕ) FaultKind
string_onto read rest = and_then rest (λ bytes. Ok (read ++ bytes))

pub onto_none : (rest : Result (List ℕ) FaultKind) → string_onto [] rest ≡ rest
onto_none (Ok bytes) = refl
onto_none (Err fault) = refl

pub onto_more : (read : List ℕ) (b : ℕ) (rest : Result (List ℕ) FaultKind) → string_onto read (and_then rest (λ bytes. Ok (b ∷ bytes))) ≡ string_onto (read ++ b ∷ []) rest
onto_more read b (Ok bytes) = ap Ok (sym (append_assoc read (b ∷ []) bytes))
onto_more read b (Err fault) = refl
