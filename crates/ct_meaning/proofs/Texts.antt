-- A string literal as it is stored, one byte after another.
use Rattle.std.proofs.Common.{◌≡◌, ℕ, zero, suc, ◌+◌, ◌-◌, ◌%◌, ◌<◌, Bool, true, false, pos, List, [], ◌∷◌, ◌++◌, length, map, take, drop, replicate, get_or, refl, sym, ap, ◌∙◌, arith, append_assoc, append-nil, nat_lt, Option, Some, Result, Ok, Err}
use Rattle.std.specs.Prelude.{slice_get, slice_set, MatchResult, if◌then◌else◌, ◌==◌}
use Rattle.std.proofs.lemmas.Bool.Decides.{nat_tests}
use Rattle.std.proofs.lemmas.List.{take_more, take_all, length-map, length-take-le, length-append, map-append}
use Rattle.ct_base.specs.declared.faults.FaultKind.{FaultKind}
use Rattle.ct_base.specs.declared.faults.FaultKind.TheVariants.{OutOfBounds, Misaligned}
use Rattle.ct_ctype.specs.declared.kinds.IntKind.TheVariants.{UnsignedChar}
use Rattle.ct_core.specs.declared.values.Space.{Space}
use Rattle.ct_core.specs.declared.values.Space.TheVariants.{Project, Tool}
use Rattle.ct_core.specs.declared.values.Pointer.{Pointer}
use Rattle.ct_core.specs.declared.values.Value.TheVariants as value
use Rattle.ct_core.specs.declared.values.Cell.{Cell}
use Rattle.ct_core.specs.declared.values.Cell.TheVariants.{Byte, Nothing}
use Rattle.ct_core.specs.declared.objects.Object.{Object}
use Rattle.ct_core.specs.declared.objects.Kind.TheVariants.{Text}
use Rattle.ct_core.specs.declared.objects.Scalar.TheVariants.{Int}
use Rattle.ct_core.specs.Memory.{Memory, objects_in, object_of, with_object, with_new}
use Rattle.ct_core.specs.Access.{and_then, cells_of, cells_with, aligned_object, reached_object, memory_with, initialise_result}
use Rattle.ct_meaning.specs.Program.{text_object}

get_end : {A : Type 0} (xs : List A) (x : A) → slice_get (xs ++ x ∷ []) (length xs) ≡ Some x
get_end [] x = refl
get_end (y ∷ xs) x = get_end xs x

set_end : {A : Type 0} (xs : List A) (x y : A) → slice_set (xs ++ x ∷ []) (length xs) y ≡ xs ++ y ∷ []
set_end [] x y = refl
set_end (z ∷ xs) x y = ap (λ (l : List _). z ∷ l) (set_end xs x y)

cells_end : (front rest : List Cell) (c d : Cell) → cells_with (length front) (c ∷ []) (front ++ d ∷ rest) ≡ front ++ c ∷ rest
cells_end [] rest c d = refl
cells_end (x ∷ front) rest c d =
    let on : suc (length front) + 1 ≡ suc (length front + 1) = omega arith in
    ap (λ (n : ℕ). take (suc (length front)) (x ∷ (front ++ d ∷ rest)) ++ c ∷ [] ++ drop n (x ∷ (front ++ d ∷ rest))) on
    ∙ ap (λ (l : List Cell). x ∷ l) (cells_end front rest c d)

-- the object of a string literal that holds these cells
abbrev pub held : ℕ → List Cell → Object
held place cells = record { kind = Text; name = place; cells = cells; alive = true; constant = true }

object_new : (space : Space) (o : Object) (m : Memory) (offset : ℕ) → object_of (record { space = space; number = length (objects_in space m); offset = offset }) (with_new space o m) ≡ Some o
object_new Project o m offset = get_end m.project o
object_new Tool o m offset = get_end m.tool o

object_put : (space : Space) (o p : Object) (m : Memory) (offset : ℕ) → with_object (record { space = space; number = length (objects_in space m); offset = offset }) p (with_new space o m) ≡ with_new space p m
object_put Project o p m offset = ap (λ (objects : List Object). record m { project = objects }) (set_end m.project o p)
object_put Tool o p m offset = ap (λ (objects : List Object). record m { tool = objects }) (set_end m.tool o p)

after_all : (long offset : ℕ) → offset < long → nat_lt long (offset + 1) ≡ false
after_all long offset lt = grind (arith, nat_tests)

abbrev even_object : Bool → Object → Result Object FaultKind
even_object even object = if even then Ok object else Err Misaligned

reached : (space : Space) (number offset place : ℕ) (cells : List Cell) → offset < length cells
    → reached_object (record { space = space; number = number; offset = offset }) (Int UnsignedChar) (Some (held place cells)) ≡ Ok (held place cells)
reached space number offset place cells lt =
    let even : offset % 1 ≡ 0 = omega arith in
    ap (λ (b : Bool). and_then {A = Object} (if b then Err OutOfBounds else Ok (held place cells)) (aligned_object offset 1)) (after_all (length cells) offset lt)
    ∙ ap (λ (n : ℕ). even_object (n == 0) (held place cells)) even

byte_cells : (b : ℕ) → b < 256 → cells_of (Int UnsignedChar) (value.Int (pos b)) ≡ Byte b ∷ []
byte_cells b lt =
    let once : b % 256 ≡ b = omega arith in
    let twice : b % 256 % 256 ≡ b = omega arith in
    ap (λ (n : ℕ). Byte n ∷ []) twice

put_byte : (space : Space) (place b : ℕ) (front rest : List Cell) (m : Memory) → b < 256
    → initialise_result (record { space = space; number = length (objects_in space m); offset = length front }) (Int UnsignedChar) (value.Int (pos b)) (with_new space (held place (front ++ Nothing ∷ rest)) m)
    ≡ Ok (with_new space (held place (front ++ Byte b ∷ rest)) m)
unfolding initialise_result
put_byte space place b front rest m small =
    let at : Pointer = record { space = space; number = length (objects_in space m); offset = length front } in
    let before : Memory = with_new space (held place (front ++ Nothing ∷ rest)) m in
    let inside : length front < length (front ++ Nothing ∷ rest) = omega (arith, length-append front (Nothing ∷ rest)) in
    let cells : cells_with (length front) (cells_of (Int UnsignedChar) (value.Int (pos b))) (front ++ Nothing ∷ rest) ≡ front ++ Byte b ∷ rest = ap (λ (new : List Cell). cells_with (length front) new (front ++ Nothing ∷ rest)) (byte_cells b small) ∙ cells_end front rest (Byte b) Nothing in
    ap (λ (o : Option Object). and_then (reached_object at (Int UnsignedChar) o) (λ object. Ok (memory_with at (Int UnsignedChar) (value.Int (pos b)) before object))) (object_new space (held place (front ++ Nothing ∷ rest)) m (length front))
    ∙ ap (λ (r : Result Object FaultKind). and_then r (λ object. Ok (memory_with at (Int UnsignedChar) (value.Int (pos b)) before object))) (reached space (length (objects_in space m)) (length front) place (front ++ Nothing ∷ rest) inside)
    ∙ ap (λ (cs : List Cell). Ok (with_object at (held place cs) before)) cells
    ∙ ap (λ (after : Memory). Ok after) (object_put space (held place (front ++ Nothing ∷ rest)) (held place (front ++ Byte b ∷ rest)) m (length front))

-- the first bytes are stored
abbrev pub stored_cells : List ℕ → ℕ → List Cell
stored_cells bytes i = map Byte (take i (bytes ++ 0 ∷ [])) ++ replicate (length bytes + 1 - i) Nothing

-- the object of a string literal of which the first bytes are stored
abbrev pub stored_object : ℕ → List ℕ → ℕ → Object
stored_object place bytes i = held place (stored_cells bytes i)

pub stored_none : (place : ℕ) (bytes : List ℕ) → held place (replicate (length bytes + 1) Nothing) ≡ stored_object place bytes 0
stored_none place bytes =
    let all : length bytes + 1 ≡ length bytes + 1 - 0 = omega arith in
    ap (λ (n : ℕ). held place (replicate n Nothing)) all

pub stored_all : (place : ℕ) (bytes : List ℕ) → stored_object place bytes (length bytes + 1) ≡ text_object place bytes
stored_all place bytes =
    let none : length bytes + 1 - (length bytes + 1) ≡ 0 = omega arith in
    let whole : take (length bytes + 1) (bytes ++ 0 ∷ []) ≡ bytes ++ 0 ∷ [] = take_all (length bytes + 1) (bytes ++ 0 ∷ []) (omega (arith, length-append bytes (0 ∷ []))) in
    ap (λ (n : ℕ). held place (map Byte (take (length bytes + 1) (bytes ++ 0 ∷ [])) ++ replicate n Nothing)) none
    ∙ ap (λ (bs : List ℕ). held place (map Byte bs ++ [])) whole
    ∙ ap (λ (cs : List Cell). held place cs) (append-nil (map Byte (bytes ++ 0 ∷ [])))

zero_end : (bytes : List ℕ) (i : ℕ) → get_or (bytes ++ 0 ∷ []) i 0 ≡ get_or bytes i 0
zero_end [] zero = refl
zero_end [] (suc i) = refl
zero_end (b ∷ bytes) zero = refl
zero_end (b ∷ bytes) (suc i) = zero_end bytes i

-- one byte more
pub stored_more : (space : Space) (place i : ℕ) (bytes : List ℕ) (m : Memory) → i < length bytes + 1 → get_or bytes i 0 < 256
    → initialise_result (record { space = space; number = length (objects_in space m); offset = i }) (Int UnsignedChar) (value.Int (pos (get_or bytes i 0))) (with_new space (stored_object place bytes i) m)
    ≡ Ok (with_new space (stored_object place bytes (i + 1)) m)
stored_more space place i bytes m lt small =
    let all : List ℕ = bytes ++ 0 ∷ [] in
    let b : ℕ = get_or bytes i 0 in
    let front : List Cell = map Byte (take i all) in
    let rest : List Cell = replicate (length bytes + 1 - (i + 1)) Nothing in
    let within : i < length (bytes ++ 0 ∷ []) = omega (arith, length-append bytes (0 ∷ [])) in
    let long : length (map Byte (take i (bytes ++ 0 ∷ []))) ≡ i = length-map (take i all) (λ x. Byte x) ∙ length-take-le i all (omega arith) in
    let left : length bytes + 1 - i ≡ suc (length bytes + 1 - (i + 1)) = omega arith in
    let taken : take (i + 1) (bytes ++ 0 ∷ []) ≡ take i (bytes ++ 0 ∷ []) ++ get_or bytes i 0 ∷ [] = take_more all i 0 within ∙ ap (λ (x : ℕ). take i all ++ x ∷ []) (zero_end bytes i) in
    let before : stored_cells bytes i ≡ front ++ Nothing ∷ rest = ap (λ (n : ℕ). front ++ replicate n Nothing) left in
    let after : front ++ Byte b ∷ rest ≡ stored_cells bytes (i + 1) = sym (append_assoc front (Byte b ∷ []) rest) ∙ ap (λ (cs : List Cell). cs ++ rest) (sym (map-append (λ x. Byte x) (take i all) (b ∷ []))) ∙ ap (λ (bs : List ℕ). map Byte bs ++ rest) (sym taken) in
    ap (λ (n : ℕ). initialise_result (record { space = space; number = length (objects_in space m); offset = n }) (Int UnsignedChar) (value.Int (pos b)) (with_new space (held place (stored_cells bytes i)) m)) (sym long)
    ∙ ap (λ (cs : List Cell). initialise_result (record { space = space; number = length (objects_in space m); offset = length front }) (Int UnsignedChar) (value.Int (pos b)) (with_new space (held place cs) m)) before
    ∙ put_byte space place b front rest m small
    ∙ ap (λ (cs : List Cell). Ok (with_new space (held place cs) m)) after

-- what a call leaves that cannot fail
pub left_by : (r : Result (Unit {0}) FaultKind) (given : Result Memory FaultKind) (old new m : Memory) → MatchResult r (λ _. given ≡ Ok new) (λ fault. (given ≡ Err fault) × (new ≡ old)) → given ≡ Ok m → new ≡ m
left_by (Ok u) given old new m h e = cc
left_by (Err fault) given old new m h e = let no : given ≡ Err fault = h.0 in absurd (cc)
