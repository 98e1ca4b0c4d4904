-- Cells one after another: in the order in which they are read and written.
use Rattle.std.proofs.Common.{◌≡◌, ℕ, zero, suc, ◌+◌, ◌-◌, ◌*◌, ◌/◌, ◌%◌, ◌^◌, ◌<◌, ◌≤◌, List, [], ◌∷◌, ◌++◌, length, map, take, drop, refl, sym, ap, ◌∙◌, arith, append_assoc, append-nil, add-zero, add-one, add-suc, set, Fits, w64, lit≤, Fits-lit}
use Rattle.std.proofs.lemmas.List.{take_more_set, drop-set-lt, take-append-drop, length-map}
use Rattle.std.proofs.Math.Nat.{pow-le-pow_right}
use Rattle.std.specs.Prelude.{slice_set}
use Rattle.ct_core.specs.declared.values.Cell.{Cell}
use Rattle.ct_core.specs.declared.values.Cell.TheVariants.{Byte}
use Rattle.ct_core.specs.Access.{cells_with, bytes_in}

-- none in place of none
pub cells_with-none : (at : ℕ) (cs : List Cell) → cells_with at [] cs ≡ cs
cells_with-none at cs = rw (add-zero, append-nil) (take-append-drop at cs)

-- the first, and then the others
pub cells_with-more : (at : ℕ) (c : Cell) (new cs : List Cell) → at + suc (length new) ≤ length cs
    → cells_with (at + 1) new (set cs at c) ≡ cells_with at (c ∷ new) cs
cells_with-more at c new cs room =
    let front : take (at + 1) (set cs at c) ≡ take at cs ++ c ∷ [] = take_more_set cs at c (omega arith) in
    let back : drop (at + 1 + length new) (set cs at c) ≡ drop (at + 1 + length new) cs = drop-set-lt (at + 1 + length new) cs at c (omega arith) in
    let same : at + 1 + length new ≡ at + suc (length new) = omega arith in
    ap (λ (xs : List Cell). xs ++ new ++ drop (at + 1 + length new) (set cs at c)) front
    ∙ ap (λ (xs : List Cell). take at cs ++ c ∷ [] ++ new ++ xs) back
    ∙ ap (λ (n : ℕ). take at cs ++ c ∷ [] ++ new ++ drop n cs) same
    ∙ ap (λ (xs : List Cell). xs ++ drop (at + suc (length new)) cs) (append_assoc (take at cs) (c ∷ []) new)

pub length-bytes_in : (count n : ℕ) → length (bytes_in count n) ≡ count
length-bytes_in zero n = refl
length-bytes_in (suc count) n = ap suc (length-bytes_in count (n / 256))

pub length-byte_cells : (count n : ℕ) → length (map Byte (bytes_in count n)) ≡ count
length-byte_cells count n = length-map (bytes_in count n) (λ x. Byte x) ∙ length-bytes_in count n

-- the low bytes of a number, one at a time
pub bytes_stored : (at count n : ℕ) (cs : List Cell) → at + count ≤ length cs → 0 < count
    → cells_with (at + 1) (map Byte (bytes_in (count - 1) (n / 256))) (set cs at (Byte (n % 256))) ≡ cells_with at (map Byte (bytes_in count n)) cs
bytes_stored at zero n cs room some = absurd (omega arith)
bytes_stored at (suc count) n cs room some =
    let one_less : suc count - 1 ≡ count = omega arith in
    let long : length (map Byte (bytes_in count (n / 256))) ≡ count = length-byte_cells count (n / 256) in
    ap (λ (k : ℕ). cells_with (at + 1) (map Byte (bytes_in k (n / 256))) (set cs at (Byte (n % 256)))) one_less
    ∙ cells_with-more at (Byte (n % 256)) (map Byte (bytes_in count (n / 256))) cs (omega arith)

-- a number of at most seven bytes
pub below_seven : (n count : ℕ) → n < 256 ^ count → count ≤ 7 → n < 256 ^ 7
below_seven n count below few = let more : 256 ^ count ≤ 256 ^ 7 = pow-le-pow_right (omega arith) few in omega arith
