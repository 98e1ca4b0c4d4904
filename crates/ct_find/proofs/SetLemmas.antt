-- Sorted paths, each once.
use Rattle.std.proofs.Common.{◌≡◌, ℕ, zero, suc, ◌+◌, ◌<◌, ◌↔◌, List, [], ◌∷◌, Bool, true, false, cond, length, get_or, refl, sym, ap, subst, ◌∙◌, arith}
use Rattle.std.specs.Prelude.{String, string_bytes}
use Rattle.std.specs.declared.alloc.Global.{Global}
use Rattle.std.specs.declared.cmp.Ordering.{Ordering}
use Rattle.std.specs.declared.cmp.Ordering.TheVariants.{Less, Equal, Greater}
use Rattle.std.specs.Ordering.{nat_cmp, is_lt, ordering_reverse}
use Rattle.std.specs.Cmp.Lexicographic.{slice_cmp, texts_ties}
use Rattle.std.specs.List.{Contains, dedup, dedup_from}
use Rattle.std.specs.List.Sorted.{IsPermutation, IsSorted, IsStrictlySortedBy}
use Rattle.std.specs.Str.{bytes_eq}
use Rattle.std.specs.String.{string_cmp, string_eq}
use Rattle.std.proofs.lemmas.Cmp.{nat_list_cmp_total, nat_list_eq_equiv, tied_itself}
use Rattle.std.proofs.lemmas.List.{length-map}
use Rattle.std.proofs.lemmas.List.Elements.{All-contains}
use Rattle.std.proofs.lemmas.List.Kept.{Contains-dedup, Contains-from_dedup, IsStrictlySortedBy-dedup}
use Rattle.std.proofs.lemmas.List.Sorted.{Contains-permutation, IsPermutation-map, IsPermutation-sym}
use Rattle.std.proofs.lemmas.Map.Keys.{sorted_tail}
use Rattle.std.proofs.lemmas.Map.Views.{All-after_first}
use Rattle.std.proofs.lemmas.Slice.Eq.{bytes_eq-Decides}
use Rattle.std.proofs.Math.ListN.{get_or-map}
use Rattle.ct_outside.specs.Files.{EachOnce}
use Rattle.ct_find.specs.Rows.{texts_of}
use Rattle.ct_find.specs.Sets.{AreSorted}
use Rattle.ct_find.proofs.Members.{contains_first}

-- an element that is there does not depend on the default
get_or_apart : {A : Type 0} (xs : List A) (k : ℕ) (d e : A) → k < length xs → get_or xs k d ≡ get_or xs k e
get_or_apart [] k d e within = absurd (omega arith)
get_or_apart (x ∷ xs) zero d e within = refl
get_or_apart (x ∷ xs) (suc k) d e within = get_or_apart xs k d e (omega arith)

text_at : (xs : List (String Global)) (k : ℕ) (d : List ℕ) (e : String Global) → k < length xs → get_or (texts_of xs) k d ≡ string_bytes (get_or xs k e)
text_at xs k d e within = get_or_apart (texts_of xs) k d (string_bytes e) (rw (length-map xs string_bytes) within) ∙ get_or-map string_bytes xs k e

sorted_texts : (xs : List (String Global)) → IsSorted string_cmp xs → IsSorted (slice_cmp nat_cmp) (texts_of xs)
sorted_texts [] h k d low within = absurd (omega arith)
sorted_texts (x ∷ xs) h k d low within =
    let all : List (String Global) = x ∷ xs in
    let inside : k + 1 < length all = rw (← length-map all string_bytes) within in
    let here : get_or (texts_of all) k d ≡ string_bytes (get_or all k x) = text_at all k d x (omega arith) in
    let next : get_or (texts_of all) (k + 1) d ≡ string_bytes (get_or all (k + 1) x) = text_at all (k + 1) d x inside in
    ap (λ t. is_lt (slice_cmp nat_cmp t (get_or (texts_of all) k d))) next
    ∙ ap (λ t. is_lt (slice_cmp nat_cmp (string_bytes (get_or all (k + 1) x)) t)) here ∙ h k x low inside

pub sorted_cons : (x y : List ℕ) (ys : List (List ℕ)) → is_lt (slice_cmp nat_cmp y x) ≡ false → IsSorted (slice_cmp nat_cmp) (y ∷ ys) → IsSorted (slice_cmp nat_cmp) (x ∷ y ∷ ys)
sorted_cons x y ys le h zero d low within = le
sorted_cons x y ys le h (suc k) d low within =
    let next : suc k + 1 ≡ suc (k + 1) = omega arith in
    subst (λ i. is_lt (slice_cmp nat_cmp (get_or (x ∷ y ∷ ys) i d) (get_or (y ∷ ys) k d)) ≡ false) (sym next) (h k d (omega arith) (omega arith))

pub sorted_one : (x : List ℕ) → IsSorted (slice_cmp nat_cmp) (x ∷ [])
sorted_one x k d low within = absurd (omega arith)

-- the texts of what `dedup` leaves
dedup_at : (b : Bool) (x y : String Global) (xs : List (String Global))
    → texts_of (dedup_from string_eq x xs) ≡ dedup_from bytes_eq (string_bytes x) (texts_of xs)
    → texts_of (dedup_from string_eq y xs) ≡ dedup_from bytes_eq (string_bytes y) (texts_of xs)
    → texts_of (cond b (dedup_from string_eq x xs) (x ∷ dedup_from string_eq y xs))
    ≡ cond b (dedup_from bytes_eq (string_bytes x) (texts_of xs)) (string_bytes x ∷ dedup_from bytes_eq (string_bytes y) (texts_of xs))
dedup_at true x y xs same other = same
dedup_at false x y xs same other = ap (λ (ts : List (List ℕ)). string_bytes x ∷ ts) other

dedup_from_texts : (x : String Global) (xs : List (String Global)) → texts_of (dedup_from string_eq x xs) ≡ dedup_from bytes_eq (string_bytes x) (texts_of xs)
dedup_from_texts x [] = refl
dedup_from_texts x (y ∷ xs) = dedup_at (string_eq y x) x y xs (dedup_from_texts x xs) (dedup_from_texts y xs)

dedup_texts : (xs : List (String Global)) → texts_of (dedup string_eq xs) ≡ dedup bytes_eq (texts_of xs)
dedup_texts [] = refl
dedup_texts (x ∷ xs) = dedup_from_texts x xs

-- in a list where each path is below those behind it none stands twice
strict_once : (paths : List (List ℕ)) → IsStrictlySortedBy (slice_cmp nat_cmp) paths → EachOnce paths
strict_once [] h = tt
strict_once (p ∷ ps) h = (
  (λ m.
      let less : slice_cmp nat_cmp p p ≡ Less = All-contains (λ q. slice_cmp nat_cmp p q ≡ Less) ps p (All-after_first (slice_cmp nat_cmp) p ps h) m in
      let tied : Less ≡ Equal = sym less ∙ tied_itself nat_list_cmp_total p in absurd (cc)),
  strict_once ps (sorted_tail (slice_cmp nat_cmp) p ps h),
)

strict_sorted : (paths : List (List ℕ)) → IsStrictlySortedBy (slice_cmp nat_cmp) paths → IsSorted (slice_cmp nat_cmp) paths
strict_sorted [] h = λ k d low within. absurd (omega arith)
strict_sorted (p ∷ []) h = sorted_one p
strict_sorted (p ∷ q ∷ ps) h =
    let less : slice_cmp nat_cmp p q ≡ Less = All-contains (λ x. slice_cmp nat_cmp p x ≡ Less) (q ∷ ps) q (All-after_first (slice_cmp nat_cmp) p (q ∷ ps) h) (contains_first q ps) in
    sorted_cons p q ps (ap is_lt (nat_list_cmp_total.antisymm q p ∙ ap ordering_reverse less)) (strict_sorted (q ∷ ps) (sorted_tail (slice_cmp nat_cmp) p (q ∷ ps) h))

-- what a sort and the removal of doubles leave
pub sorted_set : (old sorted left : List (String Global)) → IsSorted string_cmp sorted → IsPermutation old sorted → left ≡ dedup string_eq sorted
    → AreSorted (Contains (texts_of old)) (texts_of left)
sorted_set old sorted left in_order moved is =
    let same : IsPermutation (texts_of old) (texts_of sorted) = IsPermutation-map string_bytes old sorted moved in
    let strict = IsStrictlySortedBy-dedup nat_list_cmp_total texts_ties (texts_of sorted) (sorted_texts sorted in_order) in
    subst (λ ps. AreSorted (Contains (texts_of old)) ps) (sym (ap texts_of is ∙ dedup_texts sorted)) (record {
      each = λ path. (
        (λ m. Contains-permutation (texts_of sorted) (texts_of old) path (IsPermutation-sym (texts_of old) (texts_of sorted) same) (Contains-from_dedup bytes_eq (texts_of sorted) path m)),
        (λ m. Contains-dedup nat_list_eq_equiv (λ x y. (bytes_eq-Decides x y).0) (texts_of sorted) path (Contains-permutation (texts_of old) (texts_of sorted) path same m)),
      );
      once = strict_once (dedup bytes_eq (texts_of sorted)) strict;
      sorted = strict_sorted (dedup bytes_eq (texts_of sorted)) strict;
    })

-- another name of the same set
pub sorted_as : (P Q : List ℕ → Type 0) (paths : List (List ℕ)) → ((path : List ℕ) → P path ↔ Q path) → AreSorted P paths → AreSorted Q paths
sorted_as P Q paths same set = record {
  each = λ path. ((λ m. (same path).0 ((set.each path).0 m)), (λ q. (set.each path).1 ((same path).1 q)));
  once = set.once;
  sorted = set.sorted;
}
