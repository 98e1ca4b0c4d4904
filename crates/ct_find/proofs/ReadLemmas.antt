-- The reading of the listed files.
use Rattle.std.proofs.Common.{◌≡◌, ℕ, zero, suc, ◌+◌, ◌<◌, ◌≤◌, inl, inr, List, [], ◌∷◌, Bool, true, false, cond, Option, Some, None, Ok, Err, IsSome, length, get_or, take, drop, refl, sym, ap, subst, ◌∙◌, arith}
use Rattle.std.specs.Ordering.{nat_cmp}
use Rattle.std.specs.Cmp.Lexicographic.{slice_cmp}
use Rattle.std.specs.FinMap.{empty, get, get-empty, insert}
use Rattle.std.specs.List.{Contains}
use Rattle.std.proofs.lemmas.Bool.{false≢true}
use Rattle.ct_base.specs.declared.memory.Fail.{Fail}
use Rattle.ct_base.specs.declared.memory.Fail.TheVariants.{Fault, OutOfMemory}
use Rattle.ct_outside.specs.Files.{Files}
use Rattle.ct_outside.proofs.StoredLemmas.{equal_paths, get_insert, path_itself, same_path}
use Rattle.ct_find.specs.declared.files.FindFault.{FindFault}
use Rattle.ct_find.specs.declared.files.FindFault.TheVariants.{Read, Limit}
use Rattle.ct_find.specs.Limits.{ReadingPasses, ReadingStays, most_bytes, most_file_bytes}
use Rattle.ct_find.specs.Rows.{AreSmall, AreThere, HasReadSome, ReadsListedFiles, ReadsListedFile}
use Rattle.ct_find.proofs.Members.{all_taken, contains_none, contains_taken, taken_contains}

pub get_own : (m : Files) (k v : List ℕ) → get (insert m k v) k ≡ Some v
get_own m k v = get_insert m k v k ∙ ap (λ (b : Bool). cond b (Some v) (get m k)) (path_itself k)

pub get_other : (m : Files) (k v q : List ℕ) → (q ≡ k → ⊥) → get (insert m k v) q ≡ get m q
get_other m k v q n = get_insert m k v q ∙ ap (λ (b : Bool). cond b (Some v) (get m q)) (no (same_path q k) refl)
  where
    no : (b : Bool) → same_path q k ≡ b → same_path q k ≡ false
    no true e = absurd (n (equal_paths q k e))
    no false e = e

some_same : (x y : List ℕ) → Some x ≡ Some y → x ≡ y
some_same x y e = cc

pub small_more : (old new : Files) (path text : List ℕ) → new ≡ insert old path text → length text ≤ most_file_bytes → AreSmall old → AreSmall new
small_more old new path text e within small q t h =
    at (same_path q path) refl (sym (get_insert old path text q) ∙ ap (λ (m : Files). get m q) (sym e) ∙ h)
  where
    at : (b : Bool) → same_path q path ≡ b → cond (same_path q path) (Some text) (get old q) ≡ Some t → length t ≤ most_file_bytes
    at true i g = subst (λ (x : List ℕ). length x ≤ most_file_bytes) (some_same text t (ap (λ (b : Bool). cond b (Some text) (get old q)) (sym i) ∙ g)) within
    at false i g = small q t (ap (λ (b : Bool). cond b (Some text) (get old q)) (sym i) ∙ g)

pub small_empty : (texts : Files) → texts ≡ empty → AreSmall texts
small_empty texts e q t h = absurd (let none : None ≡ Some t = sym (ap (λ (m : Files). get m q) e ∙ get-empty (slice_cmp nat_cmp) q) ∙ h in cc)

the_text : (o : Option (List ℕ)) → IsSome o → (text : List ℕ) × (o ≡ Some text)
the_text None h = absurd (false≢true h)
the_text (Some text) h = (text, refl)

pub text_at : (files : Files) (paths : List (List ℕ)) (i : ℕ) (path : List ℕ) → AreThere files paths → i < length paths → path ≡ get_or paths i path → (text : List ℕ) × (get files path ≡ Some text)
text_at files paths i path there within read = the_text (get files path) (there path (i, within, sym read))

pub rest_at : (paths : List (List ℕ)) (i : ℕ) (path : List ℕ) → i < length paths → path ≡ get_or paths i path → drop i paths ≡ path ∷ drop (i + 1) paths
rest_at [] i path within read = absurd (omega arith)
rest_at (p ∷ paths) zero path within read = ap (λ (q : List ℕ). q ∷ paths) (sym read)
rest_at (p ∷ paths) (suc i) path within read =
    let next : suc i + 1 ≡ suc (i + 1) = omega arith in
    rest_at paths i path (omega arith) read ∙ ap (λ n. path ∷ drop n (p ∷ paths)) (sym next)

pub read_none : (files : Files) (paths : List (List ℕ)) (texts : Files) → texts ≡ empty → HasReadSome files paths 0 0 texts
read_none files paths texts e = record {
  passes = λ kind path h. h;
  stays = λ h. h;
  own = λ path m. absurd (contains_none path m);
  others = λ path n. ap (λ (m : Files). get m path) e ∙ get-empty (slice_cmp nat_cmp) path;
}

pub read_more : (files : Files) (paths : List (List ℕ)) (i read now : ℕ) (path text : List ℕ) (old new : Files) → i < length paths → path ≡ get_or paths i path → get files path ≡ Some text
    → HasReadSome files paths i read old → ReadsListedFile path text read old new (Ok now) → HasReadSome files paths (i + 1) now new
read_more files paths i read now path text old new within at found was next = record {
  passes = λ kind p h. was.passes kind p (subst (λ ps. ReadingPasses files ps read kind p) (sym (rest_at paths i path within at))
      (text, found, inr (inr (next.1, few, subst (λ n. ReadingPasses files (drop (i + 1) paths) n kind p) next.2 h))));
  stays = λ h. was.stays (subst (λ ps. ReadingStays files ps read) (sym (rest_at paths i path within at)) (text, found, next.1, few, subst (λ n. ReadingStays files (drop (i + 1) paths) n) next.2 h));
  own = λ p m. elim (contains_taken paths i path p within at m) [
    | inl n ↦ own_at p n (same_path p path) refl
    | inr same ↦ subst (λ (q : List ℕ). get new q ≡ get files q) same (ap (λ (m : Files). get m path) next.0 ∙ get_own old path text ∙ sym found)
  ];
  others = λ p n. ap (λ (m : Files). get m p) next.0 ∙ get_other old path text p (λ same. n (taken_contains paths i path p within at (inr (sym same)))) ∙ was.others p (λ m. n (taken_contains paths i path p within at (inl m)));
}
  where
    few : read + length text ≤ most_bytes
    few = subst (λ n. n ≤ most_bytes) next.2 next.3

    own_at : (p : List ℕ) → Contains (take i paths) p → (b : Bool) → same_path p path ≡ b → get new p ≡ get files p
    own_at p m true e =
        let same : path ≡ p = sym (equal_paths p path e) in
        subst (λ (q : List ℕ). get new q ≡ get files q) same (ap (λ (m : Files). get m path) next.0 ∙ get_own old path text ∙ sym found)
    own_at p m false e = ap (λ (m : Files). get m p) next.0 ∙ get_other old path text p (λ same. false≢true (sym e ∙ ap (λ (q : List ℕ). same_path p q) (sym same) ∙ path_itself p)) ∙ was.own p m

pub read_stops : (B : Type 0) (files : Files) (paths : List (List ℕ)) (i read : ℕ) (path text : List ℕ) (old new : Files) (fail : Fail FindFault) → i < length paths → path ≡ get_or paths i path → get files path ≡ Some text
    → HasReadSome files paths i read old → ReadsListedFile path text read old new (Err fail) → ReadsListedFiles files paths (Err fail)
read_stops B files paths i read path text old new OutOfMemory within at found was next = tt
read_stops B files paths i read path text old new (Fault Read) within at found was next = tt
read_stops B files paths i read path text old new (Fault (Limit kind p)) within at found was next =
    was.passes kind p (subst (λ ps. ReadingPasses files ps read kind p) (sym (rest_at paths i path within at)) (
      text,
      found,
      elim next.1 [
        | inl (k, long) ↦ inl (k, next.0, long)
        | inr (k, short, many) ↦ inr (inl (k, next.0, short, many))
      ],
    ))

nothing_of : (i : ℕ) (none : List (List ℕ)) → none ≡ [] → drop i none ≡ []
nothing_of zero none e = e
nothing_of (suc i) [] e = refl
nothing_of (suc i) (x ∷ xs) e = absurd (cc)

no_rest : (paths : List (List ℕ)) (i : ℕ) → i ≡ length paths → drop i paths ≡ []
no_rest [] i e = nothing_of i [] refl
no_rest (p ∷ paths) zero e = absurd (omega arith)
no_rest (p ∷ paths) (suc i) e = no_rest paths i (omega arith)

nothing_stays : (files : Files) (ps : List (List ℕ)) (read : ℕ) → ps ≡ [] → ReadingStays files ps read
nothing_stays files [] read e = tt
nothing_stays files (p ∷ ps) read e = absurd (cc)

pub read_all : (files : Files) (paths : List (List ℕ)) (i read : ℕ) (texts : Files) → i ≡ length paths → HasReadSome files paths i read texts → ReadsListedFiles files paths (Ok texts)
read_all files paths i read texts all was = (
  was.stays (nothing_stays files (drop i paths) read (no_rest paths i all)),
  λ p m. was.own p (subst (λ (ps : List (List ℕ)). Contains ps p) (sym (all_taken paths i all)) m),
  λ p n. was.others p (λ m. n (subst (λ (ps : List (List ℕ)). Contains ps p) (all_taken paths i all) m)),
)
