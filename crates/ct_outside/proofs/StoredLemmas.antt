-- How a list of files answers as a map, as one of its files changes or one is added.
use Rattle.std.proofs.Common.{◌≡◌, ℕ, zero, suc, ◌+◌, ◌<◌, Bool, true, false, cond, List, [], ◌∷◌, ◌++◌, length, get_or, set, take, refl, sym, ap, ◌∙◌, arith, Option, Some, None}
use Rattle.std.specs.Ordering.{nat_cmp, eq_by_cmp}
use Rattle.std.specs.Cmp.Lexicographic.{slice_cmp}
use Rattle.std.specs.Cmp.{Equal-is}
use Rattle.std.proofs.lemmas.Bool.{false_from_ne_true}
use Rattle.std.proofs.lemmas.Cmp.{nat_list_cmp_total, tied_itself}
use Rattle.std.proofs.lemmas.List.{take_more}
use Rattle.std.specs.FinMap.{IsAntisymmetric, slice_cmp-IsAntisymmetric, nat_cmp-IsAntisymmetric, get, insert, get-insert, same_map}
use Rattle.ct_outside.specs.Files.{Files}
use Rattle.ct_outside.specs.Stored.{files_of}
use Rattle.ct_outside.specs.declared.stored.StoredFile.{StoredFile}

-- the test of two paths
abbrev pub same_path : List ℕ → List ℕ → Bool
same_path = eq_by_cmp (slice_cmp nat_cmp)

alike : IsAntisymmetric (slice_cmp nat_cmp)
alike = slice_cmp-IsAntisymmetric nat_cmp-IsAntisymmetric

pub equal_paths : (p q : List ℕ) → same_path p q ≡ true → p ≡ q
equal_paths p q e = alike p q ((Equal-is (slice_cmp nat_cmp p q)).0 e)

pub path_itself : (p : List ℕ) → same_path p p ≡ true
path_itself p = (Equal-is (slice_cmp nat_cmp p p)).1 (tied_itself nat_list_cmp_total p)

pub other_paths : (p q : List ℕ) → (p ≡ q → ⊥) → same_path p q ≡ false
other_paths p q n = false_from_ne_true _ (λ e. n (equal_paths p q e))

pub get_insert : (m : Files) (k v q : List ℕ) → get (insert m k v) q ≡ cond (same_path q k) (Some v) (get m q)
get_insert m k v q = get-insert nat_list_cmp_total m k v q

again : (b : Bool) (v w o : Option (List ℕ)) → cond b w (cond b v o) ≡ cond b w o
again true v w o = refl
again false v w o = refl

-- the later value stands
pub insert_again : (m : Files) (k v w : List ℕ) → insert (insert m k v) k w ≡ insert m k w
insert_again m k v w = same_map nat_list_cmp_total alike _ _ (λ q. rw (get_insert (insert m k v) k w q, get_insert m k v q, get_insert m k w q) (again (same_path q k) (Some v) (Some w) (get m q)))

turned : (a b : Bool) (v w o : Option (List ℕ)) → (a ≡ true → b ≡ true → ⊥) → cond b w (cond a v o) ≡ cond a v (cond b w o)
turned true true v w o n = absurd (n refl refl)
turned true false v w o n = refl
turned false b v w o n = refl

-- two paths are set in either order
pub insert_turned : (m : Files) (k v j w : List ℕ) → (k ≡ j → ⊥) → insert (insert m k v) j w ≡ insert (insert m j w) k v
insert_turned m k v j w n =
    same_map nat_list_cmp_total alike _ _ (λ q.
    rw (get_insert (insert m k v) j w q, get_insert m k v q, get_insert (insert m j w) k v q, get_insert m j w q)
    (turned (same_path q k) (same_path q j) (Some v) (Some w) (get m q) (λ a b. n (sym (equal_paths q k a) ∙ equal_paths q j b))))

hit : (b : Bool) (v : List ℕ) (o : Option (List ℕ)) → cond b (Some v) o ≡ None → (b ≡ false) × (o ≡ None)
hit true v o e = absurd (cc)
hit false v o e = (refl, e)

-- a list with no file at the path has none at its first and none below
pub absent_parts : (f : StoredFile) (fs : List StoredFile) (q : List ℕ) → get (files_of (f ∷ fs)) q ≡ None → (same_path q f.path ≡ false) × (get (files_of fs) q ≡ None)
absent_parts f fs q e = hit _ f.bytes _ (sym (get_insert (files_of fs) f.path f.bytes q) ∙ e)

apart : (p q : List ℕ) → same_path p q ≡ false → p ≡ q → ⊥
apart p q f e = let t : same_path p q ≡ true = ap (same_path p) (sym e) ∙ path_itself p in cc

pub get-head_other : (f : StoredFile) (fs : List StoredFile) (q : List ℕ) → same_path q f.path ≡ false → get (files_of (f ∷ fs)) q ≡ get (files_of fs) q
get-head_other f fs q e = rw (get_insert (files_of fs) f.path f.bytes q, e) refl

pub get-head : (f : StoredFile) (fs : List StoredFile) → get (files_of (f ∷ fs)) f.path ≡ Some f.bytes
get-head f fs = rw (get_insert (files_of fs) f.path f.bytes f.path, path_itself f.path) refl

-- one more file at another path
pub absent-push : (fs : List StoredFile) (f : StoredFile) (q : List ℕ) → get (files_of fs) q ≡ None → (f.path ≡ q → ⊥) → get (files_of (fs ++ f ∷ [])) q ≡ None
absent-push [] f q e n = get-head_other f [] q (other_paths q f.path (λ p. n (sym p))) ∙ e
absent-push (g ∷ fs) f q e n =
    let parts = absent_parts g fs q e in get-head_other g (fs ++ f ∷ []) q parts.0 ∙ absent-push fs f q parts.1 n

-- what stands at the first place with a path is the path's file
pub get-place : (fs : List StoredFile) (i : ℕ) (d : StoredFile) (q : List ℕ) → i < length fs → get (files_of (take i fs)) q ≡ None → (get_or fs i d).path ≡ q → get (files_of fs) q ≡ Some (get_or fs i d).bytes
get-place [] i d q l e p = absurd (omega arith)
get-place (f ∷ fs) zero d q l e p = ap (get (files_of (f ∷ fs))) (sym p) ∙ get-head f fs
get-place (f ∷ fs) (suc i) d q l e p =
    let parts = absent_parts f (take i fs) q e in get-head_other f fs q parts.0 ∙ get-place fs i d q (omega arith) parts.1 p

-- new bytes at the first place with a path
pub set-place : (fs : List StoredFile) (i : ℕ) (d : StoredFile) (q b : List ℕ) → i < length fs → get (files_of (take i fs)) q ≡ None → (get_or fs i d).path ≡ q → files_of (set fs i (record (get_or fs i d) { bytes = b })) ≡ insert (files_of fs) q b
set-place [] i d q b l e p = absurd (omega arith)
set-place (f ∷ fs) zero d q b l e p = sym (insert_again (files_of fs) f.path f.bytes b) ∙ ap (λ k. insert (files_of (f ∷ fs)) k b) p
set-place (f ∷ fs) (suc i) d q b l e p =
    let parts = absent_parts f (take i fs) q e in
    ap (λ m. insert m f.path f.bytes) (set-place fs i d q b (omega arith) parts.1 p)
    ∙ insert_turned (files_of fs) q b f.path f.bytes (apart q f.path parts.0)

-- one more file, at a path that has none
pub files_of-push : (fs : List StoredFile) (q b : List ℕ) → get (files_of fs) q ≡ None → files_of (fs ++ record { path = q; bytes = b } ∷ []) ≡ insert (files_of fs) q b
files_of-push [] q b e = refl
files_of-push (f ∷ fs) q b e =
    let parts = absent_parts f fs q e in
    ap (λ m. insert m f.path f.bytes) (files_of-push fs q b parts.1) ∙ insert_turned (files_of fs) q b f.path f.bytes (apart q f.path parts.0)

-- the place that a loop has read and passed
pub absent-more : (fs : List StoredFile) (i : ℕ) (f : StoredFile) (q : List ℕ) → i < length fs → f ≡ get_or fs i f → (f.path ≡ q → ⊥) → get (files_of (take i fs)) q ≡ None → get (files_of (take (i + 1) fs)) q ≡ None
absent-more fs i f q l read n e =
    ap (λ (gs : List StoredFile). get (files_of gs) q) (take_more fs i f l ∙ ap (λ (g : StoredFile). take i fs ++ g ∷ []) (sym read))
    ∙ absent-push (take i fs) f q e n

-- the place that was found and written
pub set-read : (fs : List StoredFile) (i : ℕ) (f : StoredFile) (q b : List ℕ) → f ≡ get_or fs i f → (i < length fs) × (get (files_of (take i fs)) q ≡ None) × ((d : StoredFile) → (get_or fs i d).path ≡ q) → files_of (set fs i (record { path = f.path; bytes = b })) ≡ insert (files_of fs) q b
set-read fs i f q b read place =
    ap (λ (g : StoredFile). files_of (set fs i (record { path = g.path; bytes = b }))) read ∙ set-place fs i f q b place.0 place.1 (place.2 f)
