-- The entries of a folder, as one more file is looked at.
use Rattle.std.proofs.Common.{◌≡◌, ℕ, suc, ◌<◌, ◌+◌, ◌⊎◌, inl, inr, ◌↔◌, true, false, List, [], ◌∷◌, ◌++◌, length, get_or, take, refl, sym, ap, subst, ◌∙◌, arith, nat_cmp, is_some, Some, IsSome}
use Rattle.std.specs.List.{Contains}
use Rattle.std.specs.Cmp.Lexicographic.{slice_cmp}
use Rattle.std.specs.FinMap.{get, get-empty}
use Rattle.std.proofs.lemmas.Bool.{false≢true}
use Rattle.std.proofs.lemmas.List.{take_more}
use Rattle.std.proofs.lemmas.List.Elements.{Contains-push_cases}
use Rattle.ct_outside.specs.Files.{Files, EachOnce, IsFolder, IsListing, entry_at}
use Rattle.ct_outside.specs.Stored.{files_of}
use Rattle.ct_outside.specs.declared.stored.StoredFile.{StoredFile}
use Rattle.ct_outside.specs.declared.tree.Entry.{Entry}
use Rattle.ct_outside.proofs.StoredLemmas.{same_path, equal_paths, get-head, get-head_other}

-- one more entry that was not there
pub EachOnce-push : (entries : List Entry) (entry : Entry) → (Contains entries entry → ⊥) → EachOnce entries → EachOnce (entries ++ entry ∷ [])
EachOnce-push [] entry n once = (λ h. omega (arith, h.1), tt)
EachOnce-push (first ∷ entries) entry n once = (
  λ h. elim (Contains-push_cases entries entry first h) [ inl more ↦ once.0 more | inr same ↦ n (0, omega arith, sym same) ],
  EachOnce-push entries entry (λ h. n (suc h.0, omega (arith, h.1), h.2)) once.1,
)

-- no files, no entries
pub IsListing-none : (folder : List ℕ) → IsListing (files_of []) folder []
IsListing-none folder = record {
  each = λ entry. (λ h. absurd (omega (arith, h.1)), λ h. let none : is_some (get (files_of []) h.0) ≡ false = ap is_some (get-empty (slice_cmp nat_cmp) h.0) in absurd (false≢true (sym none ∙ h.1)));
  once = tt;
}

-- the first file's path, or a path below it
head_cases : (f : StoredFile) (fs : List StoredFile) (q : List ℕ) → IsSome (get (files_of (f ∷ fs)) q) → (f.path ≡ q) ⊎ IsSome (get (files_of fs) q)
head_cases f fs q h =
    elim (same_path q f.path) as (λ b. same_path q f.path ≡ b → (f.path ≡ q) ⊎ IsSome (get (files_of fs) q)) [
      | true ↦ λ e. inl (sym (equal_paths q f.path e))
      | false ↦ λ e. inr (subst IsSome (get-head_other f fs q e) h)
    ] refl

head_there : (f : StoredFile) (fs : List StoredFile) → IsSome (get (files_of (f ∷ fs)) f.path)
head_there f fs = subst IsSome (sym (get-head f fs)) refl

below_there : (f : StoredFile) (fs : List StoredFile) (q : List ℕ) → IsSome (get (files_of fs) q) → IsSome (get (files_of (f ∷ fs)) q)
below_there f fs q h =
    elim (same_path q f.path) as (λ b. same_path q f.path ≡ b → IsSome (get (files_of (f ∷ fs)) q)) [
      | true ↦ λ e. let P : List ℕ → Type 0 = λ p. IsSome (get (files_of (f ∷ fs)) p) in subst P (sym (equal_paths q f.path e)) (head_there f fs)
      | false ↦ λ e. subst IsSome (sym (get-head_other f fs q e)) h
    ] refl

push_cases : (fs : List StoredFile) (f : StoredFile) (q : List ℕ) → IsSome (get (files_of (fs ++ f ∷ [])) q) → IsSome (get (files_of fs) q) ⊎ (f.path ≡ q)
push_cases [] f q h = elim (head_cases f [] q h) [ inl e ↦ inr e | inr below ↦ inl below ]
push_cases (g ∷ fs) f q h =
    elim (head_cases g (fs ++ f ∷ []) q h) [
      | inl e ↦ inl (let P : List ℕ → Type 0 = λ p. IsSome (get (files_of (g ∷ fs)) p) in subst P e (head_there g fs))
      | inr below ↦ elim (push_cases fs f q below) [ inl there ↦ inl (below_there g fs q there) | inr e ↦ inr e ]
    ]

push_kept : (fs : List StoredFile) (f : StoredFile) (q : List ℕ) → IsSome (get (files_of fs) q) → IsSome (get (files_of (fs ++ f ∷ [])) q)
push_kept [] f q h = below_there f [] q h
push_kept (g ∷ fs) f q h =
    elim (head_cases g fs q h) [
      | inl e ↦ let P : List ℕ → Type 0 = λ p. IsSome (get (files_of (g ∷ fs ++ f ∷ [])) p) in subst P e (head_there g (fs ++ f ∷ []))
      | inr below ↦ below_there g (fs ++ f ∷ []) q (push_kept fs f q below)
    ]

push_own : (fs : List StoredFile) (f : StoredFile) → IsSome (get (files_of (fs ++ f ∷ [])) f.path)
push_own [] f = head_there f []
push_own (g ∷ fs) f = below_there g (fs ++ f ∷ []) f.path (push_own fs f)

-- one more file and its entry
IsListing-push : (fs : List StoredFile) (f : StoredFile) (folder : List ℕ) (old new : List Entry) → IsListing (files_of fs) folder old → ((entry : Entry) → Contains new entry ↔ (Contains old entry ⊎ (entry_at folder f.path ≡ Some entry))) → (EachOnce old → EachOnce new) → IsListing (files_of (fs ++ f ∷ [])) folder new
IsListing-push fs f folder old new listing each once = record {
  each = λ entry. (
    λ h. elim ((each entry).0 h) [
      | inl was ↦ let is = (listing.each entry).0 was in (is.0, push_kept fs f is.0 is.1, is.2)
      | inr own ↦ (f.path, push_own fs f, own)
    ],
    λ h. (each entry).1 (elim (push_cases fs f h.0 h.1) [
      | inl there ↦ inl ((listing.each entry).1 (h.0, there, h.2))
      | inr own ↦ inr (ap (entry_at folder) own ∙ h.2)
    ]),
  );
  once = once listing.once;
}

-- a step of the loop over the files
pub IsListing-more : (fs : List StoredFile) (i : ℕ) (f : StoredFile) (folder : List ℕ) (old new : List Entry) → i < length fs → f ≡ get_or fs i f → IsListing (files_of (take i fs)) folder old → ((entry : Entry) → Contains new entry ↔ (Contains old entry ⊎ (entry_at folder f.path ≡ Some entry))) → (EachOnce old → EachOnce new) → IsListing (files_of (take (i + 1) fs)) folder new
IsListing-more fs i f folder old new l read listing each once =
    let P : List StoredFile → Type 0 = λ gs. IsListing (files_of gs) folder new in
    subst P (sym (take_more fs i f l ∙ ap (λ (g : StoredFile). take i fs ++ g ∷ []) (sym read)))
    (IsListing-push (take i fs) f folder old new listing each once)

-- a listing with no entries is that of no folder
pub not-IsFolder : (files : Files) (folder : List ℕ) (entries : List Entry) → length entries ≡ 0 → IsListing files folder entries → IsFolder files folder → ⊥
not-IsFolder files folder entries none listing h = let at = (listing.each h.0).1 h.1 in omega (arith, at.1)

-- a listing with an entry is that of a folder
pub IsFolder-from_listing : (files : Files) (folder : List ℕ) (entries : List Entry) → (length entries ≡ 0 → ⊥) → IsListing files folder entries → IsFolder files folder
IsFolder-from_listing files folder [] some listing = absurd (some refl)
IsFolder-from_listing files folder (entry ∷ entries) some listing = (entry, (listing.each entry).0 (0, omega arith, refl))
