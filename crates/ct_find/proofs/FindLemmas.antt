-- The answers of a search.
use Rattle.std.proofs.Common.{◌≡◌, ℕ, ◌≤◌, inl, inr, List, [], ◌∷◌, ◌++◌, Bool, true, false, Err, IsSome, is_some, cond, length, refl, sym, ap, subst, ◌∙◌}
use Rattle.std.specs.Prelude.{String}
use Rattle.std.specs.declared.alloc.Global.{Global}
use Rattle.std.specs.FinMap.{get}
use Rattle.std.specs.List.{Contains}
use Rattle.ct_base.specs.declared.memory.Fail.{Fail}
use Rattle.ct_base.specs.declared.memory.Fail.TheVariants.{Fault, OutOfMemory}
use Rattle.ct_outside.specs.Files.{Files}
use Rattle.ct_settings.specs.declared.record.ProjectSettings.{ProjectSettings}
use Rattle.ct_find.specs.declared.files.FindFault.{FindFault}
use Rattle.ct_find.specs.declared.files.FindFault.TheVariants.{Read, Limit}
use Rattle.ct_find.specs.declared.search.FileLists.{FileLists}
use Rattle.ct_find.specs.Finding.{CountTells, FindsListed, IsListed}
use Rattle.ct_find.specs.Limits.{most_files}
use Rattle.ct_find.specs.declared.starts.Start.{Start}
use Rattle.ct_find.specs.declared.walking.Listing.{Listing}
use Rattle.ct_find.specs.Order.{IsWhole}
use Rattle.ct_find.specs.Rows.{AreLists, AreThere, IsWalked, IsInLists, ReadsListedFiles, texts_of, with_text}
use Rattle.ct_find.specs.Sets.{AreSorted}
use Rattle.ct_find.proofs.Members.{contains_append, contains_cases, contains_first, contains_left, contains_more, contains_none, contains_right}
use Rattle.ct_find.proofs.SetLemmas.{sorted_as}

pub in_lists : (lists : FileLists) (a b c d : List (String Global)) (paths : List (List ℕ)) → texts_of a ≡ [] → texts_of b ≡ texts_of a ++ lists.tests → texts_of c ≡ texts_of b ++ lists.sources
    → texts_of d ≡ texts_of c ++ lists.headers → AreSorted (Contains (texts_of d)) paths → AreSorted (IsInLists lists) paths
in_lists lists a b c d paths none first second third set =
    let whole : texts_of d ≡ (lists.tests ++ lists.sources) ++ lists.headers =
    third ∙ ap (λ (x : List (List ℕ)). x ++ lists.headers) (second ∙ ap (λ (x : List (List ℕ)). x ++ lists.sources) (first ∙ ap (λ (x : List (List ℕ)). x ++ lists.tests) none)) in
    sorted_as (Contains (texts_of d)) (IsInLists lists) paths
    (λ p. (
      λ m. elim (contains_append (lists.tests ++ lists.sources) lists.headers p (subst (λ (x : List (List ℕ)). Contains x p) whole m)) [
        | inl n ↦ elim (contains_append lists.tests lists.sources p n) [ inl k ↦ inl k | inr k ↦ inr (inl k) ]
        | inr n ↦ inr (inr n)
      ],
      λ h. subst (λ (x : List (List ℕ)). Contains x p) (sym whole) (elim h [
        | inl m ↦ contains_left (lists.tests ++ lists.sources) lists.headers p (contains_left lists.tests lists.sources p m)
        | inr m ↦ elim m [
          | inl n ↦ contains_left (lists.tests ++ lists.sources) lists.headers p (contains_right lists.tests lists.sources p n)
          | inr n ↦ contains_right (lists.tests ++ lists.sources) lists.headers p n
        ]
      ]),
    )) set

pub count_stops : (settings : ProjectSettings) (files : Files) (lists : FileLists) (paths : List (List ℕ)) (fail : Fail FindFault) → IsListed settings files lists paths → CountTells paths (Err fail)
    → FindsListed settings files (Err fail)
count_stops settings files lists paths OutOfMemory listed tells = tt
count_stops settings files lists paths (Fault Read) listed tells = tt
count_stops settings files lists paths (Fault (Limit kind path)) listed tells = inr (lists, paths, listed, inl tells)

pub read_fails : (settings : ProjectSettings) (files : Files) (lists : FileLists) (paths : List (List ℕ)) (fail : Fail FindFault) → IsListed settings files lists paths → length paths ≤ most_files
    → (AreThere files paths → ReadsListedFiles files paths (Err fail)) → FindsListed settings files (Err fail)
read_fails settings files lists paths OutOfMemory listed few reads = tt
read_fails settings files lists paths (Fault Read) listed few reads = tt
read_fails settings files lists paths (Fault (Limit kind path)) listed few reads = inr (lists, paths, listed, inr (few, reads))

kept_one : (texts : Files) (path : List ℕ) (paths : List (List ℕ)) → is_some (get texts path) ≡ true → with_text texts (path ∷ paths) ≡ path ∷ with_text texts paths
kept_one texts path paths e = ap (λ (b : Bool). cond b (path ∷ with_text texts paths) (with_text texts paths)) e

-- where each path has a text, none is left out
pub all_kept : (texts : Files) (paths : List (List ℕ)) → ((p : List ℕ) → Contains paths p → is_some (get texts p) ≡ true) → with_text texts paths ≡ paths
all_kept texts [] h = refl
all_kept texts (path ∷ paths) h =
    kept_one texts path paths (h path (contains_first path paths)) ∙ ap (λ (ps : List (List ℕ)). path ∷ ps) (all_kept texts paths (λ p m. h p (contains_more path paths p m)))

has_at : (texts : Files) (path : List ℕ) (paths : List (List ℕ)) (p : List ℕ) (b : Bool) → is_some (get texts path) ≡ b → (Contains (with_text texts paths) p → IsSome (get texts p))
    → Contains (cond b (path ∷ with_text texts paths) (with_text texts paths)) p → IsSome (get texts p)
has_at texts path paths p true e more h = elim (contains_cases path (with_text texts paths) p h) [
  | inl same ↦ subst (λ (q : List ℕ). IsSome (get texts q)) same e
  | inr n ↦ more n
]
has_at texts path paths p false e more h = more h

-- what is kept has a text
pub kept_has : (texts : Files) (paths : List (List ℕ)) (p : List ℕ) → Contains (with_text texts paths) p → IsSome (get texts p)
kept_has texts [] p m = absurd (contains_none p m)
kept_has texts (path ∷ paths) p m = has_at texts path paths p (is_some (get texts path)) refl (kept_has texts paths p) m

-- kept from a list of which each member has a text
pub kept_same : (texts : Files) (lists kept paths : List (List ℕ)) → kept ≡ with_text texts lists → ((p : List ℕ) → Contains lists p → is_some (get texts p) ≡ true) → kept ≡ lists
kept_same texts lists kept paths is h = is ∙ all_kept texts lists h

-- the texts of what was listed are there
pub listed_there : (files texts : Files) (paths : List (List ℕ)) → AreThere files paths → ((p : List ℕ) → Contains paths p → get texts p ≡ get files p) → (p : List ℕ) → Contains paths p → is_some (get texts p) ≡ true
listed_there files texts paths there own p m = ap is_some (own p m) ∙ there p m

pub listed_by : (settings : ProjectSettings) (files : Files) (starts : List Start) (listing : Listing) (lists : FileLists) (paths : List (List ℕ)) → IsWhole settings starts
    → IsWalked files settings.build_root starts [] listing.rows listing.entries → AreLists settings listing.rows lists → AreSorted (IsInLists lists) paths → IsListed settings files lists paths
listed_by settings files starts listing lists paths whole walked are all = record { starts = starts; whole = whole; listing = listing; walked = walked; are = are; all = all }

-- each file of a list is there, so none is left out
pub found_is : (files texts : Files) (lists : FileLists) (paths tests sources headers : List (List ℕ)) → AreSorted (IsInLists lists) paths → AreThere files paths
    → ((p : List ℕ) → Contains paths p → get texts p ≡ get files p) → tests ≡ with_text texts lists.tests → sources ≡ with_text texts lists.sources → headers ≡ with_text texts lists.headers
    → (tests ≡ lists.tests) × (sources ≡ lists.sources) × (headers ≡ lists.headers)
found_is files texts lists paths tests sources headers all there own t s h = (
  t ∙ all_kept texts lists.tests (λ p m. listed_there files texts paths there own p ((all.each p).1 (inl m))),
  s ∙ all_kept texts lists.sources (λ p m. listed_there files texts paths there own p ((all.each p).1 (inr (inl m)))),
  h ∙ all_kept texts lists.headers (λ p m. listed_there files texts paths there own p ((all.each p).1 (inr (inr m)))),
)
