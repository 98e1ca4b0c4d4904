-- The search passes one limit at most, or none.
use Rattle.std.proofs.Common.{◌≡◌, ℕ, ◌+◌, ◌<◌, ◌≤◌, ◌⊎◌, inl, inr, List, [], ◌∷◌, ◌++◌, Bool, true, false, length, map, refl, sym, ap, subst, ◌∙◌, ⊎_elim, arith}
use Rattle.std.specs.Prelude.{Option, Some, IsTrue, slice_get}
use Rattle.std.specs.List.{Contains, list_any}
use Rattle.std.specs.Str.{bytes_eq}
use Rattle.std.specs.FinMap.{get, nat_cmp-IsAntisymmetric, same_map, slice_cmp-IsAntisymmetric}
use Rattle.std.proofs.lemmas.Bool.{false≢true}
use Rattle.std.proofs.lemmas.Cmp.{nat_list_cmp_total}
use Rattle.std.proofs.lemmas.Option.{slice_get_past}
use Rattle.ct_base.specs.declared.limits.LimitKind.{LimitKind}
use Rattle.ct_base.specs.declared.limits.LimitKind.TheVariants as limits
use Rattle.ct_outside.specs.Files.{Files, IsListing}
use Rattle.ct_outside.specs.declared.tree.Entry.{Entry}
use Rattle.ct_settings.specs.declared.record.Pattern.{Pattern}
use Rattle.ct_settings.specs.declared.record.ProjectSettings.{ProjectSettings}
use Rattle.ct_find.specs.declared.files.Files.{Files as Found}
use Rattle.ct_find.specs.declared.starts.Start.{Start}
use Rattle.ct_find.specs.Folders.{IsHeader, IsListed, IsSource, IsTest, in_include, in_source, in_support, in_test}
use Rattle.ct_find.specs.Limits.{AreWithin, HaveEntries, ListingPasses, ListingStays, PassesAt, ReadingPasses, ReadingStays, depth_of, most_bytes, most_components, most_entries, most_file_bytes, most_files}
use Rattle.ct_find.specs.Order.{AreStarts, AreWalks, IsDeep, IsDeepStart, IsOrder, IsWhole, first_places}
use Rattle.ct_find.specs.Results.{IsFound, Listed, Passes, Stays}
use Rattle.ct_find.proofs.Members.{contains_first, contains_more, contains_right}
use Rattle.ct_find.proofs.OrderLemmas.{member_seen, seen_member}
pub use Rattle.ct_find.proofs.Ordered.{one_set}
use Rattle.ct_find.proofs.Ordered.{same_length}
use Rattle.ct_find.proofs.WalkOrder.{one_walks}

-- ---- sorted sets

one_count : (files : Files) (folder : List ℕ) (xs ys : List Entry) → IsListing files folder xs → IsListing files folder ys → length xs ≡ length ys
one_count files folder xs ys f g =
    same_length xs ys f.once g.once (λ e m. (g.each e).1 ((f.each e).0 m)) (λ e m. (f.each e).1 ((g.each e).0 m))

-- ---- the starts

same_flag : (a b : Bool) → (IsTrue a → IsTrue b) → (IsTrue b → IsTrue a) → a ≡ b
same_flag true true f g = refl
same_flag true false f g = sym (f refl)
same_flag false true f g = g refl
same_flag false false f g = refl

same_start : (patterns : List Pattern) (a b : Start) → a.path ≡ b.path → IsDeep patterns a → IsDeep patterns b → a ≡ b
same_start patterns a b path f g =
    let deep : a.deep ≡ b.deep = same_flag a.deep b.deep
    (λ h. g.shallow (subst (IsDeepStart patterns) path (f.deep h)))
    (λ h. f.shallow (subst (IsDeepStart patterns) (sym path) (g.deep h))) in
    ap (λ p. record { path = p; deep = a.deep }) path ∙ ap (λ d. record { path = b.path; deep = d }) deep

same_starts : (patterns : List Pattern) (xs ys : List Start) → map (λ start. start.path) xs ≡ map (λ start. start.path) ys
    → ((start : Start) → Contains xs start → IsDeep patterns start) → ((start : Start) → Contains ys start → IsDeep patterns start) → xs ≡ ys
same_starts patterns [] [] e f g = refl
same_starts patterns [] (y ∷ ys) e f g = absurd (cc e)
same_starts patterns (x ∷ xs) [] e f g = absurd (cc e)
same_starts patterns (x ∷ xs) (y ∷ ys) e f g =
    let first : x.path ≡ y.path = cc in
    let others : map (λ start. start.path) xs ≡ map (λ start. start.path) ys = cc in
    let start : x ≡ y = same_start patterns x y first (f x (contains_first x xs)) (g y (contains_first y ys)) in
    let rest : xs ≡ ys = same_starts patterns xs ys others (λ s m. f s (contains_more x xs s m)) (λ s m. g s (contains_more y ys s m)) in
    ap (λ s. s ∷ xs) start ∙ ap (λ ss. y ∷ ss) rest

one_starts : (patterns : List Pattern) (xs ys : List Start) → AreStarts patterns xs → AreStarts patterns ys → xs ≡ ys
one_starts patterns xs ys f g =
    same_starts patterns xs ys (one_set _ (map (λ start. start.path) xs) (map (λ start. start.path) ys) f.paths g.paths) f.deep g.deep

one_whole : (settings : ProjectSettings) (xs ys : List Start) → IsWhole settings xs → IsWhole settings ys → xs ≡ ys
one_whole settings xs ys f g =
    let test = one_starts settings.test f.test g.test f.test_starts g.test_starts in
    let source = one_starts settings.source f.source g.source f.source_starts g.source_starts in
    let include = one_starts settings.include f.include g.include f.include_starts g.include_starts in
    let support = one_starts settings.support f.support g.support f.support_starts g.support_starts in
    f.whole ∙ ap (λ t. t ++ f.source ++ f.include ++ f.support) test ∙ ap (λ t. g.test ++ t ++ f.include ++ f.support) source
    ∙ ap (λ t. g.test ++ g.source ++ t ++ f.support) include ∙ ap (λ t. g.test ++ g.source ++ g.include ++ t) support ∙ sym g.whole

-- ---- the order of listing

pub one_order : (settings : ProjectSettings) (files : Files) (xs ys : List (List ℕ)) → IsOrder settings files xs → IsOrder settings files ys → xs ≡ ys
one_order settings files xs ys f g =
    let starts : g.starts ≡ f.starts = one_whole settings g.starts f.starts g.whole f.whole in
    let walks : f.walks ≡ g.walks = one_walks files settings.build_root f.starts f.walks g.walks f.are (subst (λ ss. AreWalks files settings.build_root ss g.walks) starts g.are) in
    f.once ∙ ap first_places walks ∙ sym g.once

-- two places of a list: they are one, or one of them is before the other
Places : {A : Type 0} → List A → List A → A → A → Type 0
Places {A} xs ys x y =
    ((xs ≡ ys) × (x ≡ y)) ⊎ (((mid : List A) × (ys ≡ xs ++ x ∷ mid)) ⊎ ((mid : List A) × (xs ≡ ys ++ y ∷ mid)))

places_on : {A : Type 0} (z : A) (xs ys : List A) (x y : A) → Places xs ys x y → Places (z ∷ xs) (z ∷ ys) x y
unfolding Places
places_on z xs ys x y (inl h) = inl (ap (λ zs. z ∷ zs) h.0, h.1)
places_on z xs ys x y (inr (inl h)) = inr (inl (h.0, ap (λ zs. z ∷ zs) h.1))
places_on z xs ys x y (inr (inr h)) = inr (inr (h.0, ap (λ zs. z ∷ zs) h.1))

places : {A : Type 0} (xs ys : List A) (x y : A) (rs ss : List A) → xs ++ x ∷ rs ≡ ys ++ y ∷ ss → Places xs ys x y
unfolding Places
places [] [] x y rs ss e = inl (refl, cc)
places [] (w ∷ ys) x y rs ss e = let first : w ≡ x = cc in inr (inl (ys, ap (λ z. z ∷ ys) first))
places (z ∷ xs) [] x y rs ss e = let first : z ≡ y = cc in inr (inr (xs, ap (λ w. w ∷ xs) first))
places (z ∷ xs) (w ∷ ys) x y rs ss e =
    let first : z ≡ w = cc in
    let others : xs ++ x ∷ rs ≡ ys ++ y ∷ ss = cc in
    subst (λ k. Places (z ∷ xs) (k ∷ ys) x y) first (places_on z xs ys x y (places xs ys x y rs ss others))

-- ---- counts of entries

have_parts : (files : Files) (xs ys : List (List ℕ)) (n : ℕ) → HaveEntries files (xs ++ ys) n
    → (a b : ℕ) × HaveEntries files xs a × HaveEntries files ys b × (n ≡ a + b)
have_parts files [] ys n h = (0, n, refl, h, omega arith)
have_parts files (x ∷ xs) ys n h =
    let rest = have_parts files xs ys h.1 h.3 in
    (length h.0 + rest.0, rest.1, (h.0, rest.0, h.2, rest.2, refl), rest.3, sums (length h.0) h.1 n rest.0 rest.1 h.4 rest.4)
  where
    sums : (l o n a b : ℕ) → n ≡ l + o → o ≡ a + b → n ≡ (l + a) + b
    sums l o n a b p q = omega arith

one_sum : (files : Files) (xs : List (List ℕ)) (n m : ℕ) → HaveEntries files xs n → HaveEntries files xs m → n ≡ m
one_sum files [] n m f g = f ∙ sym g
one_sum files (x ∷ xs) n m f g =
    let here = one_count files x f.0 g.0 f.2 g.2 in
    let others = one_sum files xs f.1 g.1 f.3 g.3 in
    f.4 ∙ ap (λ l. l + f.1) here ∙ ap (λ o. length g.0 + o) others ∙ sym g.4

-- where all these folders are within the limits, so is each front with the next
past : (files : Files) (kind : LimitKind) (before rest : List (List ℕ)) (folder : List ℕ) (count all : ℕ)
    → AreWithin files (before ++ folder ∷ rest) all → AreWithin files before count → PassesAt files kind folder count → ⊥
past files kind before rest folder count all whole front (inl deep) =
    let at : Contains (before ++ folder ∷ rest) folder = contains_right before (folder ∷ rest) folder (contains_first folder rest) in
    let P : List ℕ → Type 0 = λ f. depth_of f ≤ most_components in
    let shallow : depth_of folder ≤ most_components = subst P at.2 (whole.shallow at.0 folder at.1) in
    let steep : most_components < depth_of folder = deep.1 in
    omega arith
past files kind before rest folder count all whole front (inr many) =
    let split = have_parts files before (folder ∷ rest) all whole.counted in
    let same : split.0 ≡ count = one_sum files before split.0 count split.2 front.counted in
    let entries = one_count files folder split.3.0 many.2.0 split.3.2 many.2.1 in
    over split.0 split.1 split.3.1 (length split.3.0) (length many.2.0) count all whole.few split.4 split.3.4 same entries many.2.2
  where
    over : (a b o l k n all : ℕ) → all ≤ most_entries → all ≡ a + b → b ≡ l + o → a ≡ n → l ≡ k → most_entries < n + k → ⊥
    over a b o l k n all few p q s t many = omega arith

-- ---- the limits of listing

listing_apart : (settings : ProjectSettings) (files : Files) (kind : LimitKind) (folder : List ℕ) → ListingStays settings files → ListingPasses settings files kind folder → ⊥
listing_apart settings files kind folder s p =
    let same : s.folders ≡ p.before ++ folder ∷ p.rest = one_order settings files s.folders (p.before ++ folder ∷ p.rest) s.order p.order in
    past files kind p.before p.rest folder p.count s.count (subst (λ fs. AreWithin files fs s.count) same s.within) p.within p.passes

same_kind : (files : Files) (kind other : LimitKind) (folder : List ℕ) (count : ℕ) → PassesAt files kind folder count → PassesAt files other folder count → kind ≡ other
same_kind files kind other folder count (inl f) (inl g) = f.0 ∙ sym g.0
same_kind files kind other folder count (inl f) (inr g) = absurd (between (depth_of folder) f.1 g.1)
  where
    between : (d : ℕ) → most_components < d → d ≤ most_components → ⊥
    between d over under = omega arith
same_kind files kind other folder count (inr f) (inl g) = absurd (between (depth_of folder) g.1 f.1)
  where
    between : (d : ℕ) → most_components < d → d ≤ most_components → ⊥
    between d over under = omega arith
same_kind files kind other folder count (inr f) (inr g) = f.0 ∙ sym g.0

one_listing : (settings : ProjectSettings) (files : Files) (kind other : LimitKind) (folder place : List ℕ)
    → ListingPasses settings files kind folder → ListingPasses settings files other place → (kind ≡ other) × (folder ≡ place)
unfolding Places
one_listing settings files kind other folder place p q =
    ⊎_elim
    (λ h.
    let counts : q.count ≡ p.count = one_sum files p.before q.count p.count (subst (λ fs. HaveEntries files fs q.count) (sym h.0) q.within.counted) p.within.counted in (
      same_kind files kind other folder p.count p.passes
          (subst (λ n. PassesAt files other folder n) counts (subst (λ f. PassesAt files other f q.count) (sym h.1) q.passes)),
      h.1,
    ))
    (λ others. ⊎_elim
    (λ h. absurd (past files kind p.before h.0 folder p.count q.count (subst (λ fs. AreWithin files fs q.count) h.1 q.within) p.within p.passes))
    (λ h. absurd (past files other q.before h.0 place q.count p.count (subst (λ fs. AreWithin files fs p.count) h.1 p.within) q.within q.passes))
    others)
    (places p.before q.before folder place p.rest q.rest (one_order settings files (p.before ++ folder ∷ p.rest) (q.before ++ place ∷ q.rest) p.order q.order))

-- ---- the limits of reading

same_text : (o : Option (List ℕ)) (a b : List ℕ) → o ≡ Some a → o ≡ Some b → a ≡ b
same_text o a b f g = cc

over_under : (l m : ℕ) → m < l → l ≤ m → ⊥
over_under l m over under = omega arith

-- what is judged of the next text
Judged : Files → List ℕ → List (List ℕ) → ℕ → LimitKind → List ℕ → List ℕ → Type 0
Judged files next paths read kind path text =
    ((kind ≡ limits.FileBytes) × (path ≡ next) × (most_file_bytes < length text))
    ⊎ (((kind ≡ limits.AllBytes) × (path ≡ next) × (length text ≤ most_file_bytes) × (most_bytes < read + length text))
    ⊎ ((length text ≤ most_file_bytes) × (read + length text ≤ most_bytes) × ReadingPasses files paths (read + length text) kind path))

reading_apart : (files : Files) (paths : List (List ℕ)) (read : ℕ) (kind : LimitKind) (path : List ℕ) → ReadingStays files paths read → ReadingPasses files paths read kind path → ⊥
unfolding Judged
reading_apart files [] read kind path s p = p
reading_apart files (next ∷ paths) read kind path s p =
    let text : p.0 ≡ s.0 = same_text (get files next) p.0 s.0 p.1 s.1 in
    let judged : Judged files next paths read kind path s.0 = subst (Judged files next paths read kind path) text p.2 in
    ⊎_elim
    (λ long. over_under (length s.0) most_file_bytes long.2 s.2)
    (λ others. ⊎_elim
    (λ many. over_under (read + length s.0) most_bytes many.3 s.3)
    (λ rest. reading_apart files paths (read + length s.0) kind path s.4 rest.2)
    others)
    judged

one_judged : (files : Files) (next : List ℕ) (paths : List (List ℕ)) (read : ℕ) (kind other : LimitKind) (path place text : List ℕ)
    → ((n : ℕ) → ReadingPasses files paths n kind path → ReadingPasses files paths n other place → (kind ≡ other) × (path ≡ place))
    → Judged files next paths read kind path text → Judged files next paths read other place text → (kind ≡ other) × (path ≡ place)
unfolding Judged
one_judged files next paths read kind other path place text below (inl f) (inl g) = (f.0 ∙ sym g.0, f.1 ∙ sym g.1)
one_judged files next paths read kind other path place text below (inl f) (inr (inl g)) = absurd (over_under (length text) most_file_bytes f.2 g.2)
one_judged files next paths read kind other path place text below (inl f) (inr (inr g)) = absurd (over_under (length text) most_file_bytes f.2 g.0)
one_judged files next paths read kind other path place text below (inr (inl f)) (inl g) = absurd (over_under (length text) most_file_bytes g.2 f.2)
one_judged files next paths read kind other path place text below (inr (inl f)) (inr (inl g)) = (f.0 ∙ sym g.0, f.1 ∙ sym g.1)
one_judged files next paths read kind other path place text below (inr (inl f)) (inr (inr g)) = absurd (over_under (read + length text) most_bytes f.3 g.1)
one_judged files next paths read kind other path place text below (inr (inr f)) (inl g) = absurd (over_under (length text) most_file_bytes g.2 f.0)
one_judged files next paths read kind other path place text below (inr (inr f)) (inr (inl g)) = absurd (over_under (read + length text) most_bytes g.3 f.1)
one_judged files next paths read kind other path place text below (inr (inr f)) (inr (inr g)) = below (read + length text) f.2 g.2

one_reading : (files : Files) (paths : List (List ℕ)) (read : ℕ) (kind other : LimitKind) (path place : List ℕ)
    → ReadingPasses files paths read kind path → ReadingPasses files paths read other place → (kind ≡ other) × (path ≡ place)
unfolding Judged
one_reading files [] read kind other path place p q = absurd p
one_reading files (next ∷ paths) read kind other path place p q =
    let text : q.0 ≡ p.0 = same_text (get files next) q.0 p.0 q.1 p.1 in
    let judged : Judged files next paths read other place p.0 = subst (Judged files next paths read other place) text q.2 in
    one_judged files next paths read kind other path place p.0 (λ n f g. one_reading files paths n kind other path place f g) p.2 judged

-- ---- all limits

one_list : (settings : ProjectSettings) (files : Files) (a b : Listed settings files) → a.paths ≡ b.paths
one_list settings files a b = one_set (IsListed settings files) a.paths b.paths a.all b.all

too_many : (paths : List (List ℕ)) (n : ℕ) (path : List ℕ) → slice_get paths n ≡ Some path → length paths ≤ n → ⊥
too_many paths n path at few = let past_end = slice_get_past paths n few in cc

pub stays_or_passes : (settings : ProjectSettings) (files : Files) (kind : LimitKind) (path : List ℕ) → Stays settings files → Passes settings files kind path → ⊥
stays_or_passes settings files kind path s (inl p) = listing_apart settings files kind path s.0.stays p
stays_or_passes settings files kind path s (inr (listed, inl p)) =
    too_many s.0.paths most_files path (subst (λ ps. slice_get ps most_files ≡ Some path) (one_list settings files listed s.0) p.1) s.1
stays_or_passes settings files kind path s (inr (listed, inr p)) =
    reading_apart files s.0.paths 0 kind path s.2 (subst (λ ps. ReadingPasses files ps 0 kind path) (one_list settings files listed s.0) p.1)

pub one_limit : (settings : ProjectSettings) (files : Files) (kind other : LimitKind) (path place : List ℕ)
    → Passes settings files kind path → Passes settings files other place → (kind ≡ other) × (path ≡ place)
one_limit settings files kind other path place (inl p) (inl q) = one_listing settings files kind other path place p q
one_limit settings files kind other path place (inl p) (inr (listed, q)) = absurd (listing_apart settings files kind path listed.stays p)
one_limit settings files kind other path place (inr (listed, p)) (inl q) = absurd (listing_apart settings files other place listed.stays q)
one_limit settings files kind other path place (inr (listed, inl p)) (inr (again, inl q)) =
    let at : slice_get again.paths most_files ≡ Some path = subst (λ ps. slice_get ps most_files ≡ Some path) (one_list settings files listed again) p.1 in
    (p.0 ∙ sym q.0, same_text (slice_get again.paths most_files) path place at q.1)
one_limit settings files kind other path place (inr (listed, inl p)) (inr (again, inr q)) =
    absurd (too_many again.paths most_files path (subst (λ ps. slice_get ps most_files ≡ Some path) (one_list settings files listed again) p.1) q.0)
one_limit settings files kind other path place (inr (listed, inr p)) (inr (again, inl q)) =
    absurd (too_many listed.paths most_files place (subst (λ ps. slice_get ps most_files ≡ Some place) (one_list settings files again listed) q.1) p.0)
one_limit settings files kind other path place (inr (listed, inr p)) (inr (again, inr q)) =
    one_reading files again.paths 0 kind other path place (subst (λ ps. ReadingPasses files ps 0 kind path) (one_list settings files listed again) p.1) q.1

-- ---- what is found

module _ (settings : ProjectSettings) (files : Files) (a b : Found) (f : IsFound settings files a) (g : IsFound settings files b) where
  one_tests : a.tests ≡ b.tests
  one_tests = one_set (IsTest settings files) a.tests b.tests f.tests g.tests

  one_sources : a.sources ≡ b.sources
  one_sources = one_set (IsSource settings files) a.sources b.sources f.sources g.sources

  one_headers : a.headers ≡ b.headers
  one_headers = one_set (IsHeader settings files) a.headers b.headers f.headers g.headers

  one_folders : a.folders ≡ b.folders
  one_folders =
      let include = one_set (in_include settings files) f.folders.include g.folders.include f.folders.include_folders g.folders.include_folders in
      let source = one_set (in_source settings files) f.folders.source g.folders.source f.folders.source_folders g.folders.source_folders in
      let test = one_set (in_test settings files) f.folders.test g.folders.test f.folders.test_folders g.folders.test_folders in
      let support = one_set (in_support settings files) f.folders.support g.folders.support f.folders.support_folders g.folders.support_folders in
      f.folders.whole ∙ ap (λ t. t ++ f.folders.source ++ f.folders.test ++ f.folders.support) include ∙ ap (λ t. g.folders.include ++ t ++ f.folders.test ++ f.folders.support) source
      ∙ ap (λ t. g.folders.include ++ g.folders.source ++ t ++ f.folders.support) test ∙ ap (λ t. g.folders.include ++ g.folders.source ++ g.folders.test ++ t) support ∙ sym g.folders.whole

  -- whether a file is listed is seen from the lists
  is_listed : (path : List ℕ) → IsListed settings files path ⊎ (IsListed settings files path → ⊥)
  is_listed path =
      elim (list_any (bytes_eq path) a.tests) as (λ t. list_any (bytes_eq path) a.tests ≡ t → IsListed settings files path ⊎ (IsListed settings files path → ⊥)) [
        | true ↦ λ d. inl (inl ((f.tests.each path).0 (seen_member path a.tests d)))
        | false ↦ λ d. elim (list_any (bytes_eq path) a.sources) as (λ t. list_any (bytes_eq path) a.sources ≡ t → IsListed settings files path ⊎ (IsListed settings files path → ⊥)) [
          | true ↦ λ e. inl (inr (inl ((f.sources.each path).0 (seen_member path a.sources e))))
          | false ↦ λ e. elim (list_any (bytes_eq path) a.headers) as (λ t. list_any (bytes_eq path) a.headers ≡ t → IsListed settings files path ⊎ (IsListed settings files path → ⊥)) [
            | true ↦ λ i. inl (inr (inr ((f.headers.each path).0 (seen_member path a.headers i))))
            | false ↦ λ i. inr (λ h. elim h [
              | inl k ↦ false≢true (sym d ∙ member_seen path a.tests ((f.tests.each path).1 k))
              | inr others ↦ elim others [
                | inl k ↦ false≢true (sym e ∙ member_seen path a.sources ((f.sources.each path).1 k))
                | inr k ↦ false≢true (sym i ∙ member_seen path a.headers ((f.headers.each path).1 k))
              ]
            ])
          ] refl
        ] refl
      ] refl

  one_texts : a.texts ≡ b.texts
  one_texts = same_map nat_list_cmp_total (slice_cmp-IsAntisymmetric nat_cmp-IsAntisymmetric) a.texts b.texts (λ path.
      ⊎_elim
      (λ h. f.texts.listed path h ∙ sym (g.texts.listed path h))
      (λ n. f.texts.others path n ∙ sym (g.texts.others path n))
      (is_listed path))

  pub one_found : a ≡ b
  one_found = λ i. record { tests = one_tests i; sources = one_sources i; headers = one_headers i; folders = one_folders i; texts = one_texts i }
