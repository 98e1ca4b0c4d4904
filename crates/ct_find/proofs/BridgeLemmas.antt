-- What the listed folders say of the whole tree of files.
use Rattle.std.proofs.Common.{ℕ, ◌≤◌, inl, inr, List, [], ◌∷◌, ◌++◌, false, Ok, Err, length, map, refl, sym, ap, subst, ◌∙◌, ◌≡◌, rules, append-nil}
use Rattle.std.specs.Prelude.{All, sum_by, Result}
use Rattle.std.specs.List.{Contains}
use Rattle.std.proofs.lemmas.List.Elements.{All-cons}
use Rattle.std.proofs.lemmas.List.Sums.{sum_by-cons}
use Rattle.ct_base.specs.declared.limits.LimitKind.{LimitKind}
use Rattle.ct_base.specs.declared.memory.Fail.{Fail}
use Rattle.ct_base.specs.declared.memory.Fail.TheVariants.{Fault, OutOfMemory}
use Rattle.ct_outside.specs.Files.{Files}
use Rattle.ct_settings.specs.declared.record.ProjectSettings.{ProjectSettings}
use Rattle.ct_find.specs.declared.files.FindFault.{FindFault}
use Rattle.ct_find.specs.declared.files.FindFault.TheVariants.{Read, Limit}
use Rattle.ct_find.specs.declared.files.Files.{Files as Found}
use Rattle.ct_find.specs.declared.picking.Kind.TheVariants as kinds
use Rattle.ct_find.specs.declared.search.FileLists.{FileLists}
use Rattle.ct_find.specs.declared.starts.Start.{Start}
use Rattle.ct_find.specs.declared.rows.Row.{Row}
use Rattle.ct_find.specs.Finding.{FindsListed, IsListed}
use Rattle.ct_find.specs.Folders.{is_at_or_below, IsHeader, IsListed as IsListedFile, IsSource, IsTest, in_include, in_source, in_support, in_test}
use Rattle.ct_find.specs.Limits.{AreWithin, HaveEntries, ListingPasses, depth_of, most_components}
use Rattle.ct_find.specs.Order.{AreWalks, IsOrder, IsWhole, nothing, first_places}
use Rattle.ct_find.specs.Results.{AreFolders, Finds, IsFound, Listed}
use Rattle.ct_find.specs.Rows.{Lists, AreListings, AreThere, IsInLists, IsMatchedRow, IsPicked, IsWalked, WalkPasses}
use Rattle.ct_find.specs.Sets.{AreSorted}
use Rattle.ct_find.proofs.GroupLemmas.{group_paths, matched_group}
use Rattle.ct_find.proofs.KindLemmas.{GroupsAre, headers_are, sources_are, tests_are}
use Rattle.ct_find.proofs.Members.{contains_append, contains_first, contains_left, contains_more, contains_right, map_contains}
use Rattle.ct_find.proofs.OrderLemmas.{places_split}
use Rattle.ct_find.proofs.ReachLemmas.{ArePaths}
use Rattle.ct_find.proofs.SetLemmas.{sorted_as}
use Rattle.ct_find.proofs.WalkOrder.{walks_begin, walks_exist, walks_of}
use Rattle.ct_find.proofs.WalkedLemmas.{fresh_out}

all_of : (P : List ℕ → Type 0) (xs : List (List ℕ)) → ((x : List ℕ) → Contains xs x → P x) → All P xs
all_of P [] h = search rules
all_of P (x ∷ xs) h = All-cons P x xs (h x (contains_first x xs)) (all_of P xs (λ y m. h y (contains_more x xs y m)))

of_all : (rows : List Row) (row : Row) → All (λ r. depth_of r.folder ≤ most_components) rows → Contains rows row → depth_of row.folder ≤ most_components
of_all rows row h m = subst (λ (r : Row). depth_of r.folder ≤ most_components) m.2 (h m.0 row m.1)

have_entries : (files : Files) (rows : List Row) → AreListings files rows → HaveEntries files (map (λ (r : Row). r.folder) rows) (sum_by (λ (r : Row). length r.entries) rows)
have_entries files [] h = refl
have_entries files (row ∷ rows) h = (
  row.entries,
  sum_by (λ (r : Row). length r.entries) rows,
  h row (contains_first row rows),
  have_entries files rows (λ r m. h r (contains_more row rows r m)),
  sum_by-cons (λ (r : Row). length r.entries) row rows,
)

-- no limit is passed by the folders that were listed
within_of : (files : Files) (build : List ℕ) (starts left : List Start) (rows : List Row) (count : ℕ) (w : IsWalked files build starts left rows count)
    → AreWithin files (first_places w.folders) count
within_of files build starts left rows count w = record {
  shallow = all_of (λ (f : List ℕ). depth_of f ≤ most_components) (first_places w.folders) (λ f m.
      let r = map_contains (λ (x : Row). x.folder) rows f (subst (λ (fs : List (List ℕ)). Contains fs f) (sym w.rows_are) m) in
      subst (λ (x : List ℕ). depth_of x ≤ most_components) r.2 (of_all rows r.0 w.shallow r.1));
  counted = subst (λ (n : ℕ). HaveEntries files (first_places w.folders) n) (sym w.counted) (subst (λ (fs : List (List ℕ)). HaveEntries files fs (sum_by (λ (r : Row). length r.entries) rows)) w.rows_are (have_entries files rows w.listings));
  few = w.few;
}

-- the folders that were listed are all, in the order of listing
order_of : (settings : ProjectSettings) (files : Files) (starts : List Start) (folders : List (List ℕ)) → IsWhole settings starts → Lists files settings.build_root starts folders []
    → IsOrder settings files (first_places folders)
order_of settings files starts folders whole lists = record {
  starts = starts;
  whole = whole;
  walks = folders;
  are = subst (λ (fs : List (List ℕ)). AreWalks files settings.build_root starts fs) (append-nil folders) (walks_of files settings.build_root starts [] folders [] lists nothing);
  once = refl;
}

-- the folder that passes a limit is the next one in the order of listing
listing_passes : (settings : ProjectSettings) (files : Files) (starts : List Start) (kind : LimitKind) (folder : List ℕ) → IsWhole settings starts → WalkPasses files settings.build_root starts kind folder
    → ListingPasses settings files kind folder
listing_passes settings files starts kind folder whole p =
    let build : List ℕ = settings.build_root in
    let before : List (List ℕ) = p.walked.folders in
    let more = walks_exist files build (p.start ∷ p.left) in
    let first = walks_begin files build p.start p.left more.0 (subst (λ (f : List ℕ). is_at_or_below build f ≡ false) p.is p.outside) more.1 in
    let on : more.0 ≡ folder ∷ first.0 = first.1 ∙ ap (λ (f : List ℕ). f ∷ first.0) (sym p.is) in
    let fresh : Contains before folder → ⊥ = fresh_out p.rows folder before p.walked.rows_are p.fresh in
    let split = places_split before folder first.0 fresh in record {
      before = first_places before;
      rest = split.0;
      order = record {
        starts = starts;
        whole = whole;
        walks = before ++ folder ∷ first.0;
        are = subst (λ (fs : List (List ℕ)). AreWalks files build starts (before ++ fs)) on (walks_of files build starts (p.start ∷ p.left) before more.0 p.walked.lists more.1);
        once = split.1;
      };
      count = p.count;
      within = within_of files build starts (p.start ∷ p.left) p.rows p.count p.walked;
      passes = p.passes;
    }

-- the starts of the four groups
whole_paths : (settings : ProjectSettings) (starts : List Start) → IsWhole settings starts → ArePaths starts
whole_paths settings starts w s m = elim (contains_append ((w.test ++ w.source) ++ w.include) w.support s (subst (λ (ls : List Start). Contains ls s) w.whole m)) [
  | inl a ↦ elim (contains_append (w.test ++ w.source) w.include s a) [
    | inl b ↦ elim (contains_append w.test w.source s b) [
      | inl c ↦ group_paths settings.test w.test w.test_starts s c
      | inr c ↦ group_paths settings.source w.source w.source_starts s c
    ]
    | inr b ↦ group_paths settings.include w.include w.include_starts s b
  ]
  | inr a ↦ group_paths settings.support w.support w.support_starts s a
]

groups_are : (settings : ProjectSettings) (files : Files) (starts : List Start) (rows : List Row) (count : ℕ) → IsWhole settings starts → IsWalked files settings.build_root starts [] rows count → GroupsAre settings files rows
groups_are settings files starts rows count h w =
    let paths = whole_paths settings starts h in
    let into : (s : Start) → Contains (((h.test ++ h.source) ++ h.include) ++ h.support) s → Contains starts s = λ s m. subst (λ (ls : List Start). Contains ls s) (sym h.whole) m in record {
      test = matched_group files settings.build_root starts rows count settings.test h.test w paths h.test_starts
          (λ s m. into s (contains_left ((h.test ++ h.source) ++ h.include) h.support s (contains_left (h.test ++ h.source) h.include s (contains_left h.test h.source s m))));
      source = matched_group files settings.build_root starts rows count settings.source h.source w paths h.source_starts
          (λ s m. into s (contains_left ((h.test ++ h.source) ++ h.include) h.support s (contains_left (h.test ++ h.source) h.include s (contains_right h.test h.source s m))));
      include = matched_group files settings.build_root starts rows count settings.include h.include w paths h.include_starts
          (λ s m. into s (contains_left ((h.test ++ h.source) ++ h.include) h.support s (contains_right (h.test ++ h.source) h.include s m)));
      support = matched_group files settings.build_root starts rows count settings.support h.support w paths h.support_starts
          (λ s m. into s (contains_right ((h.test ++ h.source) ++ h.include) h.support s m));
    }

module _ (settings : ProjectSettings) (files : Files) (lists : FileLists) (paths : List (List ℕ)) (l : IsListed settings files lists paths) where
  rows : List Row
  rows = l.listing.rows

  are : GroupsAre settings files l.listing.rows
  are = groups_are settings files l.starts l.listing.rows l.listing.entries l.whole l.walked

  pub set_tests : AreSorted (IsTest settings files) lists.tests
  set_tests = sorted_as (IsPicked l.listing.rows settings kinds.Test) (IsTest settings files) lists.tests (tests_are settings files l.listing.rows l.walked.listings l.are.groups are) l.are.tests

  pub set_sources : AreSorted (IsSource settings files) lists.sources
  set_sources = sorted_as (IsPicked l.listing.rows settings kinds.Source) (IsSource settings files) lists.sources (sources_are settings files l.listing.rows l.walked.listings l.are.groups are) l.are.sources

  pub set_headers : AreSorted (IsHeader settings files) lists.headers
  set_headers = sorted_as (IsPicked l.listing.rows settings kinds.Header) (IsHeader settings files) lists.headers (headers_are settings files l.listing.rows l.walked.listings l.are.groups are) l.are.headers

  pub set_all : AreSorted (IsListedFile settings files) paths
  set_all = sorted_as (IsInLists lists) (IsListedFile settings files) paths (λ p. (
    λ h. elim h [ inl m ↦ inl ((set_tests.each p).0 m) | inr m ↦ inr (elim m [ inl n ↦ inl ((set_sources.each p).0 n) | inr n ↦ inr ((set_headers.each p).0 n) ]) ],
    λ h. elim h [ inl m ↦ inl ((set_tests.each p).1 m) | inr m ↦ inr (elim m [ inl n ↦ inl ((set_sources.each p).1 n) | inr n ↦ inr ((set_headers.each p).1 n) ]) ],
  )) l.all

  pub all_there : AreThere files paths
  all_there p m = elim ((set_all.each p).0 m) [ inl t ↦ t.3.0 | inr s ↦ elim s [ inl t ↦ t.3.0 | inr t ↦ t.3.0 ] ]

  pub the_listed : Listed settings files
  the_listed = record {
    paths = paths;
    stays = record {
      folders = first_places l.walked.folders;
      order = order_of settings files l.starts l.walked.folders l.whole l.walked.lists;
      count = l.listing.entries;
      within = within_of files settings.build_root l.starts [] l.listing.rows l.listing.entries l.walked;
    };
    all = set_all;
  }

  pub the_folders : AreFolders settings files lists.folders
  the_folders = record {
    include = l.are.folders.include;
    source = l.are.folders.source;
    test = l.are.folders.test;
    support = l.are.folders.support;
    include_folders = sorted_as (IsMatchedRow l.listing.rows settings.include) (in_include settings files) l.are.folders.include are.include l.are.folders.include_folders;
    source_folders = sorted_as (IsMatchedRow l.listing.rows settings.source) (in_source settings files) l.are.folders.source are.source l.are.folders.source_folders;
    test_folders = sorted_as (IsMatchedRow l.listing.rows settings.test) (in_test settings files) l.are.folders.test are.test l.are.folders.test_folders;
    support_folders = sorted_as (IsMatchedRow l.listing.rows settings.support) (in_support settings files) l.are.folders.support are.support l.are.folders.support_folders;
    whole = l.are.folders.whole;
  }

-- what a search finds, from the folders that it listed
pub finds_of : (settings : ProjectSettings) (files : Files) (result : Result Found (Fail FindFault)) → FindsListed settings files result → Finds settings files result
unfolding the_listed
finds_of settings files (Ok found) (lists, paths, listed, few, reads) =
    let read = reads (all_there settings files lists paths listed) in
    let all = set_all settings files lists paths listed in
    let whole : Found = record { tests = lists.tests; sources = lists.sources; headers = lists.headers; folders = lists.folders; texts = found.texts } in
    let is : IsFound settings files whole = record {
      tests = set_tests settings files lists paths listed;
      sources = set_sources settings files lists paths listed;
      headers = set_headers settings files lists paths listed;
      folders = the_folders settings files lists paths listed;
      texts = record {
        listed = λ p h. read.0.1 p ((all.each p).1 h);
        others = λ p n. read.0.2 p (λ m. n ((all.each p).0 m));
      };
    } in
    ((the_listed settings files lists paths listed, few, read.0.0), subst (λ (f : Found). IsFound settings files f) (sym read.1) is)
finds_of settings files (Err OutOfMemory) h = tt
finds_of settings files (Err (Fault Read)) h = tt
finds_of settings files (Err (Fault (Limit kind path))) h = elim h [
  | inl w ↦ inl (listing_passes settings files w.0 kind path w.1 w.2)
  | inr l ↦ inr (
    the_listed settings files l.0 l.1 l.2,
    elim l.3 [
      | inl many ↦ inl many
      | inr (few, passes) ↦ inr (few, passes (all_there settings files l.0 l.1 l.2))
    ],
  )
]
