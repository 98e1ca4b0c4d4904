-- The files of the listed folders are the files that the rules pick.
use Rattle.std.proofs.Common.{◌≡◌, ℕ, ◌+◌, ◌-◌, ◌⊎◌, inl, inr, ◌↔◌, List, [], ◌∷◌, ◌++◌, Bool, true, false, cond, not, ◌||◌, IsTrue, Option, Some, None, length, take, drop, refl, sym, ap, subst, ◌∙◌, arith, nat_eq, suc}
use Rattle.std.specs.Prelude.{◌&&◌, codes, if◌then◌else◌}
use Rattle.std.specs.Option.{option_map}
use Rattle.std.specs.List.{Contains, before_first, ends_with, list_any, position_or_len}
use Rattle.std.proofs.lemmas.Bool.{false≢true, or_cases, and_parts}
use Rattle.std.specs.Str.{bytes_eq}
use Rattle.std.proofs.lemmas.Slice.Eq.{bytes_eq-Decides}
use Rattle.ct_outside.specs.declared.tree.Entry.{Entry}
use Rattle.ct_outside.specs.Files.{Files, IsEntry, IsListing, entry_at, is_slash, rest_below}
use Rattle.ct_settings.specs.declared.record.Pattern.{Pattern}
use Rattle.ct_settings.specs.declared.record.ProjectSettings.{ProjectSettings}
use Rattle.ct_find.specs.declared.picking.Groups.{Groups}
use Rattle.ct_find.specs.declared.picking.Kind.{Kind}
use Rattle.ct_find.specs.declared.picking.Kind.TheVariants.{Test, Source, Header}
use Rattle.ct_find.specs.declared.rows.Row.{Row}
use Rattle.ct_find.specs.Folders.{InGroup, IsFileIn, IsHeader, IsSource, IsTest, in_include, in_source, in_support, in_test, is_test_name}
use Rattle.ct_find.specs.Order.{inside}
use Rattle.ct_find.specs.Rows.{AreGroups, AreListings, HaveGroups, IsMatched, IsMatchedRow, IsPicked, kind_of}
use Rattle.ct_find.proofs.Members.{contains_none}
use Rattle.ct_find.proofs.ReachLemmas.{below_is, slash_in}
use Rattle.ct_find.proofs.WalkedLemmas.{same_entry}

-- the first of three tests that passes
kind3 : Bool → Bool → Bool → Option Kind
kind3 a b d = if a then Some Test else (if b then Some Source else (if d then Some Header else None))

is_test_kind : (a b d : Bool) → kind3 a b d ≡ Some Test → a ≡ true
unfolding kind3
is_test_kind true b d e = refl
is_test_kind false true d e = absurd (cc)
is_test_kind false false true e = absurd (cc)
is_test_kind false false false e = absurd (cc)

is_source_kind : (a b d : Bool) → kind3 a b d ≡ Some Source → (a ≡ false) × (b ≡ true)
unfolding kind3
is_source_kind true b d e = absurd (cc)
is_source_kind false true d e = (refl, refl)
is_source_kind false false true e = absurd (cc)
is_source_kind false false false e = absurd (cc)

is_header_kind : (a b d : Bool) → kind3 a b d ≡ Some Header → d ≡ true
unfolding kind3
is_header_kind true b d e = absurd (cc)
is_header_kind false true d e = absurd (cc)
is_header_kind false false true e = refl
is_header_kind false false false e = absurd (cc)

true_and : (a b : Bool) → a ≡ true → b ≡ true → (a && b) ≡ true
true_and true b p q = q
true_and false b p q = absurd (false≢true p)

true_or : (a b : Bool) → (a ≡ true) ⊎ (b ≡ true) → (a || b) ≡ true
true_or true b h = refl
true_or false b h = elim h [ inl e ↦ absurd (false≢true e) | inr e ↦ e ]

plain_step : (b : ℕ) (bs : List ℕ) (t : Bool) → is_slash b ≡ t → (t || list_any is_slash bs) ≡ false → before_first is_slash bs ≡ bs
    → take (cond (not t) (1 + position_or_len is_slash bs) 0) (b ∷ bs) ≡ b ∷ bs
plain_step b bs true e h more = absurd (false≢true (sym h))
plain_step b bs false e h more =
    let one : 1 + position_or_len is_slash bs ≡ suc (position_or_len is_slash bs) = omega arith in
    rw one (ap (λ (x : List ℕ). b ∷ x) more)

tail_plain : (t : Bool) (bs : List ℕ) → (t || list_any is_slash bs) ≡ false → list_any is_slash bs ≡ false
tail_plain true bs h = absurd (false≢true (sym h))
tail_plain false bs h = h

whole_name : (name : List ℕ) → list_any is_slash name ≡ false → before_first is_slash name ≡ name
whole_name [] h = refl
whole_name (b ∷ bs) h = plain_step b bs (is_slash b) refl h (whole_name bs (tail_plain (is_slash b) bs h))

some_same : (x y : Entry) → Some x ≡ Some y → x ≡ y
some_same x y e = cc

file_at : (o : Option (List ℕ)) (name : List ℕ) → option_map {U = Entry} (λ r. record { name = before_first is_slash r; folder = list_any is_slash r }) o ≡ Some (record { name = name; folder = false })
    → (o ≡ Some name) × (list_any is_slash name ≡ false)
file_at None name h = absurd (cc)
file_at (Some r) name h =
    let left : Entry = record { name = before_first is_slash r; folder = list_any is_slash r } in
    let right : Entry = record { name = name; folder = false } in
    let same : left ≡ right = some_same left right h in
    let plain : list_any is_slash r ≡ false = ap (λ (x : Entry). x.folder) same in
    let is : r ≡ name = sym (whole_name r plain) ∙ ap (λ (x : Entry). x.name) same in
    (ap Some is, ap (list_any is_slash) (sym is) ∙ plain)

-- a file directly in a folder has this path
pub file_path : (folder name path : List ℕ) → entry_at folder path ≡ Some (record { name = name; folder = false }) → (path ≡ inside folder name) × (list_any is_slash name ≡ false)
file_path folder name path h = let r = file_at (rest_below folder path) name h in (below_is folder path name r.0, r.1)

-- an entry that is no folder is a file directly in the folder
pub entry_file : (files : Files) (row : Row) → IsListing files row.folder row.entries → (e : Entry) → Contains row.entries e → e.folder ≡ false → IsFileIn files row.folder e.name (inside row.folder e.name)
entry_file files row listing e m none =
    let same : e ≡ record { name = e.name; folder = false } = same_entry e (record { name = e.name; folder = false }) refl none in
    let lies : IsEntry files row.folder (record { name = e.name; folder = false }) = subst (λ (x : Entry). IsEntry files row.folder x) same ((listing.each e).0 m) in
    let is = file_path row.folder e.name lies.0 lies.2 in
    subst (λ (p : List ℕ). IsFileIn files row.folder e.name p) is.0 (lies.1, lies.2)

pub file_entry : (files : Files) (row : Row) (name path : List ℕ) → IsListing files row.folder row.entries → IsFileIn files row.folder name path
    → Contains row.entries (record { name = name; folder = false }) × (path ≡ inside row.folder name)
file_entry files row name path listing is = ((listing.each (record { name = name; folder = false })).1 (path, is.0, is.1), (file_path row.folder name path is.1).0)

split_once : (xs ys n m : List ℕ) → list_any is_slash n ≡ false → list_any is_slash m ≡ false → xs ++ 47 ∷ n ≡ ys ++ 47 ∷ m → (xs ≡ ys) × (n ≡ m)
split_once [] [] n m p q e = (refl, let same : n ≡ m = cc in same)
split_once [] (y ∷ ys) n m p q e = let same : n ≡ ys ++ 47 ∷ m = cc in absurd (false≢true (sym p ∙ ap (list_any is_slash) same ∙ slash_in ys m))
split_once (x ∷ xs) [] n m p q e = let same : xs ++ 47 ∷ n ≡ m = cc in absurd (false≢true (sym q ∙ ap (list_any is_slash) (sym same) ∙ slash_in xs n))
split_once (x ∷ xs) (y ∷ ys) n m p q e =
    let first : x ≡ y = cc in
    let others : xs ++ 47 ∷ n ≡ ys ++ 47 ∷ m = cc in
    let r = split_once xs ys n m p q others in
    (ap (λ (z : ℕ). z ∷ xs) first ∙ ap (λ (zs : List ℕ). y ∷ zs) r.0, r.1)

-- a file stands in one folder, under one name
one_place : (f g n m : List ℕ) → list_any is_slash n ≡ false → list_any is_slash m ≡ false → inside f n ≡ inside g m → (f ≡ g) × (n ≡ m)
one_place [] [] n m p q e = (refl, e)
one_place [] (c ∷ cs) n m p q e = absurd (false≢true (sym p ∙ ap (list_any is_slash) e ∙ slash_in (c ∷ cs) m))
one_place (b ∷ bs) [] n m p q e = absurd (false≢true (sym q ∙ ap (list_any is_slash) (sym e) ∙ slash_in (b ∷ bs) n))
one_place (b ∷ bs) (c ∷ cs) n m p q e = split_once (b ∷ bs) (c ∷ cs) n m p q e

pub record GroupsAre (settings : ProjectSettings) (files : Files) (rows : List Row) : Type 0 where
  pub test : (f : List ℕ) → IsMatchedRow rows settings.test f ↔ in_test settings files f
  pub source : (f : List ℕ) → IsMatchedRow rows settings.source f ↔ in_source settings files f
  pub include : (f : List ℕ) → IsMatchedRow rows settings.include f ↔ in_include settings files f
  pub support : (f : List ℕ) → IsMatchedRow rows settings.support f ↔ in_support settings files f

some_in : (row : Row) (e : Entry) → Contains row.entries e → row.entries ≡ [] → ⊥
some_in row e m none = contains_none e (subst (λ (es : List Entry). Contains es e) none m)

-- a listed folder with an entry is in a group where its patterns match it
group_of : (files : Files) (build : List ℕ) (rows : List Row) (patterns : List Pattern) (row : Row) (e : Entry) → ((f : List ℕ) → IsMatchedRow rows patterns f ↔ InGroup files build patterns f)
    → Contains rows row → Contains row.entries e → IsMatched patterns row.folder → InGroup files build patterns row.folder
group_of files build rows patterns row e both m n matched = (both row.folder).0 (row, m, (some_in row e n, matched, refl))

kind_is : (groups : Groups) (prefix name : List ℕ) (a b d : Bool) → (groups.test && is_test_name prefix name) ≡ a → ((groups.source || groups.support) && ends_with nat_eq name (codes ".c")) ≡ b
    → (((groups.include || groups.source) || (groups.test || groups.support)) && ends_with nat_eq name (codes ".h")) ≡ d
    → kind_of groups.test groups.source groups.include groups.support prefix name ≡ kind3 a b d
unfolding kind3
kind_is groups prefix name a b d p q r = rw (p, q, r) refl

-- the picked test files are the test files
pub tests_are : (settings : ProjectSettings) (files : Files) (rows : List Row) → AreListings files rows → HaveGroups settings rows → GroupsAre settings files rows
    → (path : List ℕ) → IsPicked rows settings Test path ↔ IsTest settings files path
unfolding kind3
tests_are settings files rows listings have are path = (
  λ h.
      let row : Row = h.0 in
      let groups : Groups = h.2.0 in
      let e : Entry = h.2.2.0 in
      let from = h.2.2.2 in
      let k = is_test_kind _ _ _ (sym (kind_is groups settings.test_prefix e.name _ _ _ refl refl refl) ∙ from.1) in
      let both = and_parts groups.test (is_test_name settings.test_prefix e.name) k in
      let group = group_of files settings.build_root rows settings.test row e are.test h.1 h.2.2.1 (h.2.1.test.0 both.0) in
      let file = entry_file files row (listings row h.1) e h.2.2.1 from.0 in
      (row.folder, e.name, group, subst (λ (p : List ℕ). IsFileIn files row.folder e.name p) (sym from.2) file, both.1),
  λ t.
      let found = (are.test t.0).1 t.2 in
      let row : Row = found.0 in
      let same : t.0 ≡ row.folder = found.2.2 in
      let file : IsFileIn files row.folder t.1 path = subst (λ (f : List ℕ). IsFileIn files f t.1 path) same t.3 in
      let entry = file_entry files row t.1 path (listings row found.1) file in
      let groups = have row found.1 in
      let matched : IsTrue groups.0.test = groups.1.test.1 found.2.1 in
      let a : (groups.0.test && is_test_name settings.test_prefix t.1) ≡ true = true_and groups.0.test (is_test_name settings.test_prefix t.1) matched t.4 in
      (row, found.1, (groups.0, groups.1, (record { name = t.1; folder = false }, entry.0, (refl, kind_is groups.0 settings.test_prefix t.1 true _ _ a refl refl, entry.1)))),
)

-- the row of a folder of a group
row_of : (files : Files) (build : List ℕ) (rows : List Row) (patterns : List Pattern) → ((f : List ℕ) → IsMatchedRow rows patterns f ↔ InGroup files build patterns f) → (f : List ℕ) → InGroup files build patterns f
    → (row : Row) × Contains rows row × (f ≡ row.folder) × IsMatched patterns row.folder
row_of files build rows patterns both f g = let h = (both f).1 g in (h.0, h.1, h.2.2, h.2.1)

no_test : (settings : ProjectSettings) (files : Files) (rows : List Row) (row : Row) (groups : Groups) (name path : List ℕ) → GroupsAre settings files rows → AreGroups settings row.folder groups → IsFileIn files row.folder name path
    → (groups.test && is_test_name settings.test_prefix name) ≡ false → IsTest settings files path → ⊥
no_test settings files rows row groups name path are known file none t =
    let here = file_path row.folder name path file.1 in
    let there = file_path t.0 t.1 path t.3.1 in
    let same = one_place row.folder t.0 name t.1 here.1 there.1 (sym here.0 ∙ there.0) in
    let g : in_test settings files row.folder = subst (λ (f : List ℕ). in_test settings files f) (sym same.0) t.2 in
    let matched : IsTrue groups.test = known.test.1 (g.added, g.kept) in
    let named : is_test_name settings.test_prefix name ≡ true = ap (is_test_name settings.test_prefix) same.1 ∙ t.4 in
    false≢true (sym none ∙ true_and groups.test (is_test_name settings.test_prefix name) matched named)

-- the picked sources are the sources
pub sources_are : (settings : ProjectSettings) (files : Files) (rows : List Row) → AreListings files rows → HaveGroups settings rows → GroupsAre settings files rows
    → (path : List ℕ) → IsPicked rows settings Source path ↔ IsSource settings files path
unfolding kind3
sources_are settings files rows listings have are path = (
  λ h.
      let row : Row = h.0 in
      let groups : Groups = h.2.0 in
      let e : Entry = h.2.2.0 in
      let from = h.2.2.2 in
      let k = is_source_kind _ _ _ (sym (kind_is groups settings.test_prefix e.name _ _ _ refl refl refl) ∙ from.1) in
      let both = and_parts (groups.source || groups.support) (ends_with nat_eq e.name (codes ".c")) k.1 in
      let group : in_source settings files row.folder ⊎ in_support settings files row.folder = elim (or_cases groups.source groups.support both.0) [
        | inl s ↦ inl (group_of files settings.build_root rows settings.source row e are.source h.1 h.2.2.1 (h.2.1.source.0 s))
        | inr s ↦ inr (group_of files settings.build_root rows settings.support row e are.support h.1 h.2.2.1 (h.2.1.support.0 s))
      ] in
      let file : IsFileIn files row.folder e.name path = subst (λ (p : List ℕ). IsFileIn files row.folder e.name p) (sym from.2) (entry_file files row (listings row h.1) e h.2.2.1 from.0) in
      (row.folder, e.name, group, file, both.1, no_test settings files rows row groups e.name path are h.2.1 file k.0),
  λ s.
      let found : (row : Row) × Contains rows row × (s.0 ≡ row.folder) × (IsMatched settings.source row.folder ⊎ IsMatched settings.support row.folder) = elim s.2 [
        | inl g ↦ let r = row_of files settings.build_root rows settings.source are.source s.0 g in (r.0, r.1, r.2, inl r.3)
        | inr g ↦ let r = row_of files settings.build_root rows settings.support are.support s.0 g in (r.0, r.1, r.2, inr r.3)
      ] in
      let row : Row = found.0 in
      let file : IsFileIn files row.folder s.1 path = subst (λ (f : List ℕ). IsFileIn files f s.1 path) found.2 s.3 in
      let entry = file_entry files row s.1 path (listings row found.1) file in
      let groups = have row found.1 in
      let b : ((groups.0.source || groups.0.support) && ends_with nat_eq s.1 (codes ".c")) ≡ true =
      true_and (groups.0.source || groups.0.support) (ends_with nat_eq s.1 (codes ".c")) (true_or groups.0.source groups.0.support (elim found.3 [ inl g ↦ inl (groups.1.source.1 g) | inr g ↦ inr (groups.1.support.1 g) ])) s.4 in
      let a : (groups.0.test && is_test_name settings.test_prefix s.1) ≡ false =
      untrue (groups.0.test && is_test_name settings.test_prefix s.1) (λ t.
      let both = and_parts groups.0.test (is_test_name settings.test_prefix s.1) t in
      let group = group_of files settings.build_root rows settings.test row (record { name = s.1; folder = false }) are.test found.1 entry.0 (groups.1.test.0 both.0) in
      s.5 (row.folder, s.1, group, file, both.1)) in
      (row, found.1, (groups.0, groups.1, (record { name = s.1; folder = false }, entry.0, (refl, kind_is groups.0 settings.test_prefix s.1 false true _ a b refl, entry.1)))),
)
  where
    untrue : (b : Bool) → (b ≡ true → ⊥) → b ≡ false
    untrue true n = absurd (n refl)
    untrue false n = refl

not_c : (name : List ℕ) → ends_with nat_eq name (codes ".h") ≡ true → ends_with nat_eq name (codes ".c") ≡ false
not_c name h =
    let tail : codes ".h" ≡ drop (length name - 2) name = (bytes_eq-Decides (codes ".h") (drop (length name - 2) name)).0 h in
    ap (λ (t : List ℕ). bytes_eq (codes ".c") t) (sym tail)

and_false : (a b : Bool) → b ≡ false → (a && b) ≡ false
and_false true b e = e
and_false false b e = refl

-- the picked headers are the headers
pub headers_are : (settings : ProjectSettings) (files : Files) (rows : List Row) → AreListings files rows → HaveGroups settings rows → GroupsAre settings files rows
    → (path : List ℕ) → IsPicked rows settings Header path ↔ IsHeader settings files path
unfolding kind3
headers_are settings files rows listings have are path = (
  λ h.
      let row : Row = h.0 in
      let groups : Groups = h.2.0 in
      let e : Entry = h.2.2.0 in
      let from = h.2.2.2 in
      let k = is_header_kind _ _ _ (sym (kind_is groups settings.test_prefix e.name _ _ _ refl refl refl) ∙ from.1) in
      let both = and_parts ((groups.include || groups.source) || (groups.test || groups.support)) (ends_with nat_eq e.name (codes ".h")) k in
      let file : IsFileIn files row.folder e.name path = subst (λ (p : List ℕ). IsFileIn files row.folder e.name p) (sym from.2) (entry_file files row (listings row h.1) e h.2.2.1 from.0) in
      let group : (in_include settings files row.folder ⊎ in_source settings files row.folder) ⊎ (in_test settings files row.folder ⊎ in_support settings files row.folder) =
      elim (or_cases (groups.include || groups.source) (groups.test || groups.support) both.0) [
        | inl s ↦ inl (elim (or_cases groups.include groups.source s) [
          | inl t ↦ inl (group_of files settings.build_root rows settings.include row e are.include h.1 h.2.2.1 (h.2.1.include.0 t))
          | inr t ↦ inr (group_of files settings.build_root rows settings.source row e are.source h.1 h.2.2.1 (h.2.1.source.0 t))
        ])
        | inr s ↦ inr (elim (or_cases groups.test groups.support s) [
          | inl t ↦ inl (group_of files settings.build_root rows settings.test row e are.test h.1 h.2.2.1 (h.2.1.test.0 t))
          | inr t ↦ inr (group_of files settings.build_root rows settings.support row e are.support h.1 h.2.2.1 (h.2.1.support.0 t))
        ])
      ] in
      (row.folder, e.name, group, file, both.1),
  λ s.
      let found : (row : Row) × Contains rows row × (s.0 ≡ row.folder)
      × ((IsMatched settings.include row.folder ⊎ IsMatched settings.source row.folder) ⊎ (IsMatched settings.test row.folder ⊎ IsMatched settings.support row.folder)) = elim s.2 [
        | inl t ↦ elim t [
          | inl g ↦ let r = row_of files settings.build_root rows settings.include are.include s.0 g in (r.0, r.1, r.2, inl (inl r.3))
          | inr g ↦ let r = row_of files settings.build_root rows settings.source are.source s.0 g in (r.0, r.1, r.2, inl (inr r.3))
        ]
        | inr t ↦ elim t [
          | inl g ↦ let r = row_of files settings.build_root rows settings.test are.test s.0 g in (r.0, r.1, r.2, inr (inl r.3))
          | inr g ↦ let r = row_of files settings.build_root rows settings.support are.support s.0 g in (r.0, r.1, r.2, inr (inr r.3))
        ]
      ] in
      let row : Row = found.0 in
      let file : IsFileIn files row.folder s.1 path = subst (λ (f : List ℕ). IsFileIn files f s.1 path) found.2 s.3 in
      let entry = file_entry files row s.1 path (listings row found.1) file in
      let groups = have row found.1 in
      let g : Groups = groups.0 in
      let searched : ((g.include || g.source) || (g.test || g.support)) ≡ true =
      true_or (g.include || g.source) (g.test || g.support) (elim found.3 [
        | inl t ↦ inl (true_or g.include g.source (elim t [ inl i ↦ inl (groups.1.include.1 i) | inr i ↦ inr (groups.1.source.1 i) ]))
        | inr t ↦ inr (true_or g.test g.support (elim t [ inl i ↦ inl (groups.1.test.1 i) | inr i ↦ inr (groups.1.support.1 i) ]))
      ]) in
      let c : ends_with nat_eq s.1 (codes ".c") ≡ false = not_c s.1 s.4 in
      let a : (g.test && is_test_name settings.test_prefix s.1) ≡ false = and_false g.test (is_test_name settings.test_prefix s.1) (and_false _ (ends_with nat_eq s.1 (codes ".c")) c) in
      let b : ((g.source || g.support) && ends_with nat_eq s.1 (codes ".c")) ≡ false = and_false (g.source || g.support) (ends_with nat_eq s.1 (codes ".c")) c in
      let d : (((g.include || g.source) || (g.test || g.support)) && ends_with nat_eq s.1 (codes ".h")) ≡ true =
      true_and ((g.include || g.source) || (g.test || g.support)) (ends_with nat_eq s.1 (codes ".h")) searched s.4 in
      (row, found.1, (g, groups.1, (record { name = s.1; folder = false }, entry.0, (refl, kind_is g settings.test_prefix s.1 false false true a b d, entry.1)))),
)
