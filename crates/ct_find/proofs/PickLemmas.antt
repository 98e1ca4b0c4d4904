-- Which files of the listed folders stand in the lists.
use Rattle.std.proofs.Common.{◌≡◌, ℕ, ◌+◌, ◌<◌, ◌⊎◌, inl, inr, ◌↔◌, List, [], ◌∷◌, ◌++◌, Bool, true, false, IsTrue, Some, Ok, Err, length, get_or, take, refl, sym, subst, ◌∙◌, arith}
use Rattle.std.specs.Prelude.{String, string_bytes, OnOk, Result}
use Rattle.std.specs.declared.alloc.Global.{Global}
use Rattle.std.specs.List.{Contains}
use Rattle.std.proofs.lemmas.Bool.{false≢true}
use Rattle.ct_outside.specs.declared.tree.Entry.{Entry}
use Rattle.ct_settings.specs.declared.record.Pattern.{Pattern}
use Rattle.ct_settings.specs.declared.record.ProjectSettings.{ProjectSettings}
use Rattle.ct_find.specs.declared.picking.Groups.{Groups}
use Rattle.ct_find.specs.declared.picking.Kind.{Kind}
use Rattle.ct_find.specs.declared.rows.Row.{Row}
use Rattle.ct_find.specs.Order.{inside}
use Rattle.ct_find.specs.Rows.{AreGroups, HaveGroups, IsMatched, IsMatchedAt, IsMatchedRow, IsPicked, IsPickedBy, IsPickedFrom, IsPickedIn, kind_of, texts_of}
use Rattle.ct_find.specs.Sets.{AreSorted}
use Rattle.ct_find.proofs.Members.{all_taken, contains_none, contains_taken}
use Rattle.ct_find.proofs.SetLemmas.{sorted_as}
use Rattle.ct_find.proofs.StartLemmas.{collected, collected_none, some_taken, taken_some}

or_more : (B S T R : Type 0) → (T → S ⊎ R) → B ⊎ T → (B ⊎ S) ⊎ R
or_more B S T R f h = elim h [ inl b ↦ inl (inl b) | inr t ↦ elim (f t) [ inl s ↦ inl (inr s) | inr r ↦ inr r ] ]

more_or : (B S T R : Type 0) → (S ⊎ R → T) → (B ⊎ S) ⊎ R → B ⊎ T
more_or B S T R f h = elim h [ inl a ↦ elim a [ inl b ↦ inl b | inr s ↦ inr (f (inl s)) ] | inr r ↦ inr (f (inr r)) ]

module _ (settings : ProjectSettings) (kind : Kind) (groups : Groups) (folder : List ℕ) (first : List (String Global)) where
  SoFar : List Entry → List ℕ → Type 0
  SoFar entries path = Contains (texts_of first) path ⊎ IsPickedBy settings kind groups folder entries path

  pub file_pushed : (entries : List Entry) (i : ℕ) (entry : Entry) (old new : List (String Global)) (s : String Global) → i < length entries → entry ≡ get_or entries i entry
      → ((path : List ℕ) → Contains (texts_of old) path ↔ (Contains (texts_of first) path ⊎ IsPickedBy settings kind groups folder (take i entries) path))
      → (entry.folder ≡ false) × (kind_of groups.test groups.source groups.include groups.support settings.test_prefix entry.name ≡ Some kind)
      → string_bytes s ≡ inside folder entry.name → new ≡ old ++ s ∷ []
      → (path : List ℕ) → Contains (texts_of new) path ↔ (Contains (texts_of first) path ⊎ IsPickedBy settings kind groups folder (take (i + 1) entries) path)
  unfolding SoFar
  file_pushed entries i entry old new s within read was picked is pushed =
      collected (SoFar (take i entries)) (SoFar (take (i + 1) entries)) (IsPickedFrom settings kind groups folder entry) old new was
      (λ p. or_more (Contains (texts_of first) p) (IsPickedBy settings kind groups folder (take i entries) p) (IsPickedBy settings kind groups folder (take (i + 1) entries) p) (IsPickedFrom settings kind groups folder entry p)
      (some_taken (λ e. IsPickedFrom settings kind groups folder e p) entries i entry within read))
      (λ p. more_or (Contains (texts_of first) p) (IsPickedBy settings kind groups folder (take i entries) p) (IsPickedBy settings kind groups folder (take (i + 1) entries) p) (IsPickedFrom settings kind groups folder entry p)
      (taken_some (λ e. IsPickedFrom settings kind groups folder e p) entries i entry within read))
      s pushed (λ p. ((λ h. is ∙ sym h.2), (λ e. (picked.0, picked.1, sym e ∙ is))))

  pub file_passed : (entries : List Entry) (i : ℕ) (entry : Entry) (old new : List (String Global)) → i < length entries → entry ≡ get_or entries i entry
      → ((path : List ℕ) → Contains (texts_of old) path ↔ (Contains (texts_of first) path ⊎ IsPickedBy settings kind groups folder (take i entries) path))
      → ((entry.folder ≡ false) × (kind_of groups.test groups.source groups.include groups.support settings.test_prefix entry.name ≡ Some kind) → ⊥)
      → new ≡ old
      → (path : List ℕ) → Contains (texts_of new) path ↔ (Contains (texts_of first) path ⊎ IsPickedBy settings kind groups folder (take (i + 1) entries) path)
  unfolding SoFar
  file_passed entries i entry old new within read was none same =
      collected_none (SoFar (take i entries)) (SoFar (take (i + 1) entries)) (IsPickedFrom settings kind groups folder entry) old new was
      (λ p. or_more (Contains (texts_of first) p) (IsPickedBy settings kind groups folder (take i entries) p) (IsPickedBy settings kind groups folder (take (i + 1) entries) p) (IsPickedFrom settings kind groups folder entry p)
      (some_taken (λ e. IsPickedFrom settings kind groups folder e p) entries i entry within read))
      (λ p. more_or (Contains (texts_of first) p) (IsPickedBy settings kind groups folder (take i entries) p) (IsPickedBy settings kind groups folder (take (i + 1) entries) p) (IsPickedFrom settings kind groups folder entry p)
      (taken_some (λ e. IsPickedFrom settings kind groups folder e p) entries i entry within read))
      same (λ p h. none (h.0, h.1))

  pub no_files_yet : (path : List ℕ) → Contains (texts_of first) path ↔ (Contains (texts_of first) path ⊎ IsPickedBy settings kind groups folder [] path)
  no_files_yet path = ((λ h. inl h), (λ h. elim h [ inl m ↦ m | inr n ↦ absurd (omega (arith, n.1.1)) ]))

  pub all_files : (entries own : List Entry) (i : ℕ) (texts : List (String Global)) → entries ≡ own → i ≡ length entries
      → ((path : List ℕ) → Contains (texts_of texts) path ↔ (Contains (texts_of first) path ⊎ IsPickedBy settings kind groups folder (take i entries) path))
      → (path : List ℕ) → Contains (texts_of texts) path ↔ (Contains (texts_of first) path ⊎ IsPickedBy settings kind groups folder own path)
  all_files entries own i texts same all was path =
      subst (λ es. Contains (texts_of texts) path ↔ (Contains (texts_of first) path ⊎ IsPickedBy settings kind groups folder es path)) (all_taken entries i all ∙ same) (was path)

same_bool : (a b : Bool) (P : Type 0) → (IsTrue a → P) × (P → IsTrue a) → (IsTrue b → P) × (P → IsTrue b) → a ≡ b
same_bool true b P p q = sym (q.1 (p.0 refl))
same_bool false true P p q = absurd (false≢true (p.1 (q.0 refl)))
same_bool false false P p q = refl

same_groups : (settings : ProjectSettings) (folder : List ℕ) (a b : Groups) → AreGroups settings folder a → AreGroups settings folder b → a ≡ b
same_groups settings folder a b p q = λ i. record {
  test = same_bool a.test b.test (IsMatched settings.test folder) p.test q.test i;
  source = same_bool a.source b.source (IsMatched settings.source folder) p.source q.source i;
  include = same_bool a.include b.include (IsMatched settings.include folder) p.include q.include i;
  support = same_bool a.support b.support (IsMatched settings.support folder) p.support q.support i;
}

-- one more folder
pub row_added : (settings : ProjectSettings) (kind : Kind) (rows : List Row) (i : ℕ) (row : Row) (groups : Groups) (old new : List (String Global)) → i < length rows → row ≡ get_or rows i row
    → ((path : List ℕ) → Contains (texts_of old) path ↔ IsPicked (take i rows) settings kind path) → AreGroups settings row.folder groups
    → ((path : List ℕ) → Contains (texts_of new) path ↔ (Contains (texts_of old) path ⊎ IsPickedBy settings kind groups row.folder row.entries path))
    → (path : List ℕ) → Contains (texts_of new) path ↔ IsPicked (take (i + 1) rows) settings kind path
row_added settings kind rows i row groups old new within read was are step path = (
  λ h. taken_some (λ r. IsPickedIn settings kind r path) rows i row within read (elim ((step path).0 h) [ inl m ↦ inl ((was path).0 m) | inr p ↦ inr (groups, are, p) ]),
  λ h. (step path).1 (elim (some_taken (λ r. IsPickedIn settings kind r path) rows i row within read h) [
    | inl m ↦ inl ((was path).1 m)
    | inr p ↦ inr (subst (λ (g : Groups). IsPickedBy settings kind g row.folder row.entries path) (same_groups settings row.folder p.0 groups p.1 are) p.2)
  ]),
)

pub all_picked : (settings : ProjectSettings) (kind : Kind) (rows : List Row) (i : ℕ) (texts : List (String Global)) (paths : List (List ℕ)) → i ≡ length rows
    → ((path : List ℕ) → Contains (texts_of texts) path ↔ IsPicked (take i rows) settings kind path) → AreSorted (Contains (texts_of texts)) paths → AreSorted (IsPicked rows settings kind) paths
all_picked settings kind rows i texts paths all was set =
    sorted_as (Contains (texts_of texts)) (IsPicked rows settings kind) paths
    (λ p. subst (λ (rs : List Row). Contains (texts_of texts) p ↔ IsPicked rs settings kind p) (all_taken rows i all) (was p)) set

pub folder_pushed : (patterns : List Pattern) (rows : List Row) (i : ℕ) (row : Row) (old new : List (String Global)) (s : String Global) → i < length rows → row ≡ get_or rows i row
    → ((path : List ℕ) → Contains (texts_of old) path ↔ IsMatchedRow (take i rows) patterns path) → (row.entries ≡ [] → ⊥) × IsMatched patterns row.folder → string_bytes s ≡ row.folder → new ≡ old ++ s ∷ []
    → (path : List ℕ) → Contains (texts_of new) path ↔ IsMatchedRow (take (i + 1) rows) patterns path
folder_pushed patterns rows i row old new s within read was matched is pushed =
    collected (IsMatchedRow (take i rows) patterns) (IsMatchedRow (take (i + 1) rows) patterns) (IsMatchedAt patterns row) old new was
    (λ p. some_taken (λ r. IsMatchedAt patterns r p) rows i row within read) (λ p. taken_some (λ r. IsMatchedAt patterns r p) rows i row within read)
    s pushed (λ p. ((λ h. is ∙ sym h.2), (λ e. (matched.0, matched.1, sym e ∙ is))))

pub folder_passed : (patterns : List Pattern) (rows : List Row) (i : ℕ) (row : Row) (old new : List (String Global)) → i < length rows → row ≡ get_or rows i row
    → ((path : List ℕ) → Contains (texts_of old) path ↔ IsMatchedRow (take i rows) patterns path) → ((row.entries ≡ [] → ⊥) × IsMatched patterns row.folder → ⊥) → new ≡ old
    → (path : List ℕ) → Contains (texts_of new) path ↔ IsMatchedRow (take (i + 1) rows) patterns path
folder_passed patterns rows i row old new within read was none same =
    collected_none (IsMatchedRow (take i rows) patterns) (IsMatchedRow (take (i + 1) rows) patterns) (IsMatchedAt patterns row) old new was
    (λ p. some_taken (λ r. IsMatchedAt patterns r p) rows i row within read) (λ p. taken_some (λ r. IsMatchedAt patterns r p) rows i row within read)
    same (λ p h. none (h.0, h.1))

pub all_folders : (patterns : List Pattern) (rows : List Row) (i : ℕ) (texts : List (String Global)) (paths : List (List ℕ)) → i ≡ length rows
    → ((path : List ℕ) → Contains (texts_of texts) path ↔ IsMatchedRow (take i rows) patterns path) → AreSorted (Contains (texts_of texts)) paths → AreSorted (IsMatchedRow rows patterns) paths
all_folders patterns rows i texts paths all was set =
    sorted_as (Contains (texts_of texts)) (IsMatchedRow rows patterns) paths
    (λ p. subst (λ (rs : List Row). Contains (texts_of texts) p ↔ IsMatchedRow rs patterns p) (all_taken rows i all) (was p)) set

pub on_ok : {X Y : Type 0} (r : Result X Y) (P : Type 0) → P → OnOk r P
on_ok (Ok x) P h = h
on_ok (Err e) P h = tt

pub picked_none : (settings : ProjectSettings) (kind : Kind) (texts : List (String Global)) → texts ≡ []
    → ((path : List ℕ) → Contains (texts_of texts) path ↔ IsPicked [] settings kind path) × HaveGroups settings []
picked_none settings kind texts none = (
  (λ path. ((λ m. absurd (contains_none path (subst (λ (ts : List (String Global)). Contains (texts_of ts) path) none m))), (λ h. absurd (contains_none h.0 h.1)))),
  (λ row m. absurd (contains_none row m)),
)

pub groups_added : (settings : ProjectSettings) (rows : List Row) (i : ℕ) (row : Row) (groups : Groups) → i < length rows → row ≡ get_or rows i row → HaveGroups settings (take i rows)
    → AreGroups settings row.folder groups → HaveGroups settings (take (i + 1) rows)
groups_added settings rows i row groups within read was are r m = elim (contains_taken rows i row r within read m) [
  | inl n ↦ was r n
  | inr same ↦ subst (λ (x : Row). (g : Groups) × AreGroups settings x.folder g) same (groups, are)
]
