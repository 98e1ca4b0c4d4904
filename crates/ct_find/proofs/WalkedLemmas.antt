-- A walk, a visit at a time.
use Rattle.std.proofs.Common.{◌≡◌, ℕ, suc, ◌+◌, ◌≤◌, inl, inr, ◌↔◌, List, [], ◌∷◌, ◌++◌, Bool, true, false, not, ◌||◌, Option, Some, None, Err, cond, length, take, map, refl, sym, ap, subst, ◌∙◌, arith, rules}
use Rattle.std.specs.Prelude.{◌&&◌, ◌==◌, reverse, All, sum_by}
use Rattle.std.specs.Option.{option_map}
use Rattle.std.specs.List.{Contains, before_first, list_any, position_or_len}
use Rattle.std.proofs.lemmas.Bool.{false≢true, and_parts}
use Rattle.std.proofs.lemmas.Bool.Decides.{nat_tests}
use Rattle.std.proofs.lemmas.List.{append-nil, reverse-append}
use Rattle.std.proofs.lemmas.List.Elements.{All-push}
use Rattle.std.proofs.lemmas.List.Sums.{sum_by-append, sum_by-cons}
use Rattle.ct_base.specs.declared.memory.Fail.{Fail}
use Rattle.ct_base.specs.declared.memory.Fail.TheVariants.{Fault, OutOfMemory}
use Rattle.ct_outside.specs.Files.{Files, IsEntry, IsListing, entry_at, is_slash, rest_below}
use Rattle.ct_outside.specs.declared.tree.Entry.{Entry}
use Rattle.ct_find.specs.declared.files.FindFault.{FindFault}
use Rattle.ct_find.specs.declared.files.FindFault.TheVariants.{Read, Limit}
use Rattle.ct_find.specs.declared.starts.Start.{Start}
use Rattle.ct_find.specs.declared.walking.Listing.{Listing}
use Rattle.ct_find.specs.declared.rows.Row.{Row}
use Rattle.ct_find.specs.Folders.{is_at_or_below}
use Rattle.ct_find.specs.Limits.{PassesAt, depth_of, most_components}
use Rattle.ct_find.specs.Order.{AreChildren, IsChild, deep_starts, first_places}
use Rattle.ct_find.specs.Rows.{AddsRow, AreListings, IsChildOf, IsListedRow, IsRowChild, IsWalked, Lists, VisitTells, WalkTells, alone, hidden, nothing, with_all_below}
use Rattle.ct_find.specs.Sets.{AreSorted}
use Rattle.ct_find.proofs.Members.{contains_append, contains_cases, contains_map, contains_none, map_contains}
use Rattle.ct_find.proofs.OrderLemmas.{lists_then, places_from, places_have, places_new, places_old}
use Rattle.ct_find.proofs.SetLemmas.{sorted_as}
use Rattle.ct_find.specs.Places.{IsFresh}

not_true : (b : Bool) → not b ≡ true → b ≡ false
not_true true e = absurd (false≢true e)
not_true false e = refl

some_length : (name : List ℕ) → (length name == 0) ≡ false → name ≡ [] → ⊥
some_length [] e h = false≢true (sym e)
some_length (b ∷ bs) e h = absurd (cc)

length_some : (name : List ℕ) → (name ≡ [] → ⊥) → (length name == 0) ≡ false
length_some [] n = absurd (n refl)
length_some (b ∷ bs) n = grind (arith, nat_tests)

pub same_entry : (x y : Entry) → x.name ≡ y.name → x.folder ≡ y.folder → x ≡ y
same_entry x y p q = λ i. record { name = p i; folder = q i }

front_at : (b : ℕ) (bs : List ℕ) (t : Bool) → is_slash b ≡ t → list_any is_slash (before_first is_slash bs) ≡ false
    → list_any is_slash (take (cond (not t) (1 + position_or_len is_slash bs) 0) (b ∷ bs)) ≡ false
front_at b bs true e h = refl
front_at b bs false e h =
    let one : 1 + position_or_len is_slash bs ≡ suc (position_or_len is_slash bs) = omega arith in
    rw one (ap (λ (t : Bool). t || list_any is_slash (before_first is_slash bs)) e ∙ h)

-- no slash stands before the first slash
plain_front : (rest : List ℕ) → list_any is_slash (before_first is_slash rest) ≡ false
plain_front [] = refl
plain_front (b ∷ bs) = front_at b bs (is_slash b) refl (plain_front bs)

entry_name : (o : Option (List ℕ)) (e : Entry) → option_map (λ r. record { name = before_first is_slash r; folder = list_any is_slash r }) o ≡ Some e → (r : List ℕ) × (e.name ≡ before_first is_slash r)
entry_name None e h = absurd (cc)
entry_name (Some r) e h =
    let same : record { name = before_first is_slash r; folder = list_any is_slash r } ≡ e = cc in (r, sym (ap (λ (x : Entry). x.name) same))

pub plain_name : (folder path : List ℕ) (e : Entry) → entry_at folder path ≡ Some e → list_any is_slash e.name ≡ false
plain_name folder path e h = let r = entry_name (rest_below folder path) e h in ap (list_any is_slash) r.1 ∙ plain_front r.0

-- the folders that the code sees in a listed folder are its children
row_children : (files : Files) (row : Row) → IsListing files row.folder row.entries → (path : List ℕ) → IsRowChild row path ↔ IsChild files row.folder path
row_children files row listing path = (
  λ h.
      let e : Entry = h.0 in
      let first = and_parts e.folder (not (length e.name == 0) && not (list_any is_slash e.name)) h.2.0 in
      let second = and_parts (not (length e.name == 0)) (not (list_any is_slash e.name)) first.1 in
      let same : e ≡ record { name = e.name; folder = true } = same_entry e (record { name = e.name; folder = true }) refl first.0 in
      (e.name, h.2.1, some_length e.name (not_true (length e.name == 0) second.0), subst (λ (x : Entry). IsEntry files row.folder x) same ((listing.each e).0 h.1)),
  λ h.
      let e : Entry = record { name = h.0; folder = true } in
      let plain : list_any is_slash h.0 ≡ false = plain_name row.folder h.3.0 e h.3.2 in
      let child : IsChildOf row.folder e path = (rw (length_some h.0 h.2, plain) refl, h.1) in
      (e, (listing.each e).1 h.3, child),
)

are_children : (files : Files) (row : Row) (children : List (List ℕ)) → IsListing files row.folder row.entries → AreSorted (IsRowChild row) children → AreChildren files row.folder children
are_children files row children listing set = sorted_as (IsRowChild row) (IsChild files row.folder) children (row_children files row listing) set

pub walked_none : (files : Files) (build : List ℕ) (starts : List Start) (rows : List Row) → rows ≡ [] → IsWalked files build starts starts rows 0
walked_none files build starts rows none = subst (λ (rs : List Row). IsWalked files build starts starts rs 0) (sym none) (record {
  folders = [];
  lists = nothing;
  rows_are = refl;
  listings = λ row m. absurd (contains_none row m);
  shallow = search rules;
  counted = refl;
  few = omega arith;
})

pub walked_hidden : (files : Files) (build : List ℕ) (starts left : List Start) (start : Start) (rows : List Row) (count : ℕ) → IsWalked files build starts (start ∷ left) rows count
    → is_at_or_below build start.path ≡ true → IsWalked files build starts left rows count
walked_hidden files build starts left start rows count w below = record {
  folders = w.folders;
  lists = subst (λ (fs : List (List ℕ)). Lists files build starts fs left) (append-nil w.folders) (lists_then files build starts (start ∷ left) left w.folders [] w.lists (hidden below nothing));
  rows_are = w.rows_are;
  listings = w.listings;
  shallow = w.shallow;
  counted = w.counted;
  few = w.few;
}

-- the next start is listed, and what is left behind it
next_lists : (files : Files) (build : List ℕ) (starts left left' : List Start) (start : Start) (folders : List (List ℕ)) → Lists files build starts folders (start ∷ left)
    → is_at_or_below build start.path ≡ false → (deep : Bool) → start.deep ≡ deep
    → (deep ≡ true → (children : List (List ℕ)) × AreChildren files start.path children × (left' ≡ deep_starts children ++ left)) → (deep ≡ false → left' ≡ left)
    → Lists files build starts (folders ++ start.path ∷ []) left'
next_lists files build starts left left' start folders lists out true is all one =
    let r = all refl in
    lists_then files build starts (start ∷ left) left' folders (start.path ∷ []) lists
    (with_all_below r.0 out is r.1 (subst (λ (ls : List Start). Lists files build (deep_starts r.0 ++ left) [] ls) (sym r.2) nothing))
next_lists files build starts left left' start folders lists out false is all one =
    lists_then files build starts (start ∷ left) left' folders (start.path ∷ []) lists
    (alone out is (subst (λ (ls : List Start). Lists files build left [] ls) (sym (one refl)) nothing))

row_in : (rows : List Row) (row : Row) (folders : List (List ℕ)) → map (λ r. r.folder) rows ≡ first_places folders → Contains rows row → Contains folders row.folder
row_in rows row folders are m = places_from [] folders row.folder (subst (λ (fs : List (List ℕ)). Contains fs row.folder) are (contains_map (λ (r : Row). r.folder) rows row m))

pub fresh_out : (rows : List Row) (folder : List ℕ) (folders : List (List ℕ)) → map (λ r. r.folder) rows ≡ first_places folders → IsFresh rows folder → Contains folders folder → ⊥
fresh_out rows folder folders are fresh m =
    let h = places_have [] folders folder m (contains_none folder) in
    let r = map_contains (λ (r : Row). r.folder) rows folder (subst (λ (fs : List (List ℕ)). Contains fs folder) (sym are) h) in
    fresh r.0 r.1 r.2

map_folders : (rows : List Row) (row : Row) → map (λ (r : Row). r.folder) (rows ++ row ∷ []) ≡ map (λ (r : Row). r.folder) rows ++ row.folder ∷ []
map_folders [] row = refl
map_folders (r ∷ rows) row = ap (λ (fs : List (List ℕ)). r.folder ∷ fs) (map_folders rows row)

more_listings : (files : Files) (rows new : List Row) (row : Row) → new ≡ rows ++ row ∷ [] → AreListings files rows → IsListing files row.folder row.entries → AreListings files new
more_listings files rows new row e all own r m = elim (contains_append rows (row ∷ []) r (subst (λ (rs : List Row). Contains rs r) e m)) [
  | inl n ↦ all r n
  | inr n ↦ elim (contains_cases row [] r n) [
    | inl same ↦ subst (λ (x : Row). IsListing files x.folder x.entries) same own
    | inr k ↦ absurd (contains_none r k)
  ]
]

pub walked_visit : (files : Files) (build : List ℕ) (starts left left' : List Start) (start : Start) (row : Row) (old new : Listing)
    → IsWalked files build starts (start ∷ left) old.rows old.entries → is_at_or_below build start.path ≡ false → row.folder ≡ start.path
    → IsListedRow start.path row old new → ((r : Row) → AddsRow start.path old new r → IsListing files start.path r.entries)
    → (start.deep ≡ true → (children : List (List ℕ)) × AreSorted (IsRowChild row) children × (left' ≡ deep_starts children ++ left)) → (start.deep ≡ false → left' ≡ left)
    → IsWalked files build starts left' new.rows new.entries
walked_visit files build starts left left' start row old new w out is (inl (member, same)) tells all one =
    let listing : IsListing files row.folder row.entries = w.listings row member in
    let there : Contains w.folders start.path = subst (λ (f : List ℕ). Contains w.folders f) is (row_in old.rows row w.folders w.rows_are member) in
    subst (λ (l : Listing). IsWalked files build starts left' l.rows l.entries) (sym same) (record {
      folders = w.folders ++ start.path ∷ [];
      lists = next_lists files build starts left left' start w.folders w.lists out start.deep refl
          (λ e. let r = all e in (r.0, subst (λ (f : List ℕ). AreChildren files f r.0) is (are_children files row r.0 listing r.1), r.2)) one;
      rows_are = w.rows_are ∙ sym (places_old [] w.folders start.path (inr there));
      listings = w.listings;
      shallow = w.shallow;
      counted = w.counted;
      few = w.few;
    })
walked_visit files build starts left left' start row old new w out is (inr (fresh, adds)) tells all one =
    let listing : IsListing files row.folder row.entries = subst (λ (f : List ℕ). IsListing files f row.entries) (sym is) (tells row adds) in
    let absent : Contains w.folders start.path → ⊥ = fresh_out old.rows start.path w.folders w.rows_are fresh in record {
      folders = w.folders ++ start.path ∷ [];
      lists = next_lists files build starts left left' start w.folders w.lists out start.deep refl
          (λ e. let r = all e in (r.0, subst (λ (f : List ℕ). AreChildren files f r.0) is (are_children files row r.0 listing r.1), r.2)) one;
      rows_are = ap (map (λ (r : Row). r.folder)) adds.0 ∙ map_folders old.rows row ∙ ap (λ (fs : List (List ℕ)). fs ++ row.folder ∷ []) w.rows_are
          ∙ ap (λ (f : List ℕ). first_places w.folders ++ f ∷ []) is ∙ sym (places_new [] w.folders start.path (contains_none start.path) absent);
      listings = more_listings files old.rows new.rows row adds.0 w.listings listing;
      shallow = subst (λ (rs : List Row). All (λ r. depth_of r.folder ≤ most_components) rs) (sym adds.0)
          (All-push (λ (r : Row). depth_of r.folder ≤ most_components) old.rows row w.shallow (subst (λ (f : List ℕ). depth_of f ≤ most_components) (sym is) adds.2));
      counted = adds.3 ∙ ap (λ n. n + length row.entries) w.counted
          ∙ sym (ap (sum_by (λ (r : Row). length r.entries)) adds.0 ∙ sum_by-append (λ (r : Row). length r.entries) old.rows (row ∷ []) ∙ ap (λ n. sum_by (λ (r : Row). length r.entries) old.rows + n) (one_sum row));
      few = adds.4;
    }
  where
    one_sum : (row : Row) → sum_by (λ (r : Row). length r.entries) (row ∷ []) ≡ length row.entries
    one_sum row = let e : sum_by (λ (r : Row). length r.entries) (row ∷ []) ≡ length row.entries + 0 = sum_by-cons (λ (r : Row). length r.entries) row [] in omega arith

pub none_left : (items : List Start) → length items ≡ 0 → reverse items ≡ []
none_left [] e = refl
none_left (s ∷ items) e = absurd (omega arith)

-- the next start is the last of the list
pub next_last : (items rest : List Start) (start : Start) → items ≡ rest ++ start ∷ [] → reverse items ≡ start ∷ reverse rest
next_last items rest start e = ap reverse e ∙ reverse-append rest (start ∷ [])

pub walk_passes : (files : Files) (build : List ℕ) (starts left : List Start) (start : Start) (old new : Listing) (fail : Fail FindFault)
    → IsWalked files build starts (start ∷ left) old.rows old.entries → is_at_or_below build start.path ≡ false
    → VisitTells {A = Unit {0}} files start.path old new (Err fail) → WalkTells files build starts (Err fail)
walk_passes files build starts left start old new OutOfMemory w out tells = tt
walk_passes files build starts left start old new (Fault Read) w out tells = tt
walk_passes files build starts left start old new (Fault (Limit kind path)) w out tells = record {
  start = start;
  left = left;
  rows = old.rows;
  count = old.entries;
  walked = w;
  is = tells.0;
  outside = subst (λ (f : List ℕ). is_at_or_below build f ≡ false) (sym tells.0) out;
  fresh = subst (λ (f : List ℕ). IsFresh old.rows f) (sym tells.0) tells.1;
  passes = subst (λ (f : List ℕ). PassesAt files kind f old.entries) (sym tells.0) tells.2;
}
