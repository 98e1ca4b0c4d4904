-- A layout without its last mark. With that mark it is the layout again.
use Rattle.std.proofs.Common.{◌≡◌, ℕ, ◌<◌, ◌≤◌, true, eqb, ltb, List, Some, refl, ap, ◌∙◌, arith}
use Rattle.std.proofs.lemmas.Bool.{cond-true, cond-false, lt-ltb, le-ltb, le-leb, eq-eqb}
use Rattle.ct_yaml.specs.declared.mark.Inline.{Inline}
use Rattle.ct_yaml.specs.declared.mark.Mark.{Mark}
use Rattle.ct_yaml.specs.declared.mark.Mark.TheVariants.{Dash, Key, Value}
use Rattle.ct_yaml.specs.declared.stack.Block.TheVariants as block
use Rattle.ct_yaml.specs.declared.node.Entry.{Entry}
use Rattle.ct_yaml.specs.declared.node.Node.{Node}
use Rattle.ct_yaml.specs.Block.{Layout, nothing, on_line, map_at, list_at, Entries, no_entry, entry, Elements, no_item, item, IsUnderKey, IsUnderDash, IsIndented, AreEntriesIndented, AreItemsIndented, entries_of, items_of}
use Rattle.ct_yaml.specs.Reading.{mapped}
use Rattle.ct_yaml.specs.Stack.{is_inside}
use Rattle.ct_yaml.proofs.Grow.{add, next_map, next_list}

-- ---- the last mark, and the layout without it

-- the last mark of a value behind its opener
abbrev pub last_behind : Mark → Layout → Mark
last_behind opener nothing = opener
last_behind opener (on_line value) = Value value
last_behind opener (map_at column before key value) = last_behind (Key column key) value
last_behind opener (list_at column before value) = last_behind (Dash column) value

abbrev pub before_map : ℕ → Entries → Layout
before_map column no_entry = nothing
before_map column (entry before key value) = map_at column before key value

abbrev pub before_list : ℕ → Elements → Layout
before_list column no_item = nothing
before_list column (item before value) = list_at column before value

-- what is left of a value in its place, where `gone` is left without its opener
abbrev pub back_in : Layout → (Layout → Layout) → Layout → Layout
back_in gone wrap nothing = gone
back_in gone wrap (on_line value) = wrap nothing
back_in gone wrap (map_at column before key value) = wrap (back_in (before_map column before) (map_at column before key) value)
back_in gone wrap (list_at column before value) = wrap (back_in (before_list column before) (list_at column before) value)

-- ---- the last mark goes down to its place

abbrev pub IsInMap : ℕ → Mark → Type 0
IsInMap at (Key column key) = at < column
IsInMap at (Dash column) = at ≤ column
IsInMap at (Value value) = Unit {0}

abbrev pub IsInList : ℕ → Mark → Type 0
IsInList at (Key column key) = at < column
IsInList at (Dash column) = at < column
IsInList at (Value value) = Unit {0}

in_map : (at : ℕ) (m : Mark) → IsInList at m → IsInMap at m
in_map at (Key column key) h = h
in_map at (Dash column) h = omega arith
in_map at (Value value) h = tt

map_inside : (at : ℕ) (entries : List Entry) (key : List ℕ) (m : Mark) → IsInMap at m → is_inside m (block.Map at entries key) ≡ true
map_inside at entries last (Key column key) h = lt-ltb at column h
map_inside at entries last (Dash column) h = le-leb at column h
map_inside at entries last (Value value) h = refl

list_inside : (at : ℕ) (items : List Node) (m : Mark) → IsInList at m → is_inside m (block.List at items) ≡ true
list_inside at items (Key column key) h = lt-ltb at column h
list_inside at items (Dash column) h = lt-ltb at column h
list_inside at items (Value value) h = refl

mutual
  deep_map : (at column : ℕ) → at < column → (key : List ℕ) (value : Layout) → IsUnderKey column value → IsIndented value → IsInList at (last_behind (Key column key) value)
  deep_map at column h key nothing under all = h
  deep_map at column h key (on_line value) under all = tt
  deep_map at column h key (map_at inner before next value) under all = deep_map at inner (omega arith) next value all.1 all.2
  deep_map at column h key (list_at inner before value) under all = deep_list at inner (omega arith) value all.1 all.2

  deep_list : (at column : ℕ) → at < column → (value : Layout) → IsUnderDash column value → IsIndented value → IsInList at (last_behind (Dash column) value)
  deep_list at column h nothing under all = h
  deep_list at column h (on_line value) under all = tt
  deep_list at column h (map_at inner before next value) under all = deep_map at inner (omega arith) next value all.1 all.2
  deep_list at column h (list_at inner before value) under all = deep_list at inner (omega arith) value all.1 all.2

-- a list at its key's own column
deep_own : (at column : ℕ) → at ≤ column → (value : Layout) → IsUnderDash column value → IsIndented value → IsInMap at (last_behind (Dash column) value)
deep_own at column h nothing under all = h
deep_own at column h (on_line value) under all = tt
deep_own at column h (map_at inner before next value) under all = in_map at _ (deep_map at inner (omega arith) next value all.1 all.2)
deep_own at column h (list_at inner before value) under all = in_map at _ (deep_list at inner (omega arith) value all.1 all.2)

-- ---- with the last mark again

-- A place of a value: what is left there without the opener, the layout round the value, the opener, and the
-- values and the marks that belong there.
record IsPlace (gone : Layout) (wrap : Layout → Layout) (opener : Mark) (under : Layout → Type 0) (inside : Mark → Type 0) : Type 0 where
  opened : add opener gone ≡ Some (wrap nothing)
  goes_in : (m : Mark) (value : Layout) → inside m → add m (wrap value) ≡ mapped wrap (add m value)
  value_in : (value : Inline) → inside (Value value)
  map_in : (column : ℕ) (before : Entries) (key : List ℕ) (value : Layout) → under (map_at column before key value) → IsIndented (map_at column before key value)
      → inside (last_behind (Key column key) value)
  list_in : (column : ℕ) (before : Elements) (value : Layout) → under (list_at column before value) → IsIndented (list_at column before value)
      → inside (last_behind (Dash column) value)

map_place : (column : ℕ) (before : Entries) (key : List ℕ)
    → IsPlace (before_map column before) (map_at column before key) (Key column key) (IsUnderKey column) (IsInMap column)
map_place column before key = record {
  opened = first_or_next before;
  goes_in = λ m value h. cond-true _ (mapped (map_at column before key) (add m value)) (next_map m column before key value) (map_inside column (entries_of before) key m h);
  value_in = λ value. tt;
  map_in = λ inner before' next value under all. in_map column _ (deep_map column inner under next value all.1 all.2);
  list_in = λ inner before' value under all. deep_own column inner under value all.1 all.2;
}
  where
    first_or_next : (before : Entries) → add (Key column key) (before_map column before) ≡ Some (map_at column before key nothing)
    first_or_next no_entry = refl
    first_or_next (entry before last value) =
        cond-false (ltb column column) (mapped (map_at column before last) (add (Key column key) value)) _ (le-ltb column column (omega arith))
        ∙ cond-true (eqb column column) _ _ (eq-eqb column column refl)

list_place : (column : ℕ) (before : Elements)
    → IsPlace (before_list column before) (list_at column before) (Dash column) (IsUnderDash column) (IsInList column)
list_place column before = record {
  opened = first_or_next before;
  goes_in = λ m value h. cond-true _ (mapped (list_at column before) (add m value)) (next_list m column before value) (list_inside column (items_of before) m h);
  value_in = λ value. tt;
  map_in = λ inner before' next value under all. deep_map column inner under next value all.1 all.2;
  list_in = λ inner before' value under all. deep_list column inner under value all.1 all.2;
}
  where
    first_or_next : (before : Elements) → add (Dash column) (before_list column before) ≡ Some (list_at column before nothing)
    first_or_next no_item = refl
    first_or_next (item before value) =
        cond-false (ltb column column) (mapped (list_at column before) (add (Dash column) value)) _ (le-ltb column column (omega arith))
        ∙ cond-true (eqb column column) _ _ (eq-eqb column column refl)

again_in : (gone : Layout) (wrap : Layout → Layout) (opener : Mark) (under : Layout → Type 0) (inside : Mark → Type 0)
    → IsPlace gone wrap opener under inside → (value : Layout) → under value → IsIndented value
    → add (last_behind opener value) (back_in gone wrap value) ≡ Some (wrap value)
again_in gone wrap opener under inside place nothing h all = place.opened
again_in gone wrap opener under inside place (on_line value) h all = place.goes_in (Value value) nothing (place.value_in value)
again_in gone wrap opener under inside place (map_at column before key value) h all =
    place.goes_in (last_behind (Key column key) value) _ (place.map_in column before key value h all)
    ∙ ap (mapped wrap) (again_in (before_map column before) (map_at column before key) (Key column key) (IsUnderKey column) (IsInMap column) (map_place column before key) value all.1 all.2)
again_in gone wrap opener under inside place (list_at column before value) h all =
    place.goes_in (last_behind (Dash column) value) _ (place.list_in column before value h all)
    ∙ ap (mapped wrap) (again_in (before_list column before) (list_at column before) (Dash column) (IsUnderDash column) (IsInList column) (list_place column before) value all.1 all.2)

-- ---- what is left is indented

map_column_kept : (P : Layout → Type 0) (column : ℕ) (before : Entries) (key : List ℕ) (value : Layout)
    → P nothing → ((before' : Entries) (key' : List ℕ) (value' : Layout) → P (map_at column before' key' value'))
    → P (back_in (before_map column before) (map_at column before key) value)
map_column_kept P column no_entry key nothing none some = none
map_column_kept P column (entry before last old) key nothing none some = some before last old
map_column_kept P column before key (on_line value) none some = some before key nothing
map_column_kept P column before key (map_at inner before' next value) none some = some before key _
map_column_kept P column before key (list_at inner before' value) none some = some before key _

list_column_kept : (P : Layout → Type 0) (column : ℕ) (before : Elements) (value : Layout)
    → P nothing → ((before' : Elements) (value' : Layout) → P (list_at column before' value'))
    → P (back_in (before_list column before) (list_at column before) value)
list_column_kept P column no_item nothing none some = none
list_column_kept P column (item before old) nothing none some = some before old
list_column_kept P column before (on_line value) none some = some before nothing
list_column_kept P column before (map_at inner before' next value) none some = some before _
list_column_kept P column before (list_at inner before' value) none some = some before _

before_map_indented : (column : ℕ) (before : Entries) → AreEntriesIndented column before → IsIndented (before_map column before)
before_map_indented column no_entry h = tt
before_map_indented column (entry before key value) h = h

before_list_indented : (column : ℕ) (before : Elements) → AreItemsIndented column before → IsIndented (before_list column before)
before_list_indented column no_item h = tt
before_list_indented column (item before value) h = h

mutual
  pub map_left : (column : ℕ) (before : Entries) (key : List ℕ) (value : Layout) → IsIndented (map_at column before key value)
      → IsIndented (back_in (before_map column before) (map_at column before key) value)
  map_left column before key nothing all = before_map_indented column before all.0
  map_left column before key (on_line value) all = (all.0, tt, tt)
  map_left column before key (map_at inner before' next value) all =
      (all.0, map_column_kept (IsUnderKey column) inner before' next value tt (λ b k v. all.1), map_left inner before' next value all.2)
  map_left column before key (list_at inner before' value) all =
      (all.0, list_column_kept (IsUnderKey column) inner before' value tt (λ b v. all.1), list_left inner before' value all.2)

  list_left : (column : ℕ) (before : Elements) (value : Layout) → IsIndented (list_at column before value)
      → IsIndented (back_in (before_list column before) (list_at column before) value)
  list_left column before nothing all = before_list_indented column before all.0
  list_left column before (on_line value) all = (all.0, tt, tt)
  list_left column before (map_at inner before' next value) all =
      (all.0, map_column_kept (IsUnderDash column) inner before' next value tt (λ b k v. all.1), map_left inner before' next value all.2)
  list_left column before (list_at inner before' value) all =
      (all.0, list_column_kept (IsUnderDash column) inner before' value tt (λ b v. all.1), list_left inner before' value all.2)

-- ---- a map as a whole

abbrev pub map_back : ℕ → Entries → List ℕ → Layout → Layout
map_back column before key value = back_in (before_map column before) (map_at column before key) value

pub map_again : (column : ℕ) (before : Entries) (key : List ℕ) (value : Layout) → IsIndented (map_at column before key value)
    → add (last_behind (Key column key) value) (map_back column before key value) ≡ Some (map_at column before key value)
map_again column before key value all =
    again_in (before_map column before) (map_at column before key) (Key column key) (IsUnderKey column) (IsInMap column) (map_place column before key) value all.1 all.2
