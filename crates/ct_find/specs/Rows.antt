-- Words for the parts of a search: folders that were listed, and lists of texts.
use Rattle.std.specs.Prelude.{◌≡◌, ◌⊎◌, ℕ, ◌&&◌, ◌||◌, not, Bool, true, false, IsTrue, List, [], ◌∷◌, ◌++◌, map, reverse, nat_eq, codes, String, string_bytes, Option, Some, None, IsSome, is_some, filter, take, drop, ◌<◌, Result, Ok, Err, All, sum_by, length, ◌+◌, ◌≤◌, ◌==◌, if◌then◌else◌}
use Rattle.std.specs.List.{Contains, ends_with, list_any}
use Rattle.std.specs.Str.{bytes_eq}
use Rattle.std.specs.declared.alloc.Global.{Global}
use Rattle.ct_outside.specs.Files.{Files, IsListing, is_slash}
use Rattle.ct_outside.specs.declared.tree.Entry.{Entry}
use Rattle.ct_settings.specs.declared.record.Pattern.{Pattern}
use Rattle.ct_settings.specs.declared.record.ProjectSettings.{ProjectSettings}
use Rattle.std.specs.FinMap.{get, insert}
use Rattle.ct_base.specs.declared.limits.LimitKind.{LimitKind}
use Rattle.ct_base.specs.declared.limits.LimitKind.TheVariants.{AllBytes, FileBytes}
use Rattle.ct_base.specs.declared.memory.Fail.{Fail}
use Rattle.ct_base.specs.declared.memory.Fail.TheVariants.{Fault, OutOfMemory}
use Rattle.ct_find.specs.declared.files.FindFault.{FindFault}
use Rattle.ct_find.specs.declared.files.FindFault.TheVariants.{Read, Limit}
use Rattle.ct_find.specs.declared.walking.Listing.{Listing}
use Rattle.ct_find.specs.declared.rows.Row.{Row}
use Rattle.ct_find.specs.declared.picking.Groups.{Groups}
use Rattle.ct_find.specs.declared.picking.Kind.{Kind}
use Rattle.ct_find.specs.declared.picking.Kind.TheVariants.{Test, Source, Header}
use Rattle.ct_find.specs.Folders.{IsAdded, IsRemoved, is_at_or_below, is_test_name}
use Rattle.ct_find.specs.Order.{AreChildren, deep_starts, first_places, inside}
use Rattle.ct_find.specs.Places.{IsFresh}
use Rattle.ct_find.specs.declared.search.FileLists.{FileLists}
use Rattle.ct_find.specs.declared.starts.Start.{Start}
use Rattle.ct_find.specs.Limits.{PassesAt, ReadingPasses, ReadingStays, depth_of, most_bytes, most_components, most_entries, most_file_bytes}
use Rattle.ct_find.specs.Sets.{AreSorted}

-- the bytes of each text
abbrev pub texts_of : List (String Global) → List (List ℕ)
texts_of paths = map string_bytes paths

-- the group's patterns match a folder
abbrev pub IsMatched : List Pattern → List ℕ → Type 0
IsMatched patterns folder = IsAdded patterns folder × (IsRemoved patterns folder → ⊥)

-- a listed folder of a group, with something in it
abbrev pub IsMatchedAt : List Pattern → Row → List ℕ → Type 0
IsMatchedAt patterns row folder = (row.entries ≡ [] → ⊥) × IsMatched patterns row.folder × (folder ≡ row.folder)

abbrev pub IsMatchedRow : List Row → List Pattern → List ℕ → Type 0
IsMatchedRow rows patterns folder = (row : Row) × Contains rows row × IsMatchedAt patterns row folder

-- the folders of the search of an include among the listed ones
pub record AreSearched (settings : ProjectSettings) (rows : List Row) (folders : List (List ℕ)) : Type 0 where
  pub include : List (List ℕ)
  pub source : List (List ℕ)
  pub test : List (List ℕ)
  pub support : List (List ℕ)
  pub include_folders : AreSorted (IsMatchedRow rows settings.include) include
  pub source_folders : AreSorted (IsMatchedRow rows settings.source) source
  pub test_folders : AreSorted (IsMatchedRow rows settings.test) test
  pub support_folders : AreSorted (IsMatchedRow rows settings.support) support
  pub whole : folders ≡ include ++ source ++ test ++ support

-- the list in which a file stands, from the groups of its folder
abbrev pub kind_of : Bool → Bool → Bool → Bool → List ℕ → List ℕ → Option Kind
kind_of test source include support prefix name =
    if test && is_test_name prefix name then Some Test
    else (if (source || support) && ends_with nat_eq name (codes ".c") then Some Source
    else (if ((include || source) || (test || support)) && ends_with nat_eq name (codes ".h") then Some Header else None))

-- the groups of a folder, as its patterns say
pub record AreGroups (settings : ProjectSettings) (folder : List ℕ) (groups : Groups) : Type 0 where
  pub test : (IsTrue groups.test → IsMatched settings.test folder) × (IsMatched settings.test folder → IsTrue groups.test)
  pub source : (IsTrue groups.source → IsMatched settings.source folder) × (IsMatched settings.source folder → IsTrue groups.source)
  pub include : (IsTrue groups.include → IsMatched settings.include folder) × (IsMatched settings.include folder → IsTrue groups.include)
  pub support : (IsTrue groups.support → IsMatched settings.support folder) × (IsMatched settings.support folder → IsTrue groups.support)

-- the path of a file in a listed folder, from its entry, where the groups of the folder put it into this list
abbrev pub IsPickedFrom : ProjectSettings → Kind → Groups → List ℕ → Entry → List ℕ → Type 0
IsPickedFrom settings kind groups folder entry path =
    (entry.folder ≡ false) × (kind_of groups.test groups.source groups.include groups.support settings.test_prefix entry.name ≡ Some kind)
    × (path ≡ inside folder entry.name)

abbrev pub IsPickedBy : ProjectSettings → Kind → Groups → List ℕ → List Entry → List ℕ → Type 0
IsPickedBy settings kind groups folder entries path = (entry : Entry) × Contains entries entry × IsPickedFrom settings kind groups folder entry path

abbrev pub IsPickedIn : ProjectSettings → Kind → Row → List ℕ → Type 0
IsPickedIn settings kind row path = (groups : Groups) × AreGroups settings row.folder groups × IsPickedBy settings kind groups row.folder row.entries path

-- a file of a listed folder that stands in one of the lists
abbrev pub IsPicked : List Row → ProjectSettings → Kind → List ℕ → Type 0
IsPicked rows settings kind path = (row : Row) × Contains rows row × IsPickedIn settings kind row path

-- each row has the listing of its folder
abbrev pub AreListings : Files → List Row → Type 0
AreListings files rows = (row : Row) → Contains rows row → IsListing files row.folder row.entries

-- a folder was listed behind the others, and no limit is passed
abbrev pub AddsRow : List ℕ → Listing → Listing → Row → Type 0
AddsRow folder old new row =
    (new.rows ≡ old.rows ++ row ∷ []) × (row.folder ≡ folder) × (depth_of folder ≤ most_components)
    × (new.entries ≡ old.entries + length row.entries) × (new.entries ≤ most_entries)

-- what the listing of a folder answers over these files: its entries, or that it passes a limit
abbrev pub ListsNext : Files → List ℕ → Listing → Listing → Result (Unit {0}) (Fail FindFault) → Type 0
ListsNext files folder old new (Ok done) = (row : Row) → AddsRow folder old new row → IsListing files folder row.entries
ListsNext files folder old new (Err OutOfMemory) = Unit {0}
ListsNext files folder old new (Err (Fault Read)) = Unit {0}
ListsNext files folder old new (Err (Fault (Limit kind path))) = (path ≡ folder) × PassesAt files kind folder old.entries

-- an entry that is a folder with a name
abbrev pub is_child : Entry → Bool
is_child entry = entry.folder && (not (length entry.name == 0) && not (list_any is_slash entry.name))

-- the path of a folder in a listed folder, from its entry
abbrev pub IsChildOf : List ℕ → Entry → List ℕ → Type 0
IsChildOf folder entry path = (is_child entry ≡ true) × (path ≡ inside folder entry.name)

abbrev pub IsRowChild : Row → List ℕ → Type 0
IsRowChild row path = (entry : Entry) × Contains row.entries entry × IsChildOf row.folder entry path

-- the folders in a listed one come before the starts that are left; the next start is the last of the list
abbrev pub AddsChildren : Row → List Start → List Start → Type 0
AddsChildren row old new = (children : List (List ℕ)) × AreSorted (IsRowChild row) children × (reverse new ≡ deep_starts children ++ reverse old)

-- the row of a folder: it was there before, or it is added now
abbrev pub IsListedRow : List ℕ → Row → Listing → Listing → Type 0
IsListedRow folder row old new = (Contains old.rows row × (new ≡ old)) ⊎ (IsFresh old.rows folder × AddsRow folder old new row)

-- a start that was visited: its folder is listed, at most once, and where it is deep the folders in it come next
abbrev pub Visits : Start → Row → Listing → Listing → List Start → List Start → Type 0
Visits start row old new left_old left_new =
    (row.folder ≡ start.path) × IsListedRow start.path row old new
    × (start.deep ≡ true → AddsChildren row left_old left_new) × (start.deep ≡ false → left_new ≡ left_old)

-- what a visit of a folder says of these files: the entries of a folder that is listed now, or that it passes a limit
abbrev pub VisitTells : {A : Type 0} → Files → List ℕ → Listing → Listing → Result A (Fail FindFault) → Type 0
VisitTells files folder old new (Ok done) = (row : Row) → AddsRow folder old new row → IsListing files folder row.entries
VisitTells files folder old new (Err OutOfMemory) = Unit {0}
VisitTells files folder old new (Err (Fault Read)) = Unit {0}
VisitTells files folder old new (Err (Fault (Limit kind path))) = (path ≡ folder) × IsFresh old.rows folder × PassesAt files kind folder old.entries

-- What the walk comes to for some starts, and which starts are left behind it, a start at a time: a start at or below
-- the build root is passed over, a start alone is listed, and a deep one is listed and the folders in it come next.
pub data Lists (files : Files) (build : List ℕ) : List Start → List (List ℕ) → List Start → Type 0 where
  nothing : {starts : List Start} → Lists files build starts [] starts
  hidden : {start : Start} {starts : List Start} {folders : List (List ℕ)} {left : List Start}
      → is_at_or_below build start.path ≡ true → Lists files build starts folders left → Lists files build (start ∷ starts) folders left
  alone : {start : Start} {starts : List Start} {folders : List (List ℕ)} {left : List Start}
      → is_at_or_below build start.path ≡ false → start.deep ≡ false
      → Lists files build starts folders left → Lists files build (start ∷ starts) (start.path ∷ folders) left
  with_all_below : {start : Start} {starts : List Start} {folders : List (List ℕ)} {left : List Start} (children : List (List ℕ))
      → is_at_or_below build start.path ≡ false → start.deep ≡ true → AreChildren files start.path children
      → Lists files build (deep_starts children ++ starts) folders left → Lists files build (start ∷ starts) (start.path ∷ folders) left

-- what was listed so far, for the starts of a walk and those that are left
pub record IsWalked (files : Files) (build : List ℕ) (starts left : List Start) (rows : List Row) (count : ℕ) : Type 0 where
  pub folders : List (List ℕ)
  pub lists : Lists files build starts folders left
  pub rows_are : map (λ row. row.folder) rows ≡ first_places folders
  pub listings : AreListings files rows
  pub shallow : All (λ row. depth_of row.folder ≤ most_components) rows
  pub counted : count ≡ sum_by (λ row. length row.entries) rows
  pub few : count ≤ most_entries

-- the next folder of a walk passes a limit
pub record WalkPasses (files : Files) (build : List ℕ) (starts : List Start) (kind : LimitKind) (folder : List ℕ) : Type 0 where
  pub start : Start
  pub left : List Start
  pub rows : List Row
  pub count : ℕ
  pub walked : IsWalked files build starts (start ∷ left) rows count
  pub is : folder ≡ start.path
  pub outside : is_at_or_below build folder ≡ false
  pub fresh : IsFresh rows folder
  pub passes : PassesAt files kind folder count

-- what a walk says of these files
abbrev pub WalkTells : Files → List ℕ → List Start → Result Listing (Fail FindFault) → Type 0
WalkTells files build starts (Ok listing) = IsWalked files build starts [] listing.rows listing.entries
WalkTells files build starts (Err OutOfMemory) = Unit {0}
WalkTells files build starts (Err (Fault Read)) = Unit {0}
WalkTells files build starts (Err (Fault (Limit kind path))) = WalkPasses files build starts kind path

-- each of these paths has a file
abbrev pub AreThere : Files → List (List ℕ) → Type 0
AreThere files paths = (path : List ℕ) → Contains paths path → IsSome (get files path)

-- a text of this path was read, so many bytes being read before; or it passes a limit
abbrev pub ReadsListedFile : List ℕ → List ℕ → ℕ → Files → Files → Result ℕ (Fail FindFault) → Type 0
ReadsListedFile path text read old new (Ok now) =
    (new ≡ insert old path text) × (length text ≤ most_file_bytes) × (now ≡ read + length text) × (now ≤ most_bytes)
ReadsListedFile path text read old new (Err OutOfMemory) = Unit {0}
ReadsListedFile path text read old new (Err (Fault Read)) = Unit {0}
ReadsListedFile path text read old new (Err (Fault (Limit kind at))) =
    (at ≡ path) × (((kind ≡ FileBytes) × (most_file_bytes < length text)) ⊎ ((kind ≡ AllBytes) × (length text ≤ most_file_bytes) × (most_bytes < read + length text)))

-- no text is longer than a file may be
abbrev pub AreSmall : Files → Type 0
AreSmall texts = (path text : List ℕ) → get texts path ≡ Some text → length text ≤ most_file_bytes

-- the texts of these paths were read, and no others; or one passes a limit
abbrev pub ReadsListedFiles : Files → List (List ℕ) → Result Files (Fail FindFault) → Type 0
ReadsListedFiles files paths (Ok texts) =
    ReadingStays files paths 0 × ((path : List ℕ) → Contains paths path → get texts path ≡ get files path) × ((path : List ℕ) → (Contains paths path → ⊥) → get texts path ≡ None)
ReadsListedFiles files paths (Err OutOfMemory) = Unit {0}
ReadsListedFiles files paths (Err (Fault Read)) = Unit {0}
ReadsListedFiles files paths (Err (Fault (Limit kind path))) = ReadingPasses files paths 0 kind path

-- the paths that have a text
abbrev pub with_text : Files → List (List ℕ) → List (List ℕ)
with_text texts paths = filter (λ path. is_some (get texts path)) paths

-- the groups of each listed folder are known
abbrev pub HaveGroups : ProjectSettings → List Row → Type 0
HaveGroups settings rows = (row : Row) → Contains rows row → (groups : Groups) × AreGroups settings row.folder groups

-- the three lists, from the listed folders
pub record AreLists (settings : ProjectSettings) (rows : List Row) (lists : FileLists) : Type 0 where
  pub tests : AreSorted (IsPicked rows settings Test) lists.tests
  pub sources : AreSorted (IsPicked rows settings Source) lists.sources
  pub headers : AreSorted (IsPicked rows settings Header) lists.headers
  pub folders : AreSearched settings rows lists.folders
  pub groups : HaveGroups settings rows

abbrev pub IsInLists : FileLists → List ℕ → Type 0
IsInLists lists path = Contains lists.tests path ⊎ (Contains lists.sources path ⊎ Contains lists.headers path)

-- the first so many paths were read, and the rest decides whether a limit is passed
pub record HasReadSome (files : Files) (paths : List (List ℕ)) (index read : ℕ) (texts : Files) : Type 0 where
  pub passes : (kind : LimitKind) (path : List ℕ) → ReadingPasses files (drop index paths) read kind path → ReadingPasses files paths 0 kind path
  pub stays : ReadingStays files (drop index paths) read → ReadingStays files paths 0
  pub own : (path : List ℕ) → Contains (take index paths) path → get texts path ≡ get files path
  pub others : (path : List ℕ) → (Contains (take index paths) path → ⊥) → get texts path ≡ None
