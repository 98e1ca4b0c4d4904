-- The order in which folders are listed.
use Rattle.std.specs.Prelude.{◌≡◌, ℕ, ◌==◌, ◌||◌, not, Bool, true, false, IsTrue, List, [], ◌∷◌, ◌++◌, map, take_while, if◌then◌else◌}
use Rattle.std.specs.List.{Contains, list_any}
use Rattle.std.specs.Str.{bytes_eq}
use Rattle.ct_outside.specs.Files.{Files, IsEntry}
use Rattle.ct_outside.specs.Paths.{components_of, path_of}
use Rattle.ct_settings.specs.declared.record.Pattern.{Pattern}
use Rattle.ct_settings.specs.declared.record.ProjectSettings.{ProjectSettings}
use Rattle.ct_find.specs.declared.starts.Start.{Start}
use Rattle.ct_find.specs.Folders.{is_at_or_below}
use Rattle.ct_find.specs.Sets.{AreSorted}

-- `*` or `?` stands in a component
abbrev pub has_wildcard : List ℕ → Bool
has_wildcard component = list_any (λ byte. (byte == 42) || (byte == 63)) component

-- the folder named by the components before the first wildcard
abbrev pub start_of : List ℕ → List ℕ
start_of pattern = path_of (take_while (λ component. not (has_wildcard component)) (components_of pattern))

abbrev pub is_deep : List ℕ → Bool
is_deep pattern = list_any has_wildcard (components_of pattern)

-- the adding patterns of a group start at this folder, some of them with a wildcard
abbrev pub StartsAt : Pattern → List ℕ → Type 0
StartsAt pattern folder = (pattern.add ≡ true) × (folder ≡ start_of pattern.path)

abbrev pub IsStart : List Pattern → List ℕ → Type 0
IsStart patterns folder = (pattern : Pattern) × Contains patterns pattern × StartsAt pattern folder

abbrev pub StartsDeep : Pattern → List ℕ → Type 0
StartsDeep pattern folder = (pattern.add ≡ true) × (folder ≡ start_of pattern.path) × IsTrue (is_deep pattern.path)

abbrev pub IsDeepStart : List Pattern → List ℕ → Type 0
IsDeepStart patterns folder = (pattern : Pattern) × Contains patterns pattern × StartsDeep pattern folder

-- whether all below a start are listed
pub record IsDeep (patterns : List Pattern) (start : Start) : Type 0 where
  pub deep : IsTrue start.deep → IsDeepStart patterns start.path
  pub shallow : IsDeepStart patterns start.path → IsTrue start.deep

-- the starts of a group, sorted
pub record AreStarts (patterns : List Pattern) (starts : List Start) : Type 0 where
  pub paths : AreSorted (IsStart patterns) (map (λ start. start.path) starts)
  pub deep : (start : Start) → Contains starts start → IsDeep patterns start

-- the path of what has this name in a folder
abbrev pub inside : List ℕ → List ℕ → List ℕ
inside [] name = name
inside (byte ∷ bytes) name = (byte ∷ bytes) ++ 47 ∷ name

abbrev pub IsChild : Files → List ℕ → List ℕ → Type 0
IsChild files folder path =
    (name : List ℕ) × (path ≡ inside folder name) × (name ≡ [] → ⊥) × IsEntry files folder (record { name = name; folder = true })

-- the folders directly in a folder, sorted
abbrev pub AreChildren : Files → List ℕ → List (List ℕ) → Type 0
AreChildren files folder children = AreSorted (IsChild files folder) children

abbrev pub deep_starts : List (List ℕ) → List Start
deep_starts folders = map (λ folder. record { path = folder; deep = true }) folders

-- all starts: the groups come in the order test, source, include, support
pub record IsWhole (settings : ProjectSettings) (starts : List Start) : Type 0 where
  pub test : List Start
  pub source : List Start
  pub include : List Start
  pub support : List Start
  pub test_starts : AreStarts settings.test test
  pub source_starts : AreStarts settings.source source
  pub include_starts : AreStarts settings.include include
  pub support_starts : AreStarts settings.support support
  pub whole : starts ≡ test ++ source ++ include ++ support

-- a list without what was seen before: each member stands at its first place alone
abbrev pub places_after : List (List ℕ) → List (List ℕ) → List (List ℕ)
places_after seen [] = []
places_after seen (folder ∷ folders) =
    if list_any (bytes_eq folder) seen then places_after seen folders else folder ∷ places_after (folder ∷ seen) folders

-- a folder is listed once
abbrev pub first_places : List (List ℕ) → List (List ℕ)
first_places folders = places_after [] folders

mutual
  -- The walk of a start: nothing, where it is at or below the build root; the folder alone, where it is not deep;
  -- else the folder, and then in sorted order each folder in it with all that lie below.
  pub data IsWalk (files : Files) (build : List ℕ) : Start → List (List ℕ) → Type 0 where
    hidden : {start : Start} → is_at_or_below build start.path ≡ true → IsWalk files build start []
    alone : {start : Start} → is_at_or_below build start.path ≡ false → start.deep ≡ false → IsWalk files build start (start.path ∷ [])
    with_all_below : {start : Start} (children : List (List ℕ)) {below : List (List ℕ)}
        → is_at_or_below build start.path ≡ false → start.deep ≡ true → AreChildren files start.path children
        → AreWalks files build (deep_starts children) below → IsWalk files build start (start.path ∷ below)

  -- the walks of these starts, one behind the other
  pub data AreWalks (files : Files) (build : List ℕ) : List Start → List (List ℕ) → Type 0 where
    nothing : AreWalks files build [] []
    followed : {start : Start} {starts : List Start} {walk walks : List (List ℕ)}
        → IsWalk files build start walk → AreWalks files build starts walks → AreWalks files build (start ∷ starts) (walk ++ walks)

-- The folders in the order of listing: the walks of all starts, where each folder stands at its first place alone.
pub record IsOrder (settings : ProjectSettings) (files : Files) (folders : List (List ℕ)) : Type 0 where
  pub starts : List Start
  pub whole : IsWhole settings starts
  pub walks : List (List ℕ)
  pub are : AreWalks files settings.build_root starts walks
  pub once : folders ≡ first_places walks
