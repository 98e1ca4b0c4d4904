-- The folders of a group of patterns, and the files that the rules of names pick.
use Rattle.std.specs.Prelude.{◌≡◌, ◌⊎◌, ℕ, ◌&&◌, ◌||◌, Bool, true, false, IsTrue, List, nat_eq, is_some, IsSome, Some, codes}
use Rattle.std.specs.List.{Contains, starts_with, ends_with}
use Rattle.std.specs.Str.{bytes_eq}
use Rattle.std.specs.FinMap.{get}
use Rattle.ct_outside.specs.Files.{Files, IsFolder, entry_at, rest_below}
use Rattle.ct_outside.specs.Matching.{MatchesFolder}
use Rattle.ct_outside.specs.Paths.{components_of, path_of}
use Rattle.ct_settings.specs.declared.record.Pattern.{Pattern}
use Rattle.ct_settings.specs.declared.record.ProjectSettings.{ProjectSettings}

-- at a folder, or below it; every path lies below the root
abbrev pub is_at_or_below : List ℕ → List ℕ → Bool
is_at_or_below root folder = bytes_eq folder root || is_some (rest_below root folder)

-- a path of components, so without an empty one
abbrev pub IsPath : List ℕ → Type 0
IsPath path = path_of (components_of path) ≡ path

abbrev pub IsAdded : List Pattern → List ℕ → Type 0
IsAdded patterns folder = (pattern : Pattern) × Contains patterns pattern × (pattern.add ≡ true) × MatchesFolder pattern.path folder

abbrev pub IsRemoved : List Pattern → List ℕ → Type 0
IsRemoved patterns folder = (pattern : Pattern) × Contains patterns pattern × (pattern.add ≡ false) × MatchesFolder pattern.path folder

-- a folder of a group: some adding pattern of the group matches it and no removing one does, and it is not
-- at or below the build root
pub record InGroup (files : Files) (build : List ℕ) (patterns : List Pattern) (folder : List ℕ) : Type 0 where
  pub there : IsFolder files folder
  pub path : IsPath folder
  pub outside : is_at_or_below build folder ≡ false
  pub added : IsAdded patterns folder
  pub kept : IsRemoved patterns folder → ⊥

-- a file directly in a folder, under this name
abbrev pub IsFileIn : Files → List ℕ → List ℕ → List ℕ → Type 0
IsFileIn files folder name path = IsSome (get files path) × (entry_at folder path ≡ Some (record { name = name; folder = false }))

-- the base name of a test file: it begins with the test prefix and ends in `.c`
abbrev pub is_test_name : List ℕ → List ℕ → Bool
is_test_name prefix name = starts_with nat_eq name prefix && ends_with nat_eq name (codes ".c")

abbrev pub in_test : ProjectSettings → Files → List ℕ → Type 0
in_test settings files folder = InGroup files settings.build_root settings.test folder

abbrev pub in_source : ProjectSettings → Files → List ℕ → Type 0
in_source settings files folder = InGroup files settings.build_root settings.source folder

abbrev pub in_include : ProjectSettings → Files → List ℕ → Type 0
in_include settings files folder = InGroup files settings.build_root settings.include folder

abbrev pub in_support : ProjectSettings → Files → List ℕ → Type 0
in_support settings files folder = InGroup files settings.build_root settings.support folder

-- tests are the files in test folders with such a name
abbrev pub IsTest : ProjectSettings → Files → List ℕ → Type 0
IsTest settings files path =
    (folder : List ℕ) × (name : List ℕ) × in_test settings files folder × IsFileIn files folder name path × IsTrue (is_test_name settings.test_prefix name)

-- sources are the other `.c` files in source and support folders
abbrev pub IsSource : ProjectSettings → Files → List ℕ → Type 0
IsSource settings files path =
    (folder : List ℕ) × (name : List ℕ) × (in_source settings files folder ⊎ in_support settings files folder)
    × IsFileIn files folder name path × IsTrue (ends_with nat_eq name (codes ".c")) × (IsTest settings files path → ⊥)

-- headers are the `.h` files in include, source, test and support folders
abbrev pub IsHeader : ProjectSettings → Files → List ℕ → Type 0
IsHeader settings files path =
    (folder : List ℕ) × (name : List ℕ)
    × ((in_include settings files folder ⊎ in_source settings files folder) ⊎ (in_test settings files folder ⊎ in_support settings files folder))
    × IsFileIn files folder name path × IsTrue (ends_with nat_eq name (codes ".h"))

-- the files of the three lists
abbrev pub IsListed : ProjectSettings → Files → List ℕ → Type 0
IsListed settings files path = IsTest settings files path ⊎ (IsSource settings files path ⊎ IsHeader settings files path)
