-- What a search answers, by the folders that it listed.
use Rattle.std.specs.Prelude.{◌≡◌, ◌⊎◌, ℕ, ◌≤◌, List, [], length, slice_get, IsSome, Some, Result, Ok, Err}
use Rattle.std.specs.List.{Contains}
use Rattle.std.specs.FinMap.{get}
use Rattle.ct_base.specs.declared.limits.LimitKind.TheVariants as limits
use Rattle.ct_base.specs.declared.memory.Fail.{Fail}
use Rattle.ct_base.specs.declared.memory.Fail.TheVariants.{Fault, OutOfMemory}
use Rattle.ct_outside.specs.Files.{Files}
use Rattle.ct_settings.specs.declared.record.ProjectSettings.{ProjectSettings}
use Rattle.ct_find.specs.declared.files.FindFault.{FindFault}
use Rattle.ct_find.specs.declared.files.FindFault.TheVariants.{Read, Limit}
use Rattle.ct_find.specs.declared.files.Files.{Files as Found}
use Rattle.ct_find.specs.declared.search.FileLists.{FileLists}
use Rattle.ct_find.specs.declared.starts.Start.{Start}
use Rattle.ct_find.specs.declared.walking.Listing.{Listing}
use Rattle.ct_find.specs.Limits.{ReadingPasses, most_files}
use Rattle.ct_find.specs.Order.{IsWhole}
use Rattle.ct_find.specs.Rows.{AreLists, AreThere, IsInLists, IsWalked, ReadsListedFiles, WalkPasses}
use Rattle.ct_find.specs.Sets.{AreSorted}

-- the path at which there are too many
abbrev pub CountTells : List (List ℕ) → Result (Unit {0}) (Fail FindFault) → Type 0
CountTells paths (Ok done) = Unit {0}
CountTells paths (Err OutOfMemory) = Unit {0}
CountTells paths (Err (Fault Read)) = ⊥
CountTells paths (Err (Fault (Limit kind path))) = (kind ≡ limits.Files) × (slice_get paths most_files ≡ Some path)

-- each path of the three lists has a text
pub record HaveTexts (found : Found) : Type 0 where
  pub tests : (path : List ℕ) → Contains found.tests path → IsSome (get found.texts path)
  pub sources : (path : List ℕ) → Contains found.sources path → IsSome (get found.texts path)
  pub headers : (path : List ℕ) → Contains found.headers path → IsSome (get found.texts path)

-- the folders were listed, and the lists are made from them
pub record IsListed (settings : ProjectSettings) (files : Files) (lists : FileLists) (paths : List (List ℕ)) : Type 0 where
  pub starts : List Start
  pub whole : IsWhole settings starts
  pub listing : Listing
  pub walked : IsWalked files settings.build_root starts [] listing.rows listing.entries
  pub are : AreLists settings listing.rows lists
  pub all : AreSorted (IsInLists lists) paths

-- what a search answers over these files, by the folders that it listed
abbrev pub FindsListed : ProjectSettings → Files → Result Found (Fail FindFault) → Type 0
FindsListed settings files (Ok found) =
    (lists : FileLists) × (paths : List (List ℕ)) × IsListed settings files lists paths × (length paths ≤ most_files)
    × (AreThere files paths → ReadsListedFiles files paths (Ok found.texts) × (found ≡ record { tests = lists.tests; sources = lists.sources; headers = lists.headers; folders = lists.folders; texts = found.texts }))
FindsListed settings files (Err OutOfMemory) = Unit {0}
FindsListed settings files (Err (Fault Read)) = Unit {0}
FindsListed settings files (Err (Fault (Limit kind path))) =
    ((starts : List Start) × IsWhole settings starts × WalkPasses files settings.build_root starts kind path)
    ⊎ ((lists : FileLists) × (paths : List (List ℕ)) × IsListed settings files lists paths
    × (((kind ≡ limits.Files) × (slice_get paths most_files ≡ Some path)) ⊎ ((length paths ≤ most_files) × (AreThere files paths → ReadingPasses files paths 0 kind path))))
