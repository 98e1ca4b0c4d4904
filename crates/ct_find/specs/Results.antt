-- What a search finds: the sorted lists and the texts, or the first limit that is passed.
use Rattle.std.specs.Prelude.{◌≡◌, ◌⊎◌, ℕ, ◌≤◌, List, ◌++◌, length, slice_get, Some, None, Result, Ok, Err}
use Rattle.std.specs.FinMap.{get}
use Rattle.ct_base.specs.declared.limits.LimitKind.{LimitKind}
use Rattle.ct_base.specs.declared.limits.LimitKind.TheVariants as limits
use Rattle.ct_outside.specs.Files.{Files}
use Rattle.ct_outside.specs.Counts.{Rose}
use Rattle.ct_base.specs.declared.memory.Fail.{Fail}
use Rattle.ct_base.specs.declared.memory.Fail.TheVariants.{Fault, OutOfMemory}
use Rattle.ct_settings.specs.declared.record.ProjectSettings.{ProjectSettings}
use Rattle.ct_find.specs.declared.files.FindFault.{FindFault}
use Rattle.ct_find.specs.declared.files.FindFault.TheVariants.{Read, Limit}
use Rattle.ct_find.specs.declared.files.Files.{Files as Found}
use Rattle.ct_find.specs.Folders.{IsHeader, IsListed, IsSource, IsTest, in_include, in_source, in_support, in_test}
use Rattle.ct_find.specs.Limits.{ListingPasses, ListingStays, ReadingPasses, ReadingStays, most_files}
use Rattle.ct_find.specs.Sets.{AreSorted}

-- the folders of the search of an include: the include, source, test and support folders, each group sorted
pub record AreFolders (settings : ProjectSettings) (files : Files) (folders : List (List ℕ)) : Type 0 where
  pub include : List (List ℕ)
  pub source : List (List ℕ)
  pub test : List (List ℕ)
  pub support : List (List ℕ)
  pub include_folders : AreSorted (in_include settings files) include
  pub source_folders : AreSorted (in_source settings files) source
  pub test_folders : AreSorted (in_test settings files) test
  pub support_folders : AreSorted (in_support settings files) support
  pub whole : folders ≡ include ++ source ++ test ++ support

-- the texts are those of the listed files, and no others
pub record AreTexts (settings : ProjectSettings) (files texts : Files) : Type 0 where
  pub listed : (path : List ℕ) → IsListed settings files path → get texts path ≡ get files path
  pub others : (path : List ℕ) → (IsListed settings files path → ⊥) → get texts path ≡ None

-- what is found where no limit is passed
pub record IsFound (settings : ProjectSettings) (files : Files) (found : Found) : Type 0 where
  pub tests : AreSorted (IsTest settings files) found.tests
  pub sources : AreSorted (IsSource settings files) found.sources
  pub headers : AreSorted (IsHeader settings files) found.headers
  pub folders : AreFolders settings files found.folders
  pub texts : AreTexts settings files found.texts

-- after the listing: the files of the three lists, in sorted order
pub record Listed (settings : ProjectSettings) (files : Files) : Type 0 where
  pub paths : List (List ℕ)
  pub stays : ListingStays settings files
  pub all : AreSorted (IsListed settings files) paths

-- The limits come in this order: those of listing; Files, at the first path after so many; those of reading.
abbrev pub Passes : ProjectSettings → Files → LimitKind → List ℕ → Type 0
Passes settings files kind path =
    ListingPasses settings files kind path
    ⊎ ((listed : Listed settings files)
    × (((kind ≡ limits.Files) × (slice_get listed.paths most_files ≡ Some path))
    ⊎ ((length listed.paths ≤ most_files) × ReadingPasses files listed.paths 0 kind path)))

-- no limit is passed
abbrev pub Stays : ProjectSettings → Files → Type 0
Stays settings files =
    (listed : Listed settings files) × (length listed.paths ≤ most_files) × ReadingStays files listed.paths 0

-- what the search answers over these files; a failed call and want of memory are left open
abbrev pub Finds : ProjectSettings → Files → Result Found (Fail FindFault) → Type 0
Finds settings files (Ok found) = Stays settings files × IsFound settings files found
Finds settings files (Err OutOfMemory) = Unit {0}
Finds settings files (Err (Fault Read)) = Unit {0}
Finds settings files (Err (Fault (Limit kind path))) = Passes settings files kind path

-- what a call leaves in the count of read faults: it rose where a list or a read failed, and else stays
abbrev pub FaultsAfter : {A : Type 0} → Result A (Fail FindFault) → ℕ → ℕ → Type 0
FaultsAfter (Ok answer) before now = now ≡ before
FaultsAfter (Err OutOfMemory) before now = now ≡ before
FaultsAfter (Err (Fault Read)) before now = Rose before now
FaultsAfter (Err (Fault (Limit kind path))) before now = now ≡ before
