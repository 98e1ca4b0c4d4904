-- The limits of listing and reading.
use Rattle.std.specs.Prelude.{◌≡◌, ◌⊎◌, ℕ, ◌+◌, ◌<◌, ◌≤◌, List, [], ◌∷◌, ◌++◌, All, length, Some}
use Rattle.std.specs.FinMap.{get}
use Rattle.ct_base.specs.Limits.{mebibyte}
use Rattle.ct_base.specs.declared.limits.LimitKind.{LimitKind}
use Rattle.ct_base.specs.declared.limits.LimitKind.TheVariants.{FileBytes, AllBytes, Entries, FolderDepth}
use Rattle.ct_outside.specs.Files.{Files, IsListing}
use Rattle.ct_outside.specs.Paths.{components_of}
use Rattle.ct_outside.specs.declared.tree.Entry.{Entry}
use Rattle.ct_settings.specs.declared.record.ProjectSettings.{ProjectSettings}
use Rattle.ct_find.specs.Order.{IsOrder}

-- the most bytes of a file and of all files that are read, the most files, the most listed entries and the
-- most components of a folder
abbrev pub most_file_bytes : ℕ
most_file_bytes = mebibyte

abbrev pub most_bytes : ℕ
most_bytes = 16777216

abbrev pub most_files : ℕ
most_files = 2000

abbrev pub most_entries : ℕ
most_entries = 20000

abbrev pub most_components : ℕ
most_components = 32

abbrev pub depth_of : List ℕ → ℕ
depth_of folder = length (components_of folder)

-- how many entries are listed in these folders
abbrev pub HaveEntries : Files → List (List ℕ) → ℕ → Type 0
HaveEntries files [] count = count ≡ 0
HaveEntries files (folder ∷ folders) count =
    (entries : List Entry) × (others : ℕ) × IsListing files folder entries × HaveEntries files folders others × (count ≡ length entries + others)

-- no limit is passed where these folders are listed, in which so many entries are
pub record AreWithin (files : Files) (folders : List (List ℕ)) (count : ℕ) : Type 0 where
  pub shallow : All (λ folder. depth_of folder ≤ most_components) folders
  pub counted : HaveEntries files folders count
  pub few : count ≤ most_entries

-- how the next folder passes a limit: it is too deep, and is not listed; or else its entries are too many with those
-- before
abbrev pub PassesAt : Files → LimitKind → List ℕ → ℕ → Type 0
PassesAt files kind folder count =
    ((kind ≡ FolderDepth) × (most_components < depth_of folder))
    ⊎ ((kind ≡ Entries) × (depth_of folder ≤ most_components) × ((entries : List Entry) × IsListing files folder entries × (most_entries < count + length entries)))

-- the first folder in the order of listing that passes a limit
pub record ListingPasses (settings : ProjectSettings) (files : Files) (kind : LimitKind) (folder : List ℕ) : Type 0 where
  pub before : List (List ℕ)
  pub rest : List (List ℕ)
  pub order : IsOrder settings files (before ++ folder ∷ rest)
  pub count : ℕ
  pub within : AreWithin files before count
  pub passes : PassesAt files kind folder count

-- all folders are listed, and no limit is passed
pub record ListingStays (settings : ProjectSettings) (files : Files) : Type 0 where
  pub folders : List (List ℕ)
  pub order : IsOrder settings files folders
  pub count : ℕ
  pub within : AreWithin files folders count

-- The first of these files that is too long, or else with which there are too many bytes, so many being read before.
abbrev pub ReadingPasses : Files → List (List ℕ) → ℕ → LimitKind → List ℕ → Type 0
ReadingPasses files [] read kind path = ⊥
ReadingPasses files (next ∷ paths) read kind path =
    (text : List ℕ) × (get files next ≡ Some text)
    × (((kind ≡ FileBytes) × (path ≡ next) × (most_file_bytes < length text))
    ⊎ (((kind ≡ AllBytes) × (path ≡ next) × (length text ≤ most_file_bytes) × (most_bytes < read + length text))
    ⊎ ((length text ≤ most_file_bytes) × (read + length text ≤ most_bytes) × ReadingPasses files paths (read + length text) kind path)))

-- none of these files passes a limit
abbrev pub ReadingStays : Files → List (List ℕ) → ℕ → Type 0
ReadingStays files [] read = Unit {0}
ReadingStays files (next ∷ paths) read =
    (text : List ℕ) × (get files next ≡ Some text) × (length text ≤ most_file_bytes) × (read + length text ≤ most_bytes)
    × ReadingStays files paths (read + length text)
