-- The places of the folders that were listed.
use Rattle.std.specs.Prelude.{◌≡◌, ℕ, List, String, Some, MatchOption, slice_get}
use Rattle.std.specs.declared.alloc.Global.{Global}
use Rattle.std.specs.BTreeMap.{BTreeMap, get_by_text}
use Rattle.std.specs.List.{Contains}
use Rattle.ct_find.specs.declared.rows.Row.{Row}

-- no folder that was listed is this one
abbrev pub IsFresh : List Row → List ℕ → Type 0
IsFresh rows folder = (row : Row) → Contains rows row → row.folder ≡ folder → ⊥

-- the folder was listed, at this place
abbrev pub StandsAt : List Row → List ℕ → ℕ → Type 0
StandsAt rows folder place = (row : Row) × (slice_get rows place ≡ Some row) × (row.folder ≡ folder)

-- a place is known of each folder that was listed, and of no other
abbrev pub HavePlaces : List Row → BTreeMap (String Global) ℕ → Type 0
HavePlaces rows places = (folder : List ℕ) → MatchOption (get_by_text places folder) (IsFresh rows folder) (StandsAt rows folder)
