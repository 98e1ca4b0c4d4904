-- Files by their paths, and what a folder holds.
use Rattle.std.specs.Prelude.{◌≡◌, ℕ, ◌+◌, ◌<◌, ◌≤◌, ◌↔◌, ◌==◌, Bool, List, [], ◌∷◌, ◌++◌, length, drop, nat_eq, Option, Some, None, IsSome, IsSomeAnd, Result, Ok, Err, if◌then◌else◌}
use Rattle.std.specs.Option.{option_map}
use Rattle.std.specs.Ordering.{nat_cmp}
use Rattle.std.specs.List.{Contains, starts_with, before_first, list_any}
use Rattle.std.specs.FinMap.{FinMap, get, insert}
use Rattle.std.specs.Cmp.Lexicographic.{slice_cmp}
use Rattle.ct_outside.specs.declared.tree.Entry.{Entry}
use Rattle.ct_outside.specs.declared.tree.Found.{Found}
use Rattle.ct_outside.specs.declared.tree.Found.TheVariants.{There, Absent, TooLarge}
use Rattle.ct_outside.specs.declared.tree.TreeError.{TreeError}
use Rattle.ct_outside.specs.declared.tree.TreeError.TheVariants.{Failed, OutOfMemory}

-- from the bytes of a path to the bytes of its file, in the order of the bytes of the paths
abbrev pub Files : Type 0
Files = FinMap (slice_cmp nat_cmp) (List ℕ)

abbrev pub is_slash : ℕ → Bool
is_slash byte = byte == 47

-- the rest of a path that lies below a folder; the root is the empty path
abbrev pub rest_below : List ℕ → List ℕ → Option (List ℕ)
rest_below [] path = Some path
rest_below (c ∷ cs) path =
    if starts_with nat_eq path ((c ∷ cs) ++ 47 ∷ []) then Some (drop (length cs + 2) path) else None

-- the entry of a folder under which a path lies: its name ends before the first slash of the rest,
-- and it is a folder where there is such a slash
abbrev pub entry_at : List ℕ → List ℕ → Option Entry
entry_at folder path =
    option_map (λ rest. record { name = before_first is_slash rest; folder = list_any is_slash rest }) (rest_below folder path)

-- some file lies under this entry of the folder
abbrev pub IsEntry : Files → List ℕ → Entry → Type 0
IsEntry files folder entry = (path : List ℕ) × IsSome (get files path) × (entry_at folder path ≡ Some entry)

-- some file lies below the folder
abbrev pub IsFolder : Files → List ℕ → Type 0
IsFolder files folder = (entry : Entry) × IsEntry files folder entry

-- none stands twice
abbrev pub EachOnce : {A : Type 0} → List A → Type 0
EachOnce [] = Unit {0}
EachOnce (x ∷ xs) = (Contains xs x → ⊥) × EachOnce xs

-- each direct entry of the folder, once, in any order
pub record IsListing (files : Files) (folder : List ℕ) (entries : List Entry) : Type 0 where
  pub each : (entry : Entry) → Contains entries entry ↔ IsEntry files folder entry
  pub once : EachOnce entries

-- what a list of a folder answers over these files, and appends
abbrev pub ListsFolder : Files → List ℕ → Found → List Entry → List Entry → Type 0
ListsFolder files folder There old new =
    (entries : List Entry) × (new ≡ old ++ entries) × IsFolder files folder × IsListing files folder entries
ListsFolder files folder Absent old new = IsFolder files folder → ⊥
ListsFolder files folder TooLarge old new = ⊥

-- what a read of a file answers over these files, and appends
abbrev pub AppendsFile : Files → List ℕ → ℕ → Found → List ℕ → List ℕ → Type 0
AppendsFile files path limit There old new =
    (bytes : List ℕ) × (get files path ≡ Some bytes) × (length bytes ≤ limit) × (new ≡ old ++ bytes)
AppendsFile files path limit Absent old new = get files path ≡ None
AppendsFile files path limit TooLarge old new = IsSomeAnd (get files path) (λ bytes. limit < length bytes)

-- from one moment to another this file was set and no other, where the files are told
abbrev pub SetsFile : Option Files → Option Files → List ℕ → List ℕ → Type 0
SetsFile before now path bytes = now ≡ option_map (λ told. insert told path bytes) before

-- what a call leaves in the vector that it was lent: more at its end where it found something, what
-- stood there where memory ran out, and else the same
abbrev pub Leaves : {A : Type 0} → Result Found TreeError → List A → List A → Type 0
Leaves {A} (Ok There) old new = (more : List A) × (new ≡ old ++ more)
Leaves (Ok Absent) old new = new ≡ old
Leaves (Ok TooLarge) old new = new ≡ old
Leaves {A} (Err OutOfMemory) old new = (more : List A) × (new ≡ old ++ more)
Leaves (Err Failed) old new = new ≡ old
