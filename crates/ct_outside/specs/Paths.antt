-- Paths by their components.
use Rattle.std.specs.Prelude.{◌≡◌, ℕ, Bool, List, [], ◌∷◌, ◌++◌, length, filter, nat_lt, codes}
use Rattle.std.specs.Bool.{MatchBool}
use Rattle.std.specs.List.{slice_split, join_with_byte}
use Rattle.std.specs.Str.{bytes_eq}
use Rattle.ct_outside.specs.Files.{is_slash}

-- the components of a path: its pieces between slashes, of which an empty one is none. The root has none
abbrev pub components_of : List ℕ → List (List ℕ)
components_of path = filter (λ piece. nat_lt 0 (length piece)) (slice_split is_slash path)

-- the path with these components
abbrev pub path_of : List (List ℕ) → List ℕ
path_of components = join_with_byte 47 components

abbrev pub parent : List ℕ
parent = codes ".."

abbrev pub is_here : List ℕ → Bool
is_here component = bytes_eq component (codes ".")

abbrev pub is_parent : List ℕ → Bool
is_parent component = bytes_eq component parent

-- Where a component leads, from one folder to another, both given by their components: `.` stays, `..` leads
-- to the parent, which the root does not have, and any other leads to what has this name in the folder.
abbrev pub Steps : List ℕ → List (List ℕ) → List (List ℕ) → Type 0
Steps component from to =
    MatchBool (is_here component) (to ≡ from) (MatchBool (is_parent component) ((name : List ℕ) × (from ≡ to ++ name ∷ [])) (to ≡ from ++ component ∷ []))

-- where components lead, one after the other
abbrev pub Leads : List (List ℕ) → List (List ℕ) → List (List ℕ) → Type 0
Leads [] from to = to ≡ from
Leads (component ∷ components) from to = (next : List (List ℕ)) × Steps component from next × Leads components next to

-- some `..` of these would leave the root
abbrev pub LeavesRoot : List (List ℕ) → List (List ℕ) → Type 0
LeavesRoot components from = (front rest : List (List ℕ)) × (components ≡ front ++ parent ∷ rest) × Leads front from []

-- the components of a folder and of what follows it
abbrev pub joined_components : List ℕ → List ℕ → List (List ℕ)
joined_components folder rest = components_of folder ++ components_of rest

-- a path that leads where the two lead one after the other, without `.` and `..`
abbrev pub IsJoined : List ℕ → List ℕ → List ℕ → Type 0
IsJoined folder rest path = (components : List (List ℕ)) × Leads (joined_components folder rest) [] components × (path ≡ path_of components)
