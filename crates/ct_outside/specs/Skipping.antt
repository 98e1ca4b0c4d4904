-- How far a pattern matches one to one, without its runs.
use Rattle.std.specs.Prelude.{◌≡◌, ◌⊎◌, Bool, true, false, List, [], ◌∷◌, ◌++◌}
use Rattle.ct_outside.specs.Matching.{Matches}

-- each part is no run, and its item fits
abbrev pub FitOneToOne : {P X : Type 0} → (P → Bool) → (P → X → Type 0) → List P → List X → Type 0
FitOneToOne is_run Fits [] [] = Unit {0}
FitOneToOne is_run Fits [] (item ∷ items) = ⊥
FitOneToOne is_run Fits (part ∷ parts) [] = ⊥
FitOneToOne is_run Fits (part ∷ parts) (item ∷ items) = (is_run part ≡ false) × Fits part item × FitOneToOne is_run Fits parts items

-- the first part is a run, or does not fit the first item, or there is no part or no item
abbrev pub Stops : {P X : Type 0} → (P → Bool) → (P → X → Type 0) → List P → List X → Type 0
Stops is_run Fits [] items = Unit {0}
Stops is_run Fits (part ∷ parts) [] = Unit {0}
Stops is_run Fits (part ∷ parts) (item ∷ items) = (is_run part ≡ true) ⊎ (Fits part item → ⊥)

-- from one place to another the parts fit one to one
abbrev pub FitsUpTo : {P X : Type 0} → (P → Bool) → (P → X → Type 0) → List P → List X → List P → List X → Type 0
FitsUpTo {P} {X} is_run Fits parts items more_parts more_items =
    (front : List P) × (begin : List X) × (parts ≡ front ++ more_parts) × (items ≡ begin ++ more_items) × FitOneToOne is_run Fits front begin

-- the same, and no further
abbrev pub IsSkipped : {P X : Type 0} → (P → Bool) → (P → X → Type 0) → List P → List X → List P → List X → Type 0
IsSkipped is_run Fits parts items more_parts more_items =
    FitsUpTo is_run Fits parts items more_parts more_items × Stops is_run Fits more_parts more_items

-- the parts match some end of the items
abbrev pub MatchesEnd : {P X : Type 0} → (P → Bool) → (P → X → Type 0) → List P → List X → Type 0
MatchesEnd {P} {X} is_run Fits parts items = (front rest : List X) × (items ≡ front ++ rest) × Matches is_run Fits parts rest
