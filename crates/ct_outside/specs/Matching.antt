-- Patterns of folders.
use Rattle.std.specs.Prelude.{◌≡◌, ◌⊎◌, ℕ, ◌==◌, Bool, List, [], ◌∷◌, ◌++◌, codes}
use Rattle.std.specs.Bool.{MatchBool}
use Rattle.std.specs.Str.{bytes_eq}
use Rattle.ct_outside.specs.Paths.{components_of}

-- A list of parts matches a list of items: a part that is a run matches any run of items, none among them,
-- and every other part one item that fits it.
abbrev pub Matches : {P X : Type 0} → (P → Bool) → (P → X → Type 0) → List P → List X → Type 0
Matches is_run Fits [] items = items ≡ []
Matches {P} {X} is_run Fits (part ∷ parts) items =
    MatchBool (is_run part)
    ((front rest : List X) × (items ≡ front ++ rest) × Matches is_run Fits parts rest)
    ((item : X) × (rest : List X) × (items ≡ item ∷ rest) × Fits part item × Matches is_run Fits parts rest)

-- `*`
abbrev pub is_star : ℕ → Bool
is_star byte = byte == 42

-- `?` fits any byte, and every other byte itself
abbrev pub FitsByte : ℕ → ℕ → Type 0
FitsByte part byte = (part ≡ 63) ⊎ (part ≡ byte)

-- a component of a pattern and one of a folder
abbrev pub MatchesName : List ℕ → List ℕ → Type 0
MatchesName pattern name = Matches is_star FitsByte pattern name

abbrev pub double_star : List ℕ
double_star = codes "**"

abbrev pub is_double_star : List ℕ → Bool
is_double_star part = bytes_eq part double_star

-- The pattern matches the folder, component by component: `**` matches no component, one or more, and in
-- another component `*` matches any run of bytes and `?` one byte.
abbrev pub MatchesFolder : List ℕ → List ℕ → Type 0
MatchesFolder pattern folder = Matches is_double_star MatchesName (components_of pattern) (components_of folder)
