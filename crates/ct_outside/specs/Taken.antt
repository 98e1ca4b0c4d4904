-- What a sink took.
use Rattle.std.specs.Prelude.{◌≡◌, ℕ, List, ◌++◌, Option}
use Rattle.std.specs.Option.{option_map}

-- from one moment to another the sink took this text and no more, where it tells what it took
abbrev pub Took : Option (List ℕ) → Option (List ℕ) → List ℕ → Type 0
Took before now text = now ≡ option_map (λ taken. taken ++ text) before

-- it took a front of the text and no more
abbrev pub TookFront : Option (List ℕ) → Option (List ℕ) → List ℕ → Type 0
TookFront before now text = (front rest : List ℕ) × (text ≡ front ++ rest) × Took before now front
