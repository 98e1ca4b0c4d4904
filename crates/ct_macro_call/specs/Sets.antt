-- Sets of macros, each by its place in the table, as lists in which no place stands twice.
use Rattle.std.specs.Prelude.{ℕ, ◌==◌, not, Bool, List, ◌++◌, filter}
use Rattle.std.specs.List.{list_any}

abbrev pub is_in : ℕ → List ℕ → Bool
is_in place set = list_any (λ other. place == other) set

-- those of both together
abbrev pub joined : List ℕ → List ℕ → List ℕ
joined one other = one ++ filter (λ place. not (is_in place one)) other

-- those that are in both
abbrev pub common : List ℕ → List ℕ → List ℕ
common one other = filter (λ place. is_in place other) one
