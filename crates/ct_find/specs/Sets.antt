-- Sets of paths as sorted lists.
use Rattle.std.specs.Prelude.{ℕ, ◌↔◌, List}
use Rattle.std.specs.List.{Contains}
use Rattle.std.specs.List.Sorted.{IsSorted}
use Rattle.std.specs.Ordering.{nat_cmp}
use Rattle.std.specs.Cmp.Lexicographic.{slice_cmp}
use Rattle.ct_outside.specs.Files.{EachOnce}

-- the members of a set of paths, each once, sorted by the bytes of the paths
pub record AreSorted (IsMember : List ℕ → Type 0) (paths : List (List ℕ)) : Type 0 where
  pub each : (path : List ℕ) → Contains paths path ↔ IsMember path
  pub once : EachOnce paths
  pub sorted : IsSorted (slice_cmp nat_cmp) paths
