-- Names that were seen. No public clause speaks of them.
use Rattle.std.specs.Prelude.{ℕ, Bool, List}
use Rattle.std.specs.List.{list_any}
use Rattle.std.specs.Str.{bytes_eq}
use Rattle.std.specs.BTreeSet.{BTreeSet}
use Rattle.std.specs.declared.vec.Vec.{Vec}
use Rattle.std.specs.declared.alloc.Global.{Global}

-- whether a set has a name
abbrev pub has_name : BTreeSet (Vec ℕ Global) → List ℕ → Bool
has_name names name = list_any (λ other. bytes_eq other.items name) names.keys
