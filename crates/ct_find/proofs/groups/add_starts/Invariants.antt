use Rattle.std.proofs.Common.{◌≡◌, ◌++◌, List, map, take}
use Rattle.std.specs.List.{Contains}
use Rattle.ct_find.specs.declared.starts.Start.{Start}
use Rattle.ct_find.specs.Order.{IsDeep}
use Rattle.ct_find.proofs.groups.add_starts.Given as goal

abbrev pub invariant-loop-path : goal.invariant-loop-path
invariant-loop-path l =
    (group : List Start) × (l.into.items ≡ l.initial.into.items ++ group) × (map (λ start. start.path) group ≡ take l.path-index l.path-items)
    × ((start : Start) → Contains group start → IsDeep l.patterns start)
