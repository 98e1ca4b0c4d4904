use Rattle.std.proofs.Common.{ℕ, List, length}
use denote.Text.{Utf8}
use denote.Shadow.{shadow}
use Rattle.ct_outside.specs.Paths.{Leads, LeavesRoot, components_of}
use Rattle.ct_outside.proofs.paths.follow.Given as goal

-- the rest of the way decides where the whole leads
abbrev pub invariant-loop-component : goal.invariant-loop-component
invariant-loop-component l =
    shadow (Utf8 l.rest)
    × ((to : List (List ℕ)) → Leads (components_of l.rest) l.folder.items to → Leads (components_of l.path) l.initial.folder.items to)
    × (LeavesRoot (components_of l.rest) l.folder.items → LeavesRoot (components_of l.path) l.initial.folder.items)

abbrev pub decreases-loop-component : goal.decreases-loop-component
decreases-loop-component l = length l.rest
