use Rattle.std.proofs.Common.{◌≡◌, ◌+◌, ◌≤◌, length}
use denote.Text.{Utf8}
use denote.Shadow.{shadow}
use Rattle.ct_outside.specs.Paths.{components_of}
use Rattle.ct_find.proofs.walking.depth.Given as goal

abbrev pub invariant-loop-behind : goal.invariant-loop-behind
invariant-loop-behind l =
    shadow (Utf8 l.rest) × (l.count + length (components_of l.rest) ≡ length (components_of l.path)) × (l.count + length l.rest ≤ length l.path)

abbrev pub decreases-loop-behind : goal.decreases-loop-behind
decreases-loop-behind l = length l.rest
