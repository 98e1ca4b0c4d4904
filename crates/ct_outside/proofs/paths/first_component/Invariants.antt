use Rattle.std.proofs.Common.{◌≡◌, ◌≤◌, length}
use denote.Text.{Utf8}
use denote.Shadow.{shadow}
use Rattle.ct_outside.specs.Paths.{components_of}
use Rattle.ct_outside.proofs.paths.first_component.Given as goal

-- only slashes were passed
abbrev pub invariant-loop-piece : goal.invariant-loop-piece
invariant-loop-piece l = shadow (Utf8 l.rest) × (components_of l.path ≡ components_of l.rest) × (length l.rest ≤ length l.path)

abbrev pub decreases-loop-piece : goal.decreases-loop-piece
decreases-loop-piece l = length l.rest
