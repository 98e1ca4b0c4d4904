use Rattle.std.proofs.Common.{◌≤◌, length}
use denote.Text.{Utf8}
use denote.Shadow.{shadow}
use Rattle.ct_outside.specs.Matching.{MatchesName, is_double_star}
use Rattle.ct_outside.specs.Paths.{components_of}
use Rattle.ct_outside.specs.Skipping.{FitsUpTo}
use Rattle.ct_outside.proofs.matching.skip_components.Given as goal

-- the components so far fit one to one
abbrev pub invariant-loop-part : goal.invariant-loop-part
invariant-loop-part l =
    shadow (Utf8 l.parts) × shadow (Utf8 l.names)
    × FitsUpTo is_double_star MatchesName (components_of l.pattern) (components_of l.folder) (components_of l.parts) (components_of l.names)
    × (length l.parts ≤ length l.pattern) × (length l.names ≤ length l.folder)

abbrev pub decreases-loop-part : goal.decreases-loop-part
decreases-loop-part l = length l.parts
