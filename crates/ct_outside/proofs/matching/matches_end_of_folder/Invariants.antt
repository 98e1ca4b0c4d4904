use Rattle.std.proofs.Common.{◌+◌, ◌↔◌, length}
use denote.Text.{Utf8}
use denote.Shadow.{shadow}
use Rattle.ct_outside.specs.Matching.{MatchesName, is_double_star}
use Rattle.ct_outside.specs.Paths.{components_of}
use Rattle.ct_outside.specs.Skipping.{MatchesEnd}
use Rattle.ct_outside.proofs.matching.matches_end_of_folder.Given as goal

-- what is left matches where the whole does
abbrev pub invariant-loop-more : goal.invariant-loop-more
invariant-loop-more l =
    shadow (Utf8 l.behind) × shadow (Utf8 l.from)
    × (MatchesEnd is_double_star MatchesName (components_of l.behind) (components_of l.from) ↔ MatchesEnd is_double_star MatchesName (components_of l.pattern) (components_of l.folder))

abbrev pub decreases-loop-more : goal.decreases-loop-more
decreases-loop-more l = length l.behind + length l.from
