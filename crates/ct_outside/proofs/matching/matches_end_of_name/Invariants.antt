use Rattle.std.proofs.Common.{◌+◌, ◌↔◌, length}
use Rattle.ct_outside.specs.Matching.{FitsByte, is_star}
use Rattle.ct_outside.specs.Skipping.{MatchesEnd}
use Rattle.ct_outside.proofs.matching.matches_end_of_name.Given as goal

-- what is left matches where the whole does
abbrev pub invariant-loop-more : goal.invariant-loop-more
invariant-loop-more l = MatchesEnd is_star FitsByte l.behind l.from ↔ MatchesEnd is_star FitsByte l.pattern l.name

abbrev pub decreases-loop-more : goal.decreases-loop-more
decreases-loop-more l = length l.behind + length l.from
