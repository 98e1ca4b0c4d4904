use Rattle.std.proofs.Common.{◌≡◌, ◌++◌, drop}
use Rattle.ct_parser_parts.specs.Reach.{both}
use Rattle.ct_parser_parts.specs.Taking.{beyond_of}
use Rattle.ct_parser_parts.proofs.reach.joined.Given as goal

abbrev pub invariant-loop-step : goal.invariant-loop-step
invariant-loop-step l = l.all ++ beyond_of l.counts (drop l.step-index l.second) ≡ both l.fn.first l.second
