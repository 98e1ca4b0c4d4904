use Rattle.std.proofs.Common.{◌≡◌, ◌++◌, drop}
use Rattle.ct_parser_parts.specs.Reach.{nested}
use Rattle.ct_parser_parts.specs.Taking.{shortened_of}
use Rattle.ct_parser_parts.proofs.reach.nested.Given as goal

abbrev pub invariant-loop-step : goal.invariant-loop-step
invariant-loop-step l = l.all ++ shortened_of l.counts (drop l.step-index l.parts) ≡ nested l.fn.nest l.parts
