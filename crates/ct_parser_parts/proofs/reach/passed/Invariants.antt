use Rattle.std.proofs.Common.{◌≡◌, drop}
use Rattle.ct_syntax.specs.Depths.{Left, all_room}
use Rattle.ct_parser_parts.specs.Reach.{passed_by}
use Rattle.ct_parser_parts.proofs.reach.passed.Given as goal

abbrev pub invariant-loop-step : goal.invariant-loop-step
invariant-loop-step l = passed_by (Left l.counts.expressions l.counts.declarators l.counts.statements) (drop l.step-index l.reach) ≡ passed_by all_room l.reach
