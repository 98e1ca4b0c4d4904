use Rattle.std.proofs.Common.{◌≡◌, ◌+◌, ◌≤◌, drop}
use Rattle.ct_parser_parts.specs.Reach.{expressions_of, declarators_of, statements_of}
use Rattle.ct_parser_parts.proofs.reach.counted.Given as goal

abbrev pub invariant-loop-step : goal.invariant-loop-step
invariant-loop-step l =
    (l.counts.expressions + expressions_of (drop l.step-index l.steps) ≡ expressions_of l.steps)
    × (l.counts.declarators + declarators_of (drop l.step-index l.steps) ≡ declarators_of l.steps)
    × (l.counts.statements + statements_of (drop l.step-index l.steps) ≡ statements_of l.steps)
    × (l.counts.expressions ≤ l.step-index) × (l.counts.declarators ≤ l.step-index) × (l.counts.statements ≤ l.step-index)
