use Rattle.std.proofs.Common.{◌≡◌, ◌++◌, drop}
use Rattle.ct_phases.specs.Runner.{all_statements}
use Rattle.ct_phases.specs.Linked.{tests_in}
use Rattle.ct_phases.proofs.runner.all_statements.Given as goal

abbrev pub invariant-loop-f : goal.invariant-loop-f
invariant-loop-f l = all_statements 0 (tests_in l.functions) ≡ l.all ++ all_statements l.text (tests_in (drop l.f-index l.functions))
