use Rattle.std.proofs.Common.{◌≡◌, ℕ, List, ◌++◌, drop, map}
use Rattle.ct_phases.specs.Linked.{tests_in}
use Rattle.ct_phases.proofs.runner.test_names.Given as goal

abbrev pub invariant-loop-f : goal.invariant-loop-f
invariant-loop-f l =
    map (λ (test : List ℕ × ℕ). test.0) (tests_in l.functions) ≡ l.names ++ map (λ (test : List ℕ × ℕ). test.0) (tests_in (drop l.f-index l.functions))
