use Rattle.std.proofs.Common.{◌≡◌}
use Rattle.ct_yaml.specs.Stack as spec
use Rattle.ct_yaml.proofs.stack.OpenBlocks.steps.Given as goal

abbrev pub invariant-loop-mark : goal.invariant-loop-mark
invariant-loop-mark l = spec.steps (spec.view l.self) l.mark-iterator.rest.items ≡ spec.steps (spec.view l.fn.self) l.fn.marks.items
