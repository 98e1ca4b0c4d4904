use Rattle.std.proofs.Common.{◌≡◌, ◌≤◌, ◌++◌, length, List}
use Rattle.ct_yaml.specs.Stack as spec
use Rattle.ct_yaml.specs.declared.stack.Block.{Block}
use Rattle.ct_yaml.proofs.stack.OpenBlocks.close_above.Given as goal

abbrev pub invariant-loop-self : goal.invariant-loop-self
invariant-loop-self l = (above : List Block) × (l.fn.self.blocks ≡ l.self.blocks ++ above) × (l.keep ≤ length l.self.blocks) × (l.node ≡ spec.closed above l.fn.self.value)

abbrev pub decreases-loop-self : goal.decreases-loop-self
decreases-loop-self l = length l.self.blocks
