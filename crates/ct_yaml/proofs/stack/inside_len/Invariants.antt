use Rattle.std.proofs.Common.{◌≡◌, ◌+◌, length}
use Rattle.ct_yaml.specs.Stack as spec
use Rattle.ct_yaml.proofs.stack.inside_len.Given as goal

abbrev pub invariant-loop-block : goal.invariant-loop-block
invariant-loop-block l = record {
  read : l.len + spec.inside_len l.mark l.rest ≡ spec.inside_len l.mark l.fn.blocks;
  within : l.len + length l.rest ≡ length l.fn.blocks;
}

abbrev pub decreases-loop-block : goal.decreases-loop-block
decreases-loop-block l = length l.rest
