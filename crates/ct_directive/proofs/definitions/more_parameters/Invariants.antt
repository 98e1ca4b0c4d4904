use Rattle.std.proofs.Common.{◌≡◌, length}
use Rattle.ct_directive.specs.Forms.{with_names, more_parameters}
use Rattle.ct_directive.proofs.definitions.more_parameters.Given as goal

abbrev pub invariant-loop-name : goal.invariant-loop-name
invariant-loop-name l = with_names l.names (more_parameters l.rest) ≡ with_names l.fn.names (more_parameters l.tokens)

abbrev pub decreases-loop-name : goal.decreases-loop-name
decreases-loop-name l = length l.rest
