use Rattle.std.proofs.Common.{◌≡◌, ◌++◌, length}
use Rattle.ct_directive.specs.Forms.{without_defined}
use Rattle.ct_directive.proofs.conditions.without_defined.Given as goal

abbrev pub invariant-loop-rest : goal.invariant-loop-rest
invariant-loop-rest l = l.words ++ without_defined l.macros l.rest ≡ without_defined l.macros l.tokens

abbrev pub decreases-loop-rest : goal.decreases-loop-rest
decreases-loop-rest l = length l.rest
