use Rattle.std.proofs.Common.{◌≡◌, ◌++◌, length}
use Rattle.ct_directive.specs.Forms.{without_pragmas}
use Rattle.ct_directive.proofs.pragmas.left_out.Given as goal

abbrev pub invariant-loop-rest : goal.invariant-loop-rest
invariant-loop-rest l = l.words ++ without_pragmas l.rest ≡ without_pragmas l.tokens

abbrev pub decreases-loop-rest : goal.decreases-loop-rest
decreases-loop-rest l = length l.rest
