use Rattle.std.proofs.Common.{◌≡◌, length}
use Rattle.ct_directive.specs.Forms.{first_other}
use Rattle.ct_directive.proofs.forms.first_other.Given as goal

abbrev pub invariant-loop-token : goal.invariant-loop-token
invariant-loop-token l = first_other l.tokens ≡ first_other l.rest

abbrev pub decreases-loop-token : goal.decreases-loop-token
decreases-loop-token l = length l.rest
