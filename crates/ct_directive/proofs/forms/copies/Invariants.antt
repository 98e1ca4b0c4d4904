use Rattle.std.proofs.Common.{◌≡◌, ◌++◌, length}
use Rattle.ct_directive.proofs.forms.copies.Given as goal

abbrev pub invariant-loop-token : goal.invariant-loop-token
invariant-loop-token l = l.copies ++ l.rest ≡ l.tokens

abbrev pub decreases-loop-token : goal.decreases-loop-token
decreases-loop-token l = length l.rest
