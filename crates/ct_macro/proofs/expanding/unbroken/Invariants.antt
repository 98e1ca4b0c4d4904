use Rattle.std.proofs.Common.{◌≡◌, ◌++◌, false, length}
use Rattle.ct_macro.specs.Expansion.{unbroken}
use Rattle.ct_macro.proofs.expanding.unbroken.Given as goal

abbrev pub invariant-loop-token : goal.invariant-loop-token
invariant-loop-token l = l.list ++ unbroken l.broken l.rest ≡ unbroken false l.tokens

abbrev pub decreases-loop-token : goal.decreases-loop-token
decreases-loop-token l = length l.rest
