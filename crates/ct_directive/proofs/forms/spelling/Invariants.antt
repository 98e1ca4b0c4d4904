use Rattle.std.proofs.Common.{◌≡◌, ◌++◌, length}
use Rattle.ct_directive.specs.Forms.{spelled_behind, spelling}
use Rattle.ct_directive.proofs.forms.spelling.Given as goal

abbrev pub invariant-loop-token : goal.invariant-loop-token
invariant-loop-token l = l.text.items ++ spelled_behind l.rest ≡ spelling l.tokens

abbrev pub decreases-loop-token : goal.decreases-loop-token
decreases-loop-token l = length l.rest
