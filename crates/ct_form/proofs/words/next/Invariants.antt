use Rattle.std.proofs.Common.{◌≡◌, length}
use Rattle.ct_form.specs.Words.{first_word}
use Rattle.ct_form.proofs.words.next.Given as goal

-- only new-lines were passed over
abbrev pub invariant-loop-token : goal.invariant-loop-token
invariant-loop-token l = first_word l.rest ≡ first_word l.fn.tokens

abbrev pub decreases-loop-token : goal.decreases-loop-token
decreases-loop-token l = length l.rest
