use Rattle.ct_token.proofs.Marks.{IsBest}
use Rattle.ct_token.proofs.scan.punctuator_len.Given as goal

abbrev pub invariant-loop-count : goal.invariant-loop-count
invariant-loop-count l = IsBest l.fn.first l.rest l.count l.longest
