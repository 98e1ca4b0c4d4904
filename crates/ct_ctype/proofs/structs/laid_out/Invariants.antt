use Rattle.ct_ctype.proofs.Placing.{Placing}
use Rattle.ct_ctype.proofs.structs.laid_out.Given as goal

abbrev pub invariant-loop-i : goal.invariant-loop-i
invariant-loop-i l = Placing l.fn.s l.fn.members.items l.members.items l.i l.end l.alignment
