use Rattle.ct_meaning.proofs.evaluator.+call.Given as goal

abbrev pub decreases-call : goal.decreases-call
decreases-call l = l.fuel
