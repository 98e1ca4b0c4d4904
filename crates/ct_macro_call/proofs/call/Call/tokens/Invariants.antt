use Rattle.std.proofs.Common.{length}
use Rattle.ct_macro_call.specs.Substitution.{tokens_at}
use Rattle.ct_macro_call.proofs.Substituting.{PutSoFar}
use Rattle.ct_macro_call.proofs.call.Call.tokens.Given as goal

abbrev pub invariant-loop-operand : goal.invariant-loop-operand
invariant-loop-operand l = PutSoFar (tokens_at l.self.names l.self.raws l.fulls) l.self.body l.done l.left l.rest

abbrev pub decreases-loop-operand : goal.decreases-loop-operand
decreases-loop-operand l = length l.rest
