use Rattle.std.proofs.Common.{◌≡◌, length}
use Rattle.std.specs.Prelude.{map, filter}
use Rattle.ct_macro_call.specs.Substitution.{placed, dressed, has_bytes}
use Rattle.ct_macro_call.proofs.Substituting.{placed_on}
use Rattle.ct_macro_call.proofs.call.Call.dress.Given as goal

abbrev pub invariant-loop-marked : goal.invariant-loop-marked
invariant-loop-marked l =
    placed_on l.put l.self.name.token (map (dressed l.self) (filter has_bytes l.source))
    ≡ placed l.self.name.token (map (dressed l.self) (filter has_bytes l.fn.tokens))

abbrev pub decreases-loop-marked : goal.decreases-loop-marked
decreases-loop-marked l = length l.source
