use Rattle.std.proofs.Common.{◌≡◌, ◌++◌, map, length}
use Rattle.ct_macro_call.specs.declared.marked.Marked.{Marked}
use Rattle.ct_macro.proofs.expanding.stripped.Given as goal

abbrev pub invariant-loop-marked : goal.invariant-loop-marked
invariant-loop-marked l = l.tokens ++ map (λ (m : Marked). m.token) l.source ≡ map (λ (m : Marked). m.token) l.fn.list

abbrev pub decreases-loop-marked : goal.decreases-loop-marked
decreases-loop-marked l = length l.source
