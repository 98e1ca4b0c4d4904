use Rattle.std.proofs.Common.{◌≡◌, ◌++◌, length}
use Rattle.ct_macro_call.specs.Substitution.{selected, is_raw, is_full}
use Rattle.ct_macro_call.proofs.call.share.Given as goal

abbrev pub invariant-loop-name : goal.invariant-loop-name
invariant-loop-name l =
    (l.raws ++ selected (is_raw l.body) l.rest l.given ≡ selected (is_raw l.body) l.names l.fn.arguments)
    × (l.fulls ++ selected (is_full l.body) l.rest l.given ≡ selected (is_full l.body) l.names l.fn.arguments)

abbrev pub decreases-loop-name : goal.decreases-loop-name
decreases-loop-name l = length l.rest
