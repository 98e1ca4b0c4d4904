use Rattle.std.proofs.Common.{rules, nat_cmp}
use Rattle.std.specs.Cmp.Lexicographic.{slice_cmp}
use Rattle.std.specs.FinMap.{get-empty}
use Rattle.ct_outside.proofs.StoredLemmas.{absent-more}
use Rattle.ct_outside.proofs.stored.place_of.Goals as goal

pub loop-place-init : goal.loop-place-init
loop-place-init c = get-empty (slice_cmp nat_cmp) _

pub loop-place-preserved : goal.loop-place-preserved
loop-place-preserved c =
    absent-more _ _ c.index-files-place.result _ c.loop-place-test.true c.index-files-place.is (search rules) c.loop-place.invariant
