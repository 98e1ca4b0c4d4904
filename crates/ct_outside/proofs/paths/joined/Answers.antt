use Rattle.std.proofs.Common.{refl, arith}
use Rattle.ct_outside.proofs.ComponentLemmas.{path_of-more}
use Rattle.ct_outside.proofs.paths.joined.Goals as goal
use Rattle.ct_outside.proofs.paths.joined.Goals.{then-place-gt0+in_ok-push, else-place-gt0}

pub loop-place-preserved : goal.loop-place-preserved
loop-place-preserved c =
    path_of-more c.args.components.now c.loop-place.place c.index-components-place.result _ _ c.loop-place-test.true c.index-components-place.is c.loop-place.invariant
    (λ h. elim c.if-place-gt0.branch [ then-place-gt0+in_ok-push w ↦ rw (c.in_ok-push_str.ensures.bytes, w.path-is, w.in_ok-push.ensures.bytes, w.in_ok-push.ensures.ascii (omega arith), c.as_str.ensures) refl | else-place-gt0 w ↦ absurd (omega arith) ])
    (λ h. elim c.if-place-gt0.branch [ then-place-gt0+in_ok-push w ↦ absurd (omega arith) | else-place-gt0 w ↦ rw (c.in_ok-push_str.ensures.bytes, w.path-is, c.as_str.ensures) refl ])
