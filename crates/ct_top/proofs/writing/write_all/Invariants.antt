use Rattle.std.proofs.Common.{◌≡◌, ◌-◌, ◌≤◌, length, take}
use Rattle.ct_outside.specs.Taken.{Took}
use Rattle.ct_top.proofs.writing.write_all.Given as goal

-- a front of the text was taken, and no fault came
abbrev pub invariant-loop-at : goal.invariant-loop-at
invariant-loop-at g l =
    (l.at ≤ length l.text)
    × Took (g.S.Sink.taken l.initial.out) (g.S.Sink.taken l.out) (take l.at l.text)
    × (g.S.Sink.faults l.out ≡ g.S.Sink.faults l.initial.out)

abbrev pub decreases-loop-at : goal.decreases-loop-at
decreases-loop-at g l = length l.text - l.at
