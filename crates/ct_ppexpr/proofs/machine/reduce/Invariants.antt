use Rattle.std.proofs.Common.{◌≡◌, length}
use Rattle.ct_ppexpr.specs.Machine as m
use Rattle.ct_ppexpr.specs.Machine.{values}
use Rattle.ct_ppexpr.specs.View.{stack}
use Rattle.ct_ppexpr.proofs.machine.reduce.Given as goal

abbrev pub invariant-loop-frame : goal.invariant-loop-frame
invariant-loop-frame l = m.reduced values l.pull (stack l.frames) l.x ≡ m.reduced values l.pull (stack l.fn.frames) l.fn.operand

abbrev pub decreases-loop-frame : goal.decreases-loop-frame
decreases-loop-frame l = length (stack l.frames)
