use Rattle.std.proofs.Common.{◌≡◌, drop}
use Rattle.ct_ppexpr.specs.Machine as m
use Rattle.ct_ppexpr.specs.Machine.{values}
use Rattle.ct_ppexpr.specs.View.{stack, mode_of}
use Rattle.ct_ppexpr.proofs.machine.evaluate.Given as goal

abbrev pub invariant-loop-word : goal.invariant-loop-word
invariant-loop-word l = m.run values (drop l.word-index l.words) (stack l.frames) (mode_of l.mode) ≡ m.run_all values l.words
