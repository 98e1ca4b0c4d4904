use Rattle.std.proofs.Common.{◌≡◌, length}
use Rattle.ct_preproc.specs.Reading.{counts}
use Rattle.ct_preproc.proofs.file.File.count.Given as goal

abbrev pub invariant-loop-token : goal.invariant-loop-token
invariant-loop-token l = counts l.self.place.now l.self.limit l.counted l.rest ≡ counts l.self.place.now l.self.limit l.fn.counted l.line

abbrev pub decreases-loop-token : goal.decreases-loop-token
decreases-loop-token l = length l.rest
