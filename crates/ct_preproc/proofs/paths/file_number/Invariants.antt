use Rattle.std.proofs.Common.{◌≡◌, ◌+◌, length}
use Rattle.ct_preproc.specs.Reading.{file_number}
use Rattle.ct_preproc.proofs.paths.file_number.Given as goal

abbrev pub invariant-loop-file : goal.invariant-loop-file
invariant-loop-file l = (l.number + file_number l.path l.rest ≡ file_number l.path l.files) × (l.number + length l.rest ≡ length l.files)

abbrev pub decreases-loop-file : goal.decreases-loop-file
decreases-loop-file l = length l.rest
