use Rattle.std.proofs.Common.{◌≡◌}
use Rattle.ct_meaning.specs.Meaning.{places_from}
use Rattle.ct_meaning.proofs.program.Program.places.Given as goal

abbrev pub invariant-loop-place : goal.invariant-loop-place
invariant-loop-place l = l.places ≡ places_from 0 l.place
