use Rattle.std.proofs.Common.{◌≡◌, ◌++◌, map}
use Rattle.ct_preproc.specs.Reading.{unplaced}
use Rattle.ct_preproc.proofs.reading.unplaced.Given as goal

abbrev pub invariant-loop-token : goal.invariant-loop-token
invariant-loop-token l = map unplaced l.fn.tokens.items ≡ l.list.items ++ map unplaced l.token-iterator.rest.items
