use Rattle.std.proofs.Common.{◌≡◌, None, take}
use Rattle.std.specs.FinMap.{get}
use Rattle.ct_outside.specs.Stored.{files_of}
use Rattle.ct_outside.proofs.stored.place_of.Given as goal

abbrev pub invariant-loop-place : goal.invariant-loop-place
invariant-loop-place l = get (files_of (take l.place l.files)) l.path ≡ None
