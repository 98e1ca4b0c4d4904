use Rattle.std.proofs.Common.{◌≡◌, take, string_bytes}
use Rattle.ct_outside.specs.Paths.{path_of}
use Rattle.ct_outside.proofs.paths.joined.Given as goal

abbrev pub invariant-loop-place : goal.invariant-loop-place
invariant-loop-place l = string_bytes l.path ≡ path_of (take l.place l.components)
