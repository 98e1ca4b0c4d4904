use Rattle.std.proofs.Common.{◌≡◌, take}
use Rattle.ct_ctype.proofs.+copies.Given as goal

-- the copies so far
abbrev pub invariant-copies::copies-loop-index : goal.invariant-copies::copies-loop-index
invariant-copies::copies-loop-index l = l.copies ≡ take l.index l.types
