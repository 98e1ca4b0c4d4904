use Rattle.std.proofs.Common.{◌≡◌, length}
use Rattle.ct_directive.specs.Search.{text_named}
use Rattle.ct_directive.proofs.search.text_named.Given as goal

abbrev pub invariant-loop-head : goal.invariant-loop-head
invariant-loop-head l = text_named l.heads l.name ≡ text_named l.rest l.name

abbrev pub decreases-loop-head : goal.decreases-loop-head
decreases-loop-head l = length l.rest
