use Rattle.std.proofs.Common.{◌≡◌, length}
use denote.Text.{Utf8}
use denote.Shadow.{shadow}
use Rattle.ct_find.specs.Order.{is_deep}
use Rattle.ct_find.proofs.starts.is_deep.Given as goal

abbrev pub invariant-loop-component : goal.invariant-loop-component
invariant-loop-component l = shadow (Utf8 l.rest) × (is_deep l.pattern ≡ is_deep l.rest)

abbrev pub decreases-loop-component : goal.decreases-loop-component
decreases-loop-component l = length l.rest
