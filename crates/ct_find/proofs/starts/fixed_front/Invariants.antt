use Rattle.std.proofs.Common.{◌≡◌, ◌++◌, not, length}
use Rattle.std.specs.Prelude.{take_while}
use denote.Text.{Utf8}
use denote.Shadow.{shadow}
use Rattle.ct_outside.specs.Paths.{components_of}
use Rattle.ct_find.specs.Order.{has_wildcard}
use Rattle.ct_find.proofs.starts.fixed_front.Given as goal

-- the components so far have no wildcard
abbrev pub invariant-loop-component : goal.invariant-loop-component
invariant-loop-component l =
    shadow (Utf8 l.rest)
    × (take_while (λ component. not (has_wildcard component)) (components_of l.pattern) ≡ l.front ++ take_while (λ component. not (has_wildcard component)) (components_of l.rest))

abbrev pub decreases-loop-component : goal.decreases-loop-component
decreases-loop-component l = length l.rest
