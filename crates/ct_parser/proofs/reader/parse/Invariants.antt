use Rattle.std.proofs.Common.{◌≡◌, ◌≤◌, ◌-◌, [], length, map}
use Rattle.ct_syntax.specs.UnitViews.{view_item}
use Rattle.ct_parser_state.specs.Code.{frames, scope}
use Rattle.ct_parser.specs.Parses.{Progress}
use Rattle.ct_parser.proofs.reader.parse.Given as goal

-- the tokens before the place are items, and nothing is open
abbrev pub invariant-loop-place : goal.invariant-loop-place
invariant-loop-place l = Progress l.tokens l.place (scope l.state) (map view_item l.items.items) l.deep × (frames l.state ≡ []) × (l.place ≤ length l.tokens)

abbrev pub decreases-loop-place : goal.decreases-loop-place
decreases-loop-place l = length l.tokens - l.place
