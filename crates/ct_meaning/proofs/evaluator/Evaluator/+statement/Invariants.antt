use Rattle.std.proofs.Common.{◌≡◌, map, drop}
use Rattle.ct_meaning.specs.Meaning.{calls, expression, statement, in_turn, turns}
use Rattle.ct_meaning.specs.Views.{world_of, where_of}
use Rattle.ct_meaning.proofs.evaluator.Evaluator.+statement.Given as goal

abbrev pub invariant-in_turn-loop-b : goal.invariant-in_turn-loop-b
invariant-in_turn-loop-b g l =
    let w = world_of l.self.program in
    let part = statement w l.self.fuel (calls w l.self.fuel) in
    in_turn (where_of l.h) (map part l.all) l.fn.state ≡ in_turn (where_of l.h) (map part (drop l.b-index l.all)) l.state

abbrev pub invariant-turns-loop-left : goal.invariant-turns-loop-left
invariant-turns-loop-left g l =
    let w = world_of l.self.program in
    let call = calls w l.self.fuel in
    let test = expression w call l.test in
    let body = statement w l.self.fuel call l.body in
    turns w (where_of l.h) l.self.fuel test body l.fn.state ≡ turns w (where_of l.h) l.left test body l.state

abbrev pub decreases-turns-loop-left : goal.decreases-turns-loop-left
decreases-turns-loop-left g l = l.left
