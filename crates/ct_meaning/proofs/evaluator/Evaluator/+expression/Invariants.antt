use Rattle.std.proofs.Common.{◌≡◌, map, drop}
use Rattle.ct_meaning.specs.Doing.{each, each_onto}
use Rattle.ct_meaning.specs.Meaning.{calls, expression, used_value}
use Rattle.ct_meaning.specs.Views.{world_of, where_of}
use Rattle.ct_meaning.proofs.evaluator.Evaluator.+expression.Given as goal

abbrev pub invariant-arguments-loop-e : goal.invariant-arguments-loop-e
invariant-arguments-loop-e g l =
    let w = world_of l.self.program in
    let part = expression w (calls w l.self.fuel) in
    each (map (used_value w (where_of l.h)) (map part l.all)) l.fn.state ≡ each_onto l.values (map (used_value w (where_of l.h)) (map part (drop l.e-index l.all))) l.state
