use Rattle.std.proofs.Common.{◌≡◌, drop}
use Rattle.ct_meaning.specs.Meaning.{initialise_parameters}
use Rattle.ct_meaning.specs.Views.{world_of, where_of}
use Rattle.ct_meaning.proofs.evaluator.initialise_parameters.Given as goal

abbrev pub invariant-loop-v : goal.invariant-loop-v
invariant-loop-v l =
    let w = world_of l.program in
    (l.place ≡ l.v-index) × (initialise_parameters w (where_of l.h) 0 l.values l.fn.state ≡ initialise_parameters w (where_of l.h) l.place (drop l.v-index l.values) l.state)
