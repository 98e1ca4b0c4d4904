use Rattle.std.proofs.Common.{◌+◌, drop, ap, ◌∙◌, rules, arith}
use Rattle.ct_core.specs.declared.values.Value.{Value}
use Rattle.ct_meaning.specs.Doing.{ValueAndState, onwards}
use Rattle.ct_meaning.specs.Meaning.{initialise_parameters}
use Rattle.ct_meaning.specs.Views.{world_of, where_of}
use Rattle.ct_meaning.proofs.Equations.{parameters_at, parameters_end}
use Rattle.ct_meaning.proofs.evaluator.initialise_parameters.Goals as goal

pub returns-in_err-initialise_parameter : goal.returns-in_err-initialise_parameter
returns-in_err-initialise_parameter c =
    let at = parameters_at (world_of c.args.program.now) (where_of c.args.h) c.args.values.now c.loop-v.place c.loop-v.v-index c.v-item.result c.loop-v.state c.loop-v-test.true c.v-item.is in
    first_of (search rules, grind arith)

pub loop-v-preserved : goal.loop-v-preserved
loop-v-preserved c =
    let w = world_of c.args.program.now in
    let h = where_of c.args.h in
    let at = parameters_at w h c.args.values.now c.loop-v.place c.loop-v.v-index c.v-item.result c.loop-v.state c.loop-v-test.true c.v-item.is in
    let given = ap (λ (o : ValueAndState Value). onwards o (λ _. initialise_parameters w h (c.loop-v.place + 1) (drop (c.loop-v.v-index + 1) c.args.values.now))) c.in_ok-initialise_parameter.ensures in
    (first_of (omega arith, search rules, grind arith), first_of (cc, search rules, grind arith))

pub returns : goal.returns
returns c =
    c.loop-v.invariant.1 ∙ parameters_end (world_of c.args.program.now) (where_of c.args.h) c.args.values.now c.loop-v.place c.loop-v.v-index c.loop-v.state c.loop-v-test.false
