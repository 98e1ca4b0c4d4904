use Rattle.std.proofs.Common.{◌≡◌, ◌-◌, List, [], Option, Some, None, sym, ap, ◌∙◌, rules, arith}
use Rattle.std.specs.Prelude.{option_map}
use Rattle.ct_core.specs.declared.values.Value.{Value}
use Rattle.ct_meaning.specs.declared.program.Called.{Called}
use Rattle.ct_meaning.specs.Meaning.{calls, defined_body}
use Rattle.ct_meaning.specs.World.{Defined, Given, target_of}
use Rattle.ct_meaning.specs.Program.{plain_world}
use Rattle.ct_meaning.specs.Views.{position_of, target_in}
use Rattle.ct_meaning.proofs.Equations.{calls_zero, calls_defined, calls_given, calls_none, gives_by}
use Rattle.ct_meaning.proofs.evaluator.+call.Goals as goal

pub returns-then-fuel-eq0 : goal.returns-then-fuel-eq0
returns-then-fuel-eq0 t c = first_of (grind (arith, calls_zero), search (rules, calls_zero))

pub returns-in_default : goal.returns-in_default
returns-in_default t c =
    let w = plain_world c.args.units.now c.args.functions.now c.args.budget in
    let is : target_of w c.args.number ≡ None = c.called.ensures ∙ ap (λ (r : Option Called). option_map target_in r) c.in_default.is in
    calls_none w c.args.fuel c.args.number c.args.values (position_of c.args.at []) c.args.state.now (omega arith) is

pub returns-in-Defined : goal.returns-in-Defined
returns-in-Defined t c =
    let w = plain_world c.args.units.now c.args.functions.now c.args.budget in
    let h = position_of c.args.at [] in
    let is : target_of w c.args.number ≡ Some (Defined c.in-Defined.unit c.in-Defined.place c.in-Defined.function.now) = c.called.ensures ∙ ap (λ (r : Option Called). option_map target_in r) c.in-Some.is ∙ ap (λ (d : Called). Some (target_in d)) c.in-Defined.is in
    let e = calls_defined w c.args.fuel c.args.number c.in-Defined.unit c.in-Defined.place c.in-Defined.function.now c.args.values h c.args.state.now (omega arith) is in
    let same = ap (λ (values : List Value). defined_body w (c.args.fuel - 1) (calls w (c.args.fuel - 1)) c.in-Defined.unit c.in-Defined.place c.in-Defined.function.now values h c.args.state.now) (sym c.as_slice.ensures) in
    gives_by _ _ c.function.result c.function.new.state (e ∙ same) c.function.ensures

pub returns : goal.returns
returns t c =
    let w = plain_world c.args.units.now c.args.functions.now c.args.budget in
    let is : target_of w c.args.number ≡ Some (Given c.in-Given.field-0) = c.called.ensures ∙ ap (λ (r : Option Called). option_map target_in r) c.in-Some.is ∙ ap (λ (d : Called). Some (target_in d)) c.in-Given.is in
    calls_given w c.args.fuel c.args.number c.in-Given.field-0 c.args.values (position_of c.args.at []) c.args.state.now (omega arith) is
