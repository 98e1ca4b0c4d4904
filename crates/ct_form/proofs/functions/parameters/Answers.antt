use Rattle.std.proofs.Common.{List, [], Vec, Global, length, ap, arith}
use Rattle.ct_form.specs.declared.names.Binding.{Binding}
use Rattle.ct_form.specs.declared.places.Place.{Place}
use Rattle.ct_form.specs.Functions.{IsParameters}
use Rattle.ct_form.specs.Readers.{IsParameter, at_of}
use Rattle.ct_form.specs.Statements.{At}
use Rattle.ct_form.proofs.Misses.{missed, handed_on}
use Rattle.ct_form.proofs.OneWord.{Stands-shorter}
use Rattle.ct_form.proofs.Headings.{no_parameter, no_parameter_end, parameters_end, parameters_go_on, parameter-shorter}
use Rattle.ct_form.proofs.functions.parameters.Goals as goal

pub returns-in_err-place : goal.returns-in_err-place
returns-in_err-place c =
    handed_on (λ (x : Place). c.parameter.new.scope.items) at_of (IsParameter c.loop-scope.scope.items (at_of c.loop-scope.place))
    (λ (x : Vec Binding Global × Place). x.0.items) (λ x. at_of x.1) (IsParameters [] (at_of c.args.place))
    c.from_residual.result c.in_err-place.field-0.0 c.from_residual.ensures.1 c.in_err-place.ensures (no_parameter c.loop-scope.invariant)

pub returns-in-Ok : goal.returns-in-Ok
returns-in-Ok c = parameters_end c.loop-scope.invariant c.in_ok-place.ensures c.in-Ok.ensures.found c.moved.ensures

pub returns-in_err-rest : goal.returns-in_err-rest
returns-in_err-rest c =
    missed (λ (x : Vec Binding Global × Place). x.0.items) (λ x. at_of x.1) (IsParameters [] (at_of c.args.place))
    c.from_residual-in_err-rest.result c.in_err-rest.field-0.0 c.from_residual-in_err-rest.ensures.1
    (no_parameter_end c.loop-scope.invariant c.in_ok-place.ensures c.in_default.ensures.absent c.in_err-rest.ensures.absent)

pub loop-scope-smaller : goal.loop-scope-smaller
loop-scope-smaller c =
    let a = parameter-shorter c.in_ok-place.ensures in
    let b = Stands-shorter c.in_ok-rest.ensures.found in
    let e = ap (λ (at : At). length at.tokens) c.moved-place.ensures in
    omega arith

pub loop-scope-preserved : goal.loop-scope-preserved
loop-scope-preserved c = parameters_go_on c.loop-scope.invariant c.in_ok-place.ensures c.in_ok-rest.ensures.found c.moved-place.ensures
