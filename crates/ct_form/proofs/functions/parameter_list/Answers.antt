use Rattle.std.proofs.Common.{[], Vec, Global}
use Rattle.ct_form.specs.declared.names.Binding.{Binding}
use Rattle.ct_form.specs.declared.places.Place.{Place}
use Rattle.ct_form.specs.Functions.{IsParameters, IsParameterList, some}
use Rattle.ct_form.specs.Readers.{at_of}
use Rattle.ct_form.proofs.Misses.{missed, passed_on}
use Rattle.ct_form.proofs.Headings.{no_list, no_list_end, is_none}
use Rattle.ct_form.proofs.functions.parameter_list.Goals as goal

pub returns-in_err-rest : goal.returns-in_err-rest
returns-in_err-rest c =
    missed (λ (x : Vec Binding Global × Place). x.0.items) (λ x. at_of x.1) (IsParameterList (at_of c.args.place))
    c.from_residual.result c.in_err-rest.field-0.0 c.from_residual.ensures.1 (no_list_end c.in-Ok.ensures.found c.in_err-rest.ensures.absent)

pub returns-in-Ok : goal.returns-in-Ok
returns-in-Ok c = is_none c.in-Ok.ensures.found c.in_ok-rest.ensures.found c.new.ensures.items c.moved.ensures

pub returns : goal.returns
returns c =
    passed_on (λ (x : Vec Binding Global × Place). x.0.items) (λ x. x.0.items) (λ x. at_of x.1) (IsParameters [] (at_of c.args.place)) (IsParameterList (at_of c.args.place))
    c.parameters.result c.parameters.ensures (λ x p. some c.in_default.ensures.absent p) (no_list c.in_default.ensures.absent)
