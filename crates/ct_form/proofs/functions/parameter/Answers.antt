use Rattle.std.proofs.Common.{◌≡◌, ◌<◌, ◌∙◌, ap, List, ◌∷◌, ◌++◌, [], length, false, rules, arith}
use Rattle.std.proofs.lemmas.Grind.{common_steps}
use Rattle.ct_form.specs.Names.{is_declared}
use Rattle.ct_form.specs.declared.names.Binding.{Binding}
use Rattle.ct_form.specs.declared.places.Place.{Place}
use Rattle.ct_form.specs.Readers.{IsParameter, at_of}
use Rattle.ct_form.specs.Statements.{At, declared, most_variables}
use Rattle.ct_form.proofs.Misses.{missed}
use Rattle.ct_form.proofs.Declarations.{with_binding}
use Rattle.ct_form.proofs.Headings.{no_parameter_int, no_parameter_name, is_parameter}
use Rattle.ct_form.proofs.functions.parameter.Goals as goal

pub returns-in_err-behind : goal.returns-in_err-behind
returns-in_err-behind c =
    missed (λ (found : Place). c.args.scope.now.items) at_of (IsParameter c.args.scope.now.items (at_of c.args.place))
    c.from_residual.result c.in_err-behind.field-0.0 c.from_residual.ensures.1 (no_parameter_int c.in_err-behind.ensures.absent)

pub returns-in_err-name : goal.returns-in_err-name
returns-in_err-name c =
    missed (λ (found : Place). c.args.scope.now.items) at_of (IsParameter c.args.scope.now.items (at_of c.args.place))
    c.from_residual-in_err-name.result c.in_err-name.field-0.0 c.from_residual-in_err-name.ensures.1 (no_parameter_name c.in_ok-behind.ensures.found c.in_err-name.ensures.absent)

pub returns : goal.returns
returns c =
    let g : c.push.new.self.items ≡ c.args.scope.now.items ++ c.in_ok-binding_of.field-0 ∷ [] = search rules in
    let e = with_binding c.args.scope.now.items (at_of c.args.place) c.in_ok-name.name.now g c.in_ok-binding_of.ensures c.len-number.ensures in
    let d : is_declared c.args.scope.now.items c.in_ok-name.name.now.text ≡ false = grind (arith, common_steps) in
    let l : length c.args.place.variables < most_variables = omega arith in
    is_parameter c.in_ok-behind.ensures.found c.in_ok-name.ensures.found d l e
    (c.in_ok-place.ensures ∙ ap (λ (at : At). declared at c.in_ok-name.name.now) c.moved.ensures)
