use Rattle.std.proofs.Common.{ℕ, List, Bor, Vec, Global}
use Rattle.ct_base.specs.declared.lexical.Token.{Token}
use Rattle.ct_core.specs.declared.units.CoreFunction.{CoreFunction}
use Rattle.ct_form.specs.declared.functions.Heading.{Heading}
use Rattle.ct_form.specs.declared.names.Binding.{Binding}
use Rattle.ct_form.specs.declared.places.Place.{Place}
use Rattle.ct_form.specs.Functions.{IsParameterList}
use Rattle.ct_form.specs.Readers.{at_of}
use Rattle.ct_form.proofs.Misses.{handed_on, passed_on}
use Rattle.ct_form.proofs.Headings.{HeadingThere, few}
use Rattle.ct_form.proofs.WhichFunction.{FunctionThere, DefinitionThere, no_function_heading, no_function_list, no_function_definition, is_function, place_begins}
use Rattle.ct_form.proofs.functions.function.Goals as goal

pub returns-in_err-heading : goal.returns-in_err-heading
returns-in_err-heading c =
    handed_on (λ (x : Heading × Bor (List Token)). (x.0.linkage, x.0.gives_value, x.0.name.now)) (λ x. x.1.now) (HeadingThere c.args.tokens.now)
    (λ (x : CoreFunction × ℕ × Bor (List Token)). (x.0, c.args.signatures.now.items, x.1)) (λ x. x.2.now) (FunctionThere c.args.signatures.now.items c.args.unity c.args.serial c.args.tokens.now)
    c.from_residual.result c.in_err-heading.field-0.0 c.from_residual.ensures.1 c.in_err-heading.ensures no_function_heading

pub returns-in_err-scope : goal.returns-in_err-scope
returns-in_err-scope c =
    handed_on (λ (x : Vec Binding Global × Place). x.0.items) (λ x. at_of x.1) (IsParameterList (record { tokens = c.in_ok-heading.first.now; serial = c.args.serial; variables = c.new.result }))
    (λ (x : CoreFunction × ℕ × Bor (List Token)). (x.0, c.args.signatures.now.items, x.1)) (λ x. x.2.now) (FunctionThere c.args.signatures.now.items c.args.unity c.args.serial c.args.tokens.now)
    c.from_residual-in_err-scope.result c.in_err-scope.field-0.0 c.from_residual-in_err-scope.ensures.1 c.in_err-scope.ensures
    (no_function_list c.in_ok-heading.ensures (place_begins c.args.serial c.in_ok-heading.first.now c.new.result c.new.ensures))

pub definition-requires : goal.definition-requires
definition-requires c = few c.new.ensures c.in_ok-scope.ensures

pub returns : goal.returns
returns c =
    passed_on (λ (x : CoreFunction × ℕ × Bor (List Token)). (x.0, c.definition.new.signatures.items, x.1)) (λ x. (x.0, c.definition.new.signatures.items, x.1)) (λ x. x.2.now)
    (DefinitionThere c.args.signatures.now.items c.args.unity c.in_ok-heading.heading.linkage c.in_ok-heading.heading.gives_value c.in_ok-heading.heading.name.now c.in_ok-scope.scope.items (at_of c.in_ok-scope.place))
    (FunctionThere c.args.signatures.now.items c.args.unity c.args.serial c.args.tokens.now) c.definition.result c.definition.ensures
    (λ x d. is_function c.in_ok-heading.ensures (place_begins c.args.serial c.in_ok-heading.first.now c.new.result c.new.ensures) c.in_ok-scope.ensures d)
    (no_function_definition c.in_ok-heading.ensures (place_begins c.args.serial c.in_ok-heading.first.now c.new.result c.new.ensures) c.in_ok-scope.ensures)
