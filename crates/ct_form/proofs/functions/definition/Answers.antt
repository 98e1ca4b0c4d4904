use Rattle.std.proofs.Common.{◌≡◌, ℕ, ◌-◌, List, [], ◌∷◌, ◌++◌, Bor, take, drop, refl, ap, ◌∙◌, rules}
use Rattle.ct_base.specs.declared.lexical.Token.{Token}
use Rattle.ct_core.specs.declared.trees.CoreStatement.{CoreStatement}
use Rattle.ct_core.specs.declared.units.CoreFunction.{CoreFunction}
use Rattle.ct_form.specs.declared.names.Binding.{Binding}
use Rattle.ct_form.specs.declared.names.Signature.{Signature}
use Rattle.ct_form.specs.declared.places.Place.{Place}
use Rattle.ct_form.specs.declared.statements.Inside.{Inside}
use Rattle.ct_form.specs.Functions.{signature_of}
use Rattle.ct_form.specs.Readers.{at_of}
use Rattle.ct_form.specs.Statements.{IsBody, nested}
use Rattle.ct_form.proofs.Misses.{missed, handed_on}
use Rattle.ct_form.proofs.WhichFunction.{DefinitionThere, no_definition_brace, no_definition_body}
use Rattle.ct_form.proofs.functions.definition.Goals as goal

pub returns-in_err-inside : goal.returns-in_err-inside
returns-in_err-inside c =
    missed (λ (x : CoreFunction × ℕ × Bor (List Token)). (x.0, c.args.signatures.now.items, x.1)) (λ x. x.2.now) (DefinitionThere c.args.signatures.now.items c.args.unity c.args.heading.linkage c.args.heading.gives_value c.args.heading.name.now c.args.scope.items (at_of c.args.place))
    c.from_residual-in_err-inside.result c.in_err-inside.field-0.0 c.from_residual-in_err-inside.ensures.1
    (no_definition_brace c.args.signatures.now.items c.args.unity c.args.heading.linkage c.args.heading.gives_value c.args.heading.name.now c.args.scope.items (at_of c.args.place) c.in_err-inside.ensures.absent)

pub returns-in_err-numbers : goal.returns-in_err-numbers
returns-in_err-numbers c =
    let g : c.push.new.self.items ≡ c.args.signatures.now.items ++ c.in_ok-signature.signature ∷ [] = search rules in
    let s = c.in_ok-signature.ensures ∙ ap (λ (own : List Binding). signature_of c.args.heading.name.now c.args.heading.gives_value own) c.as_slice.ensures.value in
    let e = c.as_slice-4.ensures.value ∙ g ∙ ap (λ (s : Signature). c.args.signatures.now.items ++ s ∷ []) s in
    handed_on (λ (x : Inside × Place). (x.0.numbers, x.0.parts)) (λ x. at_of x.1)
    (λ (what : List ℕ × List CoreStatement). IsBody c.as_slice-4.result.now c.args.unity c.args.heading.gives_value (nested - 1) (take 0 c.args.scope.items) (drop 0 c.args.scope.items) (at_of c.in_ok-place.place) what.0 what.1)
    (λ (x : CoreFunction × ℕ × Bor (List Token)). (x.0, c.push.new.self.items, x.1)) (λ x. x.2.now) (DefinitionThere c.args.signatures.now.items c.args.unity c.args.heading.linkage c.args.heading.gives_value c.args.heading.name.now c.args.scope.items (at_of c.args.place))
    c.from_residual-in_err-numbers.result c.in_err-numbers.field-0.0 c.from_residual-in_err-numbers.ensures.1 c.in_err-numbers.ensures.body
    (no_definition_body c.args.signatures.now.items c.args.unity c.args.heading.linkage c.args.heading.gives_value c.args.heading.name.now c.args.scope.items (at_of c.args.place) c.in_ok-inside.ensures.found e refl refl c.in_ok-place.ensures)
