use Rattle.std.proofs.Common.{◌≡◌, ℕ, ◌<◌, ◌∙◌, ap, List, ◌∷◌, ◌++◌, [], Bor, take, drop, length, false, rules, arith}
use Rattle.std.proofs.lemmas.Grind.{common_steps}
use Rattle.std.specs.Prelude.{Option}
use Rattle.ct_base.specs.declared.lexical.Token.{Token}
use Rattle.ct_core.specs.declared.trees.CoreExpression.{CoreExpression}
use Rattle.ct_core.specs.declared.trees.CoreStatement.{CoreStatement}
use Rattle.ct_form.specs.declared.places.Place.{Place}
use Rattle.ct_form.specs.Names.{is_declared}
use Rattle.ct_form.specs.Readers.{at_of}
use Rattle.ct_form.specs.Statements.{At, IsStart, binding, declared, most_variables}
use Rattle.ct_form.proofs.Misses.{missed, handed_on}
use Rattle.ct_form.proofs.Declarations.{DeclaresThere, in_two, with_binding, no_declaration_name, no_declaration_start, no_declaration_end, is_declaration}
use Rattle.ct_form.proofs.statements.Context.declaration.Goals as goal

pub returns-in_err-name-clause-declaration : goal.returns-in_err-name-clause-declaration
returns-in_err-name-clause-declaration c =
    missed (λ (found : ℕ × CoreStatement × Place). (found.1, c.args.scope.now.items)) (λ found. at_of found.2) (DeclaresThere c.args.self.now.functions.now (take c.args.outer c.args.scope.now.items) (drop c.args.outer c.args.scope.now.items) (at_of c.args.place) c.args.behind.now)
    c.from_residual.result c.in_err-name.field-0.0 c.from_residual.ensures.1 (no_declaration_name c.args.self.now.functions.now (take c.args.outer c.args.scope.now.items) (drop c.args.outer c.args.scope.now.items) c.in_err-name.ensures.absent)

pub returns-in_err-start-clause-declaration : goal.returns-in_err-start-clause-declaration
returns-in_err-start-clause-declaration c =
    let g : c.push.new.self.items ≡ c.args.scope.now.items ++ c.in_ok-binding_of.field-0 ∷ [] = search rules in
    let e = with_binding c.args.scope.now.items (at_of c.args.place) c.in_ok-name.name.now g c.in_ok-binding_of.ensures c.len-number.ensures in
    let new = in_two c.args.outer c.args.scope.now.items (binding (at_of c.args.place) c.in_ok-name.name.now) e in
    let seen : c.as_slice-2.result.now ≡ c.push.new.self.items = search rules in
    handed_on (λ (x : Option CoreExpression × Bor (List Token)). x.0) (λ x. x.1.now) (IsStart c.args.self.now.functions.now c.as_slice-2.result.now c.in_ok-name.middle.now)
    (λ (found : ℕ × CoreStatement × Place). (found.1, c.push.new.self.items)) (λ found. at_of found.2) (DeclaresThere c.args.self.now.functions.now (take c.args.outer c.args.scope.now.items) (drop c.args.outer c.args.scope.now.items) (at_of c.args.place) c.args.behind.now)
    c.from_residual-in_err-start.result c.in_err-start.field-0.0 c.from_residual-in_err-start.ensures.1 c.in_err-start.ensures
    (no_declaration_start c.args.self.now.functions.now (take c.args.outer c.args.scope.now.items) (drop c.args.outer c.args.scope.now.items) c.in_ok-name.ensures.found (seen ∙ new))

pub returns-in_err-rest-clause-declaration : goal.returns-in_err-rest-clause-declaration
returns-in_err-rest-clause-declaration c =
    let g : c.push.new.self.items ≡ c.args.scope.now.items ++ c.in_ok-binding_of.field-0 ∷ [] = search rules in
    let e = with_binding c.args.scope.now.items (at_of c.args.place) c.in_ok-name.name.now g c.in_ok-binding_of.ensures c.len-number.ensures in
    let new = in_two c.args.outer c.args.scope.now.items (binding (at_of c.args.place) c.in_ok-name.name.now) e in
    let seen : c.as_slice-2.result.now ≡ c.push.new.self.items = search rules in
    missed (λ (found : ℕ × CoreStatement × Place). (found.1, c.push.new.self.items)) (λ found. at_of found.2) (DeclaresThere c.args.self.now.functions.now (take c.args.outer c.args.scope.now.items) (drop c.args.outer c.args.scope.now.items) (at_of c.args.place) c.args.behind.now)
    c.from_residual-in_err-rest.result c.in_err-rest.field-0.0 c.from_residual-in_err-rest.ensures.1
    (no_declaration_end c.args.self.now.functions.now (take c.args.outer c.args.scope.now.items) (drop c.args.outer c.args.scope.now.items) c.in_ok-name.ensures.found (seen ∙ new) c.in_ok-start.ensures c.in_err-rest.ensures.absent)

pub returns-clause-declaration : goal.returns-clause-declaration
returns-clause-declaration c =
    let g : c.push.new.self.items ≡ c.args.scope.now.items ++ c.in_ok-binding_of.field-0 ∷ [] = search rules in
    let e = with_binding c.args.scope.now.items (at_of c.args.place) c.in_ok-name.name.now g c.in_ok-binding_of.ensures c.len-number.ensures in
    let new = in_two c.args.outer c.args.scope.now.items (binding (at_of c.args.place) c.in_ok-name.name.now) e in
    let seen : c.as_slice-2.result.now ≡ c.push.new.self.items = search rules in
    let d : is_declared (drop c.args.outer c.args.scope.now.items) c.in_ok-name.name.now.text ≡ false = grind (arith, common_steps) in
    let l : length c.args.place.variables < most_variables = omega arith in (
      c.in_ok-name.name.now,
      is_declaration c.args.self.now.functions.now (take c.args.outer c.args.scope.now.items) (drop c.args.outer c.args.scope.now.items) c.in_ok-name.ensures.found d l (seen ∙ new) c.in_ok-start.ensures c.in_ok-rest.ensures.found c.mark-mark.ensures c.len-number.ensures (c.in_ok-place.ensures ∙ ap (λ (at : At). declared at c.in_ok-name.name.now) c.in_ok-begun.ensures),
      new,
    )
