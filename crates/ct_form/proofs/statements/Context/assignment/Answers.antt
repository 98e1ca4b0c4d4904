use Rattle.std.proofs.Common.{◌≡◌, List, Bor, rules}
use Rattle.std.specs.Prelude.{Some, None, IsTrue}
use Rattle.ct_base.specs.declared.lexical.Token.{Token}
use Rattle.ct_core.specs.declared.trees.CoreExpression.{CoreExpression}
use Rattle.ct_core.specs.declared.trees.CoreStatement.{CoreStatement}
use Rattle.ct_form.specs.declared.names.Signature.{Signature}
use Rattle.ct_form.specs.declared.places.Place.{Place}
use Rattle.ct_form.specs.Expressions.{IsExpression, IsCall}
use Rattle.ct_form.specs.Names.{variable_number}
use Rattle.ct_form.specs.Readers.{at_of}
use Rattle.ct_form.specs.Statements.{IsStatement, IsPair, parentheses}
use Rattle.ct_form.proofs.Misses.{handed_on}
use Rattle.ct_form.proofs.WhichStatement.{statement_missed, is_assignment, no_assignment_variable, no_assignment_value, no_assignment_end}
use Rattle.ct_form.proofs.statements.Context.assignment.Goals as goal

pub returns-in_default : goal.returns-in_default
returns-in_default c room =
    let e : variable_number c.args.scope.now c.args.target.now.text ≡ None = search rules in
    no_assignment_variable c.args.self.now.functions.now c.args.self.now.unity c.args.self.now.gives_value c.requires.name c.requires.sign e

pub returns-in_err-value : goal.returns-in_err-value
returns-in_err-value c room =
    handed_on (λ (x : CoreExpression × Bor (List Token)). x.0) (λ x. x.1.now) (IsExpression c.args.self.now.functions.now c.args.scope.now parentheses c.args.behind.now) (λ (found : CoreStatement × Place). found.0) (λ found. at_of found.1)
    (IsStatement c.args.self.now.functions.now c.args.self.now.unity c.args.self.now.gives_value room c.args.scope.now (at_of c.args.place)) c.from_residual.result c.in_err-value.field-0.0 c.from_residual.ensures.1 c.in_err-value.ensures
    (no_assignment_value c.args.self.now.functions.now c.args.self.now.unity c.args.self.now.gives_value c.requires.name c.requires.sign)

pub returns-in_err-rest : goal.returns-in_err-rest
returns-in_err-rest c room =
    statement_missed c.args.self.now room c.args.scope.now (at_of c.args.place) c.from_residual-in_err-rest.result c.in_err-rest.field-0.0 c.from_residual-in_err-rest.ensures.1
    (no_assignment_end c.args.self.now.functions.now c.args.self.now.unity c.args.self.now.gives_value c.requires.name c.requires.sign c.in_ok-value.ensures c.in_err-rest.ensures.absent)

pub returns : goal.returns
returns c room =
    let e : variable_number c.args.scope.now c.args.target.now.text ≡ Some c.in-Some.variable = search rules in
    is_assignment c.args.self.now.functions.now c.args.self.now.unity c.args.self.now.gives_value c.requires.name c.requires.sign c.mark-mark.ensures e c.in_ok-value.ensures c.in_ok-rest.ensures.found c.in_ok-object.ensures c.in_ok-stored.ensures c.in_ok-place.ensures
