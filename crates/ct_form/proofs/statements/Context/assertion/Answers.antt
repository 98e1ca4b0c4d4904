use Rattle.std.proofs.Common.{◌≡◌, List, Bor, rules}
use Rattle.std.specs.Prelude.{Some, None, IsTrue}
use Rattle.ct_base.specs.declared.lexical.Token.{Token}
use Rattle.ct_core.specs.declared.trees.CoreExpression.{CoreExpression}
use Rattle.ct_core.specs.declared.trees.CoreStatement.{CoreStatement}
use Rattle.ct_form.specs.declared.names.Signature.{Signature}
use Rattle.ct_form.specs.declared.places.Place.{Place}
use Rattle.ct_form.specs.Expressions.{IsExpression, IsCall}
use Rattle.ct_form.specs.Names.{variable_number}
use Rattle.ct_form.specs.Readers.{at_of}
use Rattle.ct_form.specs.Statements.{IsStatement, IsPair, parentheses}
use Rattle.ct_form.proofs.Misses.{handed_on}
use Rattle.ct_form.proofs.WhichStatement.{statement_missed, is_assertion, no_assertion_pair, no_assertion_end}
use Rattle.ct_form.proofs.statements.Context.assertion.Goals as goal

pub returns-in_err-expected : goal.returns-in_err-expected
returns-in_err-expected c room =
    handed_on (λ (x : CoreExpression × CoreExpression × Bor (List Token)). (x.0, x.1)) (λ x. x.2.now) (λ (both : CoreExpression × CoreExpression). IsPair c.args.self.now.functions.now c.args.scope.now c.args.behind.now both.0 both.1) (λ (found : CoreStatement × Place). found.0) (λ found. at_of found.1)
    (IsStatement c.args.self.now.functions.now c.args.self.now.unity c.args.self.now.gives_value room c.args.scope.now (at_of c.args.place)) c.from_residual.result c.in_err-expected.field-0.0 c.from_residual.ensures.1 c.in_err-expected.ensures
    (no_assertion_pair c.args.self.now.functions.now c.args.self.now.unity c.args.self.now.gives_value c.requires)

pub returns-in_err-rest : goal.returns-in_err-rest
returns-in_err-rest c room =
    statement_missed c.args.self.now room c.args.scope.now (at_of c.args.place) c.from_residual-in_err-rest.result c.in_err-rest.field-0.0 c.from_residual-in_err-rest.ensures.1
    (no_assertion_end c.args.self.now.functions.now c.args.self.now.unity c.args.self.now.gives_value c.requires c.in_ok-expected.ensures c.in_err-rest.ensures.absent)

pub returns : goal.returns
returns c room =
    let g : IsTrue c.args.self.now.unity = search rules in
    is_assertion c.args.self.now.functions.now c.args.self.now.unity c.args.self.now.gives_value c.requires g c.mark-mark.ensures c.in_ok-expected.ensures c.in_ok-rest.ensures.found c.in_ok-core.ensures c.in_ok-place.ensures
