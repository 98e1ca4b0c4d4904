use Rattle.std.proofs.Common.{◌≡◌, List, Bor, rules}
use Rattle.std.specs.Prelude.{Some, None, IsTrue}
use Rattle.ct_base.specs.declared.lexical.Token.{Token}
use Rattle.ct_core.specs.declared.trees.CoreExpression.{CoreExpression}
use Rattle.ct_core.specs.declared.trees.CoreStatement.{CoreStatement}
use Rattle.ct_form.specs.declared.names.Signature.{Signature}
use Rattle.ct_form.specs.declared.places.Place.{Place}
use Rattle.ct_form.specs.Expressions.{IsExpression, IsCall}
use Rattle.ct_form.specs.Names.{variable_number}
use Rattle.ct_form.specs.Readers.{at_of}
use Rattle.ct_form.specs.Statements.{IsStatement, IsPair, parentheses}
use Rattle.ct_form.proofs.Misses.{handed_on}
use Rattle.ct_form.proofs.WhichStatement.{statement_missed, is_return, no_return_here, no_return_value, no_return_end}
use Rattle.ct_form.proofs.statements.Context.returned.Goals as goal

pub returns-in_err-core : goal.returns-in_err-core
returns-in_err-core c room =
    handed_on (λ (x : CoreExpression × Bor (List Token)). x.0) (λ x. x.1.now) (IsExpression c.args.self.now.functions.now c.args.scope.now parentheses c.args.behind.now) (λ (found : CoreStatement × Place). found.0) (λ found. at_of found.1)
    (IsStatement c.args.self.now.functions.now c.args.self.now.unity c.args.self.now.gives_value room c.args.scope.now (at_of c.args.place)) c.from_residual.result c.in_err-core.field-0.0 c.from_residual.ensures.1 c.in_err-core.ensures
    (no_return_value c.args.self.now.functions.now c.args.self.now.unity c.args.self.now.gives_value c.requires)

pub returns-in_err-rest : goal.returns-in_err-rest
returns-in_err-rest c room =
    statement_missed c.args.self.now room c.args.scope.now (at_of c.args.place) c.from_residual-in_err-rest.result c.in_err-rest.field-0.0 c.from_residual-in_err-rest.ensures.1
    (no_return_end c.args.self.now.functions.now c.args.self.now.unity c.args.self.now.gives_value c.requires c.in_ok-core.ensures c.in_err-rest.ensures.absent)

pub returns : goal.returns
returns c room =
    let g : IsTrue c.args.self.now.gives_value = search rules in
    is_return c.args.self.now.functions.now c.args.self.now.unity c.args.self.now.gives_value c.requires g c.mark-mark.ensures c.in_ok-core.ensures c.in_ok-rest.ensures.found c.in_ok-place.ensures
