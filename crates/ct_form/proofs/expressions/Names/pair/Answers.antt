use Rattle.std.proofs.Common.{◌-◌, Bor, List}
use Rattle.ct_base.specs.declared.lexical.Token.{Token}
use Rattle.ct_core.specs.declared.trees.CoreExpression.{CoreExpression}
use Rattle.ct_form.specs.Expressions.{IsExpression}
use Rattle.ct_form.specs.Statements.{IsPair, parentheses}
use Rattle.ct_form.proofs.Misses.{missed, handed_on}
use Rattle.ct_form.proofs.NoParts.{no_pair_open, no_pair_comma, no_pair_second, no_pair_close}
use Rattle.ct_form.proofs.expressions.Names.pair.Goals as goal

pub returns-in_err-inside : goal.returns-in_err-inside
returns-in_err-inside c =
    missed _ _ (λ (both : CoreExpression × CoreExpression). IsPair c.args.self.now.functions.now c.args.self.now.scope.now c.args.tokens.now both.0 both.1) c.from_residual.result c.in_err-inside.field-0.0 c.from_residual.ensures.1
    (λ both rest h. no_pair_open c.args.self.now.functions.now c.args.self.now.scope.now c.in_err-inside.ensures.absent h)

pub returns-in_err-behind : goal.returns-in_err-behind
returns-in_err-behind c =
    missed _ _ (λ (both : CoreExpression × CoreExpression). IsPair c.args.self.now.functions.now c.args.self.now.scope.now c.args.tokens.now both.0 both.1) c.from_residual-in_err-behind.result c.in_err-behind.field-0.0 c.from_residual-in_err-behind.ensures.1
    (λ both rest h. no_pair_comma c.args.self.now.functions.now c.args.self.now.scope.now c.in_ok-inside.ensures.found c.in_ok-first.ensures c.in_err-behind.ensures.absent h)

pub returns-in_err-second : goal.returns-in_err-second
returns-in_err-second c =
    handed_on (λ (x : CoreExpression × Bor (List Token)). x.0) (λ x. x.1.now) (IsExpression c.args.self.now.functions.now c.args.self.now.scope.now (parentheses - 1) c.in_ok-behind.behind.now) _ _ (λ (both : CoreExpression × CoreExpression). IsPair c.args.self.now.functions.now c.args.self.now.scope.now c.args.tokens.now both.0 both.1)
    c.from_residual-in_err-second.result c.in_err-second.field-0.0 c.from_residual-in_err-second.ensures.1 c.in_err-second.ensures
    (λ n both rest h. no_pair_second c.args.self.now.functions.now c.args.self.now.scope.now c.in_ok-inside.ensures.found c.in_ok-first.ensures c.in_ok-behind.ensures.found n h)

pub returns-in_err-rest : goal.returns-in_err-rest
returns-in_err-rest c =
    missed _ _ (λ (both : CoreExpression × CoreExpression). IsPair c.args.self.now.functions.now c.args.self.now.scope.now c.args.tokens.now both.0 both.1) c.from_residual-in_err-rest.result c.in_err-rest.field-0.0 c.from_residual-in_err-rest.ensures.1
    (λ both rest h. no_pair_close c.args.self.now.functions.now c.args.self.now.scope.now c.in_ok-inside.ensures.found c.in_ok-first.ensures c.in_ok-behind.ensures.found c.in_ok-second.ensures c.in_err-rest.ensures.absent h)
