use Rattle.ct_form.specs.Statements.{IsTest}
use Rattle.ct_form.proofs.Misses.{missed}
use Rattle.ct_form.proofs.NoParts.{no_test_open, no_test_close}
use Rattle.ct_form.proofs.expressions.Names.test.Goals as goal

pub returns-in_err-inside : goal.returns-in_err-inside
returns-in_err-inside c =
    missed _ _ (IsTest c.args.self.now.functions.now c.args.self.now.scope.now c.args.tokens.now) c.from_residual.result c.in_err-inside.field-0.0 c.from_residual.ensures.1 (no_test_open c.args.self.now.functions.now c.args.self.now.scope.now c.in_err-inside.ensures.absent)

pub returns-in_err-rest : goal.returns-in_err-rest
returns-in_err-rest c =
    missed _ _ (IsTest c.args.self.now.functions.now c.args.self.now.scope.now c.args.tokens.now) c.from_residual-in_err-rest.result c.in_err-rest.field-0.0 c.from_residual-in_err-rest.ensures.1
    (no_test_close c.args.self.now.functions.now c.args.self.now.scope.now c.in_ok-inside.ensures.found c.in_ok-test.ensures c.in_err-rest.ensures.absent)
