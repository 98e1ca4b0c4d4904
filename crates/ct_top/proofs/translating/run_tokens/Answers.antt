use Rattle.std.proofs.Common.{◌≡◌, ◌<◌, ◌∙◌, All, ap, subst}
use Rattle.std.specs.Prelude.{Ok, Err}
use Rattle.ct_base.specs.Answers.{OnAnswer}
use Rattle.ct_base.specs.declared.memory.Fail.{Fail}
use Rattle.ct_core.specs.declared.units.CoreFunction.{CoreFunction}
use Rattle.ct_core.specs.declared.units.CoreUnit.{CoreUnit}
use Rattle.ct_form.specs.declared.outside.Outside.{Outside}
use Rattle.ct_form.specs.Form.{HasForm}
use Rattle.ct_top.proofs.Units.{form_is_project, log_of_form}
use Rattle.ct_top.proofs.translating.run_tokens.Goals as goal

pub test_log-requires-clause-project : goal.test_log-requires-clause-project
test_log-requires-clause-project c = (form_is_project c.args.path.now c.args.tokens.now c.in-Ok.unit c.in-Ok.ensures.form (subst (All (λ (f : CoreFunction). f.span.line < 4294967296)) c.as_slice.ensures c.count_lines.ensures)).0

pub test_log-requires-clause-names : goal.test_log-requires-clause-names
test_log-requires-clause-names c = (form_is_project c.args.path.now c.args.tokens.now c.in-Ok.unit c.in-Ok.ensures.form (subst (All (λ (f : CoreFunction). f.span.line < 4294967296)) c.as_slice.ensures c.count_lines.ensures)).1

pub test_log-requires-clause-main : goal.test_log-requires-clause-main
test_log-requires-clause-main c = (form_is_project c.args.path.now c.args.tokens.now c.in-Ok.unit c.in-Ok.ensures.form (subst (All (λ (f : CoreFunction). f.span.line < 4294967296)) c.as_slice.ensures c.count_lines.ensures)).2

pub returns-in_ok-test_log-in-Ok : goal.returns-in_ok-test_log-in-Ok
returns-in_ok-test_log-in-Ok c =
    (Ok c.in-Ok.unit, c.in-Ok.ensures.form, ap Ok (c.in_ok-test_log-in-Ok.ensures ∙ log_of_form c.args.path.now c.args.tokens.now c.in-Ok.unit c.in-Ok.ensures.form))

pub returns-in_ok-unsupported-in-Err-Fault : goal.returns-in_ok-unsupported-in-Err-Fault
returns-in_ok-unsupported-in-Err-Fault c =
    (Err c.in-Err-Fault.outside, subst (λ (fail : Fail Outside). OnAnswer {T = CoreUnit} (Err fail) (HasForm c.args.path.now c.args.tokens.now)) c.in-Err-Fault.field-0-is c.in-Err-Fault.ensures.form, ap Err c.in_ok-unsupported-in-Err-Fault.ensures)
