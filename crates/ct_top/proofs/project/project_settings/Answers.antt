use Rattle.std.proofs.Common.{subst}
use Rattle.std.proofs.lemmas.Result.{err_from_is_err_and}
use Rattle.ct_settings.specs.declared.record.ProjectSettings.{ProjectSettings}
use Rattle.ct_top.specs.Project.{HasOutcome, LogsOrRefusal, TextMeans}
use Rattle.ct_top.proofs.Projects.{short_text, text_refused}
use Rattle.ct_top.proofs.Stopping.{fault_on}
use Rattle.ct_top.proofs.project.project_settings.Goals as goal

pub returns-in_err-settings_of_text-clause-refused : goal.returns-in_err-settings_of_text-clause-refused
returns-in_err-settings_of_text-clause-refused g c files told =
    let p = err_from_is_err_and c.from_residual-in_err-settings_of_text.result c.from_residual-in_err-settings_of_text.ensures.1 in
    let on : (o : LogsOrRefusal) → TextMeans files c.as_slice.result.now o → HasOutcome files o =
    λ o means. short_text files c.in_ok-text.text.items o (c.in_ok-text.ensures.told files told) c.in_ok-text.ensures.small (subst (λ t. TextMeans files t o) c.as_slice.ensures.value means) in
    rw p.1
    (fault_on ProjectSettings ProjectSettings (TextMeans files c.as_slice.result.now) (HasOutcome files) c.in_err-settings_of_text.field-0.0 p.0 p.2 on
    (text_refused ProjectSettings files c.as_slice.result.now c.in_err-settings_of_text.field-0.0 c.in_err-settings_of_text.ensures.refused))

pub returns-clause-goes_on : goal.returns-clause-goes_on
returns-clause-goes_on g c files told = λ outcome means.
    short_text files c.in_ok-text.text.items outcome (c.in_ok-text.ensures.told files told) c.in_ok-text.ensures.small
    (subst (λ t. TextMeans files t outcome) c.as_slice.ensures.value (c.in_ok-settings_of_text.ensures.ok files outcome means))
