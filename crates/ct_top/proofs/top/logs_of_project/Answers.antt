use Rattle.std.proofs.Common.{◌∙◌}
use Rattle.std.specs.Prelude.{Ok, Vec}
use Rattle.std.specs.declared.alloc.Global.{Global}
use Rattle.std.proofs.lemmas.Result.{err_from_is_err_and}
use Rattle.ct_find.specs.declared.files.Files.{Files as Found}
use Rattle.ct_report.specs.declared.logs.RunLog.{RunLog}
use Rattle.ct_top.specs.Project.{HasOutcome, LogsOrRefusal, SearchMeans, TestsMean}
use Rattle.ct_top.proofs.Searches.{search_goes_on}
use Rattle.ct_top.proofs.Stopping.{fault_on, refused_on}
use Rattle.ct_top.proofs.top.logs_of_project.Goals as goal

pub returns-in_err-files-clause-refused : goal.returns-in_err-files-clause-refused
returns-in_err-files-clause-refused g c files told =
    let p = err_from_is_err_and c.from_residual-in_err-files.result c.from_residual-in_err-files.ensures.1 in
    rw (p.1, p.2)
    (refused_on Found (Vec RunLog Global) (SearchMeans files c.in_ok-settings.settings) (HasOutcome files) c.in_err-files.field-0.0
    (c.in_ok-settings.ensures.goes_on files told)
    (c.in_err-files.ensures.refused files (c.in_ok-settings.ensures.same_files ∙ told)))

pub returns-in_err-logs_of_tests-clause-refused : goal.returns-in_err-logs_of_tests-clause-refused
returns-in_err-logs_of_tests-clause-refused g c files told =
    let p = err_from_is_err_and c.from_residual-in_err-logs_of_tests.result c.from_residual-in_err-logs_of_tests.ensures.1 in
    let found = c.in_ok-files.files in
    let finds = c.in_ok-files.ensures.told files (c.in_ok-settings.ensures.same_files ∙ told) in
    let run : (o : LogsOrRefusal) → TestsMean found.texts found.tests o → HasOutcome files o =
    λ o means. c.in_ok-settings.ensures.goes_on files told o (search_goes_on c.in_ok-settings.settings files found finds o means) in
    rw p.1
    (fault_on (Vec RunLog Global) (Vec RunLog Global) (TestsMean found.texts found.tests) (HasOutcome files) c.in_err-logs_of_tests.field-0.0 p.0 p.2 run
    c.in_err-logs_of_tests.ensures.refused)

pub returns-clause-ok : goal.returns-clause-ok
returns-clause-ok g c files told =
    let found = c.in_ok-files.files in
    let finds = c.in_ok-files.ensures.told files (c.in_ok-settings.ensures.same_files ∙ told) in
    let means : TestsMean found.texts found.tests (Ok c.in_ok-logs_of_tests.field-0.items) = c.in_ok-logs_of_tests.ensures.ok in
    c.in_ok-settings.ensures.goes_on files told (Ok c.in_ok-logs_of_tests.field-0.items)
    (search_goes_on c.in_ok-settings.settings files found finds (Ok c.in_ok-logs_of_tests.field-0.items) means)
