-- The report, as a function of the logs.
use Rattle.std.specs.Prelude.{◌≡◌, ℕ, Bool, true, false, List, [], ◌∷◌, ◌++◌, flat_map, length, count_by, codes, decimal, if◌then◌else◌}
use Rattle.std.specs.List.{list_any}
use Rattle.ct_base.specs.declared.answers.Status.{Status}
use Rattle.ct_base.specs.declared.answers.Status.TheVariants.{Passed, Failed}
use Rattle.ct_report.specs.declared.logs.Verdict.{Verdict}
use Rattle.ct_report.specs.declared.logs.Verdict.TheVariants.{Pass, Fail, Ignore}
use Rattle.ct_report.specs.declared.logs.Info.{Info}
use Rattle.ct_report.specs.declared.logs.TestLine.{TestLine}
use Rattle.ct_report.specs.declared.logs.RunLog.{RunLog}

-- the text begins with what it was
pub record Extends (old new : List ℕ) : Type 0 where
  pub more : List ℕ
  pub is : new ≡ old ++ more

abbrev pub newline : List ℕ
newline = 10 ∷ []

-- `FILE:LINE:NAME:`, with which each line of a test begins
abbrev pub place_of : List ℕ → List ℕ → ℕ → List ℕ
place_of file name line = file ++ codes ":" ++ decimal line ++ codes ":" ++ name ++ codes ":"

abbrev pub info_line : List ℕ → List ℕ → Info → List ℕ
info_line file name info = place_of file name info.line ++ codes "INFO: " ++ info.text ++ newline

abbrev pub word_of : Verdict → List ℕ
word_of Pass = codes "PASS"
word_of Fail = codes "FAIL"
word_of Ignore = codes "IGNORE"

-- a text stands behind a colon; where there is none, nothing does
abbrev pub behind_colon : List ℕ → List ℕ
behind_colon [] = []
behind_colon (c ∷ cs) = codes ": " ++ c ∷ cs

abbrev pub verdict_line : List ℕ → TestLine → List ℕ
verdict_line file test = place_of file test.name test.line ++ word_of test.verdict ++ behind_colon test.text ++ newline

-- the messages of a test, and then its verdict
abbrev pub test_lines : List ℕ → TestLine → List ℕ
test_lines file test = flat_map (info_line file test.name) test.infos ++ verdict_line file test

abbrev pub lines_of : RunLog → List ℕ
lines_of log = flat_map (test_lines log.file) log.tests

abbrev pub is_failure : TestLine → Bool
is_failure test = elim test.verdict [ Pass ↦ false | Fail ↦ true | Ignore ↦ false ]

abbrev pub is_ignored : TestLine → Bool
is_ignored test = elim test.verdict [ Pass ↦ false | Fail ↦ false | Ignore ↦ true ]

-- how many tests there are, how many failed, and how many were ignored
abbrev pub count_line : List TestLine → List ℕ
count_line tests =
    decimal (length tests) ++ codes " Tests " ++ decimal (count_by is_failure tests) ++ codes " Failures "
    ++ decimal (count_by is_ignored tests) ++ codes " Ignored" ++ newline

-- `FAIL` exactly where a test failed
abbrev pub word_line : List TestLine → List ℕ
word_line tests = (if list_any is_failure tests then codes "FAIL" else codes "OK") ++ newline

-- 23 hyphens, the counts, the word and an empty line
abbrev pub footer_of : RunLog → List ℕ
footer_of log = codes "-----------------------" ++ newline ++ count_line log.tests ++ word_line log.tests ++ newline

abbrev pub all_tests : List RunLog → List TestLine
all_tests logs = flat_map (λ log. log.tests) logs

-- the counts and the word over the tests of all files
abbrev pub summary_of : List RunLog → List ℕ
summary_of logs = codes "OVERALL" ++ newline ++ count_line (all_tests logs) ++ word_line (all_tests logs)

-- the whole report: each file's lines and footer in order, and then the summary
abbrev pub report_of : List RunLog → List ℕ
report_of logs = flat_map (λ log. lines_of log ++ footer_of log) logs ++ summary_of logs

abbrev pub status_of : List RunLog → Status
status_of logs = if list_any is_failure (all_tests logs) then Failed else Passed
