-- Numbers of tests, by the way in which they ended.
use Rattle.std.specs.Prelude.{ℕ, ◌++◌, ◌<◌, List, length, count_by, codes, decimal, nat_lt, if◌then◌else◌}
use Rattle.ct_report.specs.declared.logs.TestLine.{TestLine}
use Rattle.ct_report.specs.declared.counts.Counts.{Counts}
use Rattle.ct_report.specs.Report.{newline, is_failure, is_ignored}

-- how many tests there are, how many failed, and how many were ignored
abbrev pub counts_of : List TestLine → Counts
counts_of tests = record { tests = length tests; failures = count_by is_failure tests; ignored = count_by is_ignored tests }

-- the word behind the counts
abbrev pub word_after : ℕ → List ℕ
word_after failures = if nat_lt 0 failures then codes "FAIL" else codes "OK"

-- the line of these counts, and the line of the word
abbrev pub counts_text : Counts → List ℕ
counts_text counts =
    decimal counts.tests ++ codes " Tests " ++ decimal counts.failures ++ codes " Failures "
    ++ decimal counts.ignored ++ codes " Ignored" ++ newline ++ word_after counts.failures ++ newline

-- each count is below a number
pub record AreBelow (end : ℕ) (counts : Counts) : Type 0 where
  pub tests : counts.tests < end
  pub failures : counts.failures < end
  pub ignored : counts.ignored < end
