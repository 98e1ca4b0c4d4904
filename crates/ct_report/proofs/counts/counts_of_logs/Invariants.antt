use Rattle.std.proofs.Common.{◌≡◌, take}
use Rattle.ct_report.specs.Counting.{counts_of}
use Rattle.ct_report.specs.Report.{all_tests}
use Rattle.ct_report.proofs.Counted.{AreWithin}
use Rattle.ct_report.proofs.counts.counts_of_logs.Given as goal

abbrev pub invariant-loop-log : goal.invariant-loop-log
invariant-loop-log l = record { value : l.all ≡ counts_of (all_tests (take l.log-index l.logs)); bound : AreWithin l.log-index l.all }
