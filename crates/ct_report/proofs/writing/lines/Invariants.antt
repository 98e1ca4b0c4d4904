use Rattle.std.proofs.Common.{◌≡◌, ◌++◌, take}
use Rattle.std.specs.List.{flat_map}
use Rattle.ct_report.specs.Report.{test_lines}
use Rattle.ct_report.proofs.writing.lines.Given as goal

abbrev pub invariant-loop-test : goal.invariant-loop-test
invariant-loop-test l = l.into.items ≡ l.initial.into.items ++ flat_map (test_lines l.log.file) (take l.test-index l.log.tests)
