use Rattle.std.proofs.Common.{◌≡◌, ◌++◌, take}
use Rattle.std.specs.Prelude.{flat_map}
use Rattle.ct_report.specs.Report.{footer_of, lines_of}
use Rattle.ct_top.proofs.top.report.Given as goal

abbrev pub invariant-loop-log : goal.invariant-loop-log
invariant-loop-log l = l.text.items ≡ flat_map (λ log. lines_of log ++ footer_of log) (take l.log-index l.logs)
