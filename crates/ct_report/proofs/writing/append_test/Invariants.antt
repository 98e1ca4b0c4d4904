use Rattle.std.proofs.Common.{◌≡◌, ◌++◌, take}
use Rattle.std.specs.List.{flat_map}
use Rattle.ct_report.specs.Report.{info_line}
use Rattle.ct_report.proofs.writing.append_test.Given as goal

abbrev pub invariant-loop-info : goal.invariant-loop-info
invariant-loop-info l = l.into.items ≡ l.initial.into.items ++ flat_map (info_line l.file l.test.name) (take l.info-index l.test.infos)
