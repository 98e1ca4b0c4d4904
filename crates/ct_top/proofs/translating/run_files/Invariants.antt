use Rattle.std.proofs.Common.{drop}
use Rattle.ct_top.specs.Project.{FilesMean, LogsOrRefusal}
use Rattle.ct_top.proofs.Logs.{behind}
use Rattle.ct_top.proofs.translating.run_files.Given as goal

-- what the other files mean, behind the logs so far, all mean
abbrev pub invariant-loop-path : goal.invariant-loop-path
invariant-loop-path g l = (o : LogsOrRefusal) → FilesMean (g.F.Finder.texts l.finder) (drop l.path-index l.paths) o → FilesMean (g.F.Finder.texts l.finder) l.paths (behind l.logs.items o)
