use Rattle.std.proofs.Common.{arith, ◌≡◌, ◌∙◌, [], drop, ap}
use Rattle.std.specs.Prelude.{Ok, Vec}
use Rattle.std.specs.declared.alloc.Global.{Global}
use Rattle.ct_report.specs.declared.logs.RunLog.{RunLog}
use Rattle.std.proofs.Math.ListN.{drop_of_length-le}
use Rattle.ct_top.specs.Project.{text_at}
use Rattle.ct_top.proofs.Logs.{failed_here, named_so, ran_all, ran_one}
use Rattle.ct_top.proofs.translating.run_files.Goals as goal

pub returns-in-Err-clause-refused : goal.returns-in-Err-clause-refused
returns-in-Err-clause-refused g c =
    failed_here (Vec RunLog Global) (g.F.Finder.texts c.args.finder.now) c.args.paths.now c.loop-path.path-index c.path-item.result c.as_str.result.now c.text_at.result.now
    c.loop-path.logs.items c.in-Err.fail (omega arith) c.path-item.is c.as_str.ensures
    (c.text_at.ensures ∙ ap (text_at (g.F.Finder.texts c.args.finder.now)) c.as_str-in-loop-path.ensures) c.in-Err.ensures c.loop-path.invariant

pub loop-path-preserved : goal.loop-path-preserved
loop-path-preserved g c =
    rw c.in_ok-push-in-Ok.ensures.items
    (ran_one (g.F.Finder.texts c.args.finder.now) c.args.paths.now c.loop-path.path-index c.path-item.result c.text_at.result.now c.loop-path.logs.items c.in-Ok.log
    (omega arith) c.path-item.is (c.text_at.ensures ∙ ap (text_at (g.F.Finder.texts c.args.finder.now)) c.as_str-in-loop-path.ensures)
    (named_so c.path-item.result c.as_str.result.now c.text_at.result.now (Ok c.in-Ok.log) c.as_str.ensures c.in-Ok.ensures) c.loop-path.invariant)

pub returns-clause-ok : goal.returns-clause-ok
returns-clause-ok g c =
    let end : drop c.loop-path.path-index c.args.paths.now ≡ [] = drop_of_length-le c.args.paths.now (omega arith) in
    ran_all (g.F.Finder.texts c.args.finder.now) c.args.paths.now c.loop-path.path-index c.loop-path.logs.items end c.loop-path.invariant
