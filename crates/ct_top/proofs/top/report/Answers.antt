use Rattle.std.proofs.Common.{arith}
use Rattle.ct_top.proofs.Texts.{block_more, report_whole}
use Rattle.ct_top.proofs.top.report.Goals as goal

pub loop-log-preserved : goal.loop-log-preserved
loop-log-preserved c =
    block_more c.args.logs.now c.loop-log.log-index c.log-item.result c.loop-log.text.items c.lines.new.into.items c.footer.new.into.items
    (omega arith) c.log-item.is c.loop-log.invariant c.in_ok-lines.ensures.ok c.in_ok-footer.ensures.ok

pub returns : goal.returns
returns c =
    report_whole c.args.logs.now c.loop-log.log-index c.loop-log.text.items c.summary.new.into.items (omega arith) c.loop-log.invariant c.in_ok-summary.ensures.ok
