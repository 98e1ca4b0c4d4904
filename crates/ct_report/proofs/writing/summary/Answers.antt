use Rattle.std.proofs.Common.{◌∙◌, ◌++◌, ap}
use Rattle.ct_report.specs.Counting.{counts_text}
use Rattle.ct_report.proofs.Counted.{appended_summary}
use Rattle.ct_report.proofs.writing.summary.Goals as goal

pub returns-clause-ok : goal.returns-clause-ok
returns-clause-ok c =
    appended_summary c.args.logs.now _ _ _ c.in_ok-append.ensures.ok
    (c.in_ok-append_counts.ensures.ok ∙ ap (λ counts. c.append.new.into.items ++ counts_text counts) c.counts_of_logs-counts.ensures.value)
