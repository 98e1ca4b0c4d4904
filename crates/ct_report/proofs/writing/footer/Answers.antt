use Rattle.std.proofs.Common.{◌≡◌, ◌∙◌, ◌++◌, ap}
use Rattle.ct_report.specs.Counting.{counts_of, counts_text}
use Rattle.ct_report.proofs.Counted.{appended_footer}
use Rattle.ct_report.proofs.writing.footer.Goals as goal

pub returns-clause-ok : goal.returns-clause-ok
returns-clause-ok c =
    let counted : c.counts_of_tests-counts.result ≡ counts_of c.args.log.now.tests = cc in
    appended_footer c.args.log.now _ _ _ _ c.in_ok-append.ensures.ok
    (c.in_ok-append_counts.ensures.ok ∙ ap (λ counts. c.append.new.into.items ++ counts_text counts) counted)
    c.in_ok-append-2.ensures.ok
