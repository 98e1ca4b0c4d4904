use Rattle.std.proofs.Common.{sym, ◌∙◌, ap}
use Rattle.ct_phases.specs.Linked.{table_in_order}
use Rattle.ct_phases.proofs.RunnerLog.{same_log}
use Rattle.ct_phases.proofs.runner.log_by_runner.Goals as goal

pub returns : goal.returns
returns c =
    same_log c.args.unit _ c.args.budget _ _ _ _ c.in_ok-tests.ensures (c.as_slice-2.ensures.value ∙ c.in_ok-units.ensures.items)
    (c.in_ok-definitions.ensures ∙ ap table_in_order (c.as_slice.ensures.value ∙ sym c.as_slice-2.ensures.value)) c.plain.ensures
