use Rattle.ct_phases.proofs.RunnerMade.{given_all}
use Rattle.ct_phases.proofs.table.push_built_ins.Goals as goal

pub returns : goal.returns
returns c =
    given_all c.args.units.now c.args.all.now _ _ _ _ _ _ _ _ _ _ c.as_slice-assertion.ensures c.as_slice.ensures c.as_slice-2.ensures c.as_slice-3.ensures c.as_slice-4.ensures
    c.in_ok-push_built_in.ensures c.in_ok-push_built_in-2.ensures c.in_ok-push_built_in-3.ensures c.in_ok-push_built_in-4.ensures
    c.in_ok-push_built_in-5.ensures
