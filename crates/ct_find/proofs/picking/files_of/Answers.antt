use Rattle.std.proofs.Common.{arith, subst, List}
use Rattle.std.proofs.lemmas.Result.{IfOk-weaker}
use Rattle.ct_find.specs.declared.rows.Row.{Row}
use Rattle.ct_find.specs.Rows.{HaveGroups}
use Rattle.ct_find.proofs.Members.{all_taken}
use Rattle.ct_find.proofs.PickLemmas.{all_picked, groups_added, picked_none, on_ok, row_added}
use Rattle.ct_find.proofs.picking.files_of.Goals as goal

pub loop-row-init : goal.loop-row-init
loop-row-init c = picked_none c.args.settings.now c.args.kind c.new-paths.result.items c.new-paths.ensures.items

pub loop-row-preserved : goal.loop-row-preserved
loop-row-preserved c =
    let groups = rw c.as_str.ensures at c.groups_of-groups.ensures in (
      row_added c.args.settings.now c.args.kind c.args.rows.now c.loop-row.row-index c.row-item.result c.groups_of-groups.result c.loop-row.paths.items c.add_files.new.into.items
          c.loop-row-test.true c.row-item.is c.loop-row.invariant.0 groups c.in_ok-add_files.ensures,
      groups_added c.args.settings.now c.args.rows.now c.loop-row.row-index c.row-item.result c.groups_of-groups.result c.loop-row-test.true c.row-item.is c.loop-row.invariant.1 groups,
    )

pub returns-clause-files : goal.returns-clause-files
returns-clause-files c =
    IfOk-weaker c.sorted_once.result _ _
    (λ kept is. all_picked c.args.settings.now c.args.kind c.args.rows.now c.loop-row.row-index c.loop-row.paths.items kept (omega (arith, c.loop-row.auto.row-index-end)) c.loop-row.invariant.0 is) c.sorted_once.ensures

pub returns-clause-groups : goal.returns-clause-groups
returns-clause-groups c =
    on_ok c.sorted_once.result (HaveGroups c.args.settings.now c.args.rows.now)
    (subst (λ (rs : List Row). HaveGroups c.args.settings.now rs) (all_taken c.args.rows.now c.loop-row.row-index (omega (arith, c.loop-row.auto.row-index-end))) c.loop-row.invariant.1)
