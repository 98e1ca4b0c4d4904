use Rattle.std.proofs.Common.{arith, refl, sym, ◌∙◌}
use Rattle.std.proofs.lemmas.Bool.{false≢true}
use Rattle.std.proofs.lemmas.Result.{IfOk-weaker}
use Rattle.ct_find.proofs.PickLemmas.{all_folders, folder_passed, folder_pushed}
use Rattle.ct_find.proofs.picking.folders_of.Goals as goal
use Rattle.ct_find.proofs.picking.folders_of.Goals.{then-is_matched_row+in_ok-from_str+in_ok-push, else-is_matched_row}

pub loop-row-preserved : goal.loop-row-preserved
loop-row-preserved c = elim c.if-is_matched_row.branch [
  | then-is_matched_row+in_ok-from_str+in_ok-push w ↦ rw w.paths-is (folder_pushed c.args.patterns.now c.args.rows.now c.loop-row.row-index c.row-item.result c.loop-row.paths.items w.push.new.self.items w.in_ok-from_str.field-0
      c.loop-row-test.true c.row-item.is c.loop-row.invariant (c.is_matched_row.ensures.0 w.if-is_matched_row.true) (w.in_ok-from_str.ensures.ok ∙ w.as_str.ensures) w.in_ok-push.ensures.items)
  | else-is_matched_row w ↦ rw w.paths-is (folder_passed c.args.patterns.now c.args.rows.now c.loop-row.row-index c.row-item.result c.loop-row.paths.items c.loop-row.paths.items
      c.loop-row-test.true c.row-item.is c.loop-row.invariant (λ h. false≢true (sym w.if-is_matched_row.false ∙ c.is_matched_row.ensures.1 h)) refl)
]

pub returns : goal.returns
returns c =
    IfOk-weaker c.sorted_once.result _ _
    (λ kept is. all_folders c.args.patterns.now c.args.rows.now c.loop-row.row-index c.loop-row.paths.items kept (omega (arith, c.loop-row.auto.row-index-end)) c.loop-row.invariant is) c.sorted_once.ensures
