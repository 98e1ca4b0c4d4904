use Rattle.std.proofs.Common.{arith, refl, sym, ◌∙◌}
use Rattle.std.proofs.lemmas.Bool.{false≢true}
use Rattle.ct_find.proofs.PickLemmas.{all_files, file_passed, file_pushed}
use Rattle.ct_find.proofs.picking.add_files.Goals as goal
use Rattle.ct_find.proofs.picking.add_files.Goals.{then-is_picked+in_ok-inside+in_ok-push, else-is_picked}

pub loop-entry-preserved : goal.loop-entry-preserved
loop-entry-preserved c =
    let picked = rw c.as_str.ensures at c.is_picked.ensures in
    elim c.if-is_picked.branch [
      | then-is_picked+in_ok-inside+in_ok-push w ↦ rw w.into-is (file_pushed c.args.settings.now c.args.kind c.args.groups c.args.row.now.folder c.args.into.now.items c.as_slice-entry-items.result.now c.loop-entry.entry-index c.entry-item.result c.loop-entry.into.items w.push.new.self.items w.in_ok-inside.field-0
          c.loop-entry-test.true c.entry-item.is c.loop-entry.invariant (picked.0 w.if-is_picked.true) (rw (w.as_str-then-is_picked.ensures, w.as_str-then-is_picked-2.ensures) at w.in_ok-inside.ensures) w.in_ok-push.ensures.items)
      | else-is_picked w ↦ rw w.into-is (file_passed c.args.settings.now c.args.kind c.args.groups c.args.row.now.folder c.args.into.now.items c.as_slice-entry-items.result.now c.loop-entry.entry-index c.entry-item.result c.loop-entry.into.items c.loop-entry.into.items
          c.loop-entry-test.true c.entry-item.is c.loop-entry.invariant (λ h. false≢true (sym w.if-is_picked.false ∙ picked.1 h)) refl)
    ]

pub returns : goal.returns
returns c =
    all_files c.args.settings.now c.args.kind c.args.groups c.args.row.now.folder c.args.into.now.items c.as_slice-entry-items.result.now c.args.row.now.entries c.loop-entry.entry-index c.loop-entry.into.items
    c.as_slice-entry-items.ensures (omega (arith, c.loop-entry.auto.entry-index-end)) c.loop-entry.invariant
