use Rattle.std.proofs.Common.{arith, refl, sym, ◌∙◌}
use Rattle.std.proofs.lemmas.Result.{IfOk-weaker}
use Rattle.ct_find.proofs.WalkLemmas.{all_children, child_passed, child_pushed}
use Rattle.ct_find.proofs.walking.children.Goals as goal
use Rattle.ct_find.proofs.walking.children.Goals.{then-is_child+in_ok-inside+in_ok-push, else-is_child}

pub loop-entry-preserved : goal.loop-entry-preserved
loop-entry-preserved c = elim c.if-is_child.branch [
  | then-is_child+in_ok-inside+in_ok-push w ↦ rw w.paths-is (child_pushed c.args.row.now.folder c.as_slice-entry-items.result.now c.loop-entry.entry-index c.entry-item.result c.loop-entry.paths.items w.push.new.self.items w.in_ok-inside.field-0
      c.loop-entry-test.true c.entry-item.is c.loop-entry.invariant (sym c.is_child.ensures ∙ w.if-is_child.true) (rw (w.as_str.ensures, w.as_str-then-is_child.ensures) at w.in_ok-inside.ensures) w.in_ok-push.ensures.items)
  | else-is_child w ↦ rw w.paths-is (child_passed c.args.row.now.folder c.as_slice-entry-items.result.now c.loop-entry.entry-index c.entry-item.result c.loop-entry.paths.items c.loop-entry.paths.items
      c.loop-entry-test.true c.entry-item.is c.loop-entry.invariant (sym c.is_child.ensures ∙ w.if-is_child.false) refl)
]

pub returns : goal.returns
returns c =
    IfOk-weaker c.sorted_once.result _ _
    (λ kept is. all_children c.args.row.now c.loop-entry.entry-index c.as_slice-entry-items.result.now c.loop-entry.paths.items kept c.as_slice-entry-items.ensures
    (omega (arith, c.loop-entry.auto.entry-index-end)) c.loop-entry.invariant is) c.sorted_once.ensures
