use Rattle.std.proofs.Common.{List, ap, get_or, refl, sym, ◌∙◌, subst}
use Rattle.std.proofs.lemmas.Bool.{false≢true}
use Rattle.ct_find.specs.declared.rows.Row.{Row}
use Rattle.ct_find.specs.Rows.{AddsChildren}
use Rattle.ct_find.proofs.WalkLemmas.{got_in}
use Rattle.ct_find.proofs.walking.visit.Goals as goal
use Rattle.ct_find.proofs.walking.visit.Goals.{then-start+in_ok-add_children, else-start}

pub returns-clause-row : goal.returns-clause-row
returns-clause-row g c =
    let row = c.in-Ok.ensures.row in (
      row.0,
      (
        rw c.as_str.ensures at row.2,
        rw c.as_str.ensures at row.3,
        (λ e. elim c.if-start.branch [
          | then-start+in_ok-add_children w ↦ rw w.left-is (subst (λ (r : Row). AddsChildren r c.args.left.now.items w.add_children.new.left.items) (w.index-as_slice-place.is ∙ ap (λ (rs : List Row). get_or rs c.in-Ok.place w.index-as_slice-place.result) w.as_slice.ensures ∙ (got_in c.listed.new.listing.rows c.in-Ok.place row.0 row.1).1 _) w.in_ok-add_children.ensures)
          | else-start w ↦ absurd (false≢true (sym w.if-start.false ∙ e))
        ]),
        (λ e. elim c.if-start.branch [
          | then-start+in_ok-add_children w ↦ absurd (false≢true (sym e ∙ w.if-start.true))
          | else-start w ↦ rw w.left-is refl
        ]),
      ),
    )
