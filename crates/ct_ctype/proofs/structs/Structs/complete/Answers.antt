use Rattle.std.proofs.Common.{◌≡◌, true, Some, slice_get, sym, subst, ap, ◌∙◌}
use Rattle.ct_ctype.specs.Layout.{Table, IsSound, is_open, laid_out}
use Rattle.ct_ctype.proofs.Growing.{completed_kept, laid_again}
use Rattle.ct_ctype.proofs.Acyclic.{completed_acyclic}
use Rattle.ct_ctype.proofs.structs.Structs.complete.Goals as goal

pub invariant_of-self : goal.invariant_of-self
invariant_of-self c =
    let s = c.self.inside.layouts in
    let ms = c.args.members.items in
    let stands : is_open (slice_get s c.args.which) ≡ true =
    ap (λ (t : Table). is_open (slice_get t c.args.which)) c.self.view_is ∙ sym c.is_open.ensures ∙ c.if-not-is_open.false in
    let laid : laid_out s ms ≡ Some c.in-Some.layout = ap (λ (t : Table). laid_out t ms) c.self.view_is ∙ sym c.laid_out.ensures.value ∙ c.in-Some.is in
    let new = c.in-Some.layout in
    let again = laid_again s ms new laid in
    subst IsSound (sym c.set.ensures) (record {
      kept = completed_kept s c.args.which ms new c.self.invariant.kept stands laid c.in-Some.ensures.kept;
      acyclic = completed_acyclic s c.args.which new c.self.invariant.acyclic c.self.invariant.kept stands again;
    })
