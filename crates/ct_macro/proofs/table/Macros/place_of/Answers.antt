use Rattle.std.proofs.Common.{◌∙◌, ap, sym}
use Rattle.ct_macro.specs.Expansion.{placed_macro}
use Rattle.ct_macro.proofs.Tables.{placed, placed_none}
use Rattle.ct_macro.proofs.table.Macros.place_of.Goals as goal

pub returns-in_err-place : goal.returns-in_err-place
returns-in_err-place c =
    rw c.from_residual.ensures
    (ap (placed_macro 0 c.args.name.now) (sym c.self.view_is) ∙ placed_none 0 c.args.name.now c.self.inside.table.entries c.self.invariant (sym c.in_err-place.ensures.value))

pub returns : goal.returns
returns c =
    ap (placed_macro 0 c.args.name.now) (sym c.self.view_is)
    ∙ placed c.in_ok-place.place c.args.name.now c.in_ok-place.found.now c.self.inside.table.entries c.self.invariant c.in_ok-place.ensures.index c.in_ok-place.ensures.value
