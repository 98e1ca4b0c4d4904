use Rattle.std.proofs.Common.{◌∙◌, ap, subst, sym, List}
use Rattle.std.specs.Map.{values_of}
use Rattle.ct_macro_call.specs.Definition.{without}
use Rattle.ct_macro.specs.Table.{IsTable}
use Rattle.ct_macro.proofs.Tables.{Entry, removed, removed_table}
use Rattle.ct_macro.proofs.table.Macros.undef.Goals as goal

pub invariant_of-self : goal.invariant_of-self
invariant_of-self c =
    subst (λ (es : List Entry). IsTable es) (sym c.shift_remove.ensures.entries) (removed_table c.args.name.now c.self.inside.table.entries c.self.invariant)

pub returns : goal.returns
returns c =
    ap values_of c.shift_remove.ensures.entries ∙ removed c.args.name.now c.self.inside.table.entries c.self.invariant
    ∙ ap (without c.args.name.now) c.self.view_is
