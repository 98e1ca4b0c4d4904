use Rattle.std.proofs.Common.{◌∙◌, ap}
use Rattle.ct_macro_call.specs.Definition.{macro_named}
use Rattle.ct_macro.proofs.Tables.{found}
use Rattle.ct_macro.proofs.table.Macros.get.Goals as goal

pub returns : goal.returns
returns c =
    c.get.ensures.value ∙ found c.args.name.now c.self.inside.table.entries c.self.invariant
    ∙ ap (macro_named c.args.name.now) c.self.view_is
