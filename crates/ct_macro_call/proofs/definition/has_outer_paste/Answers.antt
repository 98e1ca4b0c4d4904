use Rattle.std.proofs.Common.{arith}
use Rattle.ct_macro_call.proofs.Forms.{outer_paste}
use Rattle.ct_macro_call.proofs.definition.has_outer_paste.Goals as goal

pub returns-else-is_paste : goal.returns-else-is_paste
returns-else-is_paste c =
    let e = outer_paste c.args.body.now c.first-item.result c.last-item.result (omega arith) c.first-item.is c.last-item.is in
    grind (arith, e)
