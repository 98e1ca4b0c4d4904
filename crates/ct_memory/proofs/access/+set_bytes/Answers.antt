use Rattle.std.proofs.Common.{◌≡◌, ◌∙◌, ap, arith, sym, ℕ, List, map}
use Rattle.std.proofs.Common.{◌+◌, ◌-◌, ◌/◌}
use Rattle.ct_core.specs.Access as spec
use Rattle.ct_core.specs.declared.values.Cell.TheVariants.{Byte}
use Rattle.ct_memory.proofs.Cells.{bytes_stored}
use Rattle.ct_memory.proofs.access.+set_bytes.Goals as goal

pub returns : goal.returns
returns t c =
    c.set_bytes.ensures ∙ ap (λ cs. spec.cells_with (c.args.at + 1) (map Byte (spec.bytes_in (c.args.count - 1) (c.args.bits / 256))) cs) c.set.ensures
    ∙ bytes_stored c.args.at c.args.count c.args.bits c.args.cells.now c.requires.inside (omega arith)
