use Rattle.std.proofs.Common.{sym, ◌∙◌}
use Rattle.ct_meaning.proofs.Strings.{string_byte}
use Rattle.ct_meaning.proofs.phases.byte_at.Goals as goal

pub returns-in-Some : goal.returns-in-Some
returns-in-Some c =
    rw c.byte_of.ensures (string_byte c.args.at c.args.memory.now c.in_ok-load.field-0 c.in-Some.cell (sym c.load.ensures ∙ c.in_ok-load.was) (sym c.in-Some.ensures))
