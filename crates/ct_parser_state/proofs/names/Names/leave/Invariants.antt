use Rattle.std.proofs.Common.{◌≡◌, length}
use Rattle.ct_parser_state.specs.Names.{outside}
use Rattle.ct_parser_state.specs.Table.{latest_first, IsTable}
use Rattle.ct_parser_state.proofs.names.Names.leave.Given as goal

-- the names that are left, and what each means again
abbrev pub invariant-loop-entry : goal.invariant-loop-entry
invariant-loop-entry l =
    (outside (latest_first l.self-inside.rows.items) ≡ outside l.fn.self) × IsTable l.self-inside.rows.items l.self-inside.meanings.entries

abbrev pub decreases-loop-entry : goal.decreases-loop-entry
decreases-loop-entry l = length l.self-inside.rows.items
