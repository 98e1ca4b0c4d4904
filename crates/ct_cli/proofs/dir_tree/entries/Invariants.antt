use Rattle.std.proofs.Common.{◌≤◌, vec_len}
use Rattle.ct_cli.specs.declared.dir_tree.TheConstants.{MOST_ENTRIES}
use Rattle.ct_cli.proofs.dir_tree.entries.Given as goal

abbrev pub invariant-loop-entry : goal.invariant-loop-entry
invariant-loop-entry g l = vec_len l.entries ≤ MOST_ENTRIES
