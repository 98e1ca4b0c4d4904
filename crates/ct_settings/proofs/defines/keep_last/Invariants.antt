use Rattle.std.proofs.Common.{length}
use Rattle.ct_settings.proofs.DefineLemmas.{Seen}
use Rattle.ct_settings.proofs.defines.keep_last.Given as goal

abbrev pub invariant-loop-define : goal.invariant-loop-define
invariant-loop-define l = Seen l.fn.defines l.left l.kept.items l.names

abbrev pub decreases-loop-define : goal.decreases-loop-define
decreases-loop-define l = length l.left
