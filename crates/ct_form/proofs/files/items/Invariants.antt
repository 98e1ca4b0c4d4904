use Rattle.std.proofs.Common.{length}
use Rattle.ct_form.proofs.Items.{ItemsRead}
use Rattle.ct_form.proofs.files.items.Given as goal

abbrev pub invariant-loop-after : goal.invariant-loop-after
invariant-loop-after l = ItemsRead l.fn.tokens l.functions l.is_first l.unity l.signatures.items l.serial l.rest

abbrev pub decreases-loop-after : goal.decreases-loop-after
decreases-loop-after l = length l.rest
