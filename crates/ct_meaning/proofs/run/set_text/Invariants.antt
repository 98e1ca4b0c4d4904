use Rattle.std.proofs.Common.{◌≡◌}
use Rattle.ct_core.specs.Memory.{with_new}
use Rattle.ct_meaning.proofs.Texts.{stored_object}
use Rattle.ct_meaning.proofs.run.set_text.Given as goal

abbrev pub invariant-loop-offset : goal.invariant-loop-offset
invariant-loop-offset l = l.memory ≡ with_new l.fn.space (stored_object l.place l.text l.offset) l.fn.memory
