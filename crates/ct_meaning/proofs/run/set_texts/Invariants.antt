use Rattle.std.proofs.Common.{◌≡◌, drop}
use Rattle.ct_meaning.specs.Program.{with_texts}
use Rattle.ct_meaning.proofs.run.set_texts.Given as goal

abbrev pub invariant-loop-text : goal.invariant-loop-text
invariant-loop-text l =
    (l.place ≡ l.text-index) × (with_texts l.unit.space l.place (drop l.text-index l.texts) l.memory ≡ with_texts l.unit.space 0 l.texts l.fn.memory)
