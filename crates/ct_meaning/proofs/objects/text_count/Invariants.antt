use Rattle.std.proofs.Common.{◌≡◌, take}
use Rattle.ct_meaning.specs.World.{text_count}
use Rattle.ct_meaning.proofs.objects.text_count.Given as goal

abbrev pub invariant-loop-unit : goal.invariant-loop-unit
invariant-loop-unit l = l.count ≡ text_count l.space (take l.unit-index l.units)
