use Rattle.std.proofs.Common.{◌≡◌, drop}
use Rattle.ct_meaning.specs.Rules.{without_objects}
use Rattle.ct_meaning.proofs.objects.end_all.Given as goal

-- what is left to end leaves what all leave
abbrev pub invariant-loop-object : goal.invariant-loop-object
invariant-loop-object l = without_objects (drop l.object-index l.objects) l.memory ≡ without_objects l.objects l.initial.memory
