use Rattle.ct_ctype.proofs.Acyclic.{none_acyclic, none_kept}
use Rattle.ct_ctype.proofs.structs.Structs.new.Goals as goal

pub invariant_of-result : goal.invariant_of-result
invariant_of-result c = record { kept = none_kept c.new.result c.new.ensures; acyclic = none_acyclic c.new.result c.new.ensures }
