use Rattle.std.proofs.Common.{sym, subst}
use Rattle.ct_ctype.specs.Layout.{IsSound}
use Rattle.ct_ctype.proofs.Growing.{declared_kept}
use Rattle.ct_ctype.proofs.Acyclic.{declared_acyclic}
use Rattle.ct_ctype.proofs.structs.Structs.declare.Goals as goal

pub invariant_of-self : goal.invariant_of-self
invariant_of-self c = subst IsSound (sym c.in_err-push.ensures.err) c.self.invariant

pub invariant_of-self-2 : goal.invariant_of-self-2
invariant_of-self-2 c = subst IsSound (sym c.in_ok-push.ensures.ok) (record { kept = declared_kept _ c.self.invariant.kept; acyclic = declared_acyclic _ c.self.invariant.acyclic })
