use Rattle.std.proofs.Common.{rules, refl}
use Rattle.ct_outside.specs.Counts.{raised}
use Rattle.ct_outside.proofs.NamedLemmas.{named_too}
use Rattle.ct_outside.proofs.mem_tree.MemTreeTree.list.Goals as goal

pub returns-then-is_named-clause-failed : goal.returns-then-is_named-clause-failed
returns-then-is_named-clause-failed c =
    (λ _. named_too c.deref.result.now c.args.self.now.failing _ _ (raised c.args.self.now.lists) (search rules) (search rules) (c.if-is_named.ensures.0 refl), λ _. refl)
