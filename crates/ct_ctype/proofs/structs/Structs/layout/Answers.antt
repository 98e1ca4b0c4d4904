use Rattle.std.proofs.Common.{◌≡◌, option_copied, rules, subst}
use Rattle.ct_ctype.specs.Layout.{layout_of, AllKept, IsAcyclic}
use Rattle.ct_ctype.proofs.Growing.{kept_at}
use Rattle.ct_ctype.proofs.structs.Structs.layout.Goals as goal

pub returns-clause-kept : goal.returns-clause-kept
returns-clause-kept c =
    let e : option_copied c.as_ref.result ≡ layout_of c.args.self.now c.args.which = search rules in
    kept_at c.args.self.now (subst AllKept c.self.view_is c.self.invariant.kept) c.args.which c.as_ref.result e

pub returns-clause-acyclic : goal.returns-clause-acyclic
returns-clause-acyclic c = subst IsAcyclic c.self.view_is c.self.invariant.acyclic
