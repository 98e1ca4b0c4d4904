use Rattle.std.proofs.Common.{refl, List, sym, subst}
use Rattle.ct_macro_call.specs.declared.marked.Marked.{Marked}
use Rattle.ct_macro_call.specs.Calls.{AreArguments}
use Rattle.ct_macro_call.proofs.Collecting.{closed}
use Rattle.ct_macro_call.proofs.calls.Collector.closed.Goals as goal

pub returns : goal.returns
returns c = (
  refl,
  λ most tokens rest so_far.
      let whole = closed most c.args.self.left tokens rest c.args.self.arguments c.args.self.last c.args.close c.args.self.depth so_far c.requires.depth c.requires.closes in
      (whole.0, whole.1, subst (λ (l : List (List Marked)). AreArguments most whole.0 l) (sym c.in_ok-push.ensures.ok) whole.2),
)
