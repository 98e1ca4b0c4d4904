use Rattle.std.proofs.Common.{List, subst}
use Rattle.ct_macro_call.specs.declared.marked.Marked.{Marked}
use Rattle.ct_macro_call.specs.Collected.{Collected}
use Rattle.ct_macro_call.proofs.Collecting.{nothing_collected}
use Rattle.ct_macro_call.proofs.calls.read_call.Goals as goal

pub loop-token-init : goal.loop-token-init
loop-token-init c = rw (c.new.ensures, c.new-2.ensures) (nothing_collected _ _)

pub returns-then-is_close : goal.returns-then-is_close
returns-then-is_close c =
    let so_far = c.loop-token.collector in
    rw c.in_ok-call.ensures.0
    (c.in_ok-call.ensures.1 c.args.most c.args.source.now c.next.new.self (subst (λ (rest : List Marked). Collected c.args.most c.args.source.now rest so_far.arguments so_far.last so_far.depth so_far.left) c.in-Some.ensures c.loop-token.invariant))
