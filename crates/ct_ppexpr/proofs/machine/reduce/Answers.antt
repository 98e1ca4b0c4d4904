use Rattle.std.proofs.Common.{length, sym, ap, ◌∙◌, arith}
use Rattle.ct_ppexpr.specs.Machine as m
use Rattle.ct_ppexpr.specs.Machine.{values}
use Rattle.ct_ppexpr.specs.View.{frame_of, stack}
use Rattle.ct_ppexpr.proofs.Stacks.{reduce_stops, reduce_goes}
use Rattle.ct_ppexpr.proofs.machine.reduce.Goals as goal

pub returns-then-holds-pull : goal.returns-then-holds-pull
returns-then-holds-pull c =
    sym c.loop-frame.invariant
    ∙ ap (λ s. m.reduced values c.args.pull s c.loop-frame.x) c.in-Some.ensures
    ∙ reduce_stops values c.args.pull (frame_of c.in-Some.frame) (stack c.pop.new.self) c.loop-frame.x (omega (arith, c.holds.ensures, c.if-holds-pull.true))
    ∙ ap (λ s. (s, c.loop-frame.x)) (sym c.in_ok-push.ensures)

pub loop-frame-preserved : goal.loop-frame-preserved
loop-frame-preserved c =
    ap (λ x. m.reduced values c.args.pull (stack c.pop.new.self) x) c.plug-x.ensures
    ∙ sym (reduce_goes values c.args.pull (frame_of c.in-Some.frame) (stack c.pop.new.self) c.loop-frame.x (omega (arith, c.holds.ensures, c.if-holds-pull.false)))
    ∙ ap (λ s. m.reduced values c.args.pull s c.loop-frame.x) (sym c.in-Some.ensures)
    ∙ c.loop-frame.invariant

pub loop-frame-smaller : goal.loop-frame-smaller
loop-frame-smaller c = omega (arith, ap length c.in-Some.ensures)
