use Rattle.std.proofs.Common.{rules}
use Rattle.ct_outside.specs.Paths.{components_of}
use Rattle.ct_outside.proofs.ComponentLemmas.{inside, leads_more, leaves_more}
use Rattle.ct_outside.proofs.paths.follow.Goals as goal

pub loop-component-preserved : goal.loop-component-preserved
loop-component-preserved c =
    let step = inside c.in_ok-step.field-0 _ _ (search rules) c.in_ok-step.ensures in (
      search rules,
      λ to leads. c.loop-component.invariant.1 to (leads_more (components_of c.loop-component.rest.now) c.in-Some.component.now (components_of c.in-Some.behind.now) _ _ to c.in-Some.ensures.0 step leads),
      λ leaves. c.loop-component.invariant.2 (leaves_more (components_of c.loop-component.rest.now) c.in-Some.component.now (components_of c.in-Some.behind.now) _ _ c.in-Some.ensures.0 step leaves),
    )
