use Rattle.std.proofs.Common.{arith, rules}
use Rattle.ct_outside.specs.Matching.{MatchesName, is_double_star}
use Rattle.ct_outside.specs.Paths.{components_of}
use Rattle.ct_outside.proofs.MatchingLemmas.{fits_none, fits_more}
use Rattle.ct_outside.proofs.matching.skip_components.Goals as goal

pub loop-part-init : goal.loop-part-init
loop-part-init c = (
  search rules,
  search rules,
  fits_none is_double_star MatchesName (components_of c.args.pattern.now) (components_of c.args.folder.now),
  omega arith,
  omega arith,
)

pub loop-part-preserved : goal.loop-part-preserved
loop-part-preserved c = (
  search rules,
  search rules,
  fits_more is_double_star MatchesName (components_of c.args.pattern.now) (components_of c.args.folder.now) (components_of c.loop-part.parts.now) (components_of c.loop-part.names.now)
      c.in-Some.part.now (components_of c.in-Some.more_parts.now) c.in-Some-first_component.name.now (components_of c.in-Some-first_component.more_names.now)
      c.loop-part.invariant.2 c.in-Some.ensures.0 c.in-Some-first_component.ensures.0 (search rules) (search rules),
  omega (arith, c.in-Some.ensures.1, c.loop-part.invariant.3),
  omega (arith, c.in-Some-first_component.ensures.1, c.loop-part.invariant.4),
)
