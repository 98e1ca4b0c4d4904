use Rattle.std.proofs.Common.{rules, refl}
use Rattle.ct_outside.specs.Matching.{MatchesName, double_star, is_double_star}
use Rattle.ct_outside.specs.Paths.{components_of}
use Rattle.std.proofs.lemmas.Bool.{false≢true}
use Rattle.ct_outside.specs.Skipping.{MatchesEnd}
use Rattle.ct_outside.proofs.MatchingLemmas.{found, next_run, next_item, no_item}
use Rattle.ct_outside.proofs.matching.matches_end_of_folder.Goals as goal

pub loop-more-preserved-in-Some : goal.loop-more-preserved-in-Some
loop-more-preserved-in-Some c = (
  search rules,
  search rules,
  next_run is_double_star MatchesName (components_of c.loop-more.behind.now) (components_of c.skip_components.result.0.now) (components_of c.loop-more.from.now) (components_of c.skip_components.result.1.now) double_star (components_of c.in-Some.more.now) (MatchesEnd is_double_star MatchesName (components_of c.args.pattern.now) (components_of c.args.folder.now))
      c.skip_components.ensures.skipped c.in-Some.ensures.0 refl c.loop-more.invariant.2,
)

pub returns-then-have_no_component : goal.returns-then-have_no_component
returns-then-have_no_component c =
    (λ _. found is_double_star MatchesName (components_of c.loop-more.behind.now) (components_of c.skip_components.result.0.now) (components_of c.loop-more.from.now) (components_of c.skip_components.result.1.now) (MatchesEnd is_double_star MatchesName (components_of c.args.pattern.now) (components_of c.args.folder.now)) c.skip_components.ensures.skipped (c.if-have_no_component.ensures.0 refl) c.loop-more.invariant.2, λ _. refl)

pub loop-more-preserved : goal.loop-more-preserved
loop-more-preserved c = (
  search rules,
  search rules,
  next_item is_double_star MatchesName (components_of c.loop-more.behind.now) (components_of c.skip_components.result.0.now) (components_of c.loop-more.from.now) (components_of c.skip_components.result.1.now) c.in-Some-first_component.field-0-0.now (components_of c.in-Some-first_component.more.now) (MatchesEnd is_double_star MatchesName (components_of c.args.pattern.now) (components_of c.args.folder.now))
      c.skip_components.ensures.skipped c.in_default.ensures (λ e. false≢true (c.if-have_no_component.ensures.1 e)) c.in-Some-first_component.ensures.0 c.loop-more.invariant.2,
)

pub returns-in_default-first_component : goal.returns-in_default-first_component
returns-in_default-first_component c = (
  λ h. absurd (false≢true h),
  λ h. absurd (no_item is_double_star MatchesName (components_of c.loop-more.behind.now) (components_of c.skip_components.result.0.now) (components_of c.loop-more.from.now) (components_of c.skip_components.result.1.now) (MatchesEnd is_double_star MatchesName (components_of c.args.pattern.now) (components_of c.args.folder.now))
      c.skip_components.ensures.skipped c.in_default.ensures (λ e. false≢true (c.if-have_no_component.ensures.1 e)) c.in_default-first_component.ensures c.loop-more.invariant.2 h),
)
