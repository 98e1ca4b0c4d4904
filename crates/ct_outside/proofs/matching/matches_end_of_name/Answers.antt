use Rattle.std.proofs.Common.{refl}
use Rattle.ct_outside.specs.Matching.{FitsByte, is_star}
use Rattle.std.proofs.lemmas.Bool.{false≢true}
use Rattle.ct_outside.specs.Skipping.{MatchesEnd}
use Rattle.ct_outside.proofs.MatchingLemmas.{found, none_from_length, next_run, next_item, no_item}
use Rattle.ct_outside.proofs.matching.matches_end_of_name.Goals as goal

pub loop-more-preserved-in-Some : goal.loop-more-preserved-in-Some
loop-more-preserved-in-Some c =
    next_run is_star FitsByte c.loop-more.behind.now c.skip_bytes.result.0.now c.loop-more.from.now c.skip_bytes.result.1.now 42 c.in-Some.more.now (MatchesEnd is_star FitsByte c.args.pattern.now c.args.name.now)
    c.skip_bytes.ensures.skipped c.in-Some.ensures refl c.loop-more.invariant

pub returns-then-are_empty : goal.returns-then-are_empty
returns-then-are_empty c =
    (λ _. found is_star FitsByte c.loop-more.behind.now c.skip_bytes.result.0.now c.loop-more.from.now c.skip_bytes.result.1.now (MatchesEnd is_star FitsByte c.args.pattern.now c.args.name.now) c.skip_bytes.ensures.skipped (c.if-are_empty.ensures.0 refl) c.loop-more.invariant, λ _. refl)

pub loop-more-preserved : goal.loop-more-preserved
loop-more-preserved c =
    next_item is_star FitsByte c.loop-more.behind.now c.skip_bytes.result.0.now c.loop-more.from.now c.skip_bytes.result.1.now c.in-Some-split_first.field-0-0.now c.in-Some-split_first.more.now (MatchesEnd is_star FitsByte c.args.pattern.now c.args.name.now)
    c.skip_bytes.ensures.skipped c.in_default.ensures (λ e. false≢true (c.if-are_empty.ensures.1 e)) c.in-Some-split_first.ensures.cases.0 c.loop-more.invariant

pub returns-in_default-split_first : goal.returns-in_default-split_first
returns-in_default-split_first c = (
  λ h. absurd (false≢true h),
  λ h. absurd (no_item is_star FitsByte c.loop-more.behind.now c.skip_bytes.result.0.now c.loop-more.from.now c.skip_bytes.result.1.now (MatchesEnd is_star FitsByte c.args.pattern.now c.args.name.now)
      c.skip_bytes.ensures.skipped c.in_default.ensures (λ e. false≢true (c.if-are_empty.ensures.1 e)) (none_from_length c.loop-more.from.now c.in_default-split_first.ensures.cases) c.loop-more.invariant h),
)
