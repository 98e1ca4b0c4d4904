use Rattle.std.proofs.Common.{refl}
use Rattle.ct_outside.specs.Matching.{FitsByte, is_star}
use Rattle.ct_outside.proofs.MatchingLemmas.{run_left, none_left}
use Rattle.ct_outside.proofs.matching.matches_name.Goals as goal

pub returns-in-Some : goal.returns-in-Some
returns-in-Some c =
    let left = run_left is_star FitsByte c.args.pattern.now c.skip_bytes.result.0.now c.args.name.now c.skip_bytes.result.1.now 42 c.in-Some.behind.now
    c.skip_bytes.ensures.skipped c.in-Some.ensures refl in
    (λ h. left.0 (c.matches_end_of_name.ensures.0 h), λ h. c.matches_end_of_name.ensures.1 (left.1 h))

pub returns-in-None : goal.returns-in-None
returns-in-None c =
    none_left is_star FitsByte c.args.pattern.now c.skip_bytes.result.0.now c.args.name.now c.skip_bytes.result.1.now c.are_empty.result
    c.skip_bytes.ensures.skipped c.in-None.ensures c.are_empty.ensures
