use Rattle.std.proofs.Common.{refl}
use Rattle.ct_outside.specs.Matching.{MatchesName, double_star, is_double_star}
use Rattle.ct_outside.specs.Paths.{components_of}
use Rattle.ct_outside.proofs.MatchingLemmas.{run_left, none_left}
use Rattle.ct_outside.proofs.matching.matches.Goals as goal

pub returns-in-Some : goal.returns-in-Some
returns-in-Some c =
    let left = run_left is_double_star MatchesName (components_of c.args.pattern.now) (components_of c.skip_components.result.0.now) (components_of c.args.folder.now)
    (components_of c.skip_components.result.1.now) double_star (components_of c.in-Some.behind.now)
    c.skip_components.ensures.skipped c.in-Some.ensures.0 refl in
    (λ h. left.0 (c.matches_end_of_folder.ensures.0 h), λ h. c.matches_end_of_folder.ensures.1 (left.1 h))

pub returns-in-None : goal.returns-in-None
returns-in-None c =
    none_left is_double_star MatchesName (components_of c.args.pattern.now) (components_of c.skip_components.result.0.now) (components_of c.args.folder.now)
    (components_of c.skip_components.result.1.now) c.have_no_component.result
    c.skip_components.ensures.skipped c.in-None.ensures c.have_no_component.ensures
