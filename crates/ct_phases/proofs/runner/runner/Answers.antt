use Rattle.std.proofs.Common.{ℕ, List, [], ◌∷◌, map, ap, ◌∙◌}
use Rattle.ct_core.specs.declared.units.CoreFunction.{CoreFunction}
use Rattle.ct_phases.specs.Runner.{missing, main_function}
use Rattle.ct_meaning.specs.Written.{defines}
use Rattle.ct_phases.specs.Linked.{tests_in}
use Rattle.ct_phases.proofs.RunnerMade.{one_pushed, put_together, runner_made}
use Rattle.ct_phases.proofs.runner.runner.Goals as goal

pub returns : goal.returns
returns c =
    runner_made c.args.unit.now _ _ _ _ _
    (one_pushed _ _ _ _ c.new-files.ensures c.in_ok-push-2.ensures.ok c.in_ok-path.ensures)
    (put_together _ _ _ _ _ _ _ _ _ _ c.new-functions.ensures c.in_ok-push_missing.ensures c.in_ok-push_missing-2.ensures c.in_ok-push.ensures.ok
    (ap (λ (name : List ℕ). missing (defines (c.args.unit.now ∷ []) name) name) c.as_slice.ensures)
    (ap (λ (name : List ℕ). missing (defines (c.args.unit.now ∷ []) name) name) c.as_slice-2.ensures)
    (c.in_ok-main_function.ensures ∙ ap (λ (functions : List CoreFunction). main_function (tests_in functions)) c.as_slice-3.ensures))
    (c.in_ok-texts.ensures ∙ ap (λ (functions : List CoreFunction). map (λ (test : List ℕ × ℕ). test.0) (tests_in functions)) c.as_slice-4.ensures)
    c.new.ensures
