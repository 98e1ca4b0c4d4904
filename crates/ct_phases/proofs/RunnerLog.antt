-- The log of a test file by its runner.
use Rattle.std.proofs.Common.{◌≡◌, ◌≢◌, ℕ, List, [], ◌∷◌, Result, Ok, Err, ap, ◌∙◌}
use Rattle.std.specs.Prelude.{All, IfOk, codes}
use Rattle.ct_base.specs.declared.memory.OutOfMemory.{OutOfMemory}
use Rattle.ct_report.specs.declared.logs.RunLog.{RunLog}
use Rattle.ct_core.specs.declared.units.CoreUnit.{CoreUnit}
use Rattle.ct_core.specs.declared.units.CoreFunction.{CoreFunction}
use Rattle.ct_core.specs.declared.units.Definition.{Definition}
use Rattle.ct_meaning.specs.Program.{plain_world, log_of}
use Rattle.ct_meaning.specs.Written.{written_world, written_log}
use Rattle.ct_phases.specs.Linked.{IsTestProject, AreNamedApart, table_in_order, runner_of}
use Rattle.ct_phases.proofs.RunnerWhole.{log_same}
use Rattle.ct_phases.proofs.RunnerApart.{runner_apart}
use Rattle.ct_phases.proofs.TableInOrder.{linked}

module _ (unit : CoreUnit) (path : List ℕ) (budget : ℕ) (project : IsTestProject (unit ∷ [])) (apart : AreNamedApart (unit ∷ [])) (no_main : All (λ (f : CoreFunction). f.name ≢ codes "main") unit.functions) where
  abbrev all : List CoreUnit
  all = unit ∷ runner_of path (unit ∷ []) ∷ []

  file_log : log_of (plain_world all (table_in_order all) budget) ≡ written_log (written_world (unit ∷ []) (table_in_order all) budget)
  file_log = log_same (unit ∷ []) (table_in_order all) budget path project (linked all (runner_apart unit path apart no_main))

  pub written_so : (r : Result RunLog OutOfMemory) → IfOk r (λ log. log ≡ log_of (plain_world all (table_in_order all) budget))
      → IfOk r (λ log. log ≡ written_log (written_world (unit ∷ []) (table_in_order all) budget))
  written_so (Ok log) e = e ∙ file_log
  written_so (Err e) h = tt

pub same_log : (unit made : CoreUnit) (budget : ℕ) (units : List CoreUnit) (functions : List Definition) (runner : CoreUnit) (r : Result RunLog OutOfMemory)
    → made ≡ runner → units ≡ unit ∷ made ∷ [] → functions ≡ table_in_order units
    → IfOk r (λ log. log ≡ log_of (plain_world units functions budget))
    → IfOk r (λ log. log ≡ log_of (plain_world (unit ∷ runner ∷ []) (table_in_order (unit ∷ runner ∷ [])) budget))
same_log unit made budget units functions runner (Ok log) is them table e =
    e ∙ ap (λ (functions : List Definition). log_of (plain_world units functions budget)) table
    ∙ ap (λ (units : List CoreUnit). log_of (plain_world units (table_in_order units) budget)) (them ∙ ap (λ (r : CoreUnit). unit ∷ r ∷ []) is)
same_log unit made budget units functions runner (Err e) is them table h = tt
