-- Refusals that are handed on.
use Rattle.std.proofs.Common.{◌≡◌, sym, subst}
use Rattle.std.specs.Prelude.{Err}
use Rattle.ct_base.specs.Answers.{IfFault}
use Rattle.ct_base.specs.declared.memory.Fail.{Fail}
use Rattle.ct_base.specs.declared.memory.Fail.TheVariants as fail
use Rattle.ct_base.specs.declared.refusals.Refusal.{Refusal}
use Rattle.ct_top.specs.declared.stops.Stop.{Stop}
use Rattle.ct_top.specs.declared.stops.Stop.TheVariants as stops
use Rattle.ct_top.specs.Project.{LogsOrRefusal}
use Rattle.ct_top.specs.Stops.{IfRefused, IsStopOf}

-- what a refusal says of the rest of a project it says of the project
pub refused_on : (A B : Type 0) (P Q : LogsOrRefusal → Type 0) (stop : Stop) → ((o : LogsOrRefusal) → P o → Q o)
    → IfRefused {A = A} (Err stop) (λ refusal. P (Err refusal)) → IfRefused {A = B} (Err stop) (λ refusal. Q (Err refusal))
refused_on A B P Q stops.ReadFault on h = tt
refused_on A B P Q stops.OutOfMemory on h = tt
refused_on A B P Q (stops.Refused refusal) on h = on (Err refusal) h

stopped_by : (B : Type 0) (Q : LogsOrRefusal → Type 0) (stop : Stop) (refusal : Refusal) → stop ≡ stops.Refused refusal → Q (Err refusal)
    → IfRefused {A = B} (Err stop) (λ r. Q (Err r))
stopped_by B Q stop refusal is h = let P : Stop → Type 0 = λ s. IfRefused {A = B} (Err s) (λ r. Q (Err r)) in subst P (sym is) h

no_memory : (B : Type 0) (Q : LogsOrRefusal → Type 0) (stop : Stop) → stop ≡ stops.OutOfMemory → IfRefused {A = B} (Err stop) (λ r. Q (Err r))
no_memory B Q stop is = let P : Stop → Type 0 = λ s. IfRefused {A = B} (Err s) (λ r. Q (Err r)) in subst P (sym is) tt

-- the same of a refusal that a call without a tree gave
pub fault_on : (A B : Type 0) (P Q : LogsOrRefusal → Type 0) (f : Fail Refusal) (stop : Stop) → IsStopOf f stop → ((o : LogsOrRefusal) → P o → Q o)
    → IfFault {T = A} (Err f) (λ refusal. P (Err refusal)) → IfRefused {A = B} (Err stop) (λ refusal. Q (Err refusal))
fault_on A B P Q (fail.Fault refusal) stop is on h = stopped_by B Q stop refusal is (on (Err refusal) h)
fault_on A B P Q fail.OutOfMemory stop is on h = no_memory B Q stop is
