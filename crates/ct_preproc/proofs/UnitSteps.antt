-- What is known behind a step of the reading of a unit.
use Rattle.std.specs.Prelude.{Result, Err}
use Rattle.ct_base.specs.Answers.{IfFault, OnAnswer}
use Rattle.ct_base.specs.declared.memory.Fail.{Fail}
use Rattle.ct_base.specs.declared.memory.Fail.TheVariants.{Fault, OutOfMemory}
use Rattle.ct_directive.specs.declared.faults.PreFault.{PreFault}

-- a refusal, where it is known apart from the value
pub on_refusal : {A : Type 0} (Does : Result A PreFault → Type 0) (fail : Fail PreFault) → IfFault {T = A} (Err fail) (λ fault. Does (Err fault)) → OnAnswer (Err fail) Does
on_refusal Does (Fault fault) does = does
on_refusal Does OutOfMemory does = does
