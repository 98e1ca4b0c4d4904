-- What a call that may want memory answers.
use Rattle.std.specs.Prelude.{Result, Ok, Err}
use Rattle.ct_base.specs.declared.memory.Fail.{Fail}
use Rattle.ct_base.specs.declared.memory.Fail.TheVariants.{Fault, OutOfMemory}

-- P holds of the value or of the fault, unless memory ran out.
abbrev pub OnAnswer : {T F : Type 0} → Result T (Fail F) → (Result T F → Type 0) → Type 0
OnAnswer (Ok value) P = P (Ok value)
OnAnswer (Err (Fault fault)) P = P (Err fault)
OnAnswer (Err OutOfMemory) P = Unit {0}

-- P holds of the fault, if there is one.
abbrev pub IfFault : {T F : Type 0} → Result T (Fail F) → (F → Type 0) → Type 0
IfFault (Ok value) P = Unit {0}
IfFault (Err (Fault fault)) P = P fault
IfFault (Err OutOfMemory) P = Unit {0}
