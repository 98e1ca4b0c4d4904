-- What a step that is refused, or the last one, leaves of what reads it.
use Rattle.std.proofs.Common.{◌≡◌, refl, sym, ap, subst}
use Rattle.std.specs.Prelude.{Result, Ok, Err}
use Rattle.ct_base.specs.Answers.{IfFault, OnAnswer}
use Rattle.ct_base.specs.declared.memory.Fail.{Fail}
use Rattle.ct_base.specs.declared.memory.Fail.TheVariants.{Fault, OutOfMemory}
use Rattle.ct_directive.specs.declared.faults.PreFault.{PreFault}
use Rattle.ct_preproc.specs.Reading.{DoesThen}

-- a step that is refused, or for which memory ran out, ends what reads it
pub on_stopped : {A B : Type 0} (fail : Fail PreFault) (Does : Result A PreFault → Type 0) (next : Result B PreFault → A → Type 0) (Whole : Result B PreFault → Type 0)
    → OnAnswer {T = A} {F = PreFault} (Err fail) Does → ((answer : Result B PreFault) → DoesThen Does answer (next answer) → Whole answer)
    → OnAnswer {T = B} {F = PreFault} (Err fail) Whole
on_stopped (Fault fault) Does next Whole does whole = whole (Err fault) (Err fault, does, refl)
on_stopped OutOfMemory Does next Whole does whole = tt

-- the same, where its refusal is passed on
pub on_passed : {A B : Type 0} (r : Result B (Fail PreFault)) (fail : Fail PreFault) (Does : Result A PreFault → Type 0) (next : Result B PreFault → A → Type 0)
    → r ≡ Err fail → OnAnswer {T = A} {F = PreFault} (Err fail) Does → OnAnswer r (λ answer. DoesThen Does answer (next answer))
on_passed r fail Does next passed does =
    subst (λ r. OnAnswer r (λ answer. DoesThen Does answer (next answer))) (sym passed) (on_stopped fail Does next (λ answer. DoesThen Does answer (next answer)) does (λ answer h. h))

-- what is read, and what then stands behind it
pub on_done : {A B : Type 0} (Does : Result A PreFault → Type 0) (value : A) (done : B) (after : A → B) → Does (Ok value) → done ≡ after value
    → DoesThen {A = A} {B = B} Does (Ok done) (λ found. ◌≡◌ {A = Result B PreFault} (Ok done) (Ok (after found)))
on_done Does value done after does same = (Ok value, does, ap (λ v. Ok v) same)

-- what is refused while it is read is refused
pub on_open : {A B : Type 0} (r : Result B (Fail PreFault)) (fail : Fail PreFault) (Does : Result A PreFault → Type 0) (next : Result B PreFault → A → Type 0)
    → r ≡ Err fail → IfFault {T = A} {F = PreFault} (Err fail) (λ fault. Does (Err fault)) → OnAnswer r (λ answer. DoesThen Does answer (next answer))
on_open {A} r (Fault fault) Does next passed does = on_passed {A = A} r (Fault fault) Does next passed does
on_open {A} r OutOfMemory Does next passed does = on_passed {A = A} r OutOfMemory Does next passed tt
