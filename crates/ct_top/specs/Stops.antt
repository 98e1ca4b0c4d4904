-- How a run that is cut short leaves what it was lent.
use Rattle.std.specs.Prelude.{◌≡◌, ◌⊎◌, ℕ, List, Option, Result, Ok, Err}
use Rattle.ct_base.specs.declared.answers.Status.{Status}
use Rattle.ct_base.specs.declared.answers.Status.TheVariants.{ReadFault, WriteFault, OutFault}
use Rattle.ct_base.specs.declared.refusals.Refusal.{Refusal}
use Rattle.ct_base.specs.declared.memory.Fail.{Fail}
use Rattle.ct_base.specs.declared.memory.Fail.TheVariants as fail
use Rattle.ct_outside.specs.Counts.{Rose}
use Rattle.ct_outside.specs.Taken.{Took, TookFront}
use Rattle.ct_outside.specs.declared.tree.TreeError.{TreeError}
use Rattle.ct_outside.specs.declared.tree.TreeError.TheVariants as tree
use Rattle.ct_top.specs.declared.stops.Stop.{Stop}
use Rattle.ct_top.specs.declared.stops.Stop.TheVariants as stops

-- what a run leaves in the tree's count of read faults: it rose where a read fault ended the run, and else stays
abbrev pub ReadFaultsAfter : Status → ℕ → ℕ → Type 0
ReadFaultsAfter ReadFault before now = Rose before now
ReadFaultsAfter status before now = now ≡ before

-- the same of the tree's count of write faults
abbrev pub WriteFaultsAfter : Status → ℕ → ℕ → Type 0
WriteFaultsAfter WriteFault before now = Rose before now
WriteFaultsAfter status before now = now ≡ before

-- the same of the sink's count
abbrev pub SinkFaultsAfter : Status → ℕ → ℕ → Type 0
SinkFaultsAfter OutFault before now = Rose before now
SinkFaultsAfter status before now = now ≡ before

-- what a call that may stop a run leaves in the tree's count of read faults
abbrev pub FaultsAfter : {A : Type 0} → Result A Stop → ℕ → ℕ → Type 0
FaultsAfter (Err stops.ReadFault) before now = Rose before now
FaultsAfter (Err stops.OutOfMemory) before now = now ≡ before
FaultsAfter (Err (stops.Refused refusal)) before now = now ≡ before
FaultsAfter (Ok answer) before now = now ≡ before

-- P holds of the refusal, if the run stopped by one
abbrev pub IfRefused : {A : Type 0} → Result A Stop → (Refusal → Type 0) → Type 0
IfRefused (Err stops.ReadFault) P = Unit {0}
IfRefused (Err stops.OutOfMemory) P = Unit {0}
IfRefused (Err (stops.Refused refusal)) P = P refusal
IfRefused (Ok answer) P = Unit {0}

-- which stop an error of the tree makes
abbrev pub IsStopFor : TreeError → Stop → Type 0
IsStopFor tree.Failed stop = stop ≡ stops.ReadFault
IsStopFor tree.OutOfMemory stop = stop ≡ stops.OutOfMemory

-- which stop a refusal or want of memory makes
abbrev pub IsStopOf : Fail Refusal → Stop → Type 0
IsStopOf (fail.Fault refusal) stop = stop ≡ stops.Refused refusal
IsStopOf fail.OutOfMemory stop = stop ≡ stops.OutOfMemory

-- what is left in the count of read faults: it rose where the run ended by a read fault, and else stays
abbrev pub AnswerFaultsAfter : {A : Type 0} → Result A Status → ℕ → ℕ → Type 0
AnswerFaultsAfter (Ok answer) before now = now ≡ before
AnswerFaultsAfter (Err status) before now = ReadFaultsAfter status before now

-- how a run ends that writes a text: with this status and the whole text, or by a fault of the sink and a front of it
abbrev pub Ends : Status → Option (List ℕ) → Option (List ℕ) → List ℕ → Status → Type 0
Ends result before now text status = ((result ≡ status) × Took before now text) ⊎ ((result ≡ OutFault) × TookFront before now text)
