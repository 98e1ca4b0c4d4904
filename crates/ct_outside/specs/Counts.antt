-- Counts of faults.
use Rattle.std.specs.Prelude.{◌≡◌, ℕ, ◌+◌, ◌-◌, ◌^◌, ◌≤◌, min, Result, Ok, Err}
use Rattle.ct_outside.specs.declared.tree.TreeError.{TreeError}
use Rattle.ct_outside.specs.declared.tree.TreeError.TheVariants.{Failed, OutOfMemory}

-- A count of faults never falls and is at most 2 ^ 64 - 1. It rose where it is greater than before,
-- or stands at that end.
abbrev pub Rose : ℕ → ℕ → Type 0
Rose before now = min (before + 1) (2 ^ 64 - 1) ≤ now

-- what a call leaves in the count of its faults: the count rose where the call failed, and else stays
abbrev pub CountAfter : {A : Type 0} → Result A TreeError → ℕ → ℕ → Type 0
CountAfter (Ok answer) before now = now ≡ before
CountAfter (Err OutOfMemory) before now = now ≡ before
CountAfter (Err Failed) before now = Rose before now

-- a count of calls or of faults after one more, which stands still at 2 ^ 64 - 1
abbrev pub raised : ℕ → ℕ
raised count = min (count + 1) (2 ^ 64 - 1)

-- the count of faults that a call leaves: one more where it failed, and else the same
abbrev pub faults_after : {A : Type 0} → Result A TreeError → ℕ → ℕ
faults_after (Ok answer) faults = faults
faults_after (Err OutOfMemory) faults = faults
faults_after (Err Failed) faults = raised faults
