-- The sections of the code, seen as those of the table.
use Rattle.std.specs.Prelude.{◌≡◌, ℕ, List, Result, Err}
use Rattle.ct_base.specs.declared.memory.Fail.{Fail}
use Rattle.ct_base.specs.declared.memory.Fail.TheVariants.{Fault, OutOfMemory}
use Rattle.ct_settings.specs.declared.sections.Section as declared
use Rattle.ct_settings.specs.declared.record.SettingFault.{SettingFault}
use Rattle.ct_settings.specs.declared.record.SettingKind.{SettingKind}
use Rattle.ct_settings.specs.Rows.{Section, key_of}

abbrev pub place_of : declared.Section → Section
place_of section = record { name = section.name.now; entries = section.entries.now }

-- the fault, unless memory ran out
abbrev pub IsFault : Fail SettingFault → SettingFault → Type 0
IsFault (Fault fault) wanted = fault ≡ wanted
IsFault OutOfMemory wanted = Unit {0}

-- the fault of what was read of a key
abbrev pub IsNamed : {A : Type 0} → Section → List ℕ → Result A (Fail SettingKind) → SettingFault → Type 0
IsNamed place key read fault = (read ≡ Err (Fault fault.kind)) × (fault.key ≡ key_of place key)
