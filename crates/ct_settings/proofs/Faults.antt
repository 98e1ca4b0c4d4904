-- Refusals that name their key.
use Rattle.std.proofs.Common.{◌≡◌, ℕ, List, Result, Err, sym, ap, ◌∙◌}
use Rattle.ct_base.specs.declared.memory.Fail.{Fail}
use Rattle.ct_base.specs.declared.memory.Fail.TheVariants.{Fault, OutOfMemory}
use Rattle.ct_base.specs.Answers.{IfFault}
use Rattle.ct_settings.specs.declared.record.SettingFault.{SettingFault}
use Rattle.ct_settings.specs.declared.record.SettingKind.{SettingKind}
use Rattle.ct_settings.specs.Rows.{Section, key_of}
use Rattle.ct_settings.specs.Places.{IsFault, IsNamed}

pub fault_named : {A : Type 0} (place : Section) (key named : List ℕ) (read : Result A (Fail SettingKind)) (kind : SettingKind) (fail : Fail SettingFault)
    → read ≡ Err (Fault kind) → named ≡ key_of place key → IsFault fail (record { key = named; kind = kind })
    → IfFault {T = A} (Err fail) (λ fault. IsNamed place key read fault)
fault_named place key named read kind (Fault fault) was is h =
    (was ∙ ap (λ f. Err (Fault f.kind)) (sym h), ap (λ f. f.key) h ∙ is)
fault_named place key named read kind OutOfMemory was is h = tt
