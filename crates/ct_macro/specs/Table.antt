-- What the table of macros keeps, and how it refuses a definition.
use Rattle.std.specs.Prelude.{◌≡◌, ℕ, ◌⊎◌, true, false, List, [], ◌∷◌}
use Rattle.std.specs.List.{list_any}
use Rattle.std.specs.declared.vec.Vec.{Vec}
use Rattle.std.specs.declared.alloc.Global.{Global}
use Rattle.ct_macro_call.specs.declared.definition.Macro.{Macro}
use Rattle.ct_macro.specs.declared.faults.MacroFault.{MacroFault}
use Rattle.ct_macro.specs.declared.faults.MacroKind.TheVariants.{BadDefinition, Redefined}
use Rattle.ct_macro_call.specs.Definition.{is_malformed, is_named, IsRedefined}

-- each macro stands under its name, and no name twice
abbrev pub IsTable : List (Vec ℕ Global × Macro) → Type 0
IsTable [] = Unit {0}
IsTable (entry ∷ entries) =
    (entry.0.items ≡ entry.1.name) × (list_any (λ other. is_named entry.1.name other.1) entries ≡ false) × IsTable entries

-- a definition that breaks a rule on its own is refused for that, another one where a different definition stands
abbrev pub Refuses : List Macro → Macro → MacroFault → Type 0
Refuses macros definition fault =
    ((is_malformed definition ≡ true) × (fault ≡ record { kind = BadDefinition; name = definition.name; line = 0 }))
    ⊎ ((is_malformed definition ≡ false) × IsRedefined macros definition × (fault ≡ record { kind = Redefined; name = definition.name; line = 0 }))
