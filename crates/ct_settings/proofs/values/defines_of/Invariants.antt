use Rattle.std.proofs.Common.{◌≡◌, ◌++◌, drop, map}
use Rattle.std.specs.Option.{option_map}
use Rattle.ct_settings.specs.Values as spec
use Rattle.ct_settings.specs.Names as names
use Rattle.ct_settings.proofs.values.defines_of.Given as goal

abbrev pub invariant-loop-text : goal.invariant-loop-text
invariant-loop-text l = option_map (λ rest. l.defines ++ rest) (spec.each names.define_of (map (λ text. text.now) (drop l.text-index l.texts))) ≡ spec.each names.define_of (map (λ text. text.now) l.texts)
