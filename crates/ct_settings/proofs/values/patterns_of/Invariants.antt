use Rattle.std.proofs.Common.{◌≡◌, ◌++◌, drop, map}
use Rattle.std.specs.Option.{option_map}
use Rattle.ct_settings.specs.Values as spec
use Rattle.ct_settings.specs.Paths as paths
use Rattle.ct_settings.proofs.values.patterns_of.Given as goal

abbrev pub invariant-loop-text : goal.invariant-loop-text
invariant-loop-text l = option_map (λ rest. l.patterns ++ rest) (spec.each paths.pattern_of (map (λ text. text.now) (drop l.text-index l.texts))) ≡ spec.each paths.pattern_of (map (λ text. text.now) l.texts)
