use Rattle.std.proofs.Common.{◌≡◌, ◌++◌, drop, map}
use Rattle.std.specs.Option.{option_map}
use Rattle.ct_settings.specs.Values as spec
use Rattle.ct_settings.proofs.values.texts.Given as goal

abbrev pub invariant-loop-item : goal.invariant-loop-item
invariant-loop-item l = option_map (λ rest. map (λ text. text.now) l.texts.items ++ rest) (spec.list_of (drop l.item-index l.items)) ≡ spec.list_of l.items
