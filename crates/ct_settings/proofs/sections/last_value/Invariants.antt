use Rattle.std.proofs.Common.{◌≡◌, length}
use Rattle.std.specs.Option.{option_or, option_copied}
use Rattle.ct_settings.specs.Rows as spec
use Rattle.ct_settings.proofs.sections.last_value.Given as goal

abbrev pub invariant-loop-entry : goal.invariant-loop-entry
invariant-loop-entry l = option_or (spec.last_value l.key l.rest) (option_copied l.found) ≡ spec.last_value l.key l.fn.entries

abbrev pub decreases-loop-entry : goal.decreases-loop-entry
decreases-loop-entry l = length l.rest
