use Rattle.std.proofs.Common.{◌≤◌, List}
use Rattle.ct_macro_call.specs.declared.marked.Marked.{Marked}
use Rattle.ct_macro.specs.Expansion.{ExpansionOutcome}
use Rattle.ct_macro.specs.Machine.{Comes, weight}
use Rattle.ct_macro.proofs.expander.Expander.run.Given as goal

abbrev pub invariant-loop : goal.invariant-loop
invariant-loop l =
    (l.self.counted ≤ l.room) × ((outer : ExpansionOutcome (List Marked)) → Comes l.macros l.room l.self outer → Comes l.macros l.room l.initial.self outer)

abbrev pub decreases-loop : goal.decreases-loop
decreases-loop l = weight l.room l.self
