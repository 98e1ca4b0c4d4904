use Rattle.std.proofs.Common.{◌≡◌, length}
use Rattle.ct_parser_parts.specs.Parts.{parts_built}
use Rattle.ct_parser_parts.specs.Views.{expr_of}
use Rattle.ct_parser_state.specs.Code.{entries, frames, stack}
use Rattle.ct_grammar_machine.specs.Steps as m
use Rattle.ct_parser_expressions.proofs.values.reduce.Given as goal

abbrev pub invariant-loop-frame : goal.invariant-loop-frame
invariant-loop-frame l = (m.reduced parts_built l.pull (stack l.state) (expr_of l.x) ≡ m.reduced parts_built l.pull (stack l.fn.state) (expr_of l.fn.x)) × (entries l.state ≡ entries l.fn.state)

abbrev pub decreases-loop-frame : goal.decreases-loop-frame
decreases-loop-frame l = length (frames l.state)
