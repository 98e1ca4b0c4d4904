use Rattle.std.proofs.Common.{◌≡◌, length}
use Rattle.ct_parser_parts.specs.Parts.{parts_built}
use Rattle.ct_parser_parts.specs.Views.{declarator_part}
use Rattle.ct_parser_state.specs.Code.{entries, frames, stack}
use Rattle.ct_grammar_machine.specs.Steps as m
use Rattle.ct_parser_declarators.proofs.declarators.end_pointers.Given as goal

abbrev pub invariant-loop-frame : goal.invariant-loop-frame
invariant-loop-frame l = (m.reduced_pointers parts_built (stack l.state) (declarator_part l.inner) ≡ m.reduced_pointers parts_built (stack l.fn.state) (declarator_part l.fn.inner)) × (entries l.state ≡ entries l.fn.state)

abbrev pub decreases-loop-frame : goal.decreases-loop-frame
decreases-loop-frame l = length (frames l.state)
