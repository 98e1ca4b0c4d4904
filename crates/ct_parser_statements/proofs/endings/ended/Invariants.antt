use Rattle.std.proofs.Common.{◌≡◌, length}
use Rattle.ct_parser_parts.specs.Parts.{parts_built}
use Rattle.ct_parser_parts.specs.Views.{statement_part}
use Rattle.ct_parser_state.specs.Code.{frames, scope, stack}
use Rattle.ct_grammar_machine.specs.Steps as m
use Rattle.ct_parser_statements.proofs.endings.ended.Given as goal

abbrev pub invariant-loop-frame : goal.invariant-loop-frame
invariant-loop-frame l = m.ended parts_built (scope l.state) (stack l.state) (statement_part l.done) ≡ m.ended parts_built (scope l.fn.state) (stack l.fn.state) (statement_part l.fn.done)

abbrev pub decreases-loop-frame : goal.decreases-loop-frame
decreases-loop-frame l = length (frames l.state)
