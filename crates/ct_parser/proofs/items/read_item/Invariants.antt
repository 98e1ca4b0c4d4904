use Rattle.std.proofs.Common.{◌≡◌, [], ◌∷◌, drop}
use Rattle.ct_syntax.specs.Words.{words}
use Rattle.ct_parser_parts.specs.Parts.{parts_built}
use Rattle.ct_parser_state.specs.Code.{scope, stack, mode_of}
use Rattle.ct_grammar_machine.specs.Frames.{InUnit, Begin}
use Rattle.ct_grammar_machine.specs.Reading.{read_item}
use Rattle.ct_parser.proofs.items.read_item.Given as goal

-- what is read of the rest is what is read of the whole
abbrev pub invariant-loop-index : goal.invariant-loop-index
invariant-loop-index l =
    read_item parts_built (words (drop l.index l.tokens)) (scope l.state) (stack l.state) (mode_of l.mode.value)
    ≡ read_item parts_built (words (drop l.fn.place l.fn.tokens)) (scope l.fn.state) (InUnit parts_built.no_items ∷ []) Begin
