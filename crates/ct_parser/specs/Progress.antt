-- What one token more comes to while an item is read.
use Rattle.std.specs.Prelude.{◌≡◌, false, [], ◌∷◌, Some, None}
use Rattle.ct_parser_state.specs.Code.{PartStep, frames, scope, stack, mode_of}
use Rattle.ct_parser_state.specs.declared.state.ParserState.{ParserState}
use Rattle.ct_parser_state.specs.declared.frames.Mode.{Mode}
use Rattle.ct_grammar_machine.specs.Frames.{InUnit, Begin}
use Rattle.ct_grammar_machine.specs.Reading.{is_between}
use Rattle.ct_parser_parts.specs.Parts.{parts_built}
use Rattle.ct_parser_parts.specs.Views.{items_part}
use Rattle.ct_parser.specs.declared.items.Progress.{Progress}
use Rattle.ct_parser.specs.declared.items.Progress.TheVariants as p

-- no tree has the token there; an item ends with it; or it goes on
abbrev pub Proceeds : ParserState → Mode → Progress → PartStep → Type 0
Proceeds x next p.Refused r = r ≡ None
Proceeds x next (p.Ended all) r = (r ≡ Some (scope x, InUnit (items_part all) ∷ [], Begin)) × (frames x ≡ [])
Proceeds x next p.Open r = (r ≡ Some (scope x, stack x, mode_of next)) × (is_between parts_built (stack x) (mode_of next) ≡ false)
