use Rattle.std.proofs.Common.{◌≡◌, [], ◌∷◌, None, map, drop, get_or}
use Rattle.std.proofs.lemmas.Option.{slice_get-get_or}
use Rattle.ct_syntax.specs.Words.{words}
use Rattle.ct_syntax.specs.UnitViews.{view_item}
use Rattle.ct_parser_parts.specs.Parts.{parts_built}
use Rattle.ct_parser_state.specs.Code.{scope}
use Rattle.ct_grammar_machine.specs.Frames.{InUnit, Begin}
use Rattle.ct_grammar_machine.specs.Reading.{read_item}
use Rattle.ct_parser.proofs.OneMore.{no_more, deep_finished, deep_within}
use Rattle.ct_parser.proofs.reader.parse.Goals as goal

pub returns-in_default-clause-refused : goal.returns-in_default-clause-refused
returns-in_default-clause-refused c =
    let tokens = c.args.tokens.now in
    let at = c.loop-place.place in
    let other = c.index-tokens-place.result in
    let none : read_item parts_built (words (drop at tokens)) (scope c.loop-place.state) (InUnit parts_built.no_items ∷ []) Begin ≡ None = rw c.in_default.is at c.in_ok-read.ensures.read in
    no_more tokens at (get_or tokens at other) (scope c.loop-place.state) (map view_item c.loop-place.items.items) c.loop-place.deep c.loop-place.invariant.0 (slice_get-get_or tokens at other c.loop-place-test.true) none

pub returns-clause-refused : goal.returns-clause-refused
returns-clause-refused c =
    let tokens = c.args.tokens.now in
    let place = c.in-Some-deep.place in
    let kind = c.in-Some-deep.kind in
    let other = c.index-tokens-place-in-Some-deep.result in
    let built = map view_item c.loop-place.items.items in
    let h = c.loop-place.invariant in
    let within = deep_within tokens c.loop-place.place (scope c.loop-place.state) built c.loop-place.deep place kind c.in-Some-deep.is h.0 in
    deep_finished tokens c.loop-place.place (scope c.loop-place.state) built c.loop-place.deep place kind (get_or tokens place other) h.2 c.loop-place-test.false c.in-Some-deep.is h.0 (slice_get-get_or tokens place other within)
