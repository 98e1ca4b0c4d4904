use Rattle.std.proofs.Common.{ℕ, List, rules}
use Rattle.std.proofs.lemmas.List.{nil_from_length}
use Rattle.ct_token.specs.Constants.{SpellsBytes}
use Rattle.ct_token.proofs.Decoding.{empty_constant, value_of}
use Rattle.ct_token.proofs.constants.characters.Goals as goal

pub returns-then-is_empty : goal.returns-then-is_empty
returns-then-is_empty c =
    let quote = c.in-Some.quote in
    let inside = c.in-Some.inside.now in
    let found = c.in-Some-2.bytes.items in
    empty_constant c.args.text.now quote inside found c.in-Some.ensures.1
    (value_of c.in_ok-bytes.field-0 c.in-Some-2.bytes ((bytes : List ℕ) → SpellsBytes quote inside bytes → ⊥) (λ bytes. SpellsBytes quote inside bytes.items) c.in-Some-2.is c.in_ok-bytes.ensures)
    c.if-quote-eq39.true
    (nil_from_length found (search (rules, c.is_empty.ensures, c.if-is_empty.true)))
