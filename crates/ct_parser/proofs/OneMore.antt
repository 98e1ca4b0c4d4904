-- What the functions' proofs use: a token more of an item, and an item more of a unit.
use Rattle.std.proofs.Common.{◌≡◌, ℕ, ◌+◌, ◌<◌, ◌≤◌, true, false, if◌then◌else◌, List, [], ◌∷◌, ◌++◌, map, length, drop, slice_get, get_or, Option, Some, None, refl, sym, ap, subst, ◌∙◌, arith}
use Rattle.std.proofs.lemmas.Option.{slice_get_read}
use Rattle.ct_base.specs.declared.lexical.Token.{Token}
use Rattle.ct_base.specs.declared.limits.LimitKind.{LimitKind}
use Rattle.ct_syntax.specs.Words.{Word, word, words}
use Rattle.ct_syntax.specs.Scopes.{Scope, no_names}
use Rattle.ct_syntax.specs.Trees as t
use Rattle.ct_syntax.specs.UnitViews.{view_item}
use Rattle.ct_syntax.specs.declared.statements.Item.{Item}
use Rattle.ct_grammar_machine.specs.Algebra.{items}
use Rattle.ct_parser_parts.specs.Parts.{Part, parts_built}
use Rattle.ct_grammar_machine.specs.Frames.{InUnit, Mode, Begin, Stack, State}
use Rattle.ct_grammar_machine.specs.Steps.{step}
use Rattle.ct_grammar_machine.specs.Reading.{is_begin, is_between, then_item, read_item}
use Rattle.ct_parser.specs.Parses.{Refused, Parsed, Progress, items_after, deep_after}
use Rattle.ct_parser.proofs.ItemRead.{item_seen, nothing_read}
use Rattle.ct_parser.proofs.Loop.{rest_at, drop_all, next_item, at_start, at_no_item, at_end, at_deep_end}

-- a token at a place of a list
pub found_at : (tokens : List Token) (at : ℕ) (token : Token) → at < length tokens → token ≡ get_or tokens at token → slice_get tokens at ≡ Some token
found_at tokens at token l e = slice_get_read tokens (length tokens) at token refl l e

-- ---- where no item has ended

pub not_begun : (s : Stack Part) (mode : Mode Part) → is_begin parts_built mode ≡ false → is_between parts_built s mode ≡ false
not_begun (InUnit is ∷ []) Begin h = absurd cc
not_begun _ _ h = refl

pub begun : (mode : Mode Part) → is_begin parts_built mode ≡ true → mode ≡ Begin
begun Begin h = refl
begun _ h = absurd cc

-- ---- one token more of an item

-- what is read behind a token
abbrev behind : List Token → ℕ → Option (State Part) → Option (State Part × List Word)
behind tokens at r = then_item parts_built (read_item parts_built (words (drop (at + 1) tokens))) (words (drop (at + 1) tokens)) r

read_more : (tokens : List Token) (at : ℕ) (token : Token) (scope : Scope) (s : Stack Part) (mode : Mode Part) → slice_get tokens at ≡ Some token → read_item parts_built (words (drop at tokens)) scope s mode ≡ behind tokens at (step parts_built scope s mode (word token))
read_more tokens at token scope s mode e = ap (λ z. read_item parts_built (words z) scope s mode) (rest_at tokens at token e)

pub read_refused : (tokens : List Token) (at : ℕ) (token : Token) (scope : Scope) (s : Stack Part) (mode : Mode Part) → slice_get tokens at ≡ Some token → step parts_built scope s mode (word token) ≡ None → read_item parts_built (words (drop at tokens)) scope s mode ≡ None
read_refused tokens at token scope s mode e h = read_more tokens at token scope s mode e ∙ ap (behind tokens at) h

pub read_ended : (tokens : List Token) (at : ℕ) (token : Token) (scope scope' : Scope) (s s' : Stack Part) (mode mode' : Mode Part) (p : Part items) → slice_get tokens at ≡ Some token → step parts_built scope s mode (word token) ≡ Some (scope', s', mode') → s' ≡ InUnit p ∷ [] → mode' ≡ Begin → read_item parts_built (words (drop at tokens)) scope s mode ≡ Some ((scope', InUnit p ∷ [], Begin), words (drop (at + 1) tokens))
read_ended tokens at token scope scope' s s' mode mode' p e h stack_is mode_is =
    read_more tokens at token scope s mode e
    ∙ ap (behind tokens at) h
    ∙ ap (λ z. behind tokens at (Some (scope', z, mode'))) stack_is
    ∙ ap (λ z. behind tokens at (Some (scope', InUnit p ∷ [], z))) mode_is

pub read_on : (tokens : List Token) (at : ℕ) (token : Token) (scope scope' : Scope) (s s' : Stack Part) (mode mode' : Mode Part) → slice_get tokens at ≡ Some token → step parts_built scope s mode (word token) ≡ Some (scope', s', mode') → is_between parts_built s' mode' ≡ false → read_item parts_built (words (drop at tokens)) scope s mode ≡ read_item parts_built (words (drop (at + 1) tokens)) scope' s' mode'
read_on tokens at token scope scope' s s' mode mode' e h between =
    read_more tokens at token scope s mode e
    ∙ ap (behind tokens at) h
    ∙ ap (λ z. if z then Some ((scope', s', mode'), words (drop (at + 1) tokens)) else read_item parts_built (words (drop (at + 1) tokens)) scope' s' mode') between

same_place : (n m : ℕ) → n ≤ m → m ≤ n → n ≡ m
same_place n m l k = omega (arith, l, k)

pub read_all : (tokens : List Token) (at : ℕ) (scope : Scope) (s : Stack Part) (mode : Mode Part) → at ≤ length tokens → length tokens ≤ at → read_item parts_built (words (drop at tokens)) scope s mode ≡ None
read_all tokens at scope s mode l k =
    ap (λ n. read_item parts_built (words (drop n tokens)) scope s mode) (same_place at (length tokens) l k)
    ∙ ap (λ z. read_item parts_built (words z) scope s mode) (drop_all tokens)

-- ---- one item more of a unit

pub items_joined : (xs ys : List Item) → map view_item (xs ++ ys) ≡ map view_item xs ++ map view_item ys
items_joined [] ys = refl
items_joined (x ∷ xs) ys = ap (λ z. view_item x ∷ z) (items_joined xs ys)

pub at_first : (tokens : List Token) (scope : Scope) (built : List t.Item) → scope ≡ no_names → built ≡ [] → Progress tokens 0 scope built None
at_first tokens scope built e k = subst (λ z. Progress tokens 0 z built None) (sym e) (subst (λ z. Progress tokens 0 no_names z None) (sym k) (at_start tokens))

pub item_more : (tokens : List Token) (at next : ℕ) (scope scope' : Scope) (p : Part items) (built built' : List t.Item) (deep deep' : Option (ℕ × LimitKind)) → Progress tokens at scope built deep → at < length tokens → read_item parts_built (words (drop at tokens)) scope (InUnit parts_built.no_items ∷ []) Begin ≡ Some ((scope', InUnit p ∷ [], Begin), words (drop next tokens)) → built' ≡ items_after deep built p → deep' ≡ deep_after deep at p → Progress tokens next scope' built' deep'
item_more tokens at next scope scope' p built built' deep deep' h l k e d =
    subst (λ z. Progress tokens next scope' z deep') (sym e) (
    subst (λ z. Progress tokens next scope' (items_after deep built p) z) (sym d) (
    next_item tokens at next scope scope' p (item_seen (words (drop at tokens)) (words (drop next tokens)) scope scope' p k) built deep h l))

pub no_more : (tokens : List Token) (at : ℕ) (token : Token) (scope : Scope) (built : List t.Item) (deep : Option (ℕ × LimitKind)) → Progress tokens at scope built deep → slice_get tokens at ≡ Some token → read_item parts_built (words (drop at tokens)) scope (InUnit parts_built.no_items ∷ []) Begin ≡ None → Refused tokens token.span None
no_more tokens at token scope built deep h e k = at_no_item tokens at token scope built deep h e (nothing_read (words (drop at tokens)) scope k)

pub finished : (tokens : List Token) (at : ℕ) (scope : Scope) (built : List t.Item) (deep : Option (ℕ × LimitKind)) → at ≤ length tokens → length tokens ≤ at → deep ≡ None → Progress tokens at scope built deep → Parsed tokens built
finished tokens at scope built deep l k d h =
    at_end tokens scope built (
    subst (λ n. Progress tokens n scope built None) (same_place at (length tokens) l k) (
    subst (λ z. Progress tokens at scope built z) d h))

pub deep_finished : (tokens : List Token) (at : ℕ) (scope : Scope) (built : List t.Item) (deep : Option (ℕ × LimitKind)) (place : ℕ) (kind : LimitKind) (token : Token) → at ≤ length tokens → length tokens ≤ at → deep ≡ Some (place, kind) → Progress tokens at scope built deep → slice_get tokens place ≡ Some token → Refused tokens token.span (Some kind)
deep_finished tokens at scope built deep place kind token l k d h e =
    at_deep_end tokens scope built place kind token (
    subst (λ n. Progress tokens n scope built (Some (place, kind))) (same_place at (length tokens) l k) (
    subst (λ z. Progress tokens at scope built z) d h)) e

within : (tokens : List Token) (at : ℕ) (scope : Scope) (built : List t.Item) (place : ℕ) (kind : LimitKind) → Progress tokens at scope built (Some (place, kind)) → place < length tokens
within tokens at scope built place kind h = h.reached.0

-- the place of an item that passes a limit is that of a token
pub deep_within : (tokens : List Token) (at : ℕ) (scope : Scope) (built : List t.Item) (deep : Option (ℕ × LimitKind)) (place : ℕ) (kind : LimitKind) → deep ≡ Some (place, kind) → Progress tokens at scope built deep → place < length tokens
deep_within tokens at scope built deep place kind d h = within tokens at scope built place kind (subst (λ z. Progress tokens at scope built z) d h)
