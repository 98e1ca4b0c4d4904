-- What the tokens of a printed text are read as.
use Rattle.std.proofs.Common.{◌≡◌, List, [], ◌∷◌, ◌++◌, Option, Some, None, refl, sym, ap, subst, ◌∙◌}
use Rattle.ct_base.specs.declared.lexical.Token.{Token}
use Rattle.ct_base.specs.declared.lexical.Span.{Span}
use Rattle.ct_base.specs.declared.limits.LimitKind.{LimitKind}
use Rattle.ct_syntax.specs.Words.{words, text_tokens}
use Rattle.ct_syntax.specs.Scopes.{no_names}
use Rattle.ct_syntax.specs.Trees.{Item}
use Rattle.ct_syntax.specs.Spelling.{spell_unit}
use Rattle.ct_syntax.specs.Depths.{Room, all_room, or_else, passed_item, passed_unit}
use Rattle.ct_syntax.specs.Units.{SpellsUnit, IsShallow}
use Rattle.ct_token.proofs.Unique.{same_tokens}
use Rattle.ct_parser.specs.Parses.{Cause, Refused}
use Rattle.ct_grammar_laws.proofs.Units.{one_unit}
use Rattle.ct_print.specs.Text.{text_of}
use Rattle.ct_print.specs.Printed.{IsTextOf}
use Rattle.ct_print.proofs.Printed.{printed_tokens}
use Rattle.ct_print_laws.specs.TextTokens.{AreOfPrinted}

-- the tree spells them
pub spells_own : (items : List Item) (tokens : List Token) → AreOfPrinted no_names items tokens → SpellsUnit items (words tokens)
spells_own items tokens h =
    let text = text_of (spell_unit items []) in
    let own : IsTextOf no_names items h.file text = printed_tokens no_names items h.file h.printable in
    let same : own.tokens ≡ h.all = same_tokens h.file text own.tokens h.all own.tokenization h.tokenization in
    subst (λ ts. SpellsUnit items (words ts)) (ap text_tokens same ∙ sym h.kept) own.spells

-- ---- limits of depth

-- What passes none passes none in its later part.
none_later : (first later : Option LimitKind) → or_else first later ≡ None → later ≡ None
none_later None later e = e
none_later (Some k) later e = absurd cc

none_first : (first later : Option LimitKind) → or_else first later ≡ None → first ≡ None
none_first None later e = refl
none_first (Some k) later e = absurd cc

-- Items that pass none have none among them that passes one.
pub none_deep : (r : Room) (earlier : List Item) (deep : Item) (later : List Item) → passed_unit r (earlier ++ deep ∷ later) ≡ None → passed_item r deep ≡ None
none_deep r [] deep later e = none_first (passed_item r deep) (passed_unit r later) e
none_deep r (i ∷ earlier) deep later e = none_deep r earlier deep later (none_later (passed_item r i) (passed_unit r (earlier ++ deep ∷ later)) e)

-- ---- refusals

refused_at : (items : List Item) (before : List Token) (token : Token) (after : List Token) (limit : Option LimitKind) → SpellsUnit items (words (before ++ token ∷ after)) → IsShallow items → Cause before token after limit → ⊥
refused_at items before token after None spells shallow cause = cause.1 items spells
refused_at items before token after (Some kind) spells shallow cause =
    let same : items ≡ cause.earlier ++ cause.deep ∷ cause.later = one_unit (words (before ++ token ∷ after)) items (cause.earlier ++ cause.deep ∷ cause.later) spells cause.spells in
    let none : passed_item all_room cause.deep ≡ None = none_deep all_room cause.earlier cause.deep cause.later (subst IsShallow same shallow) in
    let passed : passed_item all_room cause.deep ≡ Some kind = cause.deepest in
    absurd cc

-- Tokens that a tree spells which passes no limit are not refused.
pub not_refused : (items : List Item) (tokens : List Token) (span : Span) (limit : Option LimitKind) → SpellsUnit items (words tokens) → IsShallow items → Refused tokens span limit → ⊥
not_refused items tokens span limit spells shallow h =
    refused_at items h.before h.token h.after limit (subst (λ ts. SpellsUnit items (words ts)) h.split spells) shallow h.cause

-- Tokens that a tree spells are refused by a limit alone.
pub not_unspelled : (items : List Item) (tokens : List Token) (span : Span) → SpellsUnit items (words tokens) → Refused tokens span None → ⊥
not_unspelled items tokens span spells h =
    h.cause.1 items (subst (λ ts. SpellsUnit items (words ts)) h.split spells)
