-- What reading tokens as a unit comes to.
use Rattle.std.specs.Prelude.{◌≡◌, ℕ, ◌<◌, List, ◌∷◌, ◌++◌, length, drop, Option, Some, None, option_map}
use Rattle.ct_base.specs.declared.lexical.Span.{Span}
use Rattle.ct_base.specs.declared.lexical.Token.{Token}
use Rattle.ct_base.specs.declared.limits.LimitKind.{LimitKind}
use Rattle.ct_syntax.specs.Words.{words}
use Rattle.ct_syntax.specs.Scopes.{Scope, no_names, after_unit}
use Rattle.ct_syntax.specs.Grammar.{IsTranslationUnit}
use Rattle.ct_syntax.specs.Spelling.{spell_unit}
use Rattle.ct_syntax.specs.Depths.{all_room, passed_item}
use Rattle.ct_syntax.specs.Units.{SpellsUnit, IsShallow, Unspelled, TooDeep}
use Rattle.ct_syntax.specs.Trees as t
use Rattle.ct_grammar_machine.specs.Algebra.{items}
use Rattle.ct_parser_parts.specs.Parts.{Part}
use Rattle.ct_parser_parts.specs.Reach.{passed_by}

-- No tree spells the tokens, and the first declaration that none spells begins with that token; or a tree spells
-- them, and its first item that passes a limit of depth begins there.
abbrev pub Cause : List Token → Token → List Token → Option LimitKind → Type 0
Cause before token after None = Unspelled before token after × ((is : List t.Item) → SpellsUnit is (words (before ++ token ∷ after)) → ⊥)
Cause before token after (Some kind) = TooDeep before token after kind

-- a refusal at the place of a token
pub record Refused (tokens : List Token) (span : Span) (limit : Option LimitKind) : Type 0 where
  pub before : List Token
  pub token : Token
  pub after : List Token
  pub split : tokens ≡ before ++ token ∷ after
  pub span_is : span ≡ token.span
  pub cause : Cause before token after limit

-- the items are the tree that spells the tokens, and pass no limit of depth
abbrev pub Parsed : List Token → List t.Item → Type 0
Parsed tokens all = SpellsUnit all (words tokens) × IsShallow all

-- What is built of the items so far: all of them, or the place of the first one that passes a limit, and which.
abbrev pub Reached : List Token → List t.Item → List t.Item → Option (ℕ × LimitKind) → Type 0
Reached tokens is kept None = (kept ≡ is) × IsShallow is
Reached tokens is kept (Some (place, kind)) =
    (place < length tokens)
    × ((earlier : List t.Item) × (deep : t.Item) × (later : List t.Item) × (is ≡ earlier ++ deep ∷ later)
    × (spell_unit earlier (words (drop place tokens)) ≡ words tokens) × IsShallow earlier × (passed_item all_room deep ≡ Some kind))

-- the tokens before a place are items
pub record Progress (tokens : List Token) (place : ℕ) (scope : Scope) (kept : List t.Item) (deep : Option (ℕ × LimitKind)) : Type 0 where
  pub all : List t.Item
  pub is_unit : IsTranslationUnit no_names all
  pub spelled : spell_unit all (words (drop place tokens)) ≡ words tokens
  pub scope_is : scope ≡ after_unit no_names all
  pub reached : Reached tokens all kept deep

-- ---- one item more

-- the items with those that are built of one more, which are none where it passes a limit
abbrev pub then_built : List t.Item → Option (List t.Item) → List t.Item
then_built before None = before
then_built before (Some more) = before ++ more

-- Once one has passed a limit no more are kept.
abbrev pub items_after : Option (ℕ × LimitKind) → List t.Item → Part items → List t.Item
items_after None before p = then_built before p.built.tree
items_after (Some deep) before p = before

abbrev pub deep_here : ℕ → Option (List t.Item) → Option LimitKind → Option (ℕ × LimitKind)
deep_here place None limit = option_map (λ kind. (place, kind)) limit
deep_here place (Some more) limit = None

-- the first item that passes a limit, with one more that begins at a place
abbrev pub deep_after : Option (ℕ × LimitKind) → ℕ → Part items → Option (ℕ × LimitKind)
deep_after None place p = deep_here place p.built.tree (passed_by all_room p.built.reach)
deep_after (Some deep) place p = Some deep
