-- Which tokens a unit spells, and where tokens stop to be a unit.
use Rattle.std.specs.Prelude.{◌≡◌, List, [], ◌∷◌, ◌++◌, Some, None}
use Rattle.ct_base.specs.declared.lexical.Token.{Token}
use Rattle.ct_base.specs.declared.limits.LimitKind.{LimitKind}
use Rattle.ct_syntax.specs.Words.{Word, words}
use Rattle.ct_syntax.specs.Trees.{Item}
use Rattle.ct_syntax.specs.Scopes.{Scope, no_names, after_unit}
use Rattle.ct_syntax.specs.Grammar.{IsItem, IsTranslationUnit}
use Rattle.ct_syntax.specs.Spelling.{spell_item, spell_unit}
use Rattle.ct_syntax.specs.Depths.{all_room, passed_item, passed_unit}

-- Behind declarations that left a scope, the items are items of the grammar, and spell the words, all of them.
pub record SpellsItems (scope : Scope) (items : List Item) (ws : List Word) : Type 0 where
  pub is_unit : IsTranslationUnit scope items
  pub spelled : spell_unit items [] ≡ ws

-- The items are a unit of the grammar, and spell the words, all of them.
abbrev pub SpellsUnit : List Item → List Word → Type 0
SpellsUnit items ws = SpellsItems no_names items ws

-- no limit of depth is passed
abbrev pub IsShallow : List Item → Type 0
IsShallow items = passed_unit all_room items ≡ None

-- No beginning of the words is one item, in a scope.
abbrev pub NoItem : Scope → List Word → Type 0
NoItem scope ws = (i : Item) (rest : List Word) → IsItem scope i → spell_item i rest ≡ ws → ⊥

-- The tokens before a token are spelled as items, and no beginning of the rest is one further item: the token is
-- the first one of the first external declaration that no tree spells.
pub record Unspelled (before : List Token) (token : Token) (after : List Token) : Type 0 where
  pub items : List Item
  pub spells : SpellsUnit items (words before)
  pub no_item : NoItem (after_unit no_names items) (words (token ∷ after))

-- The first item that passes a limit of depth begins with a token, and this limit is the first that it passes.
pub record TooDeep (before : List Token) (token : Token) (after : List Token) (kind : LimitKind) : Type 0 where
  pub earlier : List Item
  pub deep : Item
  pub later : List Item
  pub spells : SpellsUnit (earlier ++ deep ∷ later) (words (before ++ token ∷ after))
  pub behind : spell_unit earlier [] ≡ words before
  pub shallow : IsShallow earlier
  pub deepest : passed_item all_room deep ≡ Some kind
