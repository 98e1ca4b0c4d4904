-- The two directions at once, for a unit; at most one tree; and where no item is.
use Rattle.std.proofs.Common.{◌≡◌, Bool, true, false, List, [], ◌∷◌, ◌++◌, Option, Some, None, refl, sym, ap, subst, ◌∙◌}
use Rattle.std.proofs.lemmas.Bool.{cond_both}
use Rattle.ct_syntax.specs.Words.{Word}
use Rattle.ct_syntax.specs.Scopes.{Scope, no_names, after_item, after_unit}
use Rattle.ct_syntax.specs.Grammar.{IsTranslationUnit}
use Rattle.ct_syntax.specs.Spelling.{spell_item, spell_unit}
use Rattle.ct_syntax.specs.Units.{SpellsItems, SpellsUnit, NoItem}
use Rattle.ct_syntax.specs.Trees as t
use Rattle.ct_grammar_machine.specs.Algebra.{Tree, trees_built}
use Rattle.ct_grammar_machine.specs.Frames.{InUnit, Mode, Begin, Stack, State}
use Rattle.ct_grammar_machine.specs.Steps.{step, then_run, run}
use Rattle.ct_grammar_machine.specs.Reading.{unit_read, unit_of, is_between, then_item, read_item}
use Rattle.ct_grammar_laws.proofs.Basics.{R}
use Rattle.ct_grammar_laws.proofs.CompleteStatements.{reads_item, reads_unit}
use Rattle.ct_grammar_laws.proofs.SoundPlaces.{Goes}
use Rattle.ct_grammar_laws.proofs.SoundStatements.{run_goes}
use Rattle.ct_grammar_laws.proofs.Append.{item-append}

-- the unit that spells the words is the one that is read
pub read : (ws : List Word) (is : List t.Item) → SpellsUnit is ws → unit_of trees_built ws ≡ Some is
read ws is h = ap (unit_of trees_built) (sym h.spelled) ∙ ap (unit_read trees_built) (reads_unit is no_names [] [] [] h.is_unit)

-- what the state behind all words says
abbrev Read : List Word → Option (State Tree) → Type 0
Read ws r = (is : List t.Item) → unit_read trees_built r ≡ Some is → SpellsUnit is ws

found : (ws : List Word) (r : Option (State Tree)) → Goes no_names (λ rest. ws ++ rest) r → Read ws r
found ws (Some (sc, InUnit js ∷ [], Begin)) h is e =
    let same : js ≡ is = cc in
    subst (λ us. SpellsUnit us ws) same (record { is_unit = subst (λ z. IsTranslationUnit z js) h.0.1.3 h.0.1.1; spelled = h.1 [] ∙ append_none ws })
  where
    append_none : (us : List Word) → us ++ [] ≡ us
    append_none [] = refl
    append_none (u ∷ us) = ap (λ vs. u ∷ vs) (append_none us)
found ws _ h is e = absurd cc

pub spells : (ws : List Word) (is : List t.Item) → unit_of trees_built ws ≡ Some is → SpellsUnit is ws
spells ws is e = found ws (run trees_built ws no_names (InUnit [] ∷ []) Begin) (run_goes no_names ws no_names (InUnit [] ∷ []) Begin (refl, (no_names, tt, refl, refl))) is e

-- what is read in a scope of the words that items spell there
read_in : (scope : Scope) (ws : List Word) (is : List t.Item) → SpellsItems scope is ws → R ws scope (InUnit [] ∷ []) Begin ≡ Some (after_unit scope is, InUnit is ∷ [], Begin)
read_in scope ws is h = ap (λ vs. R vs scope (InUnit [] ∷ []) Begin) (sym h.spelled) ∙ reads_unit is scope [] [] [] h.is_unit

-- the items that are read, or others where a production is open
abbrev pub items_of : List t.Item → Option (State Tree) → List t.Item
items_of is (Some (sc, InUnit js ∷ [], mode)) = js
items_of is _ = is

-- at most one list of items spells the words in a scope
pub one_list : (scope : Scope) (ws : List Word) (is js : List t.Item) → SpellsItems scope is ws → SpellsItems scope js ws → is ≡ js
one_list scope ws is js h k = ap (items_of []) (sym (read_in scope ws is h) ∙ read_in scope ws js k)

-- at most one unit spells the words
pub one_unit : (ws : List Word) (is js : List t.Item) → SpellsUnit is ws → SpellsUnit js ws → is ≡ js
one_unit = one_list no_names

-- ---- a unit in two parts

-- words behind the words of items stand as they are
pub unit_append : (is : List t.Item) (ws zs : List Word) → spell_unit is (ws ++ zs) ≡ spell_unit is ws ++ zs
unit_append [] ws zs = refl
unit_append (i ∷ is) ws zs = ap (spell_item i) (unit_append is ws zs) ∙ item-append i (spell_unit is ws) zs

-- the words of two lists of items
both_spelled : (is js : List t.Item) (ws : List Word) → spell_unit (is ++ js) ws ≡ spell_unit is (spell_unit js ws)
both_spelled [] js ws = refl
both_spelled (i ∷ is) js ws = ap (spell_item i) (both_spelled is js ws)

-- what a list of items spells, and the words of another behind it
pub in_two : (is js : List t.Item) → spell_unit (is ++ js) [] ≡ spell_unit is [] ++ spell_unit js []
in_two is js = both_spelled is js [] ∙ unit_append is [] (spell_unit js [])

joined_unit : (scope : Scope) (is js : List t.Item) → IsTranslationUnit scope is → IsTranslationUnit (after_unit scope is) js → IsTranslationUnit scope (is ++ js)
joined_unit scope [] js h k = k
joined_unit scope (i ∷ is) js h k = (h.0, joined_unit (after_item scope i) is js h.1 k)

front_unit : (scope : Scope) (is js : List t.Item) → IsTranslationUnit scope (is ++ js) → IsTranslationUnit scope is
front_unit scope [] js h = tt
front_unit scope (i ∷ is) js h = (h.0, front_unit (after_item scope i) is js h.1)

back_unit : (scope : Scope) (is js : List t.Item) → IsTranslationUnit scope (is ++ js) → IsTranslationUnit (after_unit scope is) js
back_unit scope [] js h = h
back_unit scope (i ∷ is) js h = back_unit (after_item scope i) is js h.1

-- items, and behind them others in the scope that they leave
pub joined : (scope : Scope) (is js : List t.Item) (us vs : List Word) → SpellsItems scope is us → SpellsItems (after_unit scope is) js vs → SpellsItems scope (is ++ js) (us ++ vs)
joined scope is js us vs h k = record {
  is_unit = joined_unit scope is js h.is_unit k.is_unit;
  spelled = in_two is js ∙ ap (λ ws. ws ++ spell_unit js []) h.spelled ∙ ap (λ ws. us ++ ws) k.spelled;
}

pub front : (scope : Scope) (is js : List t.Item) (ws : List Word) → SpellsItems scope (is ++ js) ws → SpellsItems scope is (spell_unit is [])
front scope is js ws h = record { is_unit = front_unit scope is js h.is_unit; spelled = refl }

pub back : (scope : Scope) (is js : List t.Item) (ws : List Word) → SpellsItems scope (is ++ js) ws → SpellsItems (after_unit scope is) js (spell_unit js [])
back scope is js ws h = record { is_unit = back_unit scope is js h.is_unit; spelled = refl }

-- ---- where no item is

-- what is read of words that lead to a place between two items, with other words behind them
abbrev Passes : List Word → List Word → Type 0
Passes us zs = (sc : Scope) (s : Stack Tree) (mode : Mode Tree) (sc' : Scope) (js : List t.Item) → is_between trees_built s mode ≡ false → R us sc s mode ≡ Some (sc', InUnit js ∷ [], Begin) → read_item trees_built (us ++ zs) sc s mode ≡ None → ⊥

stepped : (us zs : List Word) → Passes us zs → (sc' : Scope) (js : List t.Item) (r : Option (State Tree)) → then_run trees_built (run trees_built us) r ≡ Some (sc', InUnit js ∷ [], Begin) → then_item trees_built (read_item trees_built (us ++ zs)) (us ++ zs) r ≡ None → ⊥
stepped us zs rec sc' js None e h = cc
stepped us zs rec sc' js (Some (a, b, c)) e h =
    cond_both (is_between trees_built b c) (Some ((a, b, c), us ++ zs)) (read_item trees_built (us ++ zs) a b c) (λ (o : Option (State Tree × List Word)). o ≡ None → ⊥) (λ q k. cc) (λ q k. rec a b c sc' js q e k) h

abbrev pub between : Option (State Tree) → Bool
between None = false
between (Some (a, b, c)) = is_between trees_built b c

passes : (us zs : List Word) → Passes us zs
passes [] zs = λ sc s mode sc' js b e h. let same : is_between trees_built s mode ≡ true = ap between e in absurd cc
passes (v ∷ us) zs = λ sc s mode sc' js b e h. stepped us zs (passes us zs) sc' js (step trees_built sc s mode v) e h

pub longer : (is : List t.Item) (x : t.Item) → is ≡ is ++ x ∷ [] → ⊥
longer [] x e = cc
longer (y ∷ is) x e = longer is x (ap tail e)
  where
    tail : List t.Item → List t.Item
    tail [] = []
    tail (z ∷ zs) = zs

from_item : (us zs : List Word) (sc sc' : Scope) (is : List t.Item) (x : t.Item) → R us sc (InUnit is ∷ []) Begin ≡ Some (sc', InUnit (is ++ x ∷ []) ∷ [], Begin) → read_item trees_built (us ++ zs) sc (InUnit is ∷ []) Begin ≡ None → ⊥
from_item [] zs sc sc' is x e h = longer is x (ap (items_of is) e)
from_item (v ∷ us) zs sc sc' is x e h = stepped us zs (passes us zs) sc' (is ++ x ∷ []) (step trees_built sc (InUnit is ∷ []) Begin v) e h

-- Where nothing is read from a place between two items, no beginning of the words is an item.
pub no_item : (sc : Scope) (is : List t.Item) (vs : List Word) → read_item trees_built vs sc (InUnit is ∷ []) Begin ≡ None → NoItem sc vs
no_item sc is vs h x rest wf e =
    from_item (spell_item x []) rest sc (after_item sc x) is x (reads_item x sc [] is [] wf) (ap (λ ws. read_item trees_built ws sc (InUnit is ∷ []) Begin) (sym (item-append x [] rest) ∙ e) ∙ h)
