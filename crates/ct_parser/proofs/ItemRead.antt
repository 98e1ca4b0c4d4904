-- What is read of the words up to the end of the first item is that item.
use Rattle.std.proofs.Common.{◌≡◌, ℕ, suc, Bool, true, false, if◌then◌else◌, List, [], ◌∷◌, ◌++◌, length, Option, Some, None, refl, sym, ap, subst, ◌∙◌, arith, length-append}
use Rattle.std.specs.Prelude.{option_map}
use Rattle.std.proofs.lemmas.Bool.{cond_both}
use Rattle.ct_syntax.specs.Words.{Word}
use Rattle.ct_syntax.specs.Scopes.{Scope, after_item, after_unit}
use Rattle.ct_syntax.specs.Grammar.{IsItem, IsTranslationUnit}
use Rattle.ct_syntax.specs.Spelling.{spell_item, spell_unit}
use Rattle.ct_syntax.specs.Units.{NoItem}
use Rattle.ct_syntax.specs.Trees as t
use Rattle.ct_grammar_machine.specs.Algebra.{items, Tree, trees_built}
use Rattle.ct_parser_parts.specs.Parts.{Part, part, parts_built}
use Rattle.ct_grammar_machine.specs.Frames.{InUnit, Mode, Begin, Stack, State}
use Rattle.ct_grammar_machine.specs.Steps.{step, then_run, run}
use Rattle.ct_grammar_machine.specs.Reading.{unit_read, is_between, then_item, read_item}
use Rattle.ct_grammar_laws.proofs.Basics.{R}
use Rattle.ct_grammar_laws.proofs.CompleteStatements.{reads_item}
use Rattle.ct_grammar_laws.proofs.SoundPlaces.{Goes}
use Rattle.ct_grammar_laws.proofs.SoundStatements.{run_goes}
use Rattle.ct_grammar_laws.proofs.Append.{item-append}
use Rattle.ct_grammar_laws.proofs.Map.{map_stack, map_mode, map_step}
use Rattle.ct_grammar_laws.proofs.MapStatements.{step_map}
use Rattle.ct_parser.proofs.PartsMap.{parts_hom}
use Rattle.ct_parser.proofs.Tells.{unit_same}
use Rattle.ct_grammar_laws.proofs.Units.{between, longer, items_of, no_item}

abbrev At : Type 0
At = State Tree × List Word

abbrev words_of : List Word → Option At → List Word
words_of ws None = ws
words_of ws (Some (st, rest)) = rest

abbrev state_of : State Tree → Option At → State Tree
state_of st None = st
state_of st (Some (st', rest)) = st'

-- ---- the words that are read

abbrev Front : List Word → State Tree → List Word → Option (State Tree) → Type 0
Front ws st rest r = (us : List Word) × (us ++ rest ≡ ws) × (then_run trees_built (run trees_built us) r ≡ Some st)

abbrev Fronts : List Word → Type 0
Fronts ws = (sc : Scope) (s : Stack Tree) (mode : Mode Tree) (st : State Tree) (rest : List Word) → read_item trees_built ws sc s mode ≡ Some (st, rest) → (us : List Word) × (us ++ rest ≡ ws) × (R us sc s mode ≡ Some st)

front_step : (ws : List Word) → Fronts ws → (r : Option (State Tree)) (st : State Tree) (rest : List Word) → then_item trees_built (read_item trees_built ws) ws r ≡ Some (st, rest) → Front ws st rest r
front_step ws rec None st rest h = absurd cc
front_step ws rec (Some (a, b, c)) st rest h =
    cond_both (is_between trees_built b c) (Some ((a, b, c), ws)) (read_item trees_built ws a b c) (λ (o : Option At). o ≡ Some (st, rest) → Front ws st rest (Some (a, b, c)))
    (λ q k. ([], sym (ap (words_of ws) k), ap (λ o. Some (state_of st o)) k))
    (λ q k. rec a b c st rest k) h

fronts : (ws : List Word) → Fronts ws
fronts [] sc s mode st rest h = absurd cc
fronts (v ∷ ws) sc s mode st rest h =
    let found = front_step ws (fronts ws) (step trees_built sc s mode v) st rest h in
    (v ∷ found.0, ap (λ us. v ∷ us) found.1, found.2)

-- ---- where reading stops

abbrev Stops : List Word → List Word → Type 0
Stops us zs = (sc : Scope) (s : Stack Tree) (mode : Mode Tree) (sc' : Scope) (js : List t.Item) (st : State Tree) (rest : List Word) → is_between trees_built s mode ≡ false → R us sc s mode ≡ Some (sc', InUnit js ∷ [], Begin) → read_item trees_built (us ++ zs) sc s mode ≡ Some (st, rest) → (vs : List Word) × (rest ≡ vs ++ zs)

stops_step : (us zs : List Word) → Stops us zs → (sc' : Scope) (js : List t.Item) (st : State Tree) (rest : List Word) (r : Option (State Tree)) → then_run trees_built (run trees_built us) r ≡ Some (sc', InUnit js ∷ [], Begin) → then_item trees_built (read_item trees_built (us ++ zs)) (us ++ zs) r ≡ Some (st, rest) → (vs : List Word) × (rest ≡ vs ++ zs)
stops_step us zs rec sc' js st rest None e h = absurd cc
stops_step us zs rec sc' js st rest (Some (a, b, c)) e h =
    cond_both (is_between trees_built b c) (Some ((a, b, c), us ++ zs)) (read_item trees_built (us ++ zs) a b c) (λ (o : Option At). o ≡ Some (st, rest) → (vs : List Word) × (rest ≡ vs ++ zs))
    (λ q k. (us, sym (ap (words_of rest) k)))
    (λ q k. rec a b c sc' js st rest q e k) h

stops : (us zs : List Word) → Stops us zs
stops [] zs = λ sc s mode sc' js st rest b e h. let same : is_between trees_built s mode ≡ true = ap between e in absurd cc
stops (v ∷ us) zs = λ sc s mode sc' js st rest b e h. stops_step us zs (stops us zs) sc' js st rest (step trees_built sc s mode v) e h

stops_item : (us zs : List Word) (sc sc' : Scope) (is : List t.Item) (x : t.Item) (st : State Tree) (rest : List Word) → R us sc (InUnit is ∷ []) Begin ≡ Some (sc', InUnit (is ++ x ∷ []) ∷ [], Begin) → read_item trees_built (us ++ zs) sc (InUnit is ∷ []) Begin ≡ Some (st, rest) → (vs : List Word) × (rest ≡ vs ++ zs)
stops_item [] zs sc sc' is x st rest e h = absurd (longer is x (ap (items_of is) e))
stops_item (v ∷ us) zs sc sc' is x st rest e h = stops_step us zs (stops us zs) sc' (is ++ x ∷ []) st rest (step trees_built sc (InUnit is ∷ []) Begin v) e h

-- ---- the item

pub unit-append : (is : List t.Item) (rest : List Word) → spell_unit is rest ≡ spell_unit is [] ++ rest
unit-append [] rest = refl
unit-append (x ∷ is) rest = ap (spell_item x) (unit-append is rest) ∙ item-append x (spell_unit is []) rest

pub item_some : (x : t.Item) (sc : Scope) → IsItem sc x → spell_item x [] ≡ [] → ⊥
item_some x sc wf e =
    longer [] x (ap (items_of []) (ap (λ us. R us sc (InUnit [] ∷ []) Begin) (sym e) ∙ reads_item x sc [] [] [] wf))

-- the words of a unit are none only where it has no item
none_left : (is : List t.Item) (sc : Scope) → IsTranslationUnit sc is → length (spell_unit is []) ≡ 0 → is ≡ []
none_left [] sc wf e = refl
none_left (x ∷ is) sc wf e =
    let same = ap length (item-append x [] (spell_unit is [])) ∙ length-append (spell_item x []) (spell_unit is []) in
    absurd (item_some x sc wf.0 (no_length (spell_item x []) (omega (arith, e, same))))
  where
    no_length : (ws : List Word) → length ws ≡ 0 → ws ≡ []
    no_length [] e = refl
    no_length (w ∷ ws) e = absurd (omega (arith, e))

-- the item, and the scope behind it
pub record ItemIs (sc : Scope) (ws rest : List Word) (sc' : Scope) (is : List t.Item) : Type 0 where
  pub item : t.Item
  pub is_item : IsItem sc item
  pub spelled : spell_item item rest ≡ ws
  pub scope : sc' ≡ after_item sc item
  pub alone : is ≡ item ∷ []

only_one : (sc sc' : Scope) (ws rest : List Word) (is : List t.Item) → IsTranslationUnit sc is → spell_unit is rest ≡ ws → sc' ≡ after_unit sc is → read_item trees_built ws sc (InUnit [] ∷ []) Begin ≡ Some ((sc', InUnit is ∷ [], Begin), rest) → (us : List Word) → us ++ rest ≡ ws → (length us ≡ 0 → ⊥) → R us sc (InUnit [] ∷ []) Begin ≡ Some (sc', InUnit is ∷ [], Begin) → ItemIs sc ws rest sc' is
only_one sc sc' ws rest [] wf e f h us g some r = let lengths = length-append us rest in let same = ap length (g ∙ sym e) in absurd (some (omega (arith, lengths, same)))
only_one sc sc' ws rest (x ∷ is) wf e f h us g some r =
    let split = ap (spell_item x) (unit-append is rest) in
    let whole : spell_item x [] ++ (spell_unit is [] ++ rest) ≡ ws = sym (item-append x [] (spell_unit is [] ++ rest)) ∙ sym split ∙ e in
    let stop = stops_item (spell_item x []) (spell_unit is [] ++ rest) sc (after_item sc x) [] x (sc', InUnit (x ∷ is) ∷ [], Begin) rest (reads_item x sc [] [] [] wf.0) (ap (λ us. read_item trees_built us sc (InUnit [] ∷ []) Begin) whole ∙ h) in
    let lengths = ap length stop.1 ∙ length-append stop.0 (spell_unit is [] ++ rest) in
    let more = length-append (spell_unit is []) rest in
    let none = none_left is (after_item sc x) wf.1 (omega (arith, lengths, more)) in
    record { item = x; is_item = wf.0; spelled = ap (λ js. spell_item x (spell_unit js rest)) (sym none) ∙ e; scope = f ∙ ap (λ js. after_unit (after_item sc x) js) none; alone = ap (λ js. x ∷ js) none }

pub item_found : (ws rest : List Word) (sc sc' : Scope) (is : List t.Item) → read_item trees_built ws sc (InUnit [] ∷ []) Begin ≡ Some ((sc', InUnit is ∷ [], Begin), rest) → ItemIs sc ws rest sc' is
item_found [] rest sc sc' is h = absurd cc
item_found (v ∷ ws) rest sc sc' is h =
    let front = front_step ws (fronts ws) (step trees_built sc (InUnit [] ∷ []) Begin v) (sc', InUnit is ∷ [], Begin) rest h in
    let us = v ∷ front.0 in
    let goes : Goes sc (λ more. us ++ more) (Some (sc', InUnit is ∷ [], Begin)) = subst (Goes sc (λ more. us ++ more)) front.2 (run_goes sc us sc (InUnit [] ∷ []) Begin (refl, (sc, tt, refl, refl))) in
    let words = ap (λ ws. v ∷ ws) front.1 in
    only_one sc sc' (v ∷ ws) rest is (subst (λ z. IsTranslationUnit z is) goes.0.1.3 goes.0.1.1) (goes.1 rest ∙ words) (goes.0.1.2 ∙ ap (λ z. after_unit z is) goes.0.1.3) h us words (λ e. no_zero (length front.0) e) front.2
  where
    no_zero : (n : ℕ) → suc n ≡ 0 → ⊥
    no_zero n e = absurd (omega (arith, e))

-- ---- up to the limits of depth

abbrev pub to_at : Option At → Option (State Part × List Word)
to_at None = None
to_at (Some ((sc, s, mode), rest)) = Some ((sc, map_stack part s, map_mode part mode), rest)

between_same : (s : Stack Tree) (mode : Mode Tree) → is_between parts_built (map_stack part s) (map_mode part mode) ≡ is_between trees_built s mode
between_same (InUnit is ∷ []) Begin = refl
between_same _ _ = refl

then_same : (ws : List Word) (r : Option (State Tree)) → ((sc : Scope) (s : Stack Tree) (mode : Mode Tree) → read_item parts_built ws sc (map_stack part s) (map_mode part mode) ≡ to_at (read_item trees_built ws sc s mode)) → then_item parts_built (read_item parts_built ws) ws (map_step part r) ≡ to_at (then_item trees_built (read_item trees_built ws) ws r)
then_same ws None rec = refl
then_same ws (Some (sc, s, mode)) rec =
    ap (λ z. if z then Some ((sc, map_stack part s, map_mode part mode), ws) else read_item parts_built ws sc (map_stack part s) (map_mode part mode)) (between_same s mode)
    ∙ by (is_between trees_built s mode)
  where
    by : (z : Bool) → (if z then Some ((sc, map_stack part s, map_mode part mode), ws) else read_item parts_built ws sc (map_stack part s) (map_mode part mode)) ≡ to_at (if z then Some ((sc, s, mode), ws) else read_item trees_built ws sc s mode)
    by true = refl
    by false = rec sc s mode

pub read_same : (ws : List Word) (sc : Scope) (s : Stack Tree) (mode : Mode Tree) → read_item parts_built ws sc (map_stack part s) (map_mode part mode) ≡ to_at (read_item trees_built ws sc s mode)
read_same [] sc s mode = refl
read_same (v ∷ ws) sc s mode = ap (then_item parts_built (read_item parts_built ws) ws) (step_map trees_built parts_built part parts_hom sc s mode v) ∙ then_same ws (step trees_built sc s mode v) (read_same ws)

none_too : (o : Option At) → to_at o ≡ None → o ≡ None
none_too None e = refl
none_too (Some ((sc, s, mode), rest)) e = absurd cc

-- where nothing is read, no beginning of the words is an item
pub nothing_read : (ws : List Word) (sc : Scope) → read_item parts_built ws sc (InUnit parts_built.no_items ∷ []) Begin ≡ None → NoItem sc ws
nothing_read ws sc h = no_item sc [] ws (none_too (read_item trees_built ws sc (InUnit [] ∷ []) Begin) (sym (read_same ws sc (InUnit [] ∷ []) Begin) ∙ h))

-- ---- what is seen of an item

pub record ItemSeen (sc : Scope) (ws rest : List Word) (sc' : Scope) (p : Part items) : Type 0 where
  pub item : t.Item
  pub is_item : IsItem sc item
  pub spelled : spell_item item rest ≡ ws
  pub scope : sc' ≡ after_item sc item
  pub seen : p ≡ part items (item ∷ [])

seen_by : (ws rest : List Word) (sc sc' : Scope) (p : Part items) (is : List t.Item) → p ≡ part items is → ItemIs sc ws rest sc' is → ItemSeen sc ws rest sc' p
seen_by ws rest sc sc' p is e h = record { item = h.item; is_item = h.is_item; spelled = h.spelled; scope = h.scope; seen = e ∙ ap (part items) h.alone }

unit_is : (a : Scope) (s : Stack Tree) (mode : Mode Tree) (is : List t.Item) → unit_read trees_built (Some (a, s, mode)) ≡ Some is → ◌≡◌ {A = Option (State Tree)} (Some (a, s, mode)) (Some (a, InUnit is ∷ [], Begin))
unit_is a (InUnit js ∷ []) Begin is e = ap (λ (us : List t.Item). Some (a, InUnit us ∷ [], Begin)) (inside e)
  where
    inside : Some js ≡ Some is → js ≡ is
    inside h = cc
unit_is a _ _ is e = absurd cc

abbrev unit_at : Option (State Part × List Word) → Option (Part items)
unit_at None = None
unit_at (Some (st, rest)) = unit_read parts_built (Some st)

abbrev scope_at : Scope → Option (State Part × List Word) → Scope
scope_at sc None = sc
scope_at sc (Some ((a, s, mode), rest)) = a

abbrev rest_at : List Word → Option (State Part × List Word) → List Word
rest_at ws None = ws
rest_at ws (Some (st, rest)) = rest

from_some : (o : Option (List t.Item)) (p : Part items) → option_map (part items) o ≡ Some p → (is : List t.Item) × (o ≡ Some is) × (p ≡ part items is)
from_some None p e = absurd cc
from_some (Some is) p e = (is, refl, cc)

abbrev with_rest : List Word → Option (State Tree) → Option At
with_rest left None = None
with_rest left (Some st) = Some (st, left)

pub item_seen : (ws rest : List Word) (sc sc' : Scope) (p : Part items) → read_item parts_built ws sc (InUnit parts_built.no_items ∷ []) Begin ≡ Some ((sc', InUnit p ∷ [], Begin), rest) → ItemSeen sc ws rest sc' p
item_seen ws rest sc sc' p h = by (read_item trees_built ws sc (InUnit [] ∷ []) Begin) refl (sym (read_same ws sc (InUnit [] ∷ []) Begin) ∙ h)
  where
    by : (o : Option At) → read_item trees_built ws sc (InUnit [] ∷ []) Begin ≡ o → to_at o ≡ Some ((sc', InUnit p ∷ [], Begin), rest) → ItemSeen sc ws rest sc' p
    by None e k = absurd cc
    by (Some ((a, s, mode), left)) e k =
        let unit = from_some (unit_read trees_built (Some (a, s, mode))) p (sym (unit_same (Some (a, s, mode))) ∙ ap unit_at k) in
        let here = unit_is a s mode unit.0 unit.1 in
        let scope : a ≡ sc' = ap (scope_at sc) k in
        let words : left ≡ rest = ap (rest_at ws) k in
        let found = item_found ws left sc a unit.0 (e ∙ ap (with_rest left) here) in
        subst (λ z. ItemSeen sc ws z sc' p) words (subst (λ z. ItemSeen sc ws left z p) scope (seen_by ws left sc a p unit.0 unit.2 found))
