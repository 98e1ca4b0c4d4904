-- Lists of declarations, statements and items with one part more.
use Rattle.std.proofs.Common.{◌≡◌, Bool, true, false, ◌&&◌, List, [], ◌∷◌, ◌++◌, refl, ap}
use Rattle.ct_syntax.specs.declared.words.Mark.TheVariants as m
use Rattle.ct_syntax.specs.declared.words.Keyword.TheVariants as w
use Rattle.ct_syntax.specs.Words.{Word, Sign, Key}
use Rattle.ct_syntax.specs.Scopes.{Scope, after_declarator, after_init_declarators, after_declaration, after_item, after_unit}
use Rattle.ct_syntax.specs.Grammar.{has_items, has_branches, takes_else, is_followed, IsExpression, IsDeclarator, IsDesignator, IsInitialiser, AreItems, IsOptionalInitialiser, AreInitDeclarators, IsStatement, AreBranches, IsBody, IsItem, IsTranslationUnit}
use Rattle.ct_syntax.specs.Spelling.{spell, spell_declarator, spell_designator, spell_initialiser, spell_items, spell_more_items, spell_start, spell_init_declarators, spell_more_init_declarators, spell_declaration, spell_statement, spell_branches, spell_more_branches, spell_body, spell_item, spell_unit}
use Rattle.ct_syntax.specs.Trees as t
use Rattle.ct_grammar_machine.specs.Algebra.{inits_then, branches_then, body_then}
use Rattle.ct_grammar_laws.proofs.CompleteStatements.{after_body}

-- ---- items of an initialiser

abbrev pub lead_items : t.InitialiserItems → List Word → List Word
lead_items t.no_item ws = ws
lead_items (t.item g v is) ws = spell_designator g (spell_initialiser v (Sign m.Comma ∷ lead_items is ws))

more_items : (is : t.InitialiserItems) (g : t.Designator) (v : t.Initialiser) (ws : List Word) → spell_more_items (inits_then is (t.item g v t.no_item)) ws ≡ Sign m.Comma ∷ lead_items is (spell_designator g (spell_initialiser v ws))
more_items t.no_item g v ws = refl
more_items (t.item h u is) g v ws = ap (λ us. Sign m.Comma ∷ spell_designator h (spell_initialiser u us)) (more_items is g v ws)

pub items_lead : (is : t.InitialiserItems) (g : t.Designator) (v : t.Initialiser) (ws : List Word) → spell_items (inits_then is (t.item g v t.no_item)) ws ≡ lead_items is (spell_designator g (spell_initialiser v ws))
items_lead t.no_item g v ws = refl
items_lead (t.item h u is) g v ws = ap (λ us. spell_designator h (spell_initialiser u us)) (more_items is g v ws)

pub lead_items-last : (is : t.InitialiserItems) (g : t.Designator) (v : t.Initialiser) (ws : List Word) → lead_items (inits_then is (t.item g v t.no_item)) ws ≡ lead_items is (spell_designator g (spell_initialiser v (Sign m.Comma ∷ ws)))
lead_items-last t.no_item g v ws = refl
lead_items-last (t.item h u is) g v ws = ap (λ us. spell_designator h (spell_initialiser u (Sign m.Comma ∷ us))) (lead_items-last is g v ws)

more_items_comma : (is : t.InitialiserItems) (ws : List Word) → spell_more_items is (Sign m.Comma ∷ ws) ≡ Sign m.Comma ∷ lead_items is ws
more_items_comma t.no_item ws = refl
more_items_comma (t.item h u is) ws = ap (λ us. Sign m.Comma ∷ spell_designator h (spell_initialiser u us)) (more_items_comma is ws)

pub items_comma : (is : t.InitialiserItems) (ws : List Word) → has_items is ≡ true → spell_items is (Sign m.Comma ∷ ws) ≡ lead_items is ws
items_comma t.no_item ws h = absurd cc
items_comma (t.item g u is) ws h = ap (λ us. spell_designator g (spell_initialiser u us)) (more_items_comma is ws)

pub AreItems-last : (sc : Scope) (is : t.InitialiserItems) (g : t.Designator) (v : t.Initialiser) → AreItems sc is → IsDesignator sc g → IsInitialiser sc v → AreItems sc (inits_then is (t.item g v t.no_item))
AreItems-last sc t.no_item g v all d h = (d, h, tt)
AreItems-last sc (t.item e u is) g v all d h = (all.0, all.1, AreItems-last sc is g v all.2 d h)

pub has_items-last : (is : t.InitialiserItems) (g : t.Designator) (v : t.Initialiser) → has_items (inits_then is (t.item g v t.no_item)) ≡ true
has_items-last t.no_item g v = refl
has_items-last (t.item e u is) g v = refl

-- ---- declarators of a declaration

abbrev pub lead_inits : List t.InitDeclarator → List Word → List Word
lead_inits [] ws = ws
lead_inits (d ∷ ds) ws = spell_declarator d.declarator (spell_start d.start (Sign m.Comma ∷ lead_inits ds ws))

more_inits : (ds : List t.InitDeclarator) (d : t.InitDeclarator) (ws : List Word) → spell_more_init_declarators (ds ++ d ∷ []) ws ≡ Sign m.Comma ∷ lead_inits ds (spell_declarator d.declarator (spell_start d.start ws))
more_inits [] d ws = refl
more_inits (e ∷ ds) d ws = ap (λ us. Sign m.Comma ∷ spell_declarator e.declarator (spell_start e.start us)) (more_inits ds d ws)

pub inits_lead : (ds : List t.InitDeclarator) (d : t.InitDeclarator) (ws : List Word) → spell_init_declarators (ds ++ d ∷ []) ws ≡ lead_inits ds (spell_declarator d.declarator (spell_start d.start ws))
inits_lead [] d ws = refl
inits_lead (e ∷ ds) d ws = ap (λ us. spell_declarator e.declarator (spell_start e.start us)) (more_inits ds d ws)

pub lead_inits-last : (ds : List t.InitDeclarator) (d : t.InitDeclarator) (ws : List Word) → lead_inits (ds ++ d ∷ []) ws ≡ lead_inits ds (spell_declarator d.declarator (spell_start d.start (Sign m.Comma ∷ ws)))
lead_inits-last [] d ws = refl
lead_inits-last (e ∷ ds) d ws = ap (λ us. spell_declarator e.declarator (spell_start e.start (Sign m.Comma ∷ us))) (lead_inits-last ds d ws)

pub after_inits-last : (sc : Scope) (ss : t.Specs) (ds : List t.InitDeclarator) (d : t.InitDeclarator) → after_init_declarators sc ss (ds ++ d ∷ []) ≡ after_declarator (after_init_declarators sc ss ds) ss d.declarator
after_inits-last sc ss [] d = refl
after_inits-last sc ss (e ∷ ds) d = after_inits-last (after_declarator sc ss e.declarator) ss ds d

pub AreInits-last : (sc : Scope) (ss : t.Specs) (ds : List t.InitDeclarator) (d : t.InitDeclarator) → AreInitDeclarators sc ss ds → IsDeclarator false (after_init_declarators sc ss ds) d.declarator → IsOptionalInitialiser (after_declarator (after_init_declarators sc ss ds) ss d.declarator) d.start → AreInitDeclarators sc ss (ds ++ d ∷ [])
AreInits-last sc ss [] d all h v = (h, v, tt)
AreInits-last sc ss (e ∷ ds) d all h v = (all.0, all.1, AreInits-last (after_declarator sc ss e.declarator) ss ds d all.2 h v)

-- ---- branches that an `else` follows

abbrev pub lead_branches : t.Branches → List Word → List Word
lead_branches t.no_branch ws = ws
lead_branches (t.branch c u bs) ws = Key w.If ∷ Sign m.Open ∷ spell c (Sign m.Close ∷ spell_statement u (Key w.Else ∷ lead_branches bs ws))

more_branches : (bs : t.Branches) (c : t.Expression) (u : t.Statement) (ws : List Word) → spell_more_branches (branches_then bs (t.branch c u t.no_branch)) ws ≡ Key w.Else ∷ lead_branches bs (Key w.If ∷ Sign m.Open ∷ spell c (Sign m.Close ∷ spell_statement u ws))
more_branches t.no_branch c u ws = refl
more_branches (t.branch d v bs) c u ws = ap (λ us. Key w.Else ∷ Key w.If ∷ Sign m.Open ∷ spell d (Sign m.Close ∷ spell_statement v us)) (more_branches bs c u ws)

pub branches_lead : (bs : t.Branches) (c : t.Expression) (u : t.Statement) (ws : List Word) → spell_branches (branches_then bs (t.branch c u t.no_branch)) ws ≡ lead_branches bs (Key w.If ∷ Sign m.Open ∷ spell c (Sign m.Close ∷ spell_statement u ws))
branches_lead t.no_branch c u ws = refl
branches_lead (t.branch d v bs) c u ws = ap (λ us. Key w.If ∷ Sign m.Open ∷ spell d (Sign m.Close ∷ spell_statement v us)) (more_branches bs c u ws)

more_branches_else : (bs : t.Branches) (ws : List Word) → spell_more_branches bs (Key w.Else ∷ ws) ≡ Key w.Else ∷ lead_branches bs ws
more_branches_else t.no_branch ws = refl
more_branches_else (t.branch d v bs) ws = ap (λ us. Key w.Else ∷ Key w.If ∷ Sign m.Open ∷ spell d (Sign m.Close ∷ spell_statement v us)) (more_branches_else bs ws)

pub branches_else : (bs : t.Branches) (ws : List Word) → has_branches bs ≡ true → spell_branches bs (Key w.Else ∷ ws) ≡ lead_branches bs ws
branches_else t.no_branch ws h = absurd cc
branches_else (t.branch d v bs) ws h = ap (λ us. Key w.If ∷ Sign m.Open ∷ spell d (Sign m.Close ∷ spell_statement v us)) (more_branches_else bs ws)

abbrev pub AreLed : Scope → t.Branches → Type 0
AreLed sc t.no_branch = Unit {0}
AreLed sc (t.branch c u bs) = IsExpression sc c × (takes_else u ≡ false) × IsStatement sc u × AreLed sc bs

pub AreLed-last : (sc : Scope) (bs : t.Branches) (c : t.Expression) (u : t.Statement) → AreLed sc bs → IsExpression sc c → takes_else u ≡ false → IsStatement sc u → AreLed sc (branches_then bs (t.branch c u t.no_branch))
AreLed-last sc t.no_branch c u all x o h = (x, o, h, tt)
AreLed-last sc (t.branch d v bs) c u all x o h = (all.0, all.1, all.2, AreLed-last sc bs c u all.3 x o h)

pub has_branches-last : (bs : t.Branches) (c : t.Expression) (u : t.Statement) → has_branches (branches_then bs (t.branch c u t.no_branch)) ≡ true
has_branches-last t.no_branch c u = refl
has_branches-last (t.branch d v bs) c u = refl

and_some : (z y : Bool) → y ≡ false → (z && y) ≡ false
and_some true false h = refl
and_some false false h = refl
and_some z true h = absurd cc

pub led_else : (sc : Scope) (bs : t.Branches) (v : t.Statement) → AreLed sc bs → AreBranches sc bs (t.else_do v)
led_else sc t.no_branch v all = tt
led_else sc (t.branch c u bs) v all = (all.0, and_some (is_followed bs (t.else_do v)) (takes_else u) all.1, all.2, led_else sc bs v all.3)

-- the last branch, which no `else` follows
pub led_last : (sc : Scope) (bs : t.Branches) (c : t.Expression) (u : t.Statement) → AreLed sc bs → IsExpression sc c → IsStatement sc u → AreBranches sc (branches_then bs (t.branch c u t.no_branch)) t.no_else
led_last sc t.no_branch c u all x h = (x, refl, h, tt)
led_last sc (t.branch d v bs) c u all x h = (all.0, and_some (is_followed (branches_then bs (t.branch c u t.no_branch)) t.no_else) (takes_else v) all.1, all.2, led_last sc bs c u all.3 x h)

-- ---- parts of braces

pub body_spelled : (c d : t.Body) (ws : List Word) → spell_body (body_then c d) ws ≡ spell_body c (spell_body d ws)
body_spelled t.no_part d ws = refl
body_spelled (t.case_label x c) d ws = ap (λ us. Key w.Case ∷ spell x (Sign m.Colon ∷ us)) (body_spelled c d ws)
body_spelled (t.default_label c) d ws = ap (λ us. Key w.Default ∷ Sign m.Colon ∷ us) (body_spelled c d ws)
body_spelled (t.declared e c) d ws = ap (spell_declaration e) (body_spelled c d ws)
body_spelled (t.stated u c) d ws = ap (spell_statement u) (body_spelled c d ws)

pub after_body-then : (sc : Scope) (c d : t.Body) → after_body sc (body_then c d) ≡ after_body (after_body sc c) d
after_body-then sc t.no_part d = refl
after_body-then sc (t.case_label x c) d = after_body-then sc c d
after_body-then sc (t.default_label c) d = after_body-then sc c d
after_body-then sc (t.declared e c) d = after_body-then (after_declaration sc e) c d
after_body-then sc (t.stated u c) d = after_body-then sc c d

pub IsBody-then : (labels : Bool) (sc : Scope) (c d : t.Body) → IsBody labels sc c → IsBody labels (after_body sc c) d → IsBody labels sc (body_then c d)
IsBody-then labels sc t.no_part d h k = k
IsBody-then labels sc (t.case_label x c) d h k = (h.0, h.1, h.2, IsBody-then labels sc c d h.3 k)
IsBody-then labels sc (t.default_label c) d h k = (h.0, IsBody-then labels sc c d h.1 k)
IsBody-then labels sc (t.declared e c) d h k = (h.0, IsBody-then labels (after_declaration sc e) c d h.1 k)
IsBody-then labels sc (t.stated u c) d h k = (h.0, IsBody-then labels sc c d h.1 k)

-- ---- items of a unit

pub unit_spelled : (is : List t.Item) (x : t.Item) (ws : List Word) → spell_unit (is ++ x ∷ []) ws ≡ spell_unit is (spell_item x ws)
unit_spelled [] x ws = refl
unit_spelled (y ∷ is) x ws = ap (spell_item y) (unit_spelled is x ws)

pub after_unit-last : (sc : Scope) (is : List t.Item) (x : t.Item) → after_unit sc (is ++ x ∷ []) ≡ after_item (after_unit sc is) x
after_unit-last sc [] x = refl
after_unit-last sc (y ∷ is) x = after_unit-last (after_item sc y) is x

pub IsTranslationUnit-last : (sc : Scope) (is : List t.Item) (x : t.Item) → IsTranslationUnit sc is → IsItem (after_unit sc is) x → IsTranslationUnit sc (is ++ x ∷ [])
IsTranslationUnit-last sc [] x all h = (h, tt)
IsTranslationUnit-last sc (y ∷ is) x all h = (all.0, IsTranslationUnit-last (after_item sc y) is x all.1 h)
