-- Initialisers and declarations are read from their words.
use Rattle.std.proofs.Common.{◌≡◌, ◌≤◌, Bool, true, false, not, ◌&&◌, if◌then◌else◌, List, [], ◌∷◌, ◌++◌, Option, Some, None, refl, sym, ap, ◌∙◌, arith}
use Rattle.ct_syntax.specs.declared.words.SpecWord.{SpecWord}
use Rattle.ct_syntax.specs.declared.words.Mark.{Mark}
use Rattle.ct_syntax.specs.declared.words.Mark.TheVariants as m
use Rattle.ct_syntax.specs.declared.words.Keyword.TheVariants as w
use Rattle.ct_syntax.specs.declared.words.AssignOp.TheVariants as a
use Rattle.ct_syntax.specs.Words.{Text, Word, Named, Numbered, Quote, Literal, Sign, Key, Stray}
use Rattle.ct_syntax.specs.Scopes.{Scope, after_specs, after_declarator, after_init_declarators, after_declaration}
use Rattle.ct_syntax.specs.TypeWords.{form_type}
use Rattle.ct_syntax.specs.Grammar.{expression_level, has_items, AreSpecs, IsDeclarator, IsDesignator, IsInitialiser, AreItems, IsOptionalInitialiser, AreInitDeclarators, IsDeclaration}
use Rattle.ct_syntax.specs.Spelling.{spell, spell_comma, spell_specs, spell_declarator, spell_designator, spell_initialiser, spell_items, spell_more_items, spell_start, spell_init_declarators, spell_more_init_declarators, spell_declaration}
use Rattle.ct_syntax.specs.Trees as t
use Rattle.ct_grammar_machine.specs.Algebra.{Tree, trees_built, inits_then, designator_of, Aimed, AtNext, AtMember, AtIndex}
use Rattle.ct_grammar_machine.specs.Frames.{Ordinary, InBraces, InItem, InPlace, InAssert, DeclSpecs, DeclDeclarator, DeclInit, InBlock, InSwitch, InFunction, InUnit, InForInit, Mode, Want, Have, Specs, WantDeclarator, HaveDeclarator, WantInit, HaveInit, FirstItem, NextItem, Begin, ForInit, Opening, ToAssert, Stack, State, mark_pull, stack_needs}
use Rattle.ct_grammar_machine.specs.Steps.{step, init_done, declaration_done, specs_step, statement, begin}
use Rattle.ct_grammar_laws.proofs.Basics.{level_range, R, acts}
use Rattle.ct_grammar_laws.proofs.Starts.{is_value_start, value_start, is_plain_start, ends_declarator, meets_end, specs_stop}
use Rattle.ct_grammar_laws.proofs.Complete.{go, reads, reads_specs, reads_declarator}

-- ---- an initialiser

abbrev pub takes_init : Stack Tree → Bool
takes_init (DeclInit ss ds d ∷ s) = true
takes_init (InItem is g ∷ s) = true
takes_init _ = false

abbrev pub ends_init : Mark → Bool
ends_init m.Comma = true
ends_init m.Semicolon = true
ends_init m.CloseBrace = true
ends_init _ = false

init_needs : (s : Stack Tree) → takes_init s ≡ true → stack_needs s ≤ 2
init_needs (DeclInit ss ds d ∷ s) h = omega arith
init_needs (InItem is g ∷ s) h = omega arith
init_needs [] h = absurd cc
init_needs (_ ∷ s) h = absurd cc

value_done : (sc : Scope) (s : Stack Tree) (k : Mark) (x : t.Expression) (rest : List Word) → takes_init s ≡ true → ends_init k ≡ true → R (Sign k ∷ rest) sc s (Have x) ≡ go rest (init_done trees_built sc k s (t.Value x))
value_done sc (DeclInit ss ds d ∷ s) m.Comma x rest h e = acts sc m.Comma (DeclInit ss ds d ∷ s) x rest (omega arith)
value_done sc (DeclInit ss ds d ∷ s) m.Semicolon x rest h e = acts sc m.Semicolon (DeclInit ss ds d ∷ s) x rest (omega arith)
value_done sc (DeclInit ss ds d ∷ s) m.CloseBrace x rest h e = acts sc m.CloseBrace (DeclInit ss ds d ∷ s) x rest (omega arith)
value_done sc (InItem is g ∷ s) m.Comma x rest h e = acts sc m.Comma (InItem is g ∷ s) x rest (omega arith)
value_done sc (InItem is g ∷ s) m.Semicolon x rest h e = acts sc m.Semicolon (InItem is g ∷ s) x rest (omega arith)
value_done sc (InItem is g ∷ s) m.CloseBrace x rest h e = acts sc m.CloseBrace (InItem is g ∷ s) x rest (omega arith)
value_done sc (DeclInit ss ds d ∷ s) _ x rest h e = absurd cc
value_done sc (InItem is g ∷ s) _ x rest h e = absurd cc
value_done sc [] k x rest h e = absurd cc
value_done sc (_ ∷ s) k x rest h e = absurd cc

want_value : (sc : Scope) (s : Stack Tree) (ws : List Word) → is_value_start ws ≡ true → R ws sc s WantInit ≡ R ws sc s Want
want_value sc s [] h = absurd cc
want_value sc s (Sign m.OpenBrace ∷ ws) h = absurd cc
want_value sc s (_ ∷ ws) h = refl

-- whether a comma stands before an item
abbrev item_mode : Bool → Mode Tree
item_mode false = FirstItem
item_mode true = NextItem

abbrev is_init_start : List Word → Bool
is_init_start (Sign m.OpenBrace ∷ ws) = true
is_init_start ws = is_value_start ws

brace_or_value : (ws : List Word) → is_value_start ws ≡ true → is_init_start ws ≡ true
brace_or_value [] h = h
brace_or_value (Sign m.OpenBrace ∷ ws) h = refl
brace_or_value (Sign _ ∷ ws) h = h
brace_or_value (Named u ∷ ws) h = h
brace_or_value (Numbered u ∷ ws) h = h
brace_or_value (Quote u ∷ ws) h = h
brace_or_value (Literal u ∷ ws) h = h
brace_or_value (Key k ∷ ws) h = h
brace_or_value (Stray ∷ ws) h = h

init_start : (v : t.Initialiser) (rest : List Word) → is_init_start (spell_initialiser v rest) ≡ true
init_start (t.Value x) rest = brace_or_value (spell x rest) (value_start x rest)
init_start (t.Braces is c) rest = refl

next_goes : (z : Bool) (sc : Scope) (s : Stack Tree) (before : t.InitialiserItems) (ws : List Word) → is_init_start ws ≡ true → R ws sc (InBraces before ∷ s) (item_mode z) ≡ R ws sc (InItem before AtNext ∷ s) WantInit
next_goes false sc s before [] h = absurd cc
next_goes true sc s before [] h = absurd cc
next_goes false sc s before (Sign m.CloseBrace ∷ ws) h = absurd cc
next_goes true sc s before (Sign m.CloseBrace ∷ ws) h = absurd cc
next_goes false sc s before (Sign m.OpenBracket ∷ ws) h = absurd cc
next_goes true sc s before (Sign m.OpenBracket ∷ ws) h = absurd cc
next_goes false sc s before (Sign (m.Member o) ∷ ws) h = absurd cc
next_goes true sc s before (Sign (m.Member o) ∷ ws) h = absurd cc
next_goes false sc s before (_ ∷ ws) h = refl
next_goes true sc s before (_ ∷ ws) h = refl

abbrev aimed : t.Designator → Aimed Tree
aimed t.Next = AtNext
aimed (t.OfMember u) = AtMember u
aimed (t.OfIndex x) = AtIndex x

aimed_same : (g : t.Designator) → designator_of (aimed g) ≡ g
aimed_same t.Next = refl
aimed_same (t.OfMember u) = refl
aimed_same (t.OfIndex x) = refl

designator_read : (g : t.Designator) (z : Bool) (sc : Scope) (s : Stack Tree) (before : t.InitialiserItems) (ws : List Word) → IsDesignator sc g → is_init_start ws ≡ true → R (spell_designator g ws) sc (InBraces before ∷ s) (item_mode z) ≡ R ws sc (InItem before (aimed g) ∷ s) WantInit
designator_read t.Next z sc s before ws wf h = next_goes z sc s before ws h
designator_read (t.OfMember u) false sc s before ws wf h = refl
designator_read (t.OfMember u) true sc s before ws wf h = refl
designator_read (t.OfIndex x) false sc s before ws wf h =
    reads x sc (InPlace before ∷ s) (Sign m.CloseBracket ∷ Sign (m.Assign a.Plain) ∷ ws) wf.1 wf.0 (level_range x).0
    ∙ acts sc m.CloseBracket (InPlace before ∷ s) x (Sign (m.Assign a.Plain) ∷ ws) (omega arith)
designator_read (t.OfIndex x) true sc s before ws wf h =
    reads x sc (InPlace before ∷ s) (Sign m.CloseBracket ∷ Sign (m.Assign a.Plain) ∷ ws) wf.1 wf.0 (level_range x).0
    ∙ acts sc m.CloseBracket (InPlace before ∷ s) x (Sign (m.Assign a.Plain) ∷ ws) (omega arith)

inits-none : (is : t.InitialiserItems) → inits_then is t.no_item ≡ is
inits-none t.no_item = refl
inits-none (t.item g v is) = ap (t.item g v) (inits-none is)

inits-last : (is : t.InitialiserItems) (g : t.Designator) (v : t.Initialiser) (js : t.InitialiserItems) → inits_then (inits_then is (t.item g v t.no_item)) js ≡ inits_then is (t.item g v js)
inits-last t.no_item g v js = refl
inits-last (t.item h u is) g v js = ap (t.item h u) (inits-last is g v js)

-- behind the initialiser of an item, where the others are read
items_tail : (is : t.InitialiserItems) (sc : Scope) (s : Stack Tree) (before : t.InitialiserItems) (g : t.Designator) (v : t.Initialiser) (c : Bool) (rest : List Word) → ((k : Mark) (ws : List Word) → ends_init k ≡ true → R (spell_initialiser v (Sign k ∷ ws)) sc (InItem before (aimed g) ∷ s) WantInit ≡ go ws (init_done trees_built sc k (InItem before (aimed g) ∷ s) v)) → ((now : t.InitialiserItems) → has_items is ≡ true → R (spell_items is (spell_comma c (Sign m.CloseBrace ∷ rest))) sc (InBraces now ∷ s) NextItem ≡ R rest sc s (HaveInit (t.Braces (inits_then now is) c))) → R (spell_initialiser v (spell_more_items is (spell_comma c (Sign m.CloseBrace ∷ rest)))) sc (InItem before (aimed g) ∷ s) WantInit ≡ R rest sc s (HaveInit (t.Braces (inits_then before (t.item g v is)) c))
items_tail t.no_item sc s before g v false rest h ih = h m.CloseBrace rest refl ∙ ap (λ f. R rest sc s (HaveInit (t.Braces (inits_then before (t.item f v t.no_item)) false))) (aimed_same g)
items_tail t.no_item sc s before g v true rest h ih = h m.Comma (Sign m.CloseBrace ∷ rest) refl ∙ ap (λ f. R rest sc s (HaveInit (t.Braces (inits_then before (t.item f v t.no_item)) true))) (aimed_same g)
items_tail (t.item e u is) sc s before g v c rest h ih =
    h m.Comma (spell_items (t.item e u is) (spell_comma c (Sign m.CloseBrace ∷ rest))) refl
    ∙ ih (inits_then before (t.item (designator_of (aimed g)) v t.no_item)) refl
    ∙ ap (λ js. R rest sc s (HaveInit (t.Braces js c))) (inits-last before (designator_of (aimed g)) v (t.item e u is))
    ∙ ap (λ f. R rest sc s (HaveInit (t.Braces (inits_then before (t.item f v (t.item e u is))) c))) (aimed_same g)

no_comma : (c : Bool) → (c && true) ≡ false → c ≡ false
no_comma false h = refl
no_comma true h = absurd cc

-- an open brace, and all up to the closing one
braces_read : (is : t.InitialiserItems) (sc : Scope) (s : Stack Tree) (c : Bool) (rest : List Word) → ((c && not (has_items is)) ≡ false) → (has_items is ≡ true → R (spell_items is (spell_comma c (Sign m.CloseBrace ∷ rest))) sc (InBraces t.no_item ∷ s) FirstItem ≡ R rest sc s (HaveInit (t.Braces is c))) → R (spell_items is (spell_comma c (Sign m.CloseBrace ∷ rest))) sc (InBraces t.no_item ∷ s) FirstItem ≡ R rest sc s (HaveInit (t.Braces is c))
braces_read t.no_item sc s c rest h ih = let e = no_comma c h in
    ap (λ z. R (spell_comma z (Sign m.CloseBrace ∷ rest)) sc (InBraces t.no_item ∷ s) FirstItem) e ∙ ap (λ z. R rest sc s (HaveInit (t.Braces t.no_item z))) (sym e)
braces_read (t.item g v is) sc s c rest h ih = ih refl

mutual
  pub reads_init : (v : t.Initialiser) (sc : Scope) (s : Stack Tree) (k : Mark) (rest : List Word) → IsInitialiser sc v → takes_init s ≡ true → ends_init k ≡ true → R (spell_initialiser v (Sign k ∷ rest)) sc s WantInit ≡ go rest (init_done trees_built sc k s v)
  reads_init (t.Value x) sc s k rest wf h e =
      want_value sc s (spell x (Sign k ∷ rest)) (value_start x (Sign k ∷ rest))
      ∙ reads x sc s (Sign k ∷ rest) wf.1 (omega (arith, init_needs s h, wf.0)) (mark_end k x e)
      ∙ value_done sc s k x rest h e
    where
      mark_end : (j : Mark) (y : t.Expression) → ends_init j ≡ true → mark_pull j ≤ expression_level y
      mark_end m.Comma y e = (level_range y).0
      mark_end m.Semicolon y e = (level_range y).0
      mark_end m.CloseBrace y e = (level_range y).0
      mark_end _ y e = absurd cc
  reads_init (t.Braces is c) sc s k rest wf h e = braces_read is sc s c (Sign k ∷ rest) wf.0 (λ has. reads_items is false sc s t.no_item c (Sign k ∷ rest) has wf.1)

  pub reads_items : (is : t.InitialiserItems) (z : Bool) (sc : Scope) (s : Stack Tree) (before : t.InitialiserItems) (c : Bool) (rest : List Word) → has_items is ≡ true → AreItems sc is → R (spell_items is (spell_comma c (Sign m.CloseBrace ∷ rest))) sc (InBraces before ∷ s) (item_mode z) ≡ R rest sc s (HaveInit (t.Braces (inits_then before is) c))
  reads_items t.no_item z sc s before c rest has wf = absurd cc
  reads_items (t.item g v is) z sc s before c rest has wf =
      designator_read g z sc s before (spell_initialiser v (spell_more_items is (spell_comma c (Sign m.CloseBrace ∷ rest)))) wf.0 (init_start v _)
      ∙ items_tail is sc s before g v c rest (λ k ws e. reads_init v sc (InItem before (aimed g) ∷ s) k ws wf.1 refl e) (λ now has'. reads_items is true sc s now c rest has' wf.2)

-- ---- a declaration

-- where a declaration may stand, and how
abbrev pub takes_declaration : Stack Tree → Bool
takes_declaration (InUnit is ∷ s) = true
takes_declaration (InBlock outer c ∷ s) = true
takes_declaration (InSwitch outer x c ∷ s) = true
takes_declaration (InFunction outer ss d c ∷ s) = true
takes_declaration (InForInit outer ∷ s) = true
takes_declaration _ = false

abbrev pub place_mode : Stack Tree → Mode Tree
place_mode (InForInit outer ∷ s) = ForInit
place_mode _ = Begin

abbrev Starts : Scope → Stack Tree → Word → Type 0
Starts sc s v = step trees_built sc s (place_mode s) v ≡ specs_step trees_built sc (DeclSpecs ∷ s) t.no_spec v

word_starts : (sc : Scope) (s : Stack Tree) (k : SpecWord) → takes_declaration s ≡ true → Starts sc s (Key (w.Spec k))
word_starts sc (InUnit is ∷ s) k h = refl
word_starts sc (InBlock outer c ∷ s) k h = refl
word_starts sc (InSwitch outer x c ∷ s) k h = refl
word_starts sc (InFunction outer ss d c ∷ s) k h = refl
word_starts sc (InForInit outer ∷ s) k h = refl
word_starts sc [] k h = absurd cc
word_starts sc (_ ∷ s) k h = absurd cc

struct_starts : (sc : Scope) (s : Stack Tree) → takes_declaration s ≡ true → Starts sc s (Key w.Struct)
struct_starts sc (InUnit is ∷ s) h = refl
struct_starts sc (InBlock outer c ∷ s) h = refl
struct_starts sc (InSwitch outer x c ∷ s) h = refl
struct_starts sc (InFunction outer ss d c ∷ s) h = refl
struct_starts sc (InForInit outer ∷ s) h = refl
struct_starts sc [] h = absurd cc
struct_starts sc (_ ∷ s) h = absurd cc

enum_starts : (sc : Scope) (s : Stack Tree) → takes_declaration s ≡ true → Starts sc s (Key w.Enum)
enum_starts sc (InUnit is ∷ s) h = refl
enum_starts sc (InBlock outer c ∷ s) h = refl
enum_starts sc (InSwitch outer x c ∷ s) h = refl
enum_starts sc (InFunction outer ss d c ∷ s) h = refl
enum_starts sc (InForInit outer ∷ s) h = refl
enum_starts sc [] h = absurd cc
enum_starts sc (_ ∷ s) h = absurd cc

name_starts : (sc : Scope) (s : Stack Tree) (u : Text) → takes_declaration s ≡ true → sc u ≡ true → Starts sc s (Named u)
name_starts sc (InUnit is ∷ s) u h e = refl
name_starts sc (InBlock outer c ∷ s) u h e = ap (λ z. if z then specs_step trees_built sc (DeclSpecs ∷ InBlock outer c ∷ s) t.no_spec (Named u) else statement trees_built sc (InBlock outer c ∷ s) (Named u)) e
name_starts sc (InSwitch outer x c ∷ s) u h e = ap (λ z. if z then specs_step trees_built sc (DeclSpecs ∷ InSwitch outer x c ∷ s) t.no_spec (Named u) else statement trees_built sc (InSwitch outer x c ∷ s) (Named u)) e
name_starts sc (InFunction outer ss d c ∷ s) u h e = ap (λ z. if z then specs_step trees_built sc (DeclSpecs ∷ InFunction outer ss d c ∷ s) t.no_spec (Named u) else statement trees_built sc (InFunction outer ss d c ∷ s) (Named u)) e
name_starts sc (InForInit outer ∷ s) u h e = ap (λ z. if z then specs_step trees_built sc (DeclSpecs ∷ InForInit outer ∷ s) t.no_spec (Named u) else begin trees_built sc (InForInit outer ∷ s) (Named u)) e
name_starts sc [] u h e = absurd cc
name_starts sc (_ ∷ s) u h e = absurd cc

pub declaration_starts : (sc : Scope) (s : Stack Tree) (ss : t.Specs) (rest : List Word) → takes_declaration s ≡ true → AreSpecs sc ss → form_type ss ≡ true → R (spell_specs ss rest) sc s (place_mode s) ≡ R (spell_specs ss rest) sc (DeclSpecs ∷ s) (Specs t.no_spec)
declaration_starts sc s t.no_spec rest h wf f = absurd cc
declaration_starts sc s (t.spec_word k ss) rest h wf f = ap (go (spell_specs ss rest)) (word_starts sc s k h)
declaration_starts sc s (t.typedef_name u ss) rest h wf f = ap (go (spell_specs ss rest)) (name_starts sc s u h wf.0)
declaration_starts sc s (t.struct_tag u ss) rest h wf f = ap (go (Named u ∷ spell_specs ss rest)) (struct_starts sc s h)
declaration_starts sc s (t.struct_list tag ms ss) rest h wf f = ap (go _) (struct_starts sc s h)
declaration_starts sc s (t.enum_tag u ss) rest h wf f = ap (go (Named u ∷ spell_specs ss rest)) (enum_starts sc s h)
declaration_starts sc s (t.enum_list tag es c ss) rest h wf f = ap (go _) (enum_starts sc s h)

-- the first word is no keyword and no semicolon
abbrev pub is_named_start : List Word → Bool
is_named_start [] = false
is_named_start (Key k ∷ ws) = false
is_named_start (Sign m.Semicolon ∷ ws) = false
is_named_start (v ∷ ws) = true

pub named_start : (d : t.Declarator) (sc : Scope) (rest : List Word) → IsDeclarator false sc d → is_named_start (spell_declarator d rest) ≡ true
named_start t.Nameless sc rest wf = absurd cc
named_start (t.Called u) sc rest wf = refl
named_start (t.Group d) sc rest wf = refl
named_start (t.Pointer qs d) sc rest wf = refl
named_start (t.Array d size) sc rest wf = named_start d sc _ wf.1
named_start (t.Function d f ps) sc rest wf = named_start d sc _ wf.1

pub named_plain : (d : t.Declarator) (sc : Scope) (rest : List Word) → IsDeclarator false sc d → is_plain_start (spell_declarator d rest) ≡ true
named_plain t.Nameless sc rest wf = absurd cc
named_plain (t.Called u) sc rest wf = refl
named_plain (t.Group d) sc rest wf = refl
named_plain (t.Pointer qs d) sc rest wf = refl
named_plain (t.Array d size) sc rest wf = named_plain d sc _ wf.1
named_plain (t.Function d f ps) sc rest wf = named_plain d sc _ wf.1

pub to_first : (sc : Scope) (s : Stack Tree) (ss : t.Specs) (ws : List Word) → is_named_start ws ≡ true → form_type ss ≡ true → R ws sc (DeclSpecs ∷ s) (Specs ss) ≡ R ws sc (DeclDeclarator true ss [] ∷ s) (WantDeclarator Ordinary)
to_first sc s ss [] n h = absurd cc
to_first sc s ss (Key k ∷ ws) n h = absurd cc
to_first sc s ss (Sign m.Semicolon ∷ ws) n h = absurd cc
to_first sc s ss (v ∷ ws) n h = ap (go ws) (specs_stop sc (DeclSpecs ∷ s) ss v ws refl h)

no_declarators : (sc : Scope) (s : Stack Tree) (ss : t.Specs) (rest : List Word) → form_type ss ≡ true → R (Sign m.Semicolon ∷ rest) sc (DeclSpecs ∷ s) (Specs ss) ≡ go rest (declaration_done trees_built sc s (t.Declare ss []))
no_declarators sc s ss rest h = ap (go rest) (specs_stop sc (DeclSpecs ∷ s) ss (Sign m.Semicolon) rest refl h)

-- what a mark behind a declarator and its initialiser comes to
abbrev start_out : Scope → Mark → Stack Tree → t.Specs → List t.InitDeclarator → t.InitDeclarator → Option (State Tree)
start_out sc m.Comma s ss before d = Some (sc, DeclDeclarator false ss (before ++ d ∷ []) ∷ s, WantDeclarator Ordinary)
start_out sc m.Semicolon s ss before d = declaration_done trees_built sc s (t.Declare ss (before ++ d ∷ []))
start_out sc _ s ss before d = None

abbrev ends_start : Mark → Bool
ends_start m.Comma = true
ends_start m.Semicolon = true
ends_start _ = false

start_read : (d : t.InitDeclarator) (v : Option t.Initialiser) (first : Bool) (sc : Scope) (s : Stack Tree) (ss : t.Specs) (before : List t.InitDeclarator) (k : Mark) (rest : List Word) → IsOptionalInitialiser (after_declarator sc ss d.declarator) v → ends_start k ≡ true → R (spell_start v (Sign k ∷ rest)) sc (DeclDeclarator first ss before ∷ s) (HaveDeclarator Ordinary d.declarator) ≡ go rest (start_out (after_declarator sc ss d.declarator) k s ss before (record { declarator = d.declarator; start = v }))
start_read d None first sc s ss before m.Comma rest wf e = refl
start_read d None first sc s ss before m.Semicolon rest wf e = refl
start_read d (Some v) first sc s ss before m.Comma rest wf e = reads_init v (after_declarator sc ss d.declarator) (DeclInit ss before d.declarator ∷ s) m.Comma rest wf refl refl
start_read d (Some v) first sc s ss before m.Semicolon rest wf e = reads_init v (after_declarator sc ss d.declarator) (DeclInit ss before d.declarator ∷ s) m.Semicolon rest wf refl refl
start_read d None first sc s ss before _ rest wf e = absurd cc
start_read d (Some v) first sc s ss before _ rest wf e = absurd cc

start_end : (v : Option t.Initialiser) (ds : List t.InitDeclarator) (rest : List Word) → ends_declarator (spell_start v (spell_more_init_declarators ds (Sign m.Semicolon ∷ rest))) ≡ true
start_end None [] rest = refl
start_end None (d ∷ ds) rest = refl
start_end (Some v) ds rest = refl

append_one : (before : List t.InitDeclarator) (d : t.InitDeclarator) (ds : List t.InitDeclarator) → (before ++ d ∷ []) ++ ds ≡ before ++ d ∷ ds
append_one [] d ds = refl
append_one (e ∷ before) d ds = ap (λ us. e ∷ us) (append_one before d ds)

-- the declarators of a declaration, from the first on
inits_read : (d : t.InitDeclarator) (ds : List t.InitDeclarator) (first : Bool) (sc : Scope) (s : Stack Tree) (ss : t.Specs) (before : List t.InitDeclarator) (rest : List Word) → AreInitDeclarators sc ss (d ∷ ds) → R (spell_init_declarators (d ∷ ds) (Sign m.Semicolon ∷ rest)) sc (DeclDeclarator first ss before ∷ s) (WantDeclarator Ordinary) ≡ go rest (declaration_done trees_built (after_init_declarators sc ss (d ∷ ds)) s (t.Declare ss (before ++ d ∷ ds)))
inits_read d [] first sc s ss before rest wf =
    let X = spell_start d.start (Sign m.Semicolon ∷ rest) in
    reads_declarator d.declarator sc (DeclDeclarator first ss before ∷ s) Ordinary X wf.0 refl (meets_end d.declarator X (start_end d.start [] rest))
    ∙ start_read d d.start first sc s ss before m.Semicolon rest wf.1 refl
inits_read d (e ∷ ds) first sc s ss before rest wf =
    let X = spell_start d.start (spell_more_init_declarators (e ∷ ds) (Sign m.Semicolon ∷ rest)) in
    reads_declarator d.declarator sc (DeclDeclarator first ss before ∷ s) Ordinary X wf.0 refl (meets_end d.declarator X (start_end d.start (e ∷ ds) rest))
    ∙ start_read d d.start first sc s ss before m.Comma (spell_init_declarators (e ∷ ds) (Sign m.Semicolon ∷ rest)) wf.1 refl
    ∙ inits_read e ds false (after_declarator sc ss d.declarator) s ss (before ++ d ∷ []) rest wf.2
    ∙ ap (λ us. go rest (declaration_done trees_built (after_init_declarators sc ss (d ∷ e ∷ ds)) s (t.Declare ss us))) (append_one before d (e ∷ ds))

declarators_read : (ds : List t.InitDeclarator) (sc : Scope) (s : Stack Tree) (ss : t.Specs) (rest : List Word) → form_type ss ≡ true → AreInitDeclarators sc ss ds → R (spell_init_declarators ds (Sign m.Semicolon ∷ rest)) sc (DeclSpecs ∷ s) (Specs ss) ≡ go rest (declaration_done trees_built (after_init_declarators sc ss ds) s (t.Declare ss ds))
declarators_read [] sc s ss rest f wf = no_declarators sc s ss rest f
declarators_read (d ∷ ds) sc s ss rest f wf =
    to_first sc s ss (spell_init_declarators (d ∷ ds) (Sign m.Semicolon ∷ rest)) (named_start d.declarator sc _ wf.0) f
    ∙ inits_read d ds true sc s ss [] rest wf

declarators_plain : (ds : List t.InitDeclarator) (sc : Scope) (ss : t.Specs) (rest : List Word) → AreInitDeclarators sc ss ds → is_plain_start (spell_init_declarators ds (Sign m.Semicolon ∷ rest)) ≡ true
declarators_plain [] sc ss rest wf = refl
declarators_plain (d ∷ ds) sc ss rest wf = named_plain d.declarator sc _ wf.0

assert_starts : (sc : Scope) (s : Stack Tree) (rest : List Word) → takes_declaration s ≡ true → R (Key w.StaticAssert ∷ rest) sc s (place_mode s) ≡ R rest sc s (Opening ToAssert)
assert_starts sc (InUnit is ∷ s) rest h = refl
assert_starts sc (InBlock outer c ∷ s) rest h = refl
assert_starts sc (InSwitch outer x c ∷ s) rest h = refl
assert_starts sc (InFunction outer ss d c ∷ s) rest h = refl
assert_starts sc (InForInit outer ∷ s) rest h = refl
assert_starts sc [] rest h = absurd cc
assert_starts sc (_ ∷ s) rest h = absurd cc

pub reads_declaration : (d : t.Declaration) (sc : Scope) (s : Stack Tree) (rest : List Word) → takes_declaration s ≡ true → IsDeclaration sc d → R (spell_declaration d rest) sc s (place_mode s) ≡ go rest (declaration_done trees_built (after_declaration sc d) s d)
reads_declaration (t.Declare ss ds) sc s rest h wf =
    let X = spell_init_declarators ds (Sign m.Semicolon ∷ rest) in
    declaration_starts sc s ss X h wf.0 wf.1
    ∙ reads_specs ss sc (DeclSpecs ∷ s) t.no_spec X wf.0 wf.1 (declarators_plain ds (after_specs sc ss) ss rest wf.2)
    ∙ declarators_read ds (after_specs sc ss) s ss rest wf.1 wf.2
reads_declaration (t.Assert x u) sc s rest h wf =
    let X = Literal u ∷ Sign m.Close ∷ Sign m.Semicolon ∷ rest in
    assert_starts sc s (Sign m.Open ∷ spell x (Sign m.Comma ∷ X)) h
    ∙ reads x sc (InAssert ∷ s) (Sign m.Comma ∷ X) wf.1 wf.0 (level_range x).0
    ∙ acts sc m.Comma (InAssert ∷ s) x X (omega arith)
