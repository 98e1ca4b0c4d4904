-- Statements and units are read from their words.
use Rattle.std.proofs.Common.{◌≡◌, ◌≤◌, Bool, true, false, not, ◌&&◌, if◌then◌else◌, List, [], ◌∷◌, ◌++◌, Option, Some, None, refl, sym, ap, ◌∙◌, arith}
use Rattle.ct_syntax.specs.declared.words.PrefixOp.TheVariants as p
use Rattle.ct_syntax.specs.declared.words.Mark.TheVariants as m
use Rattle.ct_syntax.specs.declared.words.Keyword.TheVariants as w
use Rattle.ct_syntax.specs.Words.{Word, Named, Sign, Key}
use Rattle.ct_syntax.specs.Scopes.{Scope, after_specs, after_declarator, after_declaration, after_for_start, after_item, after_unit, inside_definition}
use Rattle.ct_syntax.specs.TypeWords.{form_type}
use Rattle.ct_syntax.specs.Grammar.{expression_level, is_if, takes_else, other_takes_else, is_followed, IsExpression, IsMaybe, IsForStart, IsDeclaration, IsStatement, AreBranches, IsOther, IsBody, IsItem, IsTranslationUnit}
use Rattle.ct_syntax.specs.Spelling.{spell, spell_specs, spell_declarator, spell_maybe, spell_for_start, spell_declaration, spell_statement, spell_more_branches, spell_other, spell_body, spell_item, spell_unit}
use Rattle.ct_syntax.specs.Trees as t
use Rattle.ct_grammar_machine.specs.Algebra.{Tree, trees_built, branches_then, body_then}
use Rattle.ct_grammar_machine.specs.Frames.{Ordinary, Frame, DeclSpecs, DeclDeclarator, InBlock, InSwitch, InFunction, InUnit, InCase, InRun, InReturn, InTest, InBranch, InElseBody, InLoopTest, InWhile, InDo, InDoTest, InSwitchTest, InForInit, InForCondition, InForStep, InFor, Want, Begin, Done, AfterElse, Returning, ForInit, ForCondition, ForStep, Stack, State}
use Rattle.ct_grammar_machine.specs.Steps.{begin, statement, block_part, begin_part, specs_step, ended, on_else, is_else, done, next_in}
use Rattle.ct_grammar_laws.proofs.Basics.{level_range, R, acts}
use Rattle.ct_grammar_laws.proofs.Starts.{is_value_start, value_start, meets_end}
use Rattle.ct_grammar_laws.proofs.Complete.{go, reads, reads_specs, reads_declarator}
use Rattle.ct_grammar_laws.proofs.CompleteDeclarations.{takes_declaration, declaration_starts, named_start, named_plain, to_first, reads_declaration}

and_false : (z : Bool) → (z && false) ≡ false
and_false true = refl
and_false false = refl

and_some : (z y : Bool) → y ≡ false → (z && y) ≡ false
and_some z false h = and_false z
and_some z true h = absurd cc

-- ---- how words begin

abbrev pub is_more : List Word → Bool
is_more [] = false
is_more (v ∷ ws) = true

abbrev pub begins_else : List Word → Bool
begins_else [] = false
begins_else (v ∷ ws) = is_else v

-- a word that a statement may begin with
abbrev pub is_statement_start : Scope → List Word → Bool
is_statement_start sc [] = false
is_statement_start sc (Sign m.CloseBrace ∷ ws) = false
is_statement_start sc (Key (w.Spec k) ∷ ws) = false
is_statement_start sc (Key w.Struct ∷ ws) = false
is_statement_start sc (Key w.Enum ∷ ws) = false
is_statement_start sc (Key w.StaticAssert ∷ ws) = false
is_statement_start sc (Key w.Case ∷ ws) = false
is_statement_start sc (Key w.Default ∷ ws) = false
is_statement_start sc (Key w.Else ∷ ws) = false
is_statement_start sc (Named u ∷ ws) = not (sc u)
is_statement_start sc (v ∷ ws) = true

not_true : (z : Bool) → z ≡ false → not z ≡ true
not_true false h = refl
not_true true h = absurd cc

not_false : (z : Bool) → not z ≡ true → z ≡ false
not_false false h = refl
not_false true h = absurd cc

value_begins : (x : t.Expression) (sc : Scope) (rest : List Word) → IsExpression sc x → is_statement_start sc (spell x rest) ≡ true
value_begins (t.Name u) sc rest wf = not_true (sc u) wf
value_begins (t.Number u) sc rest wf = refl
value_begins (t.Character u) sc rest wf = refl
value_begins (t.Strings u us) sc rest wf = refl
value_begins (t.Paren x) sc rest wf = refl
value_begins (t.Index x y) sc rest wf = value_begins x sc _ wf.1
value_begins (t.Call f xs) sc rest wf = value_begins f sc _ wf.1
value_begins (t.Member x o u) sc rest wf = value_begins x sc _ wf.1
value_begins (t.Postfix x o) sc rest wf = value_begins x sc _ wf.1
value_begins (t.Prefix o x) sc rest wf = refl
value_begins (t.Unary p.Address x) sc rest wf = refl
value_begins (t.Unary p.Dereference x) sc rest wf = refl
value_begins (t.Unary p.Plus x) sc rest wf = refl
value_begins (t.Unary p.Minus x) sc rest wf = refl
value_begins (t.Unary p.Complement x) sc rest wf = refl
value_begins (t.Unary p.Not x) sc rest wf = refl
value_begins (t.SizeofValue x) sc rest wf = refl
value_begins (t.SizeofType ss d) sc rest wf = refl
value_begins (t.Cast ss d x) sc rest wf = refl
value_begins (t.Infix o x y) sc rest wf = value_begins x sc _ wf.2
value_begins (t.Conditional c x y) sc rest wf = value_begins c sc _ wf.2
value_begins (t.Assign o x y) sc rest wf = value_begins x sc _ wf.2
value_begins (t.Comma x y) sc rest wf = value_begins x sc _ wf.1

statement_begins : (u : t.Statement) (sc : Scope) (rest : List Word) → IsStatement sc u → is_statement_start sc (spell_statement u rest) ≡ true
statement_begins (t.Block c) sc rest wf = refl
statement_begins (t.Run None) sc rest wf = refl
statement_begins (t.Run (Some x)) sc rest wf = value_begins x sc _ wf
statement_begins (t.If t.no_branch o) sc rest wf = absurd (let e = wf.0 in cc)
statement_begins (t.If (t.branch c s bs) o) sc rest wf = refl
statement_begins (t.While c s) sc rest wf = refl
statement_begins (t.Do s c) sc rest wf = refl
statement_begins (t.For f c e s) sc rest wf = refl
statement_begins (t.Switch x c) sc rest wf = refl
statement_begins t.Break sc rest wf = refl
statement_begins t.Continue sc rest wf = refl
statement_begins (t.Return x) sc rest wf = refl

-- a word that is no `if`
abbrev is_other : List Word → Bool
is_other [] = false
is_other (Key w.If ∷ ws) = false
is_other (v ∷ ws) = true

value_other : (ws : List Word) → is_value_start ws ≡ true → is_other ws ≡ true
value_other [] h = absurd cc
value_other (Key w.If ∷ ws) h = absurd cc
value_other (_ ∷ ws) h = refl

statement_other : (u : t.Statement) (rest : List Word) → is_if u ≡ false → is_other (spell_statement u rest) ≡ true
statement_other (t.Block c) rest h = refl
statement_other (t.Run None) rest h = refl
statement_other (t.Run (Some x)) rest h = value_other _ (value_start x _)
statement_other (t.If bs o) rest h = absurd cc
statement_other (t.While c s) rest h = refl
statement_other (t.Do s c) rest h = refl
statement_other (t.For f c e s) rest h = refl
statement_other (t.Switch x c) rest h = refl
statement_other t.Break rest h = refl
statement_other t.Continue rest h = refl
statement_other (t.Return x) rest h = refl

-- ---- a statement at its first word

-- what comes of the words where a statement begins
abbrev pub S : List Word → Scope → Stack Tree → Option (State Tree)
S [] sc s = None
S (v ∷ ws) sc s = go ws (statement trees_built sc s v)

abbrev pub takes_statement : Stack Tree → Bool
takes_statement (InUnit is ∷ s) = false
takes_statement _ = true

block_statement : (sc : Scope) (s : Stack Tree) (v : Word) (ws : List Word) → is_statement_start sc (v ∷ ws) ≡ true → block_part trees_built sc s v ≡ statement trees_built sc s v
block_statement sc s (Sign m.CloseBrace) ws h = absurd cc
block_statement sc s (Key w.StaticAssert) ws h = absurd cc
block_statement sc s (Key (w.Spec k)) ws h = absurd cc
block_statement sc s (Key w.Struct) ws h = absurd cc
block_statement sc s (Key w.Enum) ws h = absurd cc
block_statement sc s (Named u) ws h = ap (λ z. if z then specs_step trees_built sc (DeclSpecs ∷ s) t.no_spec (Named u) else statement trees_built sc s (Named u)) (not_false (sc u) h)
block_statement sc s _ ws h = refl

switch_statement : (sc outer : Scope) (x : t.Expression) (c : t.Body) (s : Stack Tree) (v : Word) (ws : List Word) → is_statement_start sc (v ∷ ws) ≡ true → begin_part trees_built sc (InSwitch outer x c ∷ s) v ≡ block_part trees_built sc (InSwitch outer x c ∷ s) v
switch_statement sc outer x c s (Key w.Case) ws h = absurd cc
switch_statement sc outer x c s (Key w.Default) ws h = absurd cc
switch_statement sc outer x c s _ ws h = refl

begins : (sc : Scope) (s : Stack Tree) (ws : List Word) → takes_statement s ≡ true → is_statement_start sc ws ≡ true → R ws sc s Begin ≡ S ws sc s
begins sc s [] h e = absurd cc
begins sc (InUnit is ∷ s) (v ∷ ws) h e = absurd cc
begins sc (InBlock outer c ∷ s) (v ∷ ws) h e = ap (go ws) (block_statement sc (InBlock outer c ∷ s) v ws e)
begins sc (InFunction outer ss d c ∷ s) (v ∷ ws) h e = ap (go ws) (block_statement sc (InFunction outer ss d c ∷ s) v ws e)
begins sc (InSwitch outer x c ∷ s) (v ∷ ws) h e = ap (go ws) (switch_statement sc outer x c s v ws e ∙ block_statement sc (InSwitch outer x c ∷ s) v ws e)
begins sc [] (v ∷ ws) h e = refl
begins sc (_ ∷ s) (v ∷ ws) h e = refl

value_statement : (sc : Scope) (s : Stack Tree) (ws : List Word) → is_value_start ws ≡ true → S ws sc s ≡ R ws sc (InRun ∷ s) Want
value_statement sc s [] h = absurd cc
value_statement sc s (Sign m.OpenBrace ∷ ws) h = absurd cc
value_statement sc s (Sign m.Semicolon ∷ ws) h = absurd cc
value_statement sc s (Key w.Sizeof ∷ ws) h = refl
value_statement sc s (Key _ ∷ ws) h = absurd cc
value_statement sc s (_ ∷ ws) h = refl

else_body : (sc : Scope) (s : Stack Tree) (bs : t.Branches) (ws : List Word) → is_other ws ≡ true → R ws sc s (AfterElse bs) ≡ S ws sc (InElseBody bs ∷ s)
else_body sc s bs [] h = absurd cc
else_body sc s bs (Key w.If ∷ ws) h = absurd cc
else_body sc s bs (_ ∷ ws) h = refl

value_return : (sc : Scope) (s : Stack Tree) (ws : List Word) → is_value_start ws ≡ true → R ws sc s Returning ≡ R ws sc (InReturn ∷ s) Want
value_return sc s [] h = absurd cc
value_return sc s (Sign m.Semicolon ∷ ws) h = absurd cc
value_return sc s (_ ∷ ws) h = refl

value_test : (sc : Scope) (s : Stack Tree) (ws : List Word) → is_value_start ws ≡ true → R ws sc s ForCondition ≡ R ws sc s Want
value_test sc s [] h = absurd cc
value_test sc s (Sign m.Semicolon ∷ ws) h = absurd cc
value_test sc s (_ ∷ ws) h = refl

value_after : (sc : Scope) (s : Stack Tree) (ws : List Word) → is_value_start ws ≡ true → R ws sc s ForStep ≡ R ws sc s Want
value_after sc s [] h = absurd cc
value_after sc s (Sign m.Close ∷ ws) h = absurd cc
value_after sc s (_ ∷ ws) h = refl

value_starts : (sc : Scope) (s : Stack Tree) (ws : List Word) → is_value_start ws ≡ true → is_statement_start sc ws ≡ true → R ws sc s ForInit ≡ R ws sc s Want
value_starts sc s [] h e = absurd cc
value_starts sc s (Sign m.Semicolon ∷ ws) h e = absurd cc
value_starts sc s (Named u ∷ ws) h e = ap (λ z. go ws (if z then specs_step trees_built sc (DeclSpecs ∷ s) t.no_spec (Named u) else begin trees_built sc s (Named u))) (not_false (sc u) e)
value_starts sc s (Key w.Sizeof ∷ ws) h e = refl
value_starts sc s (Key _ ∷ ws) h e = absurd cc
value_starts sc s (_ ∷ ws) h e = refl

-- ---- a statement that is read, at the word behind it

done_at : (b : Bool) (sc sc' : Scope) (s s' : Stack Tree) (u u' : t.Statement) (v : Word) → on_else trees_built sc s u ≡ on_else trees_built sc' s' u' → ended trees_built sc s u ≡ ended trees_built sc' s' u' → done trees_built b sc s u v ≡ done trees_built b sc' s' u' v
done_at true sc sc' s s' u u' v h e = h
done_at false sc sc' s s' u u' v h e = ap (λ r. next_in trees_built r v) e

done_same : (sc sc' : Scope) (s s' : Stack Tree) (u u' : t.Statement) (rest : List Word) → is_more rest ≡ true → on_else trees_built sc s u ≡ on_else trees_built sc' s' u' → ended trees_built sc s u ≡ ended trees_built sc' s' u' → R rest sc s (Done u) ≡ R rest sc' s' (Done u')
done_same sc sc' s s' u u' [] n h e = absurd cc
done_same sc sc' s s' u u' (v ∷ ws) n h e = ap (go ws) (done_at (is_else v) sc sc' s s' u u' v h e)

done_branch : (sc : Scope) (s : Stack Tree) (before : t.Branches) (c : t.Expression) (u : t.Statement) (rest : List Word) → is_more rest ≡ true → begins_else rest ≡ false → R rest sc (InBranch before c ∷ s) (Done u) ≡ R rest sc s (Done (t.If (branches_then before (t.branch c u t.no_branch)) t.no_else))
done_branch sc s before c u [] n h = absurd cc
done_branch sc s before c u (v ∷ ws) n h =
    ap (λ z. go ws (done trees_built z sc (InBranch before c ∷ s) u v)) h
    ∙ ap (λ z. go ws (done trees_built z sc s (t.If (branches_then before (t.branch c u t.no_branch)) t.no_else) v)) (sym h)

branches-last : (bs : t.Branches) (c : t.Expression) (u : t.Statement) (cs : t.Branches) → branches_then (branches_then bs (t.branch c u t.no_branch)) cs ≡ branches_then bs (t.branch c u cs)
branches-last t.no_branch c u cs = refl
branches-last (t.branch x v bs) c u cs = ap (t.branch x v) (branches-last bs c u cs)

true_and : (z : Bool) → (true && z) ≡ false → z ≡ false
true_and z h = h

-- ---- braces

pub data Braces : Type 0 where
  OfBlock : (outer : Scope) → Braces
  OfSwitch : (outer : Scope) → (value : t.Expression) → Braces
  OfFunction : (outer : Scope) → (type : t.Specs) → (declarator : t.Declarator) → Braces

abbrev pub body_frame : Braces → t.Body → Frame Tree
body_frame (OfBlock outer) c = InBlock outer c
body_frame (OfSwitch outer x) c = InSwitch outer x c
body_frame (OfFunction outer ss d) c = InFunction outer ss d c

abbrev pub has_labels : Braces → Bool
has_labels (OfSwitch outer x) = true
has_labels _ = false

abbrev pub after_body : Scope → t.Body → Scope
after_body sc t.no_part = sc
after_body sc (t.case_label x c) = after_body sc c
after_body sc (t.default_label c) = after_body sc c
after_body sc (t.declared d c) = after_body (after_declaration sc d) c
after_body sc (t.stated s c) = after_body sc c

body-none : (c : t.Body) → body_then c t.no_part ≡ c
body-none t.no_part = refl
body-none (t.case_label x c) = ap (t.case_label x) (body-none c)
body-none (t.default_label c) = ap t.default_label (body-none c)
body-none (t.declared d c) = ap (t.declared d) (body-none c)
body-none (t.stated s c) = ap (t.stated s) (body-none c)

pub body-assoc : (a c d : t.Body) → body_then (body_then a c) d ≡ body_then a (body_then c d)
body-assoc t.no_part c d = refl
body-assoc (t.case_label x a) c d = ap (t.case_label x) (body-assoc a c d)
body-assoc (t.default_label a) c d = ap t.default_label (body-assoc a c d)
body-assoc (t.declared e a) c d = ap (t.declared e) (body-assoc a c d)
body-assoc (t.stated s a) c d = ap (t.stated s) (body-assoc a c d)

body_takes : (k : Braces) (c : t.Body) (s : Stack Tree) → takes_declaration (body_frame k c ∷ s) ≡ true
body_takes (OfBlock outer) c s = refl
body_takes (OfSwitch outer x) c s = refl
body_takes (OfFunction outer ss d) c s = refl

body_states : (k : Braces) (c : t.Body) (s : Stack Tree) → takes_statement (body_frame k c ∷ s) ≡ true
body_states (OfBlock outer) c s = refl
body_states (OfSwitch outer x) c s = refl
body_states (OfFunction outer ss d) c s = refl

declaration_in : (k : Braces) (c : t.Body) (sc : Scope) (s : Stack Tree) (d : t.Declaration) (rest : List Word) → IsDeclaration sc d → R (spell_declaration d rest) sc (body_frame k c ∷ s) Begin ≡ R rest (after_declaration sc d) (body_frame k (body_then c (t.declared d t.no_part)) ∷ s) Begin
declaration_in (OfBlock outer) c sc s d rest wf = reads_declaration d sc (InBlock outer c ∷ s) rest refl wf
declaration_in (OfSwitch outer x) c sc s d rest wf = reads_declaration d sc (InSwitch outer x c ∷ s) rest refl wf
declaration_in (OfFunction outer ss f) c sc s d rest wf = reads_declaration d sc (InFunction outer ss f c ∷ s) rest refl wf

continues : (k : Braces) (c : t.Body) (sc : Scope) (s : Stack Tree) (u : t.Statement) (rest : List Word) → is_more rest ≡ true → begins_else rest ≡ false → R rest sc (body_frame k c ∷ s) (Done u) ≡ R rest sc (body_frame k (body_then c (t.stated u t.no_part)) ∷ s) Begin
continues k c sc s u [] n h = absurd cc
continues (OfBlock outer) c sc s u (v ∷ ws) n h = ap (λ z. go ws (done trees_built z sc (InBlock outer c ∷ s) u v)) h
continues (OfSwitch outer x) c sc s u (v ∷ ws) n h = ap (λ z. go ws (done trees_built z sc (InSwitch outer x c ∷ s) u v)) h
continues (OfFunction outer ss d) c sc s u (v ∷ ws) n h = ap (λ z. go ws (done trees_built z sc (InFunction outer ss d c ∷ s) u v)) h

case_in : (k : Braces) (c : t.Body) (sc : Scope) (s : Stack Tree) (x : t.Expression) (rest : List Word) → has_labels k ≡ true → 3 ≤ expression_level x → IsExpression sc x → R (Key w.Case ∷ spell x (Sign m.Colon ∷ rest)) sc (body_frame k c ∷ s) Begin ≡ R rest sc (body_frame k (body_then c (t.case_label x t.no_part)) ∷ s) Begin
case_in (OfBlock outer) c sc s x rest h le wf = absurd cc
case_in (OfFunction outer ss d) c sc s x rest h le wf = absurd cc
case_in (OfSwitch outer y) c sc s x rest h le wf =
    reads x sc (InCase ∷ InSwitch outer y c ∷ s) (Sign m.Colon ∷ rest) wf le (level_range x).0
    ∙ acts sc m.Colon (InCase ∷ InSwitch outer y c ∷ s) x rest (omega arith)

default_in : (k : Braces) (c : t.Body) (sc : Scope) (s : Stack Tree) (rest : List Word) → has_labels k ≡ true → R (Key w.Default ∷ Sign m.Colon ∷ rest) sc (body_frame k c ∷ s) Begin ≡ R rest sc (body_frame k (body_then c (t.default_label t.no_part)) ∷ s) Begin
default_in (OfBlock outer) c sc s rest h = absurd cc
default_in (OfFunction outer ss d) c sc s rest h = absurd cc
default_in (OfSwitch outer y) c sc s rest h = refl

-- the first word of a declaration is no `else`
specs_no_else : (ss : t.Specs) (rest : List Word) → form_type ss ≡ true → (begins_else (spell_specs ss rest) ≡ false) × (is_more (spell_specs ss rest) ≡ true)
specs_no_else t.no_spec rest h = absurd cc
specs_no_else (t.spec_word k ss) rest h = (refl, refl)
specs_no_else (t.typedef_name u ss) rest h = (refl, refl)
specs_no_else (t.struct_tag u ss) rest h = (refl, refl)
specs_no_else (t.struct_list tag ms ss) rest h = (refl, refl)
specs_no_else (t.enum_tag u ss) rest h = (refl, refl)
specs_no_else (t.enum_list tag es c ss) rest h = (refl, refl)

start_no_else : (sc : Scope) (ws : List Word) → is_statement_start sc ws ≡ true → (begins_else ws ≡ false) × (is_more ws ≡ true)
start_no_else sc [] h = absurd cc
start_no_else sc (Key w.Else ∷ ws) h = absurd cc
start_no_else sc (_ ∷ ws) h = (refl, refl)

body_no_else : (labels : Bool) (c : t.Body) (sc : Scope) (rest : List Word) → IsBody labels sc c → (begins_else (spell_body c (Sign m.CloseBrace ∷ rest)) ≡ false) × (is_more (spell_body c (Sign m.CloseBrace ∷ rest)) ≡ true)
body_no_else labels t.no_part sc rest wf = (refl, refl)
body_no_else labels (t.case_label x c) sc rest wf = (refl, refl)
body_no_else labels (t.default_label c) sc rest wf = (refl, refl)
body_no_else labels (t.declared (t.Declare ss ds) c) sc rest wf = specs_no_else ss _ wf.0.1
body_no_else labels (t.declared (t.Assert x u) c) sc rest wf = (refl, refl)
body_no_else labels (t.stated u c) sc rest wf = start_no_else sc _ (statement_begins u sc _ wf.0)

-- ---- the head of a `for`

for_start_read : (f : t.ForStart) (sc : Scope) (s : Stack Tree) (rest : List Word) → IsForStart sc f → R (spell_for_start f rest) sc (InForInit sc ∷ s) ForInit ≡ R rest (after_for_start sc f) (InForCondition sc f ∷ s) ForCondition
for_start_read (t.StartDeclaration d) sc s rest wf = reads_declaration d sc (InForInit sc ∷ s) rest refl wf
for_start_read (t.StartValue None) sc s rest wf = refl
for_start_read (t.StartValue (Some x)) sc s rest wf =
    value_starts sc (InForInit sc ∷ s) (spell x (Sign m.Semicolon ∷ rest)) (value_start x _) (value_begins x sc _ wf)
    ∙ reads x sc (InForInit sc ∷ s) (Sign m.Semicolon ∷ rest) wf (level_range x).0 (level_range x).0
    ∙ acts sc m.Semicolon (InForInit sc ∷ s) x rest (omega arith)

for_test_read : (c : Option t.Expression) (sc outer : Scope) (s : Stack Tree) (f : t.ForStart) (rest : List Word) → IsMaybe sc c → R (spell_maybe c (Sign m.Semicolon ∷ rest)) sc (InForCondition outer f ∷ s) ForCondition ≡ R rest sc (InForStep outer f c ∷ s) ForStep
for_test_read None sc outer s f rest wf = refl
for_test_read (Some x) sc outer s f rest wf =
    value_test sc (InForCondition outer f ∷ s) (spell x (Sign m.Semicolon ∷ rest)) (value_start x _)
    ∙ reads x sc (InForCondition outer f ∷ s) (Sign m.Semicolon ∷ rest) wf (level_range x).0 (level_range x).0
    ∙ acts sc m.Semicolon (InForCondition outer f ∷ s) x rest (omega arith)

for_after_read : (e : Option t.Expression) (sc outer : Scope) (s : Stack Tree) (f : t.ForStart) (c : Option t.Expression) (rest : List Word) → IsMaybe sc e → R (spell_maybe e (Sign m.Close ∷ rest)) sc (InForStep outer f c ∷ s) ForStep ≡ R rest sc (InFor outer f c e ∷ s) Begin
for_after_read None sc outer s f c rest wf = refl
for_after_read (Some x) sc outer s f c rest wf =
    value_after sc (InForStep outer f c ∷ s) (spell x (Sign m.Close ∷ rest)) (value_start x _)
    ∙ reads x sc (InForStep outer f c ∷ s) (Sign m.Close ∷ rest) wf (level_range x).0 (level_range x).0
    ∙ acts sc m.Close (InForStep outer f c ∷ s) x rest (omega arith)

other_more : (o : t.Other) (rest : List Word) → is_more rest ≡ true → is_more (spell_other o rest) ≡ true
other_more t.no_else rest h = h
other_more (t.else_do s) rest h = refl

branches_more : (bs : t.Branches) (o : t.Other) (rest : List Word) → is_more rest ≡ true → is_more (spell_more_branches bs (spell_other o rest)) ≡ true
branches_more t.no_branch o rest h = other_more o rest h
branches_more (t.branch c s bs) o rest h = refl

and_one : (z : Bool) → z ≡ false → (z && true) ≡ false
and_one false h = refl
and_one true h = absurd cc

-- whether an `else` stands behind a branch, in the text
followed_else : (bs : t.Branches) (o : t.Other) (s : t.Statement) (rest : List Word) → (is_followed bs o && takes_else s) ≡ false → (other_takes_else o && begins_else rest) ≡ false → (takes_else s && begins_else (spell_more_branches bs (spell_other o rest))) ≡ false
followed_else t.no_branch t.no_else s rest h e = and_some (takes_else s) (begins_else rest) e
followed_else t.no_branch (t.else_do u) s rest h e = and_one (takes_else s) h
followed_else (t.branch c u bs) o s rest h e = and_one (takes_else s) h

mutual
  -- a statement, whose first word is read as that of one
  pub reads_statement : (u : t.Statement) (sc : Scope) (s : Stack Tree) (rest : List Word) → IsStatement sc u → is_more rest ≡ true → (takes_else u && begins_else rest) ≡ false → S (spell_statement u rest) sc s ≡ R rest sc s (Done u)
  reads_statement (t.Block c) sc s rest wf n e = reads_parts c (OfBlock sc) sc s t.no_part rest wf
  reads_statement (t.Run None) sc s rest wf n e = refl
  reads_statement (t.Run (Some x)) sc s rest wf n e =
      value_statement sc s (spell x (Sign m.Semicolon ∷ rest)) (value_start x _)
      ∙ reads x sc (InRun ∷ s) (Sign m.Semicolon ∷ rest) wf (level_range x).0 (level_range x).0
      ∙ acts sc m.Semicolon (InRun ∷ s) x rest (omega arith)
  reads_statement (t.If t.no_branch o) sc s rest wf n e = absurd (let h = wf.0 in cc)
  reads_statement (t.If (t.branch c u bs) o) sc s rest wf n e =
      let X = spell_more_branches bs (spell_other o rest) in
      reads c sc (InTest t.no_branch ∷ s) (Sign m.Close ∷ spell_statement u X) wf.1.0 (level_range c).0 (level_range c).0
      ∙ acts sc m.Close (InTest t.no_branch ∷ s) c (spell_statement u X) (omega arith)
      ∙ begins sc (InBranch t.no_branch c ∷ s) (spell_statement u X) refl (statement_begins u sc X wf.1.2)
      ∙ reads_statement u sc (InBranch t.no_branch c ∷ s) X wf.1.2 (branches_more bs o rest n) (followed_else bs o u rest wf.1.1 e)
      ∙ reads_ladder bs sc s t.no_branch c u o rest wf.1.3 n e (λ before d v. reads_other o sc s before d v rest wf.2 n e)
  reads_statement (t.While c u) sc s rest wf n e =
      reads c sc (InLoopTest ∷ s) (Sign m.Close ∷ spell_statement u rest) wf.0 (level_range c).0 (level_range c).0
      ∙ acts sc m.Close (InLoopTest ∷ s) c (spell_statement u rest) (omega arith)
      ∙ begins sc (InWhile c ∷ s) (spell_statement u rest) refl (statement_begins u sc rest wf.1)
      ∙ reads_statement u sc (InWhile c ∷ s) rest wf.1 n e
      ∙ done_same sc sc (InWhile c ∷ s) s u (t.While c u) rest n refl refl
  reads_statement (t.Do u c) sc s rest wf n e =
      let X = Key w.While ∷ Sign m.Open ∷ spell c (Sign m.Close ∷ Sign m.Semicolon ∷ rest) in
      begins sc (InDo ∷ s) (spell_statement u X) refl (statement_begins u sc X wf.0)
      ∙ reads_statement u sc (InDo ∷ s) X wf.0 refl (and_false (takes_else u))
      ∙ reads c sc (InDoTest u ∷ s) (Sign m.Close ∷ Sign m.Semicolon ∷ rest) wf.1 (level_range c).0 (level_range c).0
      ∙ acts sc m.Close (InDoTest u ∷ s) c (Sign m.Semicolon ∷ rest) (omega arith)
  reads_statement (t.For f c d u) sc s rest wf n e =
      let in_for = after_for_start sc f in
      for_start_read f sc s (spell_maybe c (Sign m.Semicolon ∷ spell_maybe d (Sign m.Close ∷ spell_statement u rest))) wf.0
      ∙ for_test_read c in_for sc s f (spell_maybe d (Sign m.Close ∷ spell_statement u rest)) wf.1
      ∙ for_after_read d in_for sc s f c (spell_statement u rest) wf.2
      ∙ begins in_for (InFor sc f c d ∷ s) (spell_statement u rest) refl (statement_begins u in_for rest wf.3)
      ∙ reads_statement u in_for (InFor sc f c d ∷ s) rest wf.3 n e
      ∙ done_same in_for sc (InFor sc f c d ∷ s) s u (t.For f c d u) rest n refl refl
  reads_statement (t.Switch x c) sc s rest wf n e =
      reads x sc (InSwitchTest ∷ s) (Sign m.Close ∷ Sign m.OpenBrace ∷ spell_body c (Sign m.CloseBrace ∷ rest)) wf.0 (level_range x).0 (level_range x).0
      ∙ acts sc m.Close (InSwitchTest ∷ s) x (Sign m.OpenBrace ∷ spell_body c (Sign m.CloseBrace ∷ rest)) (omega arith)
      ∙ reads_parts c (OfSwitch sc x) sc s t.no_part rest wf.1
  reads_statement t.Break sc s rest wf n e = refl
  reads_statement t.Continue sc s rest wf n e = refl
  reads_statement (t.Return None) sc s rest wf n e = refl
  reads_statement (t.Return (Some x)) sc s rest wf n e =
      value_return sc s (spell x (Sign m.Semicolon ∷ rest)) (value_start x _)
      ∙ reads x sc (InReturn ∷ s) (Sign m.Semicolon ∷ rest) wf (level_range x).0 (level_range x).0
      ∙ acts sc m.Semicolon (InReturn ∷ s) x rest (omega arith)

  pub reads_ladder : (bs : t.Branches) (sc : Scope) (s : Stack Tree) (before : t.Branches) (c : t.Expression) (u : t.Statement) (o : t.Other) (rest : List Word) → AreBranches sc bs o → is_more rest ≡ true → (other_takes_else o && begins_else rest) ≡ false → ((before : t.Branches) (d : t.Expression) (v : t.Statement) → R (spell_other o rest) sc (InBranch before d ∷ s) (Done v) ≡ R rest sc s (Done (t.If (branches_then before (t.branch d v t.no_branch)) o))) → R (spell_more_branches bs (spell_other o rest)) sc (InBranch before c ∷ s) (Done u) ≡ R rest sc s (Done (t.If (branches_then before (t.branch c u bs)) o))
  reads_ladder t.no_branch sc s before c u o rest wf n e h = h before c u
  reads_ladder (t.branch d v bs) sc s before c u o rest wf n e h =
      let X = spell_more_branches bs (spell_other o rest) in
      let now = branches_then before (t.branch c u t.no_branch) in
      reads d sc (InTest now ∷ s) (Sign m.Close ∷ spell_statement v X) wf.0 (level_range d).0 (level_range d).0
      ∙ acts sc m.Close (InTest now ∷ s) d (spell_statement v X) (omega arith)
      ∙ begins sc (InBranch now d ∷ s) (spell_statement v X) refl (statement_begins v sc X wf.2)
      ∙ reads_statement v sc (InBranch now d ∷ s) X wf.2 (branches_more bs o rest n) (followed_else bs o v rest wf.1 e)
      ∙ reads_ladder bs sc s now d v o rest wf.3 n e h
      ∙ ap (λ z. R rest sc s (Done (t.If z o))) (branches-last before c u (t.branch d v bs))

  pub reads_other : (o : t.Other) (sc : Scope) (s : Stack Tree) (before : t.Branches) (c : t.Expression) (u : t.Statement) (rest : List Word) → IsOther sc o → is_more rest ≡ true → (other_takes_else o && begins_else rest) ≡ false → R (spell_other o rest) sc (InBranch before c ∷ s) (Done u) ≡ R rest sc s (Done (t.If (branches_then before (t.branch c u t.no_branch)) o))
  reads_other t.no_else sc s before c u rest wf n e = done_branch sc s before c u rest n e
  reads_other (t.else_do v) sc s before c u rest wf n e =
      let now = branches_then before (t.branch c u t.no_branch) in
      else_body sc s now (spell_statement v rest) (statement_other v rest wf.0)
      ∙ reads_statement v sc (InElseBody now ∷ s) rest wf.1 n e
      ∙ done_same sc sc (InElseBody now ∷ s) s v (t.If now (t.else_do v)) rest n refl refl

  -- what stands in braces, up to the closing one
  pub reads_parts : (c : t.Body) (k : Braces) (sc : Scope) (s : Stack Tree) (before : t.Body) (rest : List Word) → IsBody (has_labels k) sc c → R (spell_body c (Sign m.CloseBrace ∷ rest)) sc (body_frame k before ∷ s) Begin ≡ R (Sign m.CloseBrace ∷ rest) (after_body sc c) (body_frame k (body_then before c) ∷ s) Begin
  reads_parts t.no_part k sc s before rest wf = ap (λ z. R (Sign m.CloseBrace ∷ rest) sc (body_frame k z ∷ s) Begin) (sym (body-none before))
  reads_parts (t.case_label x c) k sc s before rest wf =
      case_in k before sc s x (spell_body c (Sign m.CloseBrace ∷ rest)) wf.0 wf.1 wf.2
      ∙ reads_parts c k sc s (body_then before (t.case_label x t.no_part)) rest wf.3
      ∙ ap (λ z. R (Sign m.CloseBrace ∷ rest) (after_body sc c) (body_frame k z ∷ s) Begin) (body-assoc before (t.case_label x t.no_part) c)
  reads_parts (t.default_label c) k sc s before rest wf =
      default_in k before sc s (spell_body c (Sign m.CloseBrace ∷ rest)) wf.0
      ∙ reads_parts c k sc s (body_then before (t.default_label t.no_part)) rest wf.1
      ∙ ap (λ z. R (Sign m.CloseBrace ∷ rest) (after_body sc c) (body_frame k z ∷ s) Begin) (body-assoc before (t.default_label t.no_part) c)
  reads_parts (t.declared d c) k sc s before rest wf =
      declaration_in k before sc s d (spell_body c (Sign m.CloseBrace ∷ rest)) wf.0
      ∙ reads_parts c k (after_declaration sc d) s (body_then before (t.declared d t.no_part)) rest wf.1
      ∙ ap (λ z. R (Sign m.CloseBrace ∷ rest) (after_body (after_declaration sc d) c) (body_frame k z ∷ s) Begin) (body-assoc before (t.declared d t.no_part) c)
  reads_parts (t.stated u c) k sc s before rest wf =
      let X = spell_body c (Sign m.CloseBrace ∷ rest) in
      let behind = body_no_else (has_labels k) c sc rest wf.1 in
      begins sc (body_frame k before ∷ s) (spell_statement u X) (body_states k before s) (statement_begins u sc X wf.0)
      ∙ reads_statement u sc (body_frame k before ∷ s) X wf.0 behind.1 (and_some (takes_else u) (begins_else X) behind.0)
      ∙ continues k before sc s u X behind.1 behind.0
      ∙ reads_parts c k sc s (body_then before (t.stated u t.no_part)) rest wf.1
      ∙ ap (λ z. R (Sign m.CloseBrace ∷ rest) (after_body sc c) (body_frame k z ∷ s) Begin) (body-assoc before (t.stated u t.no_part) c)

-- ---- a unit

reads_definition : (ss : t.Specs) (d : t.Declarator) (c : t.Body) (sc : Scope) (s : Stack Tree) (before : List t.Item) (rest : List Word) → IsItem sc (t.Definition ss d c) → R (spell_item (t.Definition ss d c) rest) sc (InUnit before ∷ s) Begin ≡ R rest (after_item sc (t.Definition ss d c)) (InUnit (before ++ t.Definition ss d c ∷ []) ∷ s) Begin
reads_definition ss d c sc s before rest wf =
    let X = Sign m.OpenBrace ∷ spell_body c (Sign m.CloseBrace ∷ rest) in
    let sc' = after_specs sc ss in
    declaration_starts sc (InUnit before ∷ s) ss (spell_declarator d X) refl wf.0 wf.1
    ∙ reads_specs ss sc (DeclSpecs ∷ InUnit before ∷ s) t.no_spec (spell_declarator d X) wf.0 wf.1 (named_plain d sc' X wf.2)
    ∙ to_first sc' (InUnit before ∷ s) ss (spell_declarator d X) (named_start d sc' X wf.2) wf.1
    ∙ reads_declarator d sc' (DeclDeclarator true ss [] ∷ InUnit before ∷ s) Ordinary X wf.2 refl (meets_end d X refl)
    ∙ reads_parts c (OfFunction (after_declarator sc' ss d) ss d) (inside_definition sc ss d) (InUnit before ∷ s) t.no_part rest wf.3

pub reads_item : (x : t.Item) (sc : Scope) (s : Stack Tree) (before : List t.Item) (rest : List Word) → IsItem sc x → R (spell_item x rest) sc (InUnit before ∷ s) Begin ≡ R rest (after_item sc x) (InUnit (before ++ x ∷ []) ∷ s) Begin
reads_item (t.Definition ss d c) sc s before rest wf = reads_definition ss d c sc s before rest wf
reads_item (t.Outside d) sc s before rest wf = reads_declaration d sc (InUnit before ∷ s) rest refl wf
reads_item t.Lone sc s before rest wf = refl

append_none : (is : List t.Item) → is ++ [] ≡ is
append_none [] = refl
append_none (x ∷ is) = ap (λ js. x ∷ js) (append_none is)

append_one : (is : List t.Item) (x : t.Item) (js : List t.Item) → (is ++ x ∷ []) ++ js ≡ is ++ x ∷ js
append_one [] x js = refl
append_one (y ∷ is) x js = ap (λ us. y ∷ us) (append_one is x js)

pub reads_unit : (is : List t.Item) (sc : Scope) (s : Stack Tree) (before : List t.Item) (rest : List Word) → IsTranslationUnit sc is → R (spell_unit is rest) sc (InUnit before ∷ s) Begin ≡ R rest (after_unit sc is) (InUnit (before ++ is) ∷ s) Begin
reads_unit [] sc s before rest wf = ap (λ js. R rest sc (InUnit js ∷ s) Begin) (sym (append_none before))
reads_unit (x ∷ is) sc s before rest wf =
    reads_item x sc s before (spell_unit is rest) wf.0
    ∙ reads_unit is (after_item sc x) s (before ++ x ∷ []) rest wf.1
    ∙ ap (λ js. R rest (after_unit (after_item sc x) is) (InUnit js ∷ s) Begin) (append_one before x is)
