-- How words begin, and what the machine does at their first word.
use Rattle.std.proofs.Common.{◌≡◌, ◌+◌, ◌≤◌, Bool, true, false, not, ◌&&◌, if◌then◌else◌, List, [], ◌∷◌, ◌++◌, Option, Some, None, refl, sym, ap, ◌∙◌, arith}
use Rattle.std.proofs.lemmas.Bool.{le-ltb}
use Rattle.ct_base.specs.declared.operators.BinaryOp.TheVariants as b
use Rattle.ct_syntax.specs.declared.words.InfixOp.TheVariants as i
use Rattle.ct_syntax.specs.declared.words.AssignOp.TheVariants as a
use Rattle.ct_syntax.specs.declared.words.PrefixOp.{PrefixOp}
use Rattle.ct_syntax.specs.declared.words.PrefixOp.TheVariants as p
use Rattle.ct_syntax.specs.declared.words.Mark.{Mark}
use Rattle.ct_syntax.specs.declared.words.Mark.TheVariants as m
use Rattle.ct_syntax.specs.declared.words.Keyword.TheVariants as w
use Rattle.ct_syntax.specs.declared.words.Qualifier.{Qualifier}
use Rattle.ct_syntax.specs.declared.words.Qualifier.TheVariants as q
use Rattle.ct_syntax.specs.declared.expressions.ParameterForm.{ParameterForm}
use Rattle.ct_syntax.specs.declared.expressions.ParameterForm.TheVariants as form
use Rattle.ct_syntax.specs.Words.{Text, Word, Named, Numbered, Quote, Literal, Sign, Key, Stray, prefix_mark, qualifier_keyword}
use Rattle.ct_syntax.specs.Scopes.{Scope}
use Rattle.ct_syntax.specs.Grammar.{expression_level, infix_level, is_direct, begins_list, fits_form, has_parameters, is_only_void, AreSpecs, AreParameters, IsDeclarator}
use Rattle.ct_syntax.specs.Spelling.{spell, spell_texts, spell_qualifiers, spell_tag, spell_form, spell_specs, spell_declarator, spell_parameters}
use Rattle.ct_syntax.specs.TypeWords.{form_type}
use Rattle.ct_syntax.specs.Trees as t
use Rattle.ct_grammar_machine.specs.Algebra.{Tree, trees_built, specs_then, has_type_part, parameters_then}
use Rattle.ct_grammar_machine.specs.Frames.{Kind, Ordinary, OfParameter, OfType, is_free, Which, InParen, InCall, InSizeof, CastSpecs, SizeofSpecs, InMembers, InEnumerators, InGroup, InPointer, InArray, InParameters, InParameter, InUnary, InPrefix, InInfix}
use Rattle.ct_grammar_machine.specs.Frames.{Want, Have, Texts, First, Specs, Tagged, NextMember, FirstEnumerator, WantDeclarator, Qualifying, Opened, HaveDeclarator, Sizing, Listing, NextParameter, Stack, State, stack_needs}
use Rattle.ct_grammar_machine.specs.Steps.{on_postfix, specs_step, specs_done, specs_end, want_declarator, then_run, run, begin_type, named, with_tag, listing}
use Rattle.ct_grammar_laws.proofs.Basics.{next_pull, R}
use Rattle.ct_grammar_laws.proofs.TypeParts.{form_has}

-- ---- marks and names

pub postfix_acts : (x : t.Expression) (next : State Tree) → 16 ≤ expression_level x → on_postfix trees_built x next ≡ Some next
postfix_acts x next h = rw (le-ltb (expression_level x) 16 h) refl

pub unary_read : (scope : Scope) (o : PrefixOp) (s : Stack Tree) (rest : List Word) → R (Sign (prefix_mark o) ∷ rest) scope s Want ≡ R rest scope (InUnary o ∷ s) Want
unary_read scope p.Address s rest = refl
unary_read scope p.Dereference s rest = refl
unary_read scope p.Plus s rest = refl
unary_read scope p.Minus s rest = refl
unary_read scope p.Complement s rest = refl
unary_read scope p.Not s rest = refl

-- ---- string literals

pub texts_read : (scope : Scope) (s : Stack Tree) (first : Text) (before ts : List Text) (rest : List Word) → R (spell_texts ts rest) scope s (Texts first before) ≡ R rest scope s (Texts first (before ++ ts))
texts_read scope s first before [] rest = ap (λ us. R rest scope s (Texts first us)) (sym (append_none before))
  where
    append_none : (us : List Text) → us ++ [] ≡ us
    append_none [] = refl
    append_none (u ∷ us) = ap (λ vs. u ∷ vs) (append_none us)
texts_read scope s first before (u ∷ ts) rest =
    texts_read scope s first (before ++ u ∷ []) ts rest ∙ ap (λ us. R rest scope s (Texts first us)) (append_one before)
  where
    append_one : (us : List Text) → (us ++ u ∷ []) ++ ts ≡ us ++ u ∷ ts
    append_one [] = refl
    append_one (v ∷ us) = ap (λ vs. v ∷ vs) (append_one us)

pub texts_done : (scope : Scope) (s : Stack Tree) (first : Text) (ts : List Text) (rest : List Word) → next_pull rest ≤ 16 → R rest scope s (Texts first ts) ≡ R rest scope s (Have (t.Strings first ts))
texts_done scope s first ts [] le = absurd (omega arith)
texts_done scope s first ts (Literal u ∷ ws) le = absurd (omega arith)
texts_done scope s first ts (_ ∷ ws) le = refl

-- ---- a value begins

-- a word that an expression may begin with
abbrev pub is_value_start : List Word → Bool
is_value_start (Named u ∷ ws) = true
is_value_start (Numbered u ∷ ws) = true
is_value_start (Quote u ∷ ws) = true
is_value_start (Literal u ∷ ws) = true
is_value_start (Sign m.Open ∷ ws) = true
is_value_start (Sign (m.Step o) ∷ ws) = true
is_value_start (Sign m.Complement ∷ ws) = true
is_value_start (Sign m.Not ∷ ws) = true
is_value_start (Sign (m.Infix (i.Number b.And)) ∷ ws) = true
is_value_start (Sign (m.Infix (i.Number b.Multiply)) ∷ ws) = true
is_value_start (Sign (m.Infix (i.Number b.Add)) ∷ ws) = true
is_value_start (Sign (m.Infix (i.Number b.Subtract)) ∷ ws) = true
is_value_start (Key w.Sizeof ∷ ws) = true
is_value_start _ = false

pub value_start : (x : t.Expression) (rest : List Word) → is_value_start (spell x rest) ≡ true
value_start (t.Name u) rest = refl
value_start (t.Number u) rest = refl
value_start (t.Character u) rest = refl
value_start (t.Strings u us) rest = refl
value_start (t.Paren x) rest = refl
value_start (t.Index x i) rest = value_start x _
value_start (t.Call f xs) rest = value_start f _
value_start (t.Member x o u) rest = value_start x _
value_start (t.Postfix x o) rest = value_start x _
value_start (t.Prefix o x) rest = refl
value_start (t.Unary p.Address x) rest = refl
value_start (t.Unary p.Dereference x) rest = refl
value_start (t.Unary p.Plus x) rest = refl
value_start (t.Unary p.Minus x) rest = refl
value_start (t.Unary p.Complement x) rest = refl
value_start (t.Unary p.Not x) rest = refl
value_start (t.SizeofValue x) rest = refl
value_start (t.SizeofType ss d) rest = refl
value_start (t.Cast ss d x) rest = refl
value_start (t.Infix o x y) rest = value_start x _
value_start (t.Conditional c x y) rest = value_start c _
value_start (t.Assign o x y) rest = value_start x _
value_start (t.Comma x y) rest = value_start x _

pub first_goes : (scope : Scope) (s : Stack Tree) (f : t.Expression) (ws : List Word) → is_value_start ws ≡ true → R ws scope s (First f) ≡ R ws scope (InCall f t.no_expression ∷ s) Want
first_goes scope s f [] h = absurd cc
first_goes scope s f (Sign m.Close ∷ ws) h = absurd cc
first_goes scope s f (_ ∷ ws) h = refl

pub size_goes : (scope : Scope) (s : Stack Tree) (k : Kind) (d : t.Declarator) (ws : List Word) → is_value_start ws ≡ true → R ws scope s (Sizing k d) ≡ R ws scope (InArray k d ∷ s) Want
size_goes scope s k d [] h = absurd cc
size_goes scope s k d (Sign m.CloseBracket ∷ ws) h = absurd cc
size_goes scope s k d (_ ∷ ws) h = refl

-- ---- specifiers begin

pub next_member_goes : (scope : Scope) (s : Stack Tree) (ss : t.Specs) (rest : List Word) → form_type ss ≡ true → R (spell_specs ss rest) scope s NextMember ≡ R (spell_specs ss rest) scope s (Specs t.no_spec)
next_member_goes scope s t.no_spec rest h = absurd cc
next_member_goes scope s (t.spec_word k ss) rest h = refl
next_member_goes scope s (t.typedef_name u ss) rest h = refl
next_member_goes scope s (t.struct_tag u ss) rest h = refl
next_member_goes scope s (t.struct_list tag ms ss) rest h = refl
next_member_goes scope s (t.enum_tag u ss) rest h = refl
next_member_goes scope s (t.enum_list tag es c ss) rest h = refl

pub next_parameter_goes : (scope : Scope) (s : Stack Tree) (ss : t.Specs) (rest : List Word) → form_type ss ≡ true → R (spell_specs ss rest) scope s NextParameter ≡ R (spell_specs ss rest) scope s (Specs t.no_spec)
next_parameter_goes scope s t.no_spec rest h = absurd cc
next_parameter_goes scope s (t.spec_word k ss) rest h = refl
next_parameter_goes scope s (t.typedef_name u ss) rest h = refl
next_parameter_goes scope s (t.struct_tag u ss) rest h = refl
next_parameter_goes scope s (t.struct_list tag ms ss) rest h = refl
next_parameter_goes scope s (t.enum_tag u ss) rest h = refl
next_parameter_goes scope s (t.enum_list tag es c ss) rest h = refl

pub list_goes : (scope : Scope) (s : Stack Tree) (k : Kind) (d : t.Declarator) (ss : t.Specs) (rest : List Word) → form_type ss ≡ true → R (spell_specs ss rest) scope s (Listing k d) ≡ R (spell_specs ss rest) scope (InParameters k scope d t.no_parameter ∷ s) (Specs t.no_spec)
list_goes scope s k d t.no_spec rest h = absurd cc
list_goes scope s k d (t.spec_word u ss) rest h = refl
list_goes scope s k d (t.typedef_name u ss) rest h = refl
list_goes scope s k d (t.struct_tag u ss) rest h = refl
list_goes scope s k d (t.struct_list tag ms ss) rest h = refl
list_goes scope s k d (t.enum_tag u ss) rest h = refl
list_goes scope s k d (t.enum_list tag es c ss) rest h = refl

-- at a first word of specifiers, where an operand is wanted
type_begins : (scope : Scope) (s : Stack Tree) (ss : t.Specs) (rest : List Word) (s' : Stack Tree) → AreSpecs scope ss → form_type ss ≡ true → ((v : Word) → begin_type trees_built scope s v ≡ specs_step trees_built scope s' t.no_spec v) → R (spell_specs ss rest) scope s Want ≡ R (spell_specs ss rest) scope s' (Specs t.no_spec)
type_begins scope s t.no_spec rest s' wf h e = absurd cc
type_begins scope s (t.spec_word k ss) rest s' wf h e = ap (then_run trees_built (run trees_built (spell_specs ss rest))) (e (Key (w.Spec k)))
type_begins scope s (t.typedef_name u ss) rest s' wf h e =
    ap (λ v. then_run trees_built (run trees_built (spell_specs ss rest)) (named trees_built v scope s u)) wf.0
    ∙ ap (then_run trees_built (run trees_built (spell_specs ss rest))) (e (Named u))
type_begins scope s (t.struct_tag u ss) rest s' wf h e = ap (then_run trees_built (run trees_built (Named u ∷ spell_specs ss rest))) (e (Key w.Struct))
type_begins scope s (t.struct_list tag ms ss) rest s' wf h e = ap (then_run trees_built (run trees_built _)) (e (Key w.Struct))
type_begins scope s (t.enum_tag u ss) rest s' wf h e = ap (then_run trees_built (run trees_built (Named u ∷ spell_specs ss rest))) (e (Key w.Enum))
type_begins scope s (t.enum_list tag es c ss) rest s' wf h e = ap (then_run trees_built (run trees_built _)) (e (Key w.Enum))

pub sizeof_goes : (scope : Scope) (s : Stack Tree) (ss : t.Specs) (rest : List Word) → AreSpecs scope ss → form_type ss ≡ true → R (spell_specs ss rest) scope (InParen ∷ InSizeof ∷ s) Want ≡ R (spell_specs ss rest) scope (SizeofSpecs scope ∷ s) (Specs t.no_spec)
sizeof_goes scope s ss rest wf h = type_begins scope (InParen ∷ InSizeof ∷ s) ss rest (SizeofSpecs scope ∷ s) wf h (λ v. refl)

cast_type : (scope : Scope) (s : Stack Tree) (v : Word) → stack_needs s ≤ 14 → begin_type trees_built scope (InParen ∷ s) v ≡ specs_step trees_built scope (CastSpecs scope ∷ s) t.no_spec v
cast_type scope [] v n = refl
cast_type scope (InSizeof ∷ s) v n = absurd (omega arith)
cast_type scope (InPrefix o ∷ s) v n = absurd (omega arith)
cast_type scope (InInfix o x ∷ s) v n = rw (le-ltb 14 (infix_level o + 1) n) refl
cast_type scope (_ ∷ s) v n = refl

pub cast_goes : (scope : Scope) (s : Stack Tree) (ss : t.Specs) (rest : List Word) → stack_needs s ≤ 14 → AreSpecs scope ss → form_type ss ≡ true → R (spell_specs ss rest) scope (InParen ∷ s) Want ≡ R (spell_specs ss rest) scope (CastSpecs scope ∷ s) (Specs t.no_spec)
cast_goes scope s ss rest n wf h = type_begins scope (InParen ∷ s) ss rest (CastSpecs scope ∷ s) wf h (λ v. cast_type scope s v n)

-- ---- specifiers end

-- the first word is no keyword and no brace
abbrev pub is_plain_start : List Word → Bool
is_plain_start [] = false
is_plain_start (Key k ∷ ws) = false
is_plain_start (Sign m.OpenBrace ∷ ws) = false
is_plain_start (w ∷ ws) = true

-- the first word is no keyword
abbrev pub is_no_key : List Word → Bool
is_no_key [] = false
is_no_key (Key k ∷ ws) = false
is_no_key (w ∷ ws) = true

pub plain_no_key : (ws : List Word) → is_plain_start ws ≡ true → is_no_key ws ≡ true
plain_no_key [] h = absurd cc
plain_no_key (Key k ∷ ws) h = absurd cc
plain_no_key (_ ∷ ws) h = refl

pub tag_done : (scope : Scope) (s : Stack Tree) (which : Which) (before : t.Specs) (tag : Text) (ss : t.Specs) (rest : List Word) → is_plain_start rest ≡ true → R (spell_specs ss rest) scope s (Tagged which before tag) ≡ R (spell_specs ss rest) scope s (Specs (with_tag trees_built which before tag))
tag_done scope s which before tag t.no_spec [] h = absurd cc
tag_done scope s which before tag t.no_spec (Sign m.OpenBrace ∷ ws) h = absurd cc
tag_done scope s which before tag t.no_spec (_ ∷ ws) h = refl
tag_done scope s which before tag (t.spec_word k ss) rest h = refl
tag_done scope s which before tag (t.typedef_name u ss) rest h = refl
tag_done scope s which before tag (t.struct_tag u ss) rest h = refl
tag_done scope s which before tag (t.struct_list other ms ss) rest h = refl
tag_done scope s which before tag (t.enum_tag u ss) rest h = refl
tag_done scope s which before tag (t.enum_list other es c ss) rest h = refl

pub struct_opens : (scope : Scope) (s : Stack Tree) (before : t.Specs) (tag : Option Text) (rest : List Word) → R (Key w.Struct ∷ spell_tag tag (Sign m.OpenBrace ∷ rest)) scope s (Specs before) ≡ R rest scope (InMembers before tag t.no_member ∷ s) (Specs t.no_spec)
struct_opens scope s before None rest = refl
struct_opens scope s before (Some u) rest = refl

pub enum_opens : (scope : Scope) (s : Stack Tree) (before : t.Specs) (tag : Option Text) (rest : List Word) → R (Key w.Enum ∷ spell_tag tag (Sign m.OpenBrace ∷ rest)) scope s (Specs before) ≡ R rest scope (InEnumerators before tag t.no_enumerator ∷ s) FirstEnumerator
enum_opens scope s before None rest = refl
enum_opens scope s before (Some u) rest = refl

and_not : (b v : Bool) → v ≡ true → (b && not v) ≡ false
and_not true true h = refl
and_not false v h = refl
and_not true false h = absurd cc

-- a typedef name is a specifier where no part of a type stands before it
pub typedef_read : (scope : Scope) (s : Stack Tree) (before : t.Specs) (u : Text) (rest : List Word) → scope u ≡ true → has_type_part before ≡ false → R (Named u ∷ rest) scope s (Specs before) ≡ R rest scope s (Specs (specs_then before (t.typedef_name u t.no_spec)))
typedef_read scope s before u rest e f = ap (λ v. then_run trees_built (run trees_built rest) (if v then Some (scope, s, Specs (specs_then before (t.typedef_name u t.no_spec))) else specs_end trees_built scope s before (Named u))) (both (scope u) (has_type_part before) e f)
  where
    both : (v z : Bool) → v ≡ true → z ≡ false → (v && not z) ≡ true
    both true false e f = refl
    both true true e f = absurd cc
    both false z e f = absurd cc

pub specs_stop : (scope : Scope) (s : Stack Tree) (ss : t.Specs) (v : Word) (ws : List Word) → is_no_key (v ∷ ws) ≡ true → form_type ss ≡ true → specs_step trees_built scope s ss v ≡ specs_done trees_built scope s ss v
specs_stop scope s ss (Key k) ws n h = absurd cc
specs_stop scope s ss (Named u) ws n h =
    ap (λ v. if v then Some (scope, s, Specs (specs_then ss (t.typedef_name u t.no_spec))) else specs_end trees_built scope s ss (Named u)) (and_not (scope u) (has_type_part ss) (form_has ss h))
    ∙ ap (λ v. if v then specs_done trees_built scope s ss (Named u) else None) h
specs_stop scope s ss v ws n h = ap (λ b. if b then specs_done trees_built scope s ss v else None) h

-- from the specifiers to the declarator behind them
pub specs_to : (scope : Scope) (s s' : Stack Tree) (ss : t.Specs) (k : Kind) (ws : List Word) → is_no_key ws ≡ true → form_type ss ≡ true → ((v : Word) → specs_done trees_built scope s ss v ≡ want_declarator trees_built scope s' k v) → R ws scope s (Specs ss) ≡ R ws scope s' (WantDeclarator k)
specs_to scope s s' ss k [] n h e = absurd cc
specs_to scope s s' ss k (v ∷ ws) n h e = ap (then_run trees_built (run trees_built ws)) (specs_stop scope s ss v ws n h ∙ e v)

-- ---- declarators begin and end

pub declarator_plain : (d : t.Declarator) (rest : List Word) → is_plain_start rest ≡ true → is_plain_start (spell_declarator d rest) ≡ true
declarator_plain t.Nameless rest h = h
declarator_plain (t.Called u) rest h = refl
declarator_plain (t.Group d) rest h = refl
declarator_plain (t.Pointer qs d) rest h = refl
declarator_plain (t.Array d size) rest h = declarator_plain d _ refl
declarator_plain (t.Function d f ps) rest h = declarator_plain d _ refl

pub declarator_no_key : (d : t.Declarator) (rest : List Word) → is_no_key rest ≡ true → is_no_key (spell_declarator d rest) ≡ true
declarator_no_key t.Nameless rest h = h
declarator_no_key (t.Called u) rest h = refl
declarator_no_key (t.Group d) rest h = refl
declarator_no_key (t.Pointer qs d) rest h = refl
declarator_no_key (t.Array d size) rest h = declarator_no_key d _ refl
declarator_no_key (t.Function d f ps) rest h = declarator_no_key d _ refl

-- a mark that ends a declarator
abbrev pub is_end : Mark → Bool
is_end m.Close = true
is_end m.Comma = true
is_end m.Semicolon = true
is_end m.OpenBrace = true
is_end (m.Assign a.Plain) = true
is_end _ = false

abbrev pub ends_declarator : List Word → Bool
ends_declarator (Sign k ∷ ws) = is_end k
ends_declarator _ = false

abbrev pub ends_nameless : List Word → Bool
ends_nameless (Sign m.OpenBracket ∷ ws) = true
ends_nameless ws = ends_declarator ws

-- whether words do not go on with a declarator
abbrev pub meets : t.Declarator → List Word → Bool
meets t.Nameless rest = ends_nameless rest
meets (t.Pointer qs d) rest = ends_declarator rest && meets d rest
meets _ rest = true

nameless_end : (rest : List Word) → ends_declarator rest ≡ true → ends_nameless rest ≡ true
nameless_end (Sign m.OpenBracket ∷ ws) h = refl
nameless_end [] h = h
nameless_end (Named u ∷ ws) h = h
nameless_end (Numbered u ∷ ws) h = h
nameless_end (Quote u ∷ ws) h = h
nameless_end (Literal u ∷ ws) h = h
nameless_end (Key u ∷ ws) h = h
nameless_end (Stray ∷ ws) h = h
nameless_end (Sign _ ∷ ws) h = h

pub meets_end : (d : t.Declarator) (rest : List Word) → ends_declarator rest ≡ true → meets d rest ≡ true
meets_end t.Nameless rest h = nameless_end rest h
meets_end (t.Called u) rest h = refl
meets_end (t.Group d) rest h = refl
meets_end (t.Pointer qs d) rest h = ap (λ v. v && meets d rest) h ∙ meets_end d rest h
meets_end (t.Array d size) rest h = refl
meets_end (t.Function d f ps) rest h = refl

pub meets_bracket : (d : t.Declarator) (rest : List Word) → is_direct d ≡ true → meets d (Sign m.OpenBracket ∷ rest) ≡ true
meets_bracket t.Nameless rest h = refl
meets_bracket (t.Called u) rest h = refl
meets_bracket (t.Group d) rest h = refl
meets_bracket (t.Pointer qs d) rest h = absurd cc
meets_bracket (t.Array d size) rest h = refl
meets_bracket (t.Function d f ps) rest h = refl

pub end_no_key : (rest : List Word) → ends_declarator rest ≡ true → is_no_key rest ≡ true
end_no_key [] h = absurd cc
end_no_key (Key k ∷ ws) h = absurd cc
end_no_key (_ ∷ ws) h = refl

-- whether a declarator of a kind may have a name
abbrev pub may_name : Kind → Option Text → Bool
may_name OfType (Some u) = false
may_name _ _ = true

pub name_read : (scope : Scope) (s : Stack Tree) (k : Kind) (u : Text) (rest : List Word) → may_name k (Some u) ≡ true → R (Named u ∷ rest) scope s (WantDeclarator k) ≡ R rest scope s (HaveDeclarator k (t.Called u))
name_read scope s Ordinary u rest h = refl
name_read scope s OfParameter u rest h = refl
name_read scope s OfType u rest h = absurd cc

nameless_mark : (scope : Scope) (s : Stack Tree) (k : Kind) (mark : Mark) (rest : List Word) → is_free k ≡ true → is_end mark ≡ true → R (Sign mark ∷ rest) scope s (WantDeclarator k) ≡ R (Sign mark ∷ rest) scope s (HaveDeclarator k t.Nameless)
nameless_mark scope s Ordinary mark rest f h = absurd cc
nameless_mark scope s OfParameter m.Close rest f h = refl
nameless_mark scope s OfParameter m.Comma rest f h = refl
nameless_mark scope s OfParameter m.Semicolon rest f h = refl
nameless_mark scope s OfParameter m.OpenBrace rest f h = refl
nameless_mark scope s OfParameter (m.Assign a.Plain) rest f h = refl
nameless_mark scope s OfType m.Close rest f h = refl
nameless_mark scope s OfType m.Comma rest f h = refl
nameless_mark scope s OfType m.Semicolon rest f h = refl
nameless_mark scope s OfType m.OpenBrace rest f h = refl
nameless_mark scope s OfType (m.Assign a.Plain) rest f h = refl
nameless_mark scope s k _ rest f h = absurd cc

nameless_bracket : (scope : Scope) (s : Stack Tree) (k : Kind) (rest : List Word) → is_free k ≡ true → R (Sign m.OpenBracket ∷ rest) scope s (WantDeclarator k) ≡ R (Sign m.OpenBracket ∷ rest) scope s (HaveDeclarator k t.Nameless)
nameless_bracket scope s Ordinary rest f = absurd cc
nameless_bracket scope s OfParameter rest f = refl
nameless_bracket scope s OfType rest f = refl

pub nameless_read : (scope : Scope) (s : Stack Tree) (k : Kind) (rest : List Word) → is_free k ≡ true → ends_nameless rest ≡ true → R rest scope s (WantDeclarator k) ≡ R rest scope s (HaveDeclarator k t.Nameless)
nameless_read scope s k [] f h = absurd cc
nameless_read scope s k (Sign m.OpenBracket ∷ ws) f h = nameless_bracket scope s k ws f
nameless_read scope s k (Sign m.Close ∷ ws) f h = nameless_mark scope s k m.Close ws f h
nameless_read scope s k (Sign m.Comma ∷ ws) f h = nameless_mark scope s k m.Comma ws f h
nameless_read scope s k (Sign m.Semicolon ∷ ws) f h = nameless_mark scope s k m.Semicolon ws f h
nameless_read scope s k (Sign m.OpenBrace ∷ ws) f h = nameless_mark scope s k m.OpenBrace ws f h
nameless_read scope s k (Sign (m.Assign a.Plain) ∷ ws) f h = nameless_mark scope s k (m.Assign a.Plain) ws f h
nameless_read scope s k (_ ∷ ws) f h = absurd cc

-- a pointer that the next word ends
pub pointer_ended : (scope : Scope) (s : Stack Tree) (k : Kind) (qs : List Qualifier) (d : t.Declarator) (rest : List Word) → ends_declarator rest ≡ true → R rest scope (InPointer k qs ∷ s) (HaveDeclarator k d) ≡ R rest scope s (HaveDeclarator k (t.Pointer qs d))
pointer_ended scope s k qs d [] h = absurd cc
pointer_ended scope s k qs d (Sign m.Close ∷ ws) h = refl
pointer_ended scope s k qs d (Sign m.Comma ∷ ws) h = refl
pointer_ended scope s k qs d (Sign m.Semicolon ∷ ws) h = refl
pointer_ended scope s k qs d (Sign m.OpenBrace ∷ ws) h = refl
pointer_ended scope s k qs d (Sign (m.Assign a.Plain) ∷ ws) h = refl
pointer_ended scope s k qs d (_ ∷ ws) h = absurd cc

qualifiers_end : (scope : Scope) (s : Stack Tree) (k : Kind) (qs : List Qualifier) (ws : List Word) → is_no_key ws ≡ true → R ws scope s (Qualifying k qs) ≡ R ws scope (InPointer k qs ∷ s) (WantDeclarator k)
qualifiers_end scope s k qs [] h = absurd cc
qualifiers_end scope s k qs (Key v ∷ ws) h = absurd cc
qualifiers_end scope s k qs (_ ∷ ws) h = refl

qualifier_read : (scope : Scope) (s : Stack Tree) (k : Kind) (before : List Qualifier) (v : Qualifier) (rest : List Word) → R (Key (qualifier_keyword v) ∷ rest) scope s (Qualifying k before) ≡ R rest scope s (Qualifying k (before ++ v ∷ []))
qualifier_read scope s k before q.Const rest = refl
qualifier_read scope s k before q.Volatile rest = refl
qualifier_read scope s k before q.Restrict rest = refl

pub qualifiers_read : (scope : Scope) (s : Stack Tree) (k : Kind) (before qs : List Qualifier) (rest : List Word) → is_no_key rest ≡ true → R (spell_qualifiers qs rest) scope s (Qualifying k before) ≡ R rest scope (InPointer k (before ++ qs) ∷ s) (WantDeclarator k)
qualifiers_read scope s k before [] rest h = qualifiers_end scope s k before rest h ∙ ap (λ us. R rest scope (InPointer k us ∷ s) (WantDeclarator k)) (sym (append_none before))
  where
    append_none : (us : List Qualifier) → us ++ [] ≡ us
    append_none [] = refl
    append_none (u ∷ us) = ap (λ vs. u ∷ vs) (append_none us)
qualifiers_read scope s k before (v ∷ qs) rest h =
    qualifier_read scope s k before v (spell_qualifiers qs rest)
    ∙ qualifiers_read scope s k (before ++ v ∷ []) qs rest h
    ∙ ap (λ us. R rest scope (InPointer k us ∷ s) (WantDeclarator k)) (append_one before)
  where
    append_one : (us : List Qualifier) → (us ++ v ∷ []) ++ qs ≡ us ++ v ∷ qs
    append_one [] = refl
    append_one (u ∷ us) = ap (λ vs. u ∷ vs) (append_one us)

-- ---- a parenthesis in the place of a declarator

-- the first word alone decides
pub first_alone : (scope : Scope) (v : Word) (ws us : List Word) → begins_list scope (v ∷ ws) ≡ begins_list scope (v ∷ us)
first_alone scope (Sign m.Close) ws us = refl
first_alone scope (Sign _) ws us = refl
first_alone scope (Key (w.Spec k)) ws us = refl
first_alone scope (Key _) ws us = refl
first_alone scope (Named u) ws us = refl
first_alone scope _ ws us = refl

pub front_same : (d : t.Declarator) (scope : Scope) (v : Word) (ws us : List Word) → begins_list scope (spell_declarator d (v ∷ ws)) ≡ begins_list scope (spell_declarator d (v ∷ us))
front_same t.Nameless scope v ws us = first_alone scope v ws us
front_same (t.Called u) scope v ws us = refl
front_same (t.Group d) scope v ws us = refl
front_same (t.Pointer qs d) scope v ws us = refl
front_same (t.Array d size) scope v ws us = front_same d scope (Sign m.OpenBracket) _ _
front_same (t.Function d f ps) scope v ws us = front_same d scope (Sign m.Open) _ _

pub group_goes : (scope : Scope) (s : Stack Tree) (k : Kind) (ws : List Word) → is_no_key ws ≡ true → (is_free k && begins_list scope ws) ≡ false → R ws scope s (Opened k) ≡ R ws scope (InGroup k ∷ s) (WantDeclarator k)
group_goes scope s k [] n h = absurd cc
group_goes scope s k (v ∷ ws) n h =
    ap (λ b. then_run trees_built (run trees_built ws) (if b then listing trees_built scope s k t.Nameless v else want_declarator trees_built scope (InGroup k ∷ s) k v)) (ap (λ b. is_free k && b) (first_alone scope v [] ws) ∙ h)

pub opened_list : (scope : Scope) (s : Stack Tree) (k : Kind) (ws : List Word) → is_free k ≡ true → begins_list scope ws ≡ true → R ws scope s (Opened k) ≡ R ws scope s (Listing k t.Nameless)
opened_list scope s k [] f h = absurd cc
opened_list scope s k (v ∷ ws) f h =
    ap (λ b. then_run trees_built (run trees_built ws) (if b then listing trees_built scope s k t.Nameless v else want_declarator trees_built scope (InGroup k ∷ s) k v)) (both (is_free k) (begins_list scope (v ∷ [])) f (first_alone scope v [] ws ∙ h))
  where
    both : (b c : Bool) → b ≡ true → c ≡ true → (b && c) ≡ true
    both true true e f = refl
    both true false e f = absurd cc
    both false c e f = absurd cc

specs_begin : (scope : Scope) (ss : t.Specs) (rest : List Word) → AreSpecs scope ss → form_type ss ≡ true → begins_list scope (spell_specs ss rest) ≡ true
specs_begin scope t.no_spec rest wf h = absurd cc
specs_begin scope (t.spec_word k ss) rest wf h = refl
specs_begin scope (t.typedef_name u ss) rest wf h = wf.0
specs_begin scope (t.struct_tag u ss) rest wf h = refl
specs_begin scope (t.struct_list tag ms ss) rest wf h = refl
specs_begin scope (t.enum_tag u ss) rest wf h = refl
specs_begin scope (t.enum_list tag es c ss) rest wf h = refl

pub list_begins : (scope : Scope) (f : ParameterForm) (ps : t.Parameters) (rest : List Word) → fits_form f ps ≡ true → AreParameters scope ps → begins_list scope (spell_parameters ps (spell_form f (Sign m.Close ∷ rest))) ≡ true
list_begins scope form.Empty t.no_parameter rest h wf = refl
list_begins scope form.Void t.no_parameter rest h wf = refl
list_begins scope form.Fixed t.no_parameter rest h wf = absurd cc
list_begins scope form.Variadic t.no_parameter rest h wf = absurd cc
list_begins scope f (t.parameter ss d ps) rest h wf = specs_begin scope ss _ wf.0 wf.1

-- from a declarator to the parameter list behind it
pub to_list : (d : t.Declarator) (scope : Scope) (s : Stack Tree) (k : Kind) (ws : List Word) → IsDeclarator (is_free k) scope d → is_direct d ≡ true → begins_list scope ws ≡ true → (meets d (Sign m.Open ∷ ws) ≡ true → R (spell_declarator d (Sign m.Open ∷ ws)) scope s (WantDeclarator k) ≡ R (Sign m.Open ∷ ws) scope s (HaveDeclarator k d)) → R (spell_declarator d (Sign m.Open ∷ ws)) scope s (WantDeclarator k) ≡ R ws scope s (Listing k d)
to_list t.Nameless scope s k ws wf direct b h = opened_list scope s k ws wf b
to_list (t.Called u) scope s k ws wf direct b h = h refl
to_list (t.Group d) scope s k ws wf direct b h = h refl
to_list (t.Pointer qs d) scope s k ws wf direct b h = absurd cc
to_list (t.Array d size) scope s k ws wf direct b h = h refl
to_list (t.Function d f ps) scope s k ws wf direct b h = h refl

pub has_more : (before ps : t.Parameters) (ss : t.Specs) (d : t.Declarator) → has_parameters (parameters_then before (t.parameter ss d ps)) ≡ true
has_more t.no_parameter ps ss d = refl
has_more (t.parameter us e before) ps ss d = refl

-- the closing parenthesis behind a last parameter
pub list_closes : (scope outer : Scope) (s : Stack Tree) (k : Kind) (f : t.Declarator) (before : t.Parameters) (ss : t.Specs) (d : t.Declarator) (form : ParameterForm) (rest : List Word) → fits_form form (parameters_then before (t.parameter ss d t.no_parameter)) ≡ true → R (spell_form form (Sign m.Close ∷ rest)) scope (InParameter k outer f before ss ∷ s) (HaveDeclarator OfParameter d) ≡ R rest outer s (HaveDeclarator k (t.Function f form (parameters_then before (t.parameter ss d t.no_parameter))))
list_closes scope outer s k f before ss d form.Empty rest h = let e = has_more before t.no_parameter ss d in absurd (not_both _ e h)
  where
    not_both : (b : Bool) → b ≡ true → not b ≡ true → ⊥
    not_both true e h = cc
    not_both false e h = cc
list_closes scope outer s k f before ss d form.Void rest h = let e = has_more before t.no_parameter ss d in absurd (not_both _ e h)
  where
    not_both : (b : Bool) → b ≡ true → not b ≡ true → ⊥
    not_both true e h = cc
    not_both false e h = cc
list_closes scope outer s k f before ss d form.Fixed rest h =
    let ps = parameters_then before (t.parameter ss d t.no_parameter) in
    ap (λ v. R rest outer s (HaveDeclarator k (if v then t.Function f form.Void t.no_parameter else t.Function f form.Fixed ps))) (no_void (has_parameters ps) (is_only_void ps) h)
  where
    no_void : (b v : Bool) → (b && not v) ≡ true → v ≡ false
    no_void true false e = refl
    no_void true true e = absurd cc
    no_void false v e = absurd cc
list_closes scope outer s k f before ss d form.Variadic rest h = refl
