-- A tree that the grammar makes is read from its words, whatever stands before and behind it.
use Rattle.std.proofs.Common.{◌≡◌, ◌≤◌, Bool, true, false, not, ◌&&◌, List, [], ◌∷◌, Option, refl, sym, ap, ◌∙◌, arith}
use Rattle.std.proofs.lemmas.Bool.{le-ltb}
use Rattle.ct_syntax.specs.declared.words.Mark.TheVariants as m
use Rattle.ct_syntax.specs.declared.words.AssignOp.{AssignOp}
use Rattle.ct_syntax.specs.declared.expressions.ParameterForm.{ParameterForm}
use Rattle.ct_syntax.specs.declared.expressions.ParameterForm.TheVariants as form
use Rattle.ct_syntax.specs.Words.{Text, Word, Named, Sign}
use Rattle.ct_syntax.specs.Scopes.{Scope, with_name, name_of, after_specs, after_members, after_enumerators, after_declarator}
use Rattle.ct_syntax.specs.TypeWords.{form_type}
use Rattle.ct_syntax.specs.Grammar.{infix_level, expression_level, fits_form, has_members, has_enumerators, has_declarators, has_parameters, IsExpression, AreArguments, IsOptional, AreSpecs, AreMembers, AreEnumerators, AreDeclarators, IsDeclarator, AreParameters}
use Rattle.ct_syntax.specs.Spelling.{spell, spell_list, spell_more, spell_optional, spell_comma, spell_form, spell_specs, spell_members, spell_declarators, spell_more_declarators, spell_enumerators, spell_more_enumerators, spell_value, spell_declarator, spell_parameters, spell_more_parameters}
use Rattle.ct_syntax.specs.Trees as t
use Rattle.ct_grammar_machine.specs.Algebra.{Tree, trees_built, expressions_then, specs_then, members_then, enumerators_then, declarators_then, parameters_then}
use Rattle.ct_grammar_machine.specs.Frames.{Kind, Ordinary, OfParameter, OfType, is_free, AStruct, AnEnum, InParen, InCall, InIndex, InPrefix, InUnary, InSizeof, InCast, InInfix, InThen, InElse, InAssign, InComma, CastSpecs, SizeofSpecs, CastDeclarator, SizeofDeclarator, InMembers, InMember, InEnumerators, InEnumerator, InGroup, InPointer, InArray, InParameters, InParameter}
use Rattle.ct_grammar_machine.specs.Frames.{Mode, Want, Have, First, Specs, NextMember, FirstEnumerator, NextEnumerator, Enumerated, WantDeclarator, HaveDeclarator, Sizing, Listing, Stack, State, stack_needs}
use Rattle.ct_grammar_machine.specs.Steps.{then_run, run, named, act}
use Rattle.ct_grammar_laws.proofs.Basics.{infix_range, level_range, next_pull, unary_reach, loose, low, bare, below, R, ended, acts, comma_acts}
use Rattle.ct_grammar_laws.proofs.Lists.{expressions-last, specs-assoc, specs-none, members-last, members-none, enumerators-last, declarators-last, parameters-last}
use Rattle.ct_grammar_laws.proofs.TypeParts.{typedef_alone}
use Rattle.ct_grammar_laws.proofs.Starts.{postfix_acts, unary_read, texts_read, texts_done, value_start, first_goes, size_goes, next_member_goes, next_parameter_goes, list_goes, sizeof_goes, cast_goes, is_plain_start, tag_done, struct_opens, enum_opens, typedef_read, specs_to, declarator_plain, declarator_no_key, ends_declarator, meets, meets_end, meets_bracket, end_no_key, may_name, name_read, nameless_read, pointer_ended, qualifiers_read, front_same, group_goes, list_begins, to_list, has_more, list_closes}

abbrev pub go : List Word → Option (State Tree) → Option (State Tree)
go ws = then_run trees_built (run trees_built ws)

and_right : (b c : Bool) → (b && c) ≡ true → c ≡ true
and_right true c h = h
and_right false c h = absurd cc

and_left : (b c : Bool) → (b && c) ≡ true → b ≡ true
and_left true c h = refl
and_left false c h = absurd cc

-- ---- what stands behind a part of a list

more_pull : (xs : t.Expressions) (rest : List Word) → next_pull (spell_more xs (Sign m.Close ∷ rest)) ≤ 1
more_pull t.no_expression rest = omega arith
more_pull (t.expression x xs) rest = omega arith

more_declarators_end : (ds : t.Declarators) (rest : List Word) → ends_declarator (spell_more_declarators ds (Sign m.Semicolon ∷ rest)) ≡ true
more_declarators_end t.no_declarator rest = refl
more_declarators_end (t.declarator d ds) rest = refl

more_declarators_plain : (ds : t.Declarators) (rest : List Word) → is_plain_start (spell_more_declarators ds (Sign m.Semicolon ∷ rest)) ≡ true
more_declarators_plain t.no_declarator rest = refl
more_declarators_plain (t.declarator d ds) rest = refl

-- a form that takes a parameter list with a parameter more
form_more : (f : ParameterForm) (before ps : t.Parameters) (ss : t.Specs) (d : t.Declarator) → fits_form f (parameters_then before (t.parameter ss d ps)) ≡ true → (rest : List Word) → (ends_declarator (spell_more_parameters ps (spell_form f (Sign m.Close ∷ rest))) ≡ true) × (is_plain_start (spell_more_parameters ps (spell_form f (Sign m.Close ∷ rest))) ≡ true)
form_more f before (t.parameter us e ps) ss d h rest = (refl, refl)
form_more form.Fixed before t.no_parameter ss d h rest = (refl, refl)
form_more form.Variadic before t.no_parameter ss d h rest = (refl, refl)
form_more form.Empty before t.no_parameter ss d h rest = let e = has_more before t.no_parameter ss d in absurd (not_both _ e h)
  where
    not_both : (b : Bool) → b ≡ true → not b ≡ true → ⊥
    not_both true e h = cc
    not_both false e h = cc
form_more form.Void before t.no_parameter ss d h rest = let e = has_more before t.no_parameter ss d in absurd (not_both _ e h)
  where
    not_both : (b : Bool) → b ≡ true → not b ≡ true → ⊥
    not_both true e h = cc
    not_both false e h = cc

declarators_plain : (ds : t.Declarators) (rest : List Word) → has_declarators ds ≡ true → is_plain_start (spell_declarators ds (Sign m.Semicolon ∷ rest)) ≡ true
declarators_plain t.no_declarator rest h = absurd cc
declarators_plain (t.declarator d ds) rest h = declarator_plain d _ (more_declarators_plain ds rest)

assign_acts : (scope : Scope) (o : AssignOp) (s : Stack Tree) (x : t.Expression) (ws : List Word) → stack_needs s ≤ 2 → 15 ≤ expression_level x → go ws (act trees_built scope (m.Assign o) s x) ≡ R ws scope (InAssign o x ∷ s) Want
assign_acts scope o s x ws n h = rw (le-ltb 2 (stack_needs s) n, le-ltb (expression_level x) 15 h) refl

-- ---- enumerators

abbrev value_stack : t.Specs → Option Text → t.Enumerators → Text → t.Optional → Stack Tree → Stack Tree
value_stack us tag before u t.absent s = InEnumerators us tag before ∷ s
value_stack us tag before u (t.present x) s = InEnumerator us tag before u ∷ s

abbrev value_mode : Text → t.Optional → Mode Tree
value_mode u t.absent = Enumerated u
value_mode u (t.present x) = Have x

abbrev with_last : t.Enumerators → Text → t.Optional → t.Enumerators
with_last before u v = enumerators_then before (t.enumerator u v t.no_enumerator)

value_comma : (scope : Scope) (s : Stack Tree) (us : t.Specs) (tag : Option Text) (before : t.Enumerators) (u : Text) (v : t.Optional) (rest : List Word) → R (Sign m.Comma ∷ rest) scope (value_stack us tag before u v s) (value_mode u v) ≡ R rest (with_name scope u false) (InEnumerators us tag (with_last before u v) ∷ s) NextEnumerator
value_comma scope s us tag before u t.absent rest = refl
value_comma scope s us tag before u (t.present x) rest = acts scope m.Comma (InEnumerator us tag before u ∷ s) x rest (omega arith)

value_brace : (scope : Scope) (s : Stack Tree) (us : t.Specs) (tag : Option Text) (before : t.Enumerators) (u : Text) (v : t.Optional) (rest : List Word) → R (Sign m.CloseBrace ∷ rest) scope (value_stack us tag before u v s) (value_mode u v) ≡ R rest (with_name scope u false) s (Specs (specs_then us (t.enum_list tag (with_last before u v) false t.no_spec)))
value_brace scope s us tag before u t.absent rest = refl
value_brace scope s us tag before u (t.present x) rest = acts scope m.CloseBrace (InEnumerator us tag before u ∷ s) x rest (omega arith)

enumerators_pull : (fs : t.Enumerators) (c : Bool) (rest : List Word) → next_pull (spell_more_enumerators fs (spell_comma c (Sign m.CloseBrace ∷ rest))) ≤ 1
enumerators_pull t.no_enumerator false rest = omega arith
enumerators_pull t.no_enumerator true rest = omega arith
enumerators_pull (t.enumerator u v fs) c rest = omega arith

-- behind the value of an enumerator, where the others are read
enumerators_tail : (fs : t.Enumerators) (scope : Scope) (s : Stack Tree) (us : t.Specs) (tag : Option Text) (before : t.Enumerators) (u : Text) (v : t.Optional) (c : Bool) (rest : List Word) → (has_enumerators fs ≡ true → R (spell_enumerators fs (spell_comma c (Sign m.CloseBrace ∷ rest))) (with_name scope u false) (InEnumerators us tag (with_last before u v) ∷ s) FirstEnumerator ≡ R rest (after_enumerators (with_name scope u false) fs) s (Specs (specs_then us (t.enum_list tag (enumerators_then (with_last before u v) fs) c t.no_spec)))) → R (spell_more_enumerators fs (spell_comma c (Sign m.CloseBrace ∷ rest))) scope (value_stack us tag before u v s) (value_mode u v) ≡ R rest (after_enumerators (with_name scope u false) fs) s (Specs (specs_then us (t.enum_list tag (enumerators_then before (t.enumerator u v fs)) c t.no_spec)))
enumerators_tail t.no_enumerator scope s us tag before u v false rest h = value_brace scope s us tag before u v rest
enumerators_tail t.no_enumerator scope s us tag before u v true rest h = value_comma scope s us tag before u v (Sign m.CloseBrace ∷ rest)
enumerators_tail (t.enumerator u' v' fs) scope s us tag before u v c rest h =
    value_comma scope s us tag before u v (spell_enumerators (t.enumerator u' v' fs) (spell_comma c (Sign m.CloseBrace ∷ rest)))
    ∙ h refl
    ∙ ap (λ es. R rest (after_enumerators (with_name scope u false) (t.enumerator u' v' fs)) s (Specs (specs_then us (t.enum_list tag es c t.no_spec)))) (enumerators-last before u v (t.enumerator u' v' fs))

-- ---- a parameter list

list_read : (ps : t.Parameters) (scope : Scope) (s : Stack Tree) (k : Kind) (d : t.Declarator) (f : ParameterForm) (rest : List Word) → fits_form f ps ≡ true → AreParameters scope ps → (has_parameters ps ≡ true → R (spell_parameters ps (spell_form f (Sign m.Close ∷ rest))) scope (InParameters k scope d t.no_parameter ∷ s) (Specs t.no_spec) ≡ R rest scope s (HaveDeclarator k (t.Function d f ps))) → R (spell_parameters ps (spell_form f (Sign m.Close ∷ rest))) scope s (Listing k d) ≡ R rest scope s (HaveDeclarator k (t.Function d f ps))
list_read t.no_parameter scope s k d form.Empty rest fits wf h = refl
list_read t.no_parameter scope s k d form.Void rest fits wf h = refl
list_read t.no_parameter scope s k d form.Fixed rest fits wf h = absurd cc
list_read t.no_parameter scope s k d form.Variadic rest fits wf h = absurd cc
list_read (t.parameter ss e ps) scope s k d f rest fits wf h =
    list_goes scope s k d ss (spell_declarator e (spell_more_parameters ps (spell_form f (Sign m.Close ∷ rest)))) wf.1 ∙ h refl

-- ---- the induction

mutual
  pub reads : (x : t.Expression) (scope : Scope) (s : Stack Tree) (rest : List Word) → IsExpression scope x → stack_needs s ≤ expression_level x → next_pull rest ≤ expression_level x → R (spell x rest) scope s Want ≡ R rest scope s (Have x)
  reads (t.Name u) scope s rest wf n p = ap (λ v. go rest (named trees_built v scope s u)) wf
  reads (t.Number u) scope s rest wf n p = refl
  reads (t.Character u) scope s rest wf n p = refl
  reads (t.Strings u us) scope s rest wf n p = texts_read scope s u [] us rest ∙ texts_done scope s u us rest p
  reads (t.Paren x) scope s rest wf n p =
      reads x scope (InParen ∷ s) (Sign m.Close ∷ rest) wf (level_range x).0 (level_range x).0
      ∙ acts scope m.Close (InParen ∷ s) x rest (omega arith)
  reads (t.Index x i) scope s rest wf n p =
      reads x scope s (Sign m.OpenBracket ∷ spell i (Sign m.CloseBracket ∷ rest)) wf.1 (omega (arith, n, wf.0)) wf.0
      ∙ acts scope m.OpenBracket s x (spell i (Sign m.CloseBracket ∷ rest)) (below s)
      ∙ ap (go (spell i (Sign m.CloseBracket ∷ rest))) (postfix_acts x _ wf.0)
      ∙ reads i scope (InIndex x ∷ s) (Sign m.CloseBracket ∷ rest) wf.2 (level_range i).0 (level_range i).0
      ∙ acts scope m.CloseBracket (InIndex x ∷ s) i rest (omega arith)
  reads (t.Call f xs) scope s rest wf n p =
      reads f scope s (Sign m.Open ∷ spell_list xs (Sign m.Close ∷ rest)) wf.1 (omega (arith, n, wf.0)) wf.0
      ∙ acts scope m.Open s f (spell_list xs (Sign m.Close ∷ rest)) (below s)
      ∙ ap (go (spell_list xs (Sign m.Close ∷ rest))) (postfix_acts f _ wf.0)
      ∙ reads_arguments xs scope s f rest wf.2
  reads (t.Member x o u) scope s rest wf n p =
      reads x scope s (Sign (m.Member o) ∷ Named u ∷ rest) wf.1 (omega (arith, n, wf.0)) wf.0
      ∙ acts scope (m.Member o) s x (Named u ∷ rest) (below s)
      ∙ ap (go (Named u ∷ rest)) (postfix_acts x _ wf.0)
  reads (t.Postfix x o) scope s rest wf n p =
      reads x scope s (Sign (m.Step o) ∷ rest) wf.1 (omega (arith, n, wf.0)) wf.0
      ∙ acts scope (m.Step o) s x rest (below s)
      ∙ ap (go rest) (postfix_acts x _ wf.0)
  reads (t.Prefix o x) scope s rest wf n p =
      reads x scope (InPrefix o ∷ s) rest wf.1 wf.0 (omega (arith, p, wf.0))
      ∙ ended scope (InPrefix o) s x rest p
  reads (t.Unary o x) scope s rest wf n p =
      unary_read scope o s (spell x rest)
      ∙ reads x scope (InUnary o ∷ s) rest wf.1 wf.0 (omega (arith, unary_reach rest p, wf.0))
      ∙ ended scope (InUnary o) s x rest p
  reads (t.SizeofValue x) scope s rest wf n p =
      reads x scope (InSizeof ∷ s) rest wf.1 wf.0 (omega (arith, p, wf.0))
      ∙ ended scope InSizeof s x rest p
  reads (t.SizeofType ss d) scope s rest wf n p =
      sizeof_goes scope s ss (spell_declarator d (Sign m.Close ∷ rest)) wf.0 wf.1
      ∙ reads_specs ss scope (SizeofSpecs scope ∷ s) t.no_spec (spell_declarator d (Sign m.Close ∷ rest)) wf.0 wf.1 (declarator_plain d (Sign m.Close ∷ rest) refl)
      ∙ specs_to (after_specs scope ss) (SizeofSpecs scope ∷ s) (SizeofDeclarator scope ss ∷ s) ss OfType (spell_declarator d (Sign m.Close ∷ rest)) (declarator_no_key d (Sign m.Close ∷ rest) refl) wf.1 (λ v. refl)
      ∙ reads_declarator d (after_specs scope ss) (SizeofDeclarator scope ss ∷ s) OfType (Sign m.Close ∷ rest) wf.3 (ap (may_name OfType) wf.2) (meets_end d (Sign m.Close ∷ rest) refl)
  reads (t.Cast ss d x) scope s rest wf n p =
      cast_goes scope s ss (spell_declarator d (Sign m.Close ∷ spell x rest)) n wf.2 wf.3
      ∙ reads_specs ss scope (CastSpecs scope ∷ s) t.no_spec (spell_declarator d (Sign m.Close ∷ spell x rest)) wf.2 wf.3 (declarator_plain d (Sign m.Close ∷ spell x rest) refl)
      ∙ specs_to (after_specs scope ss) (CastSpecs scope ∷ s) (CastDeclarator scope ss ∷ s) ss OfType (spell_declarator d (Sign m.Close ∷ spell x rest)) (declarator_no_key d (Sign m.Close ∷ spell x rest) refl) wf.3 (λ v. refl)
      ∙ reads_declarator d (after_specs scope ss) (CastDeclarator scope ss ∷ s) OfType (Sign m.Close ∷ spell x rest) wf.5 (ap (may_name OfType) wf.4) (meets_end d (Sign m.Close ∷ spell x rest) refl)
      ∙ reads x scope (InCast ss d ∷ s) rest wf.1 wf.0 (omega (arith, p, wf.0))
      ∙ ended scope (InCast ss d) s x rest p
  reads (t.Infix o x y) scope s rest wf n p =
      let range = infix_range o in
      reads x scope s (Sign (m.Infix o) ∷ spell y rest) wf.2 (omega (arith, n, wf.0)) wf.0
      ∙ acts scope (m.Infix o) s x (spell y rest) (loose s (infix_level o) n range.0 range.1)
      ∙ reads y scope (InInfix o x ∷ s) rest wf.3 wf.1 (omega (arith, p, wf.1))
      ∙ ended scope (InInfix o x) s y rest p
  reads (t.Conditional c x y) scope s rest wf n p =
      reads c scope s (Sign m.Question ∷ spell x (Sign m.Colon ∷ spell y rest)) wf.2 (omega (arith, n, wf.0)) wf.0
      ∙ acts scope m.Question s c (spell x (Sign m.Colon ∷ spell y rest)) (low s n)
      ∙ reads x scope (InThen c ∷ s) (Sign m.Colon ∷ spell y rest) wf.3 (level_range x).0 (level_range x).0
      ∙ acts scope m.Colon (InThen c ∷ s) x (spell y rest) (omega arith)
      ∙ reads y scope (InElse c x ∷ s) rest wf.4 wf.1 (omega (arith, p, wf.1))
      ∙ ended scope (InElse c x) s y rest p
  reads (t.Assign o x y) scope s rest wf n p =
      reads x scope s (Sign (m.Assign o) ∷ spell y rest) wf.2 (omega (arith, n, wf.0)) (omega (arith, wf.0))
      ∙ acts scope (m.Assign o) s x (spell y rest) (low s (omega (arith, n)))
      ∙ assign_acts scope o s x (spell y rest) n wf.0
      ∙ reads y scope (InAssign o x ∷ s) rest wf.3 wf.1 (omega (arith, p, wf.1))
      ∙ ended scope (InAssign o x) s y rest p
  reads (t.Comma x y) scope s rest wf n p =
      reads x scope s (Sign m.Comma ∷ spell y rest) wf.1 (omega (arith, n, (level_range x).0)) (level_range x).0
      ∙ acts scope m.Comma s x (spell y rest) (bare s n)
      ∙ ap (go (spell y rest)) (comma_acts scope s x n)
      ∙ reads y scope (InComma x ∷ s) rest wf.2 wf.0 (omega (arith, p, wf.0))
      ∙ ended scope (InComma x) s y rest p

  pub reads_arguments : (xs : t.Expressions) (scope : Scope) (s : Stack Tree) (f : t.Expression) (rest : List Word) → AreArguments scope xs → R (spell_list xs (Sign m.Close ∷ rest)) scope s (First f) ≡ R rest scope s (Have (t.Call f xs))
  reads_arguments t.no_expression scope s f rest wf = refl
  reads_arguments (t.expression x xs) scope s f rest wf =
      first_goes scope s f (spell x (spell_more xs (Sign m.Close ∷ rest))) (value_start x _)
      ∙ reads x scope (InCall f t.no_expression ∷ s) (spell_more xs (Sign m.Close ∷ rest)) wf.1 wf.0 (omega (arith, more_pull xs rest, (level_range x).0))
      ∙ reads_more xs scope s f t.no_expression x rest wf.2

  pub reads_more : (xs : t.Expressions) (scope : Scope) (s : Stack Tree) (f : t.Expression) (before : t.Expressions) (x : t.Expression) (rest : List Word) → AreArguments scope xs → R (spell_more xs (Sign m.Close ∷ rest)) scope (InCall f before ∷ s) (Have x) ≡ R rest scope s (Have (t.Call f (expressions_then before (t.expression x xs))))
  reads_more t.no_expression scope s f before x rest wf = acts scope m.Close (InCall f before ∷ s) x rest (omega arith)
  reads_more (t.expression y ys) scope s f before x rest wf =
      acts scope m.Comma (InCall f before ∷ s) x (spell y (spell_more ys (Sign m.Close ∷ rest))) (omega arith)
      ∙ reads y scope (InCall f (expressions_then before (t.expression x t.no_expression)) ∷ s) (spell_more ys (Sign m.Close ∷ rest)) wf.1 wf.0 (omega (arith, more_pull ys rest, (level_range y).0))
      ∙ reads_more ys scope s f (expressions_then before (t.expression x t.no_expression)) y rest wf.2
      ∙ ap (λ xs. R rest scope s (Have (t.Call f xs))) (expressions-last before x (t.expression y ys))

  pub reads_specs : (ss : t.Specs) (scope : Scope) (s : Stack Tree) (before : t.Specs) (rest : List Word) → AreSpecs scope ss → form_type (specs_then before ss) ≡ true → is_plain_start rest ≡ true → R (spell_specs ss rest) scope s (Specs before) ≡ R rest (after_specs scope ss) s (Specs (specs_then before ss))
  reads_specs t.no_spec scope s before rest wf h p = ap (λ us. R rest scope s (Specs us)) (sym (specs-none before))
  reads_specs (t.spec_word k ss) scope s before rest wf h p =
      let e = specs-assoc before (t.spec_word k t.no_spec) ss in
      reads_specs ss scope s (specs_then before (t.spec_word k t.no_spec)) rest wf (ap form_type e ∙ h) p
      ∙ ap (λ us. R rest (after_specs scope ss) s (Specs us)) e
  reads_specs (t.typedef_name u ss) scope s before rest wf h p =
      let e = specs-assoc before (t.typedef_name u t.no_spec) ss in
      typedef_read scope s before u (spell_specs ss rest) wf.0 (typedef_alone before u ss h)
      ∙ reads_specs ss scope s (specs_then before (t.typedef_name u t.no_spec)) rest wf.1 (ap form_type e ∙ h) p
      ∙ ap (λ us. R rest (after_specs scope ss) s (Specs us)) e
  reads_specs (t.struct_tag u ss) scope s before rest wf h p =
      let e = specs-assoc before (t.struct_tag u t.no_spec) ss in
      tag_done scope s AStruct before u ss rest p
      ∙ reads_specs ss scope s (specs_then before (t.struct_tag u t.no_spec)) rest wf (ap form_type e ∙ h) p
      ∙ ap (λ us. R rest (after_specs scope ss) s (Specs us)) e
  reads_specs (t.struct_list tag ms ss) scope s before rest wf h p =
      let e = specs-assoc before (t.struct_list tag ms t.no_spec) ss in
      struct_opens scope s before tag (spell_members ms (Sign m.CloseBrace ∷ spell_specs ss rest))
      ∙ reads_first_member ms scope s before tag (spell_specs ss rest) wf.0 wf.1
      ∙ reads_specs ss (after_members scope ms) s (specs_then before (t.struct_list tag ms t.no_spec)) rest wf.2 (ap form_type e ∙ h) p
      ∙ ap (λ us. R rest (after_specs (after_members scope ms) ss) s (Specs us)) e
  reads_specs (t.enum_tag u ss) scope s before rest wf h p =
      let e = specs-assoc before (t.enum_tag u t.no_spec) ss in
      tag_done scope s AnEnum before u ss rest p
      ∙ reads_specs ss scope s (specs_then before (t.enum_tag u t.no_spec)) rest wf (ap form_type e ∙ h) p
      ∙ ap (λ us. R rest (after_specs scope ss) s (Specs us)) e
  reads_specs (t.enum_list tag es c ss) scope s before rest wf h p =
      let e = specs-assoc before (t.enum_list tag es c t.no_spec) ss in
      enum_opens scope s before tag (spell_enumerators es (spell_comma c (Sign m.CloseBrace ∷ spell_specs ss rest)))
      ∙ reads_enumerators es scope s before tag t.no_enumerator c (spell_specs ss rest) wf.0 wf.1
      ∙ reads_specs ss (after_enumerators scope es) s (specs_then before (t.enum_list tag es c t.no_spec)) rest wf.2 (ap form_type e ∙ h) p
      ∙ ap (λ us. R rest (after_specs (after_enumerators scope es) ss) s (Specs us)) e

  -- the first member, where the closing brace may not stand
  pub reads_first_member : (ms : t.Members) (scope : Scope) (s : Stack Tree) (us : t.Specs) (tag : Option Text) (rest : List Word) → has_members ms ≡ true → AreMembers scope ms → R (spell_members ms (Sign m.CloseBrace ∷ rest)) scope (InMembers us tag t.no_member ∷ s) (Specs t.no_spec) ≡ R rest (after_members scope ms) s (Specs (specs_then us (t.struct_list tag ms t.no_spec)))
  reads_first_member t.no_member scope s us tag rest has wf = absurd cc
  reads_first_member (t.member ss ds ms) scope s us tag rest has wf =
      reads_specs ss scope (InMembers us tag t.no_member ∷ s) t.no_spec (spell_declarators ds (Sign m.Semicolon ∷ spell_members ms (Sign m.CloseBrace ∷ rest))) wf.0 wf.1 (declarators_plain ds _ wf.2)
      ∙ reads_declarators ds (after_specs scope ss) s us tag t.no_member ss (spell_members ms (Sign m.CloseBrace ∷ rest)) wf.1 wf.2 wf.3
      ∙ reads_members ms (after_specs scope ss) s us tag (t.member ss ds t.no_member) rest wf.4

  pub reads_members : (ms : t.Members) (scope : Scope) (s : Stack Tree) (us : t.Specs) (tag : Option Text) (before : t.Members) (rest : List Word) → AreMembers scope ms → R (spell_members ms (Sign m.CloseBrace ∷ rest)) scope (InMembers us tag before ∷ s) NextMember ≡ R rest (after_members scope ms) s (Specs (specs_then us (t.struct_list tag (members_then before ms) t.no_spec)))
  reads_members t.no_member scope s us tag before rest wf = ap (λ ns. R rest scope s (Specs (specs_then us (t.struct_list tag ns t.no_spec)))) (sym (members-none before))
  reads_members (t.member ss ds ms) scope s us tag before rest wf =
      next_member_goes scope (InMembers us tag before ∷ s) ss (spell_declarators ds (Sign m.Semicolon ∷ spell_members ms (Sign m.CloseBrace ∷ rest))) wf.1
      ∙ reads_specs ss scope (InMembers us tag before ∷ s) t.no_spec (spell_declarators ds (Sign m.Semicolon ∷ spell_members ms (Sign m.CloseBrace ∷ rest))) wf.0 wf.1 (declarators_plain ds _ wf.2)
      ∙ reads_declarators ds (after_specs scope ss) s us tag before ss (spell_members ms (Sign m.CloseBrace ∷ rest)) wf.1 wf.2 wf.3
      ∙ reads_members ms (after_specs scope ss) s us tag (members_then before (t.member ss ds t.no_member)) rest wf.4
      ∙ ap (λ ns. R rest (after_members (after_specs scope ss) ms) s (Specs (specs_then us (t.struct_list tag ns t.no_spec)))) (members-last before ss ds ms)

  -- the declarators of a member, up to its semicolon
  pub reads_declarators : (ds : t.Declarators) (scope : Scope) (s : Stack Tree) (us : t.Specs) (tag : Option Text) (before : t.Members) (ss : t.Specs) (rest : List Word) → form_type ss ≡ true → has_declarators ds ≡ true → AreDeclarators scope ds → R (spell_declarators ds (Sign m.Semicolon ∷ rest)) scope (InMembers us tag before ∷ s) (Specs ss) ≡ R rest scope (InMembers us tag (members_then before (t.member ss ds t.no_member)) ∷ s) NextMember
  reads_declarators t.no_declarator scope s us tag before ss rest h has wf = absurd cc
  reads_declarators (t.declarator d ds) scope s us tag before ss rest h has wf =
      let X = spell_more_declarators ds (Sign m.Semicolon ∷ rest) in
      let e = more_declarators_end ds rest in
      specs_to scope (InMembers us tag before ∷ s) (InMember us tag before ss t.no_declarator ∷ s) ss Ordinary (spell_declarator d X) (declarator_no_key d X (end_no_key X e)) h (λ v. refl)
      ∙ reads_declarator d scope (InMember us tag before ss t.no_declarator ∷ s) Ordinary X wf.0 refl (meets_end d X e)
      ∙ reads_more_declarators ds scope s us tag before ss t.no_declarator d rest wf.1

  pub reads_more_declarators : (ds : t.Declarators) (scope : Scope) (s : Stack Tree) (us : t.Specs) (tag : Option Text) (ms : t.Members) (ss : t.Specs) (before : t.Declarators) (d : t.Declarator) (rest : List Word) → AreDeclarators scope ds → R (spell_more_declarators ds (Sign m.Semicolon ∷ rest)) scope (InMember us tag ms ss before ∷ s) (HaveDeclarator Ordinary d) ≡ R rest scope (InMembers us tag (members_then ms (t.member ss (declarators_then before (t.declarator d ds)) t.no_member)) ∷ s) NextMember
  reads_more_declarators t.no_declarator scope s us tag ms ss before d rest wf = refl
  reads_more_declarators (t.declarator e ds) scope s us tag ms ss before d rest wf =
      let X = spell_more_declarators ds (Sign m.Semicolon ∷ rest) in
      let now = declarators_then before (t.declarator d t.no_declarator) in
      reads_declarator e scope (InMember us tag ms ss now ∷ s) Ordinary X wf.0 refl (meets_end e X (more_declarators_end ds rest))
      ∙ reads_more_declarators ds scope s us tag ms ss now e rest wf.1
      ∙ ap (λ fs. R rest scope (InMembers us tag (members_then ms (t.member ss fs t.no_member)) ∷ s) NextMember) (declarators-last before d (t.declarator e ds))

  pub reads_enumerators : (es : t.Enumerators) (scope : Scope) (s : Stack Tree) (us : t.Specs) (tag : Option Text) (before : t.Enumerators) (c : Bool) (rest : List Word) → has_enumerators es ≡ true → AreEnumerators scope es → R (spell_enumerators es (spell_comma c (Sign m.CloseBrace ∷ rest))) scope (InEnumerators us tag before ∷ s) FirstEnumerator ≡ R rest (after_enumerators scope es) s (Specs (specs_then us (t.enum_list tag (enumerators_then before es) c t.no_spec)))
  reads_enumerators t.no_enumerator scope s us tag before c rest has wf = absurd cc
  reads_enumerators (t.enumerator u v fs) scope s us tag before c rest has wf =
      reads_value v scope s us tag before u (spell_more_enumerators fs (spell_comma c (Sign m.CloseBrace ∷ rest))) wf.0 (enumerators_pull fs c rest)
      ∙ enumerators_tail fs scope s us tag before u v c rest (λ h. reads_enumerators fs (with_name scope u false) s us tag (with_last before u v) c rest h wf.1)

  pub reads_value : (v : t.Optional) (scope : Scope) (s : Stack Tree) (us : t.Specs) (tag : Option Text) (before : t.Enumerators) (u : Text) (rest : List Word) → IsOptional 3 scope v → next_pull rest ≤ 1 → R (spell_value v rest) scope (InEnumerators us tag before ∷ s) (Enumerated u) ≡ R rest scope (value_stack us tag before u v s) (value_mode u v)
  reads_value t.absent scope s us tag before u rest wf p = refl
  reads_value (t.present x) scope s us tag before u rest wf p = reads x scope (InEnumerator us tag before u ∷ s) rest wf.1 wf.0 (omega (arith, p, (level_range x).0))

  pub reads_declarator : (d : t.Declarator) (scope : Scope) (s : Stack Tree) (k : Kind) (rest : List Word) → IsDeclarator (is_free k) scope d → may_name k (name_of d) ≡ true → meets d rest ≡ true → R (spell_declarator d rest) scope s (WantDeclarator k) ≡ R rest scope s (HaveDeclarator k d)
  reads_declarator t.Nameless scope s k rest wf named p = nameless_read scope s k rest wf p
  reads_declarator (t.Called u) scope s k rest wf named p = name_read scope s k u rest named
  reads_declarator (t.Group d) scope s k rest wf named p =
      group_goes scope s k (spell_declarator d (Sign m.Close ∷ rest)) (declarator_no_key d (Sign m.Close ∷ rest) refl) (ap (λ b. is_free k && b) (front_same d scope (Sign m.Close) rest []) ∙ wf.0)
      ∙ reads_declarator d scope (InGroup k ∷ s) k (Sign m.Close ∷ rest) wf.1 named (meets_end d (Sign m.Close ∷ rest) refl)
  reads_declarator (t.Pointer qs d) scope s k rest wf named p =
      let e = and_left (ends_declarator rest) (meets d rest) p in
      qualifiers_read scope s k [] qs (spell_declarator d rest) (declarator_no_key d rest (end_no_key rest e))
      ∙ reads_declarator d scope (InPointer k qs ∷ s) k rest wf named (and_right (ends_declarator rest) (meets d rest) p)
      ∙ pointer_ended scope s k qs d rest e
  reads_declarator (t.Array d size) scope s k rest wf named p =
      reads_declarator d scope s k (Sign m.OpenBracket ∷ spell_optional size (Sign m.CloseBracket ∷ rest)) wf.1 named (meets_bracket d _ wf.0)
      ∙ reads_size size scope s k d rest wf.2
  reads_declarator (t.Function d f ps) scope s k rest wf named p =
      let X = spell_parameters ps (spell_form f (Sign m.Close ∷ rest)) in
      to_list d scope s k X wf.1 wf.0 (list_begins scope f ps rest wf.2 wf.3) (λ met. reads_declarator d scope s k (Sign m.Open ∷ X) wf.1 named met)
      ∙ list_read ps scope s k d f rest wf.2 wf.3 (λ has. reads_parameters ps scope scope s k d f rest has wf.2 wf.3)

  pub reads_size : (size : t.Optional) (scope : Scope) (s : Stack Tree) (k : Kind) (d : t.Declarator) (rest : List Word) → IsOptional 2 scope size → R (spell_optional size (Sign m.CloseBracket ∷ rest)) scope s (Sizing k d) ≡ R rest scope s (HaveDeclarator k (t.Array d size))
  reads_size t.absent scope s k d rest wf = refl
  reads_size (t.present x) scope s k d rest wf =
      size_goes scope s k d (spell x (Sign m.CloseBracket ∷ rest)) (value_start x _)
      ∙ reads x scope (InArray k d ∷ s) (Sign m.CloseBracket ∷ rest) wf.1 wf.0 (level_range x).0
      ∙ acts scope m.CloseBracket (InArray k d ∷ s) x rest (omega arith)

  pub reads_parameters : (ps : t.Parameters) (scope outer : Scope) (s : Stack Tree) (k : Kind) (d : t.Declarator) (f : ParameterForm) (rest : List Word) → has_parameters ps ≡ true → fits_form f ps ≡ true → AreParameters scope ps → R (spell_parameters ps (spell_form f (Sign m.Close ∷ rest))) scope (InParameters k outer d t.no_parameter ∷ s) (Specs t.no_spec) ≡ R rest outer s (HaveDeclarator k (t.Function d f ps))
  reads_parameters t.no_parameter scope outer s k d f rest has fits wf = absurd cc
  reads_parameters (t.parameter ss e ps) scope outer s k d f rest has fits wf =
      let X = spell_more_parameters ps (spell_form f (Sign m.Close ∷ rest)) in
      let more = form_more f t.no_parameter ps ss e fits rest in
      reads_specs ss scope (InParameters k outer d t.no_parameter ∷ s) t.no_spec (spell_declarator e X) wf.0 wf.1 (declarator_plain e X more.1)
      ∙ specs_to (after_specs scope ss) (InParameters k outer d t.no_parameter ∷ s) (InParameter k outer d t.no_parameter ss ∷ s) ss OfParameter (spell_declarator e X) (declarator_no_key e X (end_no_key X more.0)) wf.1 (λ v. refl)
      ∙ reads_declarator e (after_specs scope ss) (InParameter k outer d t.no_parameter ss ∷ s) OfParameter X wf.2 refl (meets_end e X more.0)
      ∙ reads_more_parameters ps (after_specs scope ss) outer s k d t.no_parameter ss e f rest fits wf.3

  pub reads_more_parameters : (ps : t.Parameters) (scope outer : Scope) (s : Stack Tree) (k : Kind) (d : t.Declarator) (before : t.Parameters) (ss : t.Specs) (e : t.Declarator) (f : ParameterForm) (rest : List Word) → fits_form f (parameters_then before (t.parameter ss e ps)) ≡ true → AreParameters (after_declarator scope ss e) ps → R (spell_more_parameters ps (spell_form f (Sign m.Close ∷ rest))) scope (InParameter k outer d before ss ∷ s) (HaveDeclarator OfParameter e) ≡ R rest outer s (HaveDeclarator k (t.Function d f (parameters_then before (t.parameter ss e ps))))
  reads_more_parameters t.no_parameter scope outer s k d before ss e f rest fits wf = list_closes scope outer s k d before ss e f rest fits
  reads_more_parameters (t.parameter us g ps) scope outer s k d before ss e f rest fits wf =
      let X = spell_more_parameters ps (spell_form f (Sign m.Close ∷ rest)) in
      let now = parameters_then before (t.parameter ss e t.no_parameter) in
      let same = parameters-last before ss e (t.parameter us g ps) in
      let fits_now = ap (fits_form f) same ∙ fits in
      let inside = after_declarator scope ss e in
      let more = form_more f now ps us g fits_now rest in
      next_parameter_goes inside (InParameters k outer d now ∷ s) us (spell_declarator g X) wf.1
      ∙ reads_specs us inside (InParameters k outer d now ∷ s) t.no_spec (spell_declarator g X) wf.0 wf.1 (declarator_plain g X more.1)
      ∙ specs_to (after_specs inside us) (InParameters k outer d now ∷ s) (InParameter k outer d now us ∷ s) us OfParameter (spell_declarator g X) (declarator_no_key g X (end_no_key X more.0)) wf.1 (λ v. refl)
      ∙ reads_declarator g (after_specs inside us) (InParameter k outer d now us ∷ s) OfParameter X wf.2 refl (meets_end g X more.0)
      ∙ reads_more_parameters ps (after_specs inside us) outer s k d now us g f rest fits_now wf.3
      ∙ ap (λ qs. R rest outer s (HaveDeclarator k (t.Function d f qs))) same
