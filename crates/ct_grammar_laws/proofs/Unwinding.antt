-- The words of all that is open, and what holds of it.
use Rattle.std.proofs.Common.{◌≡◌, ◌≤◌, Bool, true, false, ◌&&◌, List, [], ◌∷◌, None, refl, ap}
use Rattle.ct_syntax.specs.declared.words.Mark.TheVariants as m
use Rattle.ct_syntax.specs.declared.words.Keyword.{Keyword}
use Rattle.ct_syntax.specs.declared.words.Keyword.TheVariants as w
use Rattle.ct_syntax.specs.declared.words.AssignOp.TheVariants as a
use Rattle.ct_syntax.specs.declared.words.MemberOp.TheVariants as op
use Rattle.ct_syntax.specs.Words.{Text, Word, Named, Literal, Sign, Key, prefix_mark, star}
use Rattle.ct_syntax.specs.Scopes.{Scope, with_name, name_of, after_specs, after_members, after_enumerators, after_declarator, after_parameters, after_init_declarators, after_for_start, after_unit, inside_definition}
use Rattle.ct_syntax.specs.TypeWords.{form_type}
use Rattle.ct_syntax.specs.Grammar.{infix_level, expression_level, is_direct, begins_list, has_members, has_enumerators, has_declarators, has_parameters, IsExpression, AreArguments, IsOptional, AreSpecs, AreMembers, AreEnumerators, AreDeclarators, IsDeclarator, AreParameters, has_items, has_branches, takes_else, is_if, IsDesignator, IsInitialiser, AreItems, AreInitDeclarators, IsMaybe, IsForStart, IsStatement, IsBody, IsTranslationUnit}
use Rattle.ct_syntax.specs.Spelling.{spell, spell_list, spell_more, spell_texts, spell_qualifiers, spell_tag, spell_comma, spell_specs, spell_members, spell_declarators, spell_more_declarators, spell_enumerators, spell_more_enumerators, spell_value, spell_declarator, spell_parameters, spell_more_parameters, spell_designator, spell_initialiser, spell_maybe, spell_for_start, spell_statement, spell_branches, spell_body, spell_unit}
use Rattle.ct_syntax.specs.Trees as t
use Rattle.ct_grammar_machine.specs.Algebra.{Tree, trees_built, expressions_then, specs_then, members_then, enumerators_then, declarators_then, parameters_then, designator_of, Aimed, AtNext, AtMember, AtIndex}
use Rattle.ct_grammar_machine.specs.Frames.{Kind, Ordinary, OfParameter, OfType, is_free, Which, AStruct, AnEnum, Frame, InParen, InCall, InIndex, InPrefix, InUnary, InSizeof, InCast, InInfix, InThen, InElse, InAssign, InComma, CastSpecs, SizeofSpecs, CastDeclarator, SizeofDeclarator, InMembers, InMember, InEnumerators, InEnumerator, InGroup, InPointer, InArray, InParameters, InParameter}
use Rattle.ct_grammar_machine.specs.Frames.{Mode, Want, Have, Texts, First, Dotted, Specs, Tagging, Tagged, NextMember, FirstEnumerator, NextEnumerator, Enumerated, WantDeclarator, Qualifying, Opened, HaveDeclarator, Sizing, Listing, NextParameter, AfterEllipsis, Stack, stack_needs}
use Rattle.ct_grammar_machine.specs.Frames.{DeclSpecs, DeclDeclarator, DeclInit, InBraces, InItem, InPlace, InAssert, InBlock, InSwitch, InFunction, InUnit, InCase, InRun, InReturn, InTest, InBranch, InElseBody, InLoopTest, InWhile, InDo, InDoTest, InSwitchTest, InForInit, InForCondition, InForStep, InFor, Aim, ToTest, ToLoop, ToDo, ToSwitch, ToAssert}
use Rattle.ct_grammar_machine.specs.Frames.{WantInit, HaveInit, FirstItem, NextItem, Pointed, Placed, Opening, AssertText, AssertClose, AssertEnd, Begin, Done, Ending, AfterElse, Returning, Switching, DefaultColon, OpenFor, ForInit, ForCondition, ForStep}
use Rattle.ct_grammar_machine.specs.Steps.{aim_frame}
use Rattle.ct_grammar_laws.proofs.Starts.{may_name}
use Rattle.ct_grammar_laws.proofs.CompleteStatements.{after_body}
use Rattle.ct_grammar_laws.proofs.Leads.{lead_items, lead_inits, lead_branches, AreLed}

-- ---- lists of which each part has a comma behind it

abbrev pub lead_expressions : t.Expressions → List Word → List Word
lead_expressions t.no_expression ws = ws
lead_expressions (t.expression x xs) ws = spell x (Sign m.Comma ∷ lead_expressions xs ws)

abbrev pub lead_enumerators : t.Enumerators → List Word → List Word
lead_enumerators t.no_enumerator ws = ws
lead_enumerators (t.enumerator u v es) ws = Named u ∷ spell_value v (Sign m.Comma ∷ lead_enumerators es ws)

abbrev pub lead_declarators : t.Declarators → List Word → List Word
lead_declarators t.no_declarator ws = ws
lead_declarators (t.declarator d ds) ws = spell_declarator d (Sign m.Comma ∷ lead_declarators ds ws)

abbrev pub lead_parameters : t.Parameters → List Word → List Word
lead_parameters t.no_parameter ws = ws
lead_parameters (t.parameter ss d ps) ws = spell_specs ss (spell_declarator d (Sign m.Comma ∷ lead_parameters ps ws))

more_expressions : (xs : t.Expressions) (x : t.Expression) (ws : List Word) → spell_more (expressions_then xs (t.expression x t.no_expression)) ws ≡ Sign m.Comma ∷ lead_expressions xs (spell x ws)
more_expressions t.no_expression x ws = refl
more_expressions (t.expression y xs) x ws = ap (λ us. Sign m.Comma ∷ spell y us) (more_expressions xs x ws)

pub list_lead : (xs : t.Expressions) (x : t.Expression) (ws : List Word) → spell_list (expressions_then xs (t.expression x t.no_expression)) ws ≡ lead_expressions xs (spell x ws)
list_lead t.no_expression x ws = refl
list_lead (t.expression y xs) x ws = ap (spell y) (more_expressions xs x ws)

pub lead_expressions-last : (xs : t.Expressions) (x : t.Expression) (ws : List Word) → lead_expressions (expressions_then xs (t.expression x t.no_expression)) ws ≡ lead_expressions xs (spell x (Sign m.Comma ∷ ws))
lead_expressions-last t.no_expression x ws = refl
lead_expressions-last (t.expression y xs) x ws = ap (λ us. spell y (Sign m.Comma ∷ us)) (lead_expressions-last xs x ws)

pub specs_spelled : (ss us : t.Specs) (ws : List Word) → spell_specs (specs_then ss us) ws ≡ spell_specs ss (spell_specs us ws)
specs_spelled t.no_spec us ws = refl
specs_spelled (t.spec_word k ss) us ws = ap (λ vs. Key (w.Spec k) ∷ vs) (specs_spelled ss us ws)
specs_spelled (t.typedef_name u ss) us ws = ap (λ vs. Named u ∷ vs) (specs_spelled ss us ws)
specs_spelled (t.struct_tag u ss) us ws = ap (λ vs. Key w.Struct ∷ Named u ∷ vs) (specs_spelled ss us ws)
specs_spelled (t.struct_list tag ms ss) us ws = ap (λ vs. Key w.Struct ∷ spell_tag tag (Sign m.OpenBrace ∷ spell_members ms (Sign m.CloseBrace ∷ vs))) (specs_spelled ss us ws)
specs_spelled (t.enum_tag u ss) us ws = ap (λ vs. Key w.Enum ∷ Named u ∷ vs) (specs_spelled ss us ws)
specs_spelled (t.enum_list tag es c ss) us ws = ap (λ vs. Key w.Enum ∷ spell_tag tag (Sign m.OpenBrace ∷ spell_enumerators es (spell_comma c (Sign m.CloseBrace ∷ vs)))) (specs_spelled ss us ws)

pub members_spelled : (ms : t.Members) (ss : t.Specs) (ds : t.Declarators) (ws : List Word) → spell_members (members_then ms (t.member ss ds t.no_member)) ws ≡ spell_members ms (spell_specs ss (spell_declarators ds (Sign m.Semicolon ∷ ws)))
members_spelled t.no_member ss ds ws = refl
members_spelled (t.member us es ms) ss ds ws = ap (λ vs. spell_specs us (spell_declarators es (Sign m.Semicolon ∷ vs))) (members_spelled ms ss ds ws)

more_declarators : (ds : t.Declarators) (d : t.Declarator) (ws : List Word) → spell_more_declarators (declarators_then ds (t.declarator d t.no_declarator)) ws ≡ Sign m.Comma ∷ lead_declarators ds (spell_declarator d ws)
more_declarators t.no_declarator d ws = refl
more_declarators (t.declarator e ds) d ws = ap (λ us. Sign m.Comma ∷ spell_declarator e us) (more_declarators ds d ws)

pub declarators_lead : (ds : t.Declarators) (d : t.Declarator) (ws : List Word) → spell_declarators (declarators_then ds (t.declarator d t.no_declarator)) ws ≡ lead_declarators ds (spell_declarator d ws)
declarators_lead t.no_declarator d ws = refl
declarators_lead (t.declarator e ds) d ws = ap (spell_declarator e) (more_declarators ds d ws)

pub lead_declarators-last : (ds : t.Declarators) (d : t.Declarator) (ws : List Word) → lead_declarators (declarators_then ds (t.declarator d t.no_declarator)) ws ≡ lead_declarators ds (spell_declarator d (Sign m.Comma ∷ ws))
lead_declarators-last t.no_declarator d ws = refl
lead_declarators-last (t.declarator e ds) d ws = ap (λ us. spell_declarator e (Sign m.Comma ∷ us)) (lead_declarators-last ds d ws)

more_enumerators : (es : t.Enumerators) (u : Text) (v : t.Optional) (ws : List Word) → spell_more_enumerators (enumerators_then es (t.enumerator u v t.no_enumerator)) ws ≡ Sign m.Comma ∷ lead_enumerators es (Named u ∷ spell_value v ws)
more_enumerators t.no_enumerator u v ws = refl
more_enumerators (t.enumerator x y es) u v ws = ap (λ us. Sign m.Comma ∷ Named x ∷ spell_value y us) (more_enumerators es u v ws)

pub enumerators_lead : (es : t.Enumerators) (u : Text) (v : t.Optional) (ws : List Word) → spell_enumerators (enumerators_then es (t.enumerator u v t.no_enumerator)) ws ≡ lead_enumerators es (Named u ∷ spell_value v ws)
enumerators_lead t.no_enumerator u v ws = refl
enumerators_lead (t.enumerator x y es) u v ws = ap (λ us. Named x ∷ spell_value y us) (more_enumerators es u v ws)

pub lead_enumerators-last : (es : t.Enumerators) (u : Text) (v : t.Optional) (ws : List Word) → lead_enumerators (enumerators_then es (t.enumerator u v t.no_enumerator)) ws ≡ lead_enumerators es (Named u ∷ spell_value v (Sign m.Comma ∷ ws))
lead_enumerators-last t.no_enumerator u v ws = refl
lead_enumerators-last (t.enumerator x y es) u v ws = ap (λ us. Named x ∷ spell_value y (Sign m.Comma ∷ us)) (lead_enumerators-last es u v ws)

more_enumerators_comma : (es : t.Enumerators) (ws : List Word) → spell_more_enumerators es (Sign m.Comma ∷ ws) ≡ Sign m.Comma ∷ lead_enumerators es ws
more_enumerators_comma t.no_enumerator ws = refl
more_enumerators_comma (t.enumerator x y es) ws = ap (λ us. Sign m.Comma ∷ Named x ∷ spell_value y us) (more_enumerators_comma es ws)

pub enumerators_comma : (es : t.Enumerators) (ws : List Word) → has_enumerators es ≡ true → spell_enumerators es (Sign m.Comma ∷ ws) ≡ lead_enumerators es ws
enumerators_comma t.no_enumerator ws h = absurd cc
enumerators_comma (t.enumerator x y es) ws h = ap (λ us. Named x ∷ spell_value y us) (more_enumerators_comma es ws)

more_parameters : (ps : t.Parameters) (ss : t.Specs) (d : t.Declarator) (ws : List Word) → spell_more_parameters (parameters_then ps (t.parameter ss d t.no_parameter)) ws ≡ Sign m.Comma ∷ lead_parameters ps (spell_specs ss (spell_declarator d ws))
more_parameters t.no_parameter ss d ws = refl
more_parameters (t.parameter us e ps) ss d ws = ap (λ vs. Sign m.Comma ∷ spell_specs us (spell_declarator e vs)) (more_parameters ps ss d ws)

pub parameters_lead : (ps : t.Parameters) (ss : t.Specs) (d : t.Declarator) (ws : List Word) → spell_parameters (parameters_then ps (t.parameter ss d t.no_parameter)) ws ≡ lead_parameters ps (spell_specs ss (spell_declarator d ws))
parameters_lead t.no_parameter ss d ws = refl
parameters_lead (t.parameter us e ps) ss d ws = ap (λ vs. spell_specs us (spell_declarator e vs)) (more_parameters ps ss d ws)

pub lead_parameters-last : (ps : t.Parameters) (ss : t.Specs) (d : t.Declarator) (ws : List Word) → lead_parameters (parameters_then ps (t.parameter ss d t.no_parameter)) ws ≡ lead_parameters ps (spell_specs ss (spell_declarator d (Sign m.Comma ∷ ws)))
lead_parameters-last t.no_parameter ss d ws = refl
lead_parameters-last (t.parameter us e ps) ss d ws = ap (λ vs. spell_specs us (spell_declarator e (Sign m.Comma ∷ vs))) (lead_parameters-last ps ss d ws)

more_parameters_comma : (ps : t.Parameters) (ws : List Word) → spell_more_parameters ps (Sign m.Comma ∷ ws) ≡ Sign m.Comma ∷ lead_parameters ps ws
more_parameters_comma t.no_parameter ws = refl
more_parameters_comma (t.parameter us e ps) ws = ap (λ vs. Sign m.Comma ∷ spell_specs us (spell_declarator e vs)) (more_parameters_comma ps ws)

pub parameters_comma : (ps : t.Parameters) (ws : List Word) → has_parameters ps ≡ true → spell_parameters ps (Sign m.Comma ∷ ws) ≡ lead_parameters ps ws
parameters_comma t.no_parameter ws h = absurd cc
parameters_comma (t.parameter us e ps) ws h = ap (λ vs. spell_specs us (spell_declarator e vs)) (more_parameters_comma ps ws)

-- ---- well-formed lists with one part more

pub AreArguments-last : (scope : Scope) (xs : t.Expressions) (x : t.Expression) → AreArguments scope xs → 2 ≤ expression_level x → IsExpression scope x → AreArguments scope (expressions_then xs (t.expression x t.no_expression))
AreArguments-last scope t.no_expression x all le wf = (le, wf, tt)
AreArguments-last scope (t.expression y xs) x all le wf = (all.0, all.1, AreArguments-last scope xs x all.2 le wf)

pub after_specs-then : (scope : Scope) (ss us : t.Specs) → after_specs scope (specs_then ss us) ≡ after_specs (after_specs scope ss) us
after_specs-then scope t.no_spec us = refl
after_specs-then scope (t.spec_word k ss) us = after_specs-then scope ss us
after_specs-then scope (t.typedef_name u ss) us = after_specs-then scope ss us
after_specs-then scope (t.struct_tag u ss) us = after_specs-then scope ss us
after_specs-then scope (t.struct_list tag ms ss) us = after_specs-then (after_members scope ms) ss us
after_specs-then scope (t.enum_tag u ss) us = after_specs-then scope ss us
after_specs-then scope (t.enum_list tag es c ss) us = after_specs-then (after_enumerators scope es) ss us

pub AreSpecs-then : (scope : Scope) (ss us : t.Specs) → AreSpecs scope ss → AreSpecs (after_specs scope ss) us → AreSpecs scope (specs_then ss us)
AreSpecs-then scope t.no_spec us h k = k
AreSpecs-then scope (t.spec_word x ss) us h k = AreSpecs-then scope ss us h k
AreSpecs-then scope (t.typedef_name u ss) us h k = (h.0, AreSpecs-then scope ss us h.1 k)
AreSpecs-then scope (t.struct_tag u ss) us h k = AreSpecs-then scope ss us h k
AreSpecs-then scope (t.struct_list tag ms ss) us h k = (h.0, h.1, AreSpecs-then (after_members scope ms) ss us h.2 k)
AreSpecs-then scope (t.enum_tag u ss) us h k = AreSpecs-then scope ss us h k
AreSpecs-then scope (t.enum_list tag es c ss) us h k = (h.0, h.1, AreSpecs-then (after_enumerators scope es) ss us h.2 k)

pub after_members-last : (scope : Scope) (ms : t.Members) (ss : t.Specs) (ds : t.Declarators) → after_members scope (members_then ms (t.member ss ds t.no_member)) ≡ after_specs (after_members scope ms) ss
after_members-last scope t.no_member ss ds = refl
after_members-last scope (t.member us es ms) ss ds = after_members-last (after_specs scope us) ms ss ds

pub AreMembers-last : (scope : Scope) (ms : t.Members) (ss : t.Specs) (ds : t.Declarators) → AreMembers scope ms → AreSpecs (after_members scope ms) ss → form_type ss ≡ true → has_declarators ds ≡ true → AreDeclarators (after_specs (after_members scope ms) ss) ds → AreMembers scope (members_then ms (t.member ss ds t.no_member))
AreMembers-last scope t.no_member ss ds all a f n d = (a, f, n, d, tt)
AreMembers-last scope (t.member us es ms) ss ds all a f n d = (all.0, all.1, all.2, all.3, AreMembers-last (after_specs scope us) ms ss ds all.4 a f n d)

pub has_members-last : (ms : t.Members) (ss : t.Specs) (ds : t.Declarators) → has_members (members_then ms (t.member ss ds t.no_member)) ≡ true
has_members-last t.no_member ss ds = refl
has_members-last (t.member us es ms) ss ds = refl

pub has_declarators-last : (ds : t.Declarators) (d : t.Declarator) → has_declarators (declarators_then ds (t.declarator d t.no_declarator)) ≡ true
has_declarators-last t.no_declarator d = refl
has_declarators-last (t.declarator e ds) d = refl

pub AreDeclarators-last : (scope : Scope) (ds : t.Declarators) (d : t.Declarator) → AreDeclarators scope ds → IsDeclarator false scope d → AreDeclarators scope (declarators_then ds (t.declarator d t.no_declarator))
AreDeclarators-last scope t.no_declarator d all h = (h, tt)
AreDeclarators-last scope (t.declarator e ds) d all h = (all.0, AreDeclarators-last scope ds d all.1 h)

pub after_enumerators-last : (scope : Scope) (es : t.Enumerators) (u : Text) (v : t.Optional) → after_enumerators scope (enumerators_then es (t.enumerator u v t.no_enumerator)) ≡ with_name (after_enumerators scope es) u false
after_enumerators-last scope t.no_enumerator u v = refl
after_enumerators-last scope (t.enumerator x y es) u v = after_enumerators-last (with_name scope x false) es u v

pub AreEnumerators-last : (scope : Scope) (es : t.Enumerators) (u : Text) (v : t.Optional) → AreEnumerators scope es → IsOptional 3 (after_enumerators scope es) v → AreEnumerators scope (enumerators_then es (t.enumerator u v t.no_enumerator))
AreEnumerators-last scope t.no_enumerator u v all h = (h, tt)
AreEnumerators-last scope (t.enumerator x y es) u v all h = (all.0, AreEnumerators-last (with_name scope x false) es u v all.1 h)

pub has_enumerators-last : (es : t.Enumerators) (u : Text) (v : t.Optional) → has_enumerators (enumerators_then es (t.enumerator u v t.no_enumerator)) ≡ true
has_enumerators-last t.no_enumerator u v = refl
has_enumerators-last (t.enumerator x y es) u v = refl

pub after_parameters-last : (scope : Scope) (ps : t.Parameters) (ss : t.Specs) (d : t.Declarator) → after_parameters scope (parameters_then ps (t.parameter ss d t.no_parameter)) ≡ after_declarator (after_specs (after_parameters scope ps) ss) ss d
after_parameters-last scope t.no_parameter ss d = refl
after_parameters-last scope (t.parameter us e ps) ss d = after_parameters-last (after_declarator (after_specs scope us) us e) ps ss d

pub AreParameters-last : (scope : Scope) (ps : t.Parameters) (ss : t.Specs) (d : t.Declarator) → AreParameters scope ps → AreSpecs (after_parameters scope ps) ss → form_type ss ≡ true → IsDeclarator true (after_specs (after_parameters scope ps) ss) d → AreParameters scope (parameters_then ps (t.parameter ss d t.no_parameter))
AreParameters-last scope t.no_parameter ss d all a f h = (a, f, h, tt)
AreParameters-last scope (t.parameter us e ps) ss d all a f h = (all.0, all.1, all.2, AreParameters-last (after_declarator (after_specs scope us) us e) ps ss d all.3 a f h)

-- ---- the words of what is open

abbrev pub which_key : Which → Keyword
which_key AStruct = w.Struct
which_key AnEnum = w.Enum

-- The words of an open production, and then others.
abbrev pub frame_words : Frame Tree → List Word → List Word
frame_words InParen ws = Sign m.Open ∷ ws
frame_words (InCall f xs) ws = spell f (Sign m.Open ∷ lead_expressions xs ws)
frame_words (InIndex x) ws = spell x (Sign m.OpenBracket ∷ ws)
frame_words (InPrefix o) ws = Sign (m.Step o) ∷ ws
frame_words (InUnary o) ws = Sign (prefix_mark o) ∷ ws
frame_words InSizeof ws = Key w.Sizeof ∷ ws
frame_words (InCast ss d) ws = Sign m.Open ∷ spell_specs ss (spell_declarator d (Sign m.Close ∷ ws))
frame_words (InInfix o x) ws = spell x (Sign (m.Infix o) ∷ ws)
frame_words (InThen c) ws = spell c (Sign m.Question ∷ ws)
frame_words (InElse c x) ws = spell c (Sign m.Question ∷ spell x (Sign m.Colon ∷ ws))
frame_words (InAssign o x) ws = spell x (Sign (m.Assign o) ∷ ws)
frame_words (InComma x) ws = spell x (Sign m.Comma ∷ ws)
frame_words (CastSpecs outer) ws = Sign m.Open ∷ ws
frame_words (SizeofSpecs outer) ws = Key w.Sizeof ∷ Sign m.Open ∷ ws
frame_words (CastDeclarator outer ss) ws = Sign m.Open ∷ spell_specs ss ws
frame_words (SizeofDeclarator outer ss) ws = Key w.Sizeof ∷ Sign m.Open ∷ spell_specs ss ws
frame_words (InMembers us tag ms) ws = spell_specs us (Key w.Struct ∷ spell_tag tag (Sign m.OpenBrace ∷ spell_members ms ws))
frame_words (InMember us tag ms ss ds) ws = spell_specs us (Key w.Struct ∷ spell_tag tag (Sign m.OpenBrace ∷ spell_members ms (spell_specs ss (lead_declarators ds ws))))
frame_words (InEnumerators us tag es) ws = spell_specs us (Key w.Enum ∷ spell_tag tag (Sign m.OpenBrace ∷ lead_enumerators es ws))
frame_words (InEnumerator us tag es u) ws = spell_specs us (Key w.Enum ∷ spell_tag tag (Sign m.OpenBrace ∷ lead_enumerators es (Named u ∷ Sign (m.Assign a.Plain) ∷ ws)))
frame_words (InGroup k) ws = Sign m.Open ∷ ws
frame_words (InPointer k qs) ws = Sign star ∷ spell_qualifiers qs ws
frame_words (InArray k d) ws = spell_declarator d (Sign m.OpenBracket ∷ ws)
frame_words (InParameters k outer d ps) ws = spell_declarator d (Sign m.Open ∷ lead_parameters ps ws)
frame_words (InParameter k outer d ps ss) ws = spell_declarator d (Sign m.Open ∷ lead_parameters ps (spell_specs ss ws))
frame_words DeclSpecs ws = ws
frame_words (DeclDeclarator first ss ds) ws = spell_specs ss (lead_inits ds ws)
frame_words (DeclInit ss ds d) ws = spell_specs ss (lead_inits ds (spell_declarator d (Sign (m.Assign a.Plain) ∷ ws)))
frame_words (InBraces is) ws = Sign m.OpenBrace ∷ lead_items is ws
frame_words (InItem is g) ws = Sign m.OpenBrace ∷ lead_items is (spell_designator (designator_of g) ws)
frame_words (InPlace is) ws = Sign m.OpenBrace ∷ lead_items is (Sign m.OpenBracket ∷ ws)
frame_words InAssert ws = Key w.StaticAssert ∷ Sign m.Open ∷ ws
frame_words (InBlock outer c) ws = Sign m.OpenBrace ∷ spell_body c ws
frame_words (InSwitch outer x c) ws = Key w.Switch ∷ Sign m.Open ∷ spell x (Sign m.Close ∷ Sign m.OpenBrace ∷ spell_body c ws)
frame_words (InFunction outer ss d c) ws = spell_specs ss (spell_declarator d (Sign m.OpenBrace ∷ spell_body c ws))
frame_words (InUnit is) ws = spell_unit is ws
frame_words InCase ws = Key w.Case ∷ ws
frame_words InRun ws = ws
frame_words InReturn ws = Key w.Return ∷ ws
frame_words (InTest bs) ws = lead_branches bs (Key w.If ∷ Sign m.Open ∷ ws)
frame_words (InBranch bs c) ws = lead_branches bs (Key w.If ∷ Sign m.Open ∷ spell c (Sign m.Close ∷ ws))
frame_words (InElseBody bs) ws = spell_branches bs (Key w.Else ∷ ws)
frame_words InLoopTest ws = Key w.While ∷ Sign m.Open ∷ ws
frame_words (InWhile c) ws = Key w.While ∷ Sign m.Open ∷ spell c (Sign m.Close ∷ ws)
frame_words InDo ws = Key w.Do ∷ ws
frame_words (InDoTest u) ws = Key w.Do ∷ spell_statement u (Key w.While ∷ Sign m.Open ∷ ws)
frame_words InSwitchTest ws = Key w.Switch ∷ Sign m.Open ∷ ws
frame_words (InForInit outer) ws = Key w.For ∷ Sign m.Open ∷ ws
frame_words (InForCondition outer f) ws = Key w.For ∷ Sign m.Open ∷ spell_for_start f ws
frame_words (InForStep outer f c) ws = Key w.For ∷ Sign m.Open ∷ spell_for_start f (spell_maybe c (Sign m.Semicolon ∷ ws))
frame_words (InFor outer f c e) ws = Key w.For ∷ Sign m.Open ∷ spell_for_start f (spell_maybe c (Sign m.Semicolon ∷ spell_maybe e (Sign m.Close ∷ ws)))

-- the words before the open parenthesis
abbrev pub aim_words : Aim Tree → List Word → List Word
aim_words (ToTest bs) ws = lead_branches bs (Key w.If ∷ ws)
aim_words ToLoop ws = Key w.While ∷ ws
aim_words (ToDo u) ws = Key w.Do ∷ spell_statement u (Key w.While ∷ ws)
aim_words ToSwitch ws = Key w.Switch ∷ ws
aim_words ToAssert ws = Key w.StaticAssert ∷ ws

-- the words of a statement before its semicolon
abbrev pub ending_words : t.Statement → List Word → List Word
ending_words t.Break ws = Key w.Break ∷ ws
ending_words t.Continue ws = Key w.Continue ∷ ws
ending_words (t.Do u c) ws = Key w.Do ∷ spell_statement u (Key w.While ∷ Sign m.Open ∷ spell c (Sign m.Close ∷ ws))
ending_words _ ws = ws

abbrev pub unwind : Stack Tree → List Word → List Word
unwind [] ws = ws
unwind (f ∷ s) ws = unwind s (frame_words f ws)

abbrev pub mode_words : Mode Tree → List Word → List Word
mode_words Want ws = ws
mode_words (Have x) ws = spell x ws
mode_words (Texts u us) ws = Literal u ∷ spell_texts us ws
mode_words (First f) ws = spell f (Sign m.Open ∷ ws)
mode_words (Dotted x o) ws = spell x (Sign (m.Member o) ∷ ws)
mode_words (Specs ss) ws = spell_specs ss ws
mode_words (Tagging k ss) ws = spell_specs ss (Key (which_key k) ∷ ws)
mode_words (Tagged k ss u) ws = spell_specs ss (Key (which_key k) ∷ Named u ∷ ws)
mode_words NextMember ws = ws
mode_words FirstEnumerator ws = ws
mode_words NextEnumerator ws = ws
mode_words (Enumerated u) ws = Named u ∷ ws
mode_words (WantDeclarator k) ws = ws
mode_words (Qualifying k qs) ws = Sign star ∷ spell_qualifiers qs ws
mode_words (Opened k) ws = Sign m.Open ∷ ws
mode_words (HaveDeclarator k d) ws = spell_declarator d ws
mode_words (Sizing k d) ws = spell_declarator d (Sign m.OpenBracket ∷ ws)
mode_words (Listing k d) ws = spell_declarator d (Sign m.Open ∷ ws)
mode_words NextParameter ws = ws
mode_words AfterEllipsis ws = Sign m.Ellipsis ∷ ws
mode_words WantInit ws = ws
mode_words (HaveInit v) ws = spell_initialiser v ws
mode_words FirstItem ws = ws
mode_words NextItem ws = ws
mode_words Pointed ws = Sign (m.Member op.Dot) ∷ ws
mode_words (Placed AtNext) ws = ws
mode_words (Placed (AtMember u)) ws = Sign (m.Member op.Dot) ∷ Named u ∷ ws
mode_words (Placed (AtIndex x)) ws = Sign m.OpenBracket ∷ spell x (Sign m.CloseBracket ∷ ws)
mode_words (Opening aim) ws = aim_words aim ws
mode_words (AssertText x) ws = Key w.StaticAssert ∷ Sign m.Open ∷ spell x (Sign m.Comma ∷ ws)
mode_words (AssertClose x u) ws = Key w.StaticAssert ∷ Sign m.Open ∷ spell x (Sign m.Comma ∷ Literal u ∷ ws)
mode_words (AssertEnd x u) ws = Key w.StaticAssert ∷ Sign m.Open ∷ spell x (Sign m.Comma ∷ Literal u ∷ Sign m.Close ∷ ws)
mode_words Begin ws = ws
mode_words (Done u) ws = spell_statement u ws
mode_words (Ending u) ws = ending_words u ws
mode_words (AfterElse bs) ws = spell_branches bs (Key w.Else ∷ ws)
mode_words Returning ws = Key w.Return ∷ ws
mode_words (Switching x) ws = Key w.Switch ∷ Sign m.Open ∷ spell x (Sign m.Close ∷ ws)
mode_words DefaultColon ws = Key w.Default ∷ ws
mode_words OpenFor ws = Key w.For ∷ ws
mode_words ForInit ws = ws
mode_words ForCondition ws = ws
mode_words ForStep ws = ws

-- ---- what holds of what is open

-- a declarator of a kind may be read on top of a stack
abbrev pub KindOk : Stack Tree → Kind → Type 0
KindOk (CastDeclarator outer ss ∷ s) k = k ≡ OfType
KindOk (SizeofDeclarator outer ss ∷ s) k = k ≡ OfType
KindOk (InMember us tag ms ss ds ∷ s) k = k ≡ Ordinary
KindOk (InParameter j outer d ps ss ∷ s) k = k ≡ OfParameter
KindOk (DeclDeclarator first ss ds ∷ s) k = k ≡ Ordinary
KindOk (InGroup j ∷ s) k = k ≡ j
KindOk (InPointer j qs ∷ s) k = k ≡ j
KindOk _ k = Unit {0}

-- right behind the parenthesis of a group, no parameter list begins
abbrev pub GroupOk : Scope → Stack Tree → List Word → Type 0
GroupOk scope (InGroup k ∷ s) ws = (is_free k && begins_list scope ws) ≡ false
GroupOk scope _ ws = Unit {0}

abbrev pub HasMembers : Stack Tree → Type 0
HasMembers (InMembers us tag ms ∷ s) = has_members ms ≡ true
HasMembers _ = Unit {0}

abbrev pub HasEnumerators : Stack Tree → Type 0
HasEnumerators (InEnumerators us tag es ∷ s) = has_enumerators es ≡ true
HasEnumerators _ = Unit {0}

abbrev pub HasParameters : Stack Tree → Type 0
HasParameters (InParameters k outer d ps ∷ s) = has_parameters ps ≡ true
HasParameters _ = Unit {0}

abbrev pub NoItems : Stack Tree → Type 0
NoItems (InBraces is ∷ s) = is ≡ t.no_item
NoItems _ = Unit {0}

abbrev pub HasItems : Stack Tree → Type 0
HasItems (InBraces is ∷ s) = has_items is ≡ true
HasItems _ = Unit {0}

abbrev pub top_is_else : Stack Tree → Bool
top_is_else (InElseBody bs ∷ s) = true
top_is_else _ = false

-- a designator is read before its `=`
abbrev pub IsPlaced : Aimed Tree → Type 0
IsPlaced AtNext = ⊥
IsPlaced _ = Unit {0}

-- What holds of a frame, where the scope on top of it, the stack below it, and what holds of that in a scope are
-- given.
abbrev pub Rests : Frame Tree → Scope → Stack Tree → (Scope → Type 0) → Type 0
Rests InParen sc s below = below sc
Rests (InCall f xs) sc s below = (16 ≤ expression_level f) × IsExpression sc f × AreArguments sc xs × below sc
Rests (InIndex x) sc s below = (16 ≤ expression_level x) × IsExpression sc x × below sc
Rests (InPrefix o) sc s below = below sc
Rests (InUnary o) sc s below = below sc
Rests InSizeof sc s below = below sc
Rests (InCast ss d) sc s below = AreSpecs sc ss × (form_type ss ≡ true) × (name_of d ≡ None) × IsDeclarator true (after_specs sc ss) d × (stack_needs s ≤ 14) × below sc
Rests (InInfix o x) sc s below = (infix_level o ≤ expression_level x) × IsExpression sc x × (stack_needs s ≤ infix_level o) × below sc
Rests (InThen c) sc s below = (4 ≤ expression_level c) × IsExpression sc c × (stack_needs s ≤ 3) × below sc
Rests (InElse c x) sc s below = (4 ≤ expression_level c) × IsExpression sc c × IsExpression sc x × (stack_needs s ≤ 3) × below sc
Rests (InAssign o x) sc s below = (15 ≤ expression_level x) × IsExpression sc x × (stack_needs s ≤ 2) × below sc
Rests (InComma x) sc s below = IsExpression sc x × (stack_needs s ≤ 1) × below sc
Rests (CastSpecs outer) sc s below = (outer ≡ sc) × (stack_needs s ≤ 14) × below sc
Rests (SizeofSpecs outer) sc s below = (outer ≡ sc) × below sc
Rests (CastDeclarator outer ss) sc s below = AreSpecs outer ss × (form_type ss ≡ true) × (sc ≡ after_specs outer ss) × (stack_needs s ≤ 14) × below outer
Rests (SizeofDeclarator outer ss) sc s below = AreSpecs outer ss × (form_type ss ≡ true) × (sc ≡ after_specs outer ss) × below outer
Rests (InMembers us tag ms) sc s below = (base : Scope) × AreSpecs base us × AreMembers (after_specs base us) ms × (sc ≡ after_members (after_specs base us) ms) × below base
Rests (InMember us tag ms ss ds) sc s below =
    (base : Scope) × AreSpecs base us × AreMembers (after_specs base us) ms × AreSpecs (after_members (after_specs base us) ms) ss × (form_type ss ≡ true)
    × AreDeclarators sc ds × (sc ≡ after_specs (after_members (after_specs base us) ms) ss) × below base
Rests (InEnumerators us tag es) sc s below = (base : Scope) × AreSpecs base us × AreEnumerators (after_specs base us) es × (sc ≡ after_enumerators (after_specs base us) es) × below base
Rests (InEnumerator us tag es u) sc s below = (base : Scope) × AreSpecs base us × AreEnumerators (after_specs base us) es × (sc ≡ after_enumerators (after_specs base us) es) × below base
Rests (InGroup k) sc s below = KindOk s k × below sc
Rests (InPointer k qs) sc s below = KindOk s k × below sc
Rests (InArray k d) sc s below =
    (is_direct d ≡ true) × IsDeclarator (is_free k) sc d × (may_name k (name_of d) ≡ true) × KindOk s k
    × ((ws : List Word) → GroupOk sc s (spell_declarator d (Sign m.OpenBracket ∷ ws))) × below sc
Rests (InParameters k outer d ps) sc s below =
    (is_direct d ≡ true) × IsDeclarator (is_free k) outer d × (may_name k (name_of d) ≡ true) × KindOk s k
    × ((ws : List Word) → GroupOk outer s (spell_declarator d (Sign m.Open ∷ ws))) × below outer × AreParameters outer ps × (sc ≡ after_parameters outer ps)
Rests (InParameter k outer d ps ss) sc s below =
    (is_direct d ≡ true) × IsDeclarator (is_free k) outer d × (may_name k (name_of d) ≡ true) × KindOk s k
    × ((ws : List Word) → GroupOk outer s (spell_declarator d (Sign m.Open ∷ ws))) × below outer × AreParameters outer ps
    × AreSpecs (after_parameters outer ps) ss × (form_type ss ≡ true) × (sc ≡ after_specs (after_parameters outer ps) ss)
Rests DeclSpecs sc s below = below sc
Rests (DeclDeclarator first ss ds) sc s below =
    (base : Scope) × AreSpecs base ss × (form_type ss ≡ true) × AreInitDeclarators (after_specs base ss) ss ds × (sc ≡ after_init_declarators (after_specs base ss) ss ds) × (first ≡ true → ds ≡ []) × below base
Rests (DeclInit ss ds d) sc s below =
    (base : Scope) × AreSpecs base ss × (form_type ss ≡ true) × AreInitDeclarators (after_specs base ss) ss ds × IsDeclarator false (after_init_declarators (after_specs base ss) ss ds) d
    × (sc ≡ after_declarator (after_init_declarators (after_specs base ss) ss ds) ss d) × below base
Rests (InBraces is) sc s below = AreItems sc is × below sc
Rests (InItem is g) sc s below = AreItems sc is × IsDesignator sc (designator_of g) × below sc
Rests (InPlace is) sc s below = AreItems sc is × below sc
Rests InAssert sc s below = below sc
Rests (InBlock outer c) sc s below = IsBody false outer c × (sc ≡ after_body outer c) × below outer
Rests (InSwitch outer x c) sc s below = IsExpression outer x × IsBody true outer c × (sc ≡ after_body outer c) × below outer
Rests (InFunction outer ss d c) sc s below =
    (base : Scope) × AreSpecs base ss × (form_type ss ≡ true) × IsDeclarator false (after_specs base ss) d × (outer ≡ after_declarator (after_specs base ss) ss d)
    × IsBody false (inside_definition base ss d) c × (sc ≡ after_body (inside_definition base ss d) c) × below base
Rests (InUnit is) sc s below = (base : Scope) × IsTranslationUnit base is × (sc ≡ after_unit base is) × below base
Rests InCase sc s below = below sc
Rests InRun sc s below = below sc
Rests InReturn sc s below = below sc
Rests (InTest bs) sc s below = AreLed sc bs × (top_is_else s ≡ false) × below sc
Rests (InBranch bs c) sc s below = AreLed sc bs × IsExpression sc c × (top_is_else s ≡ false) × below sc
Rests (InElseBody bs) sc s below = (has_branches bs ≡ true) × AreLed sc bs × (top_is_else s ≡ false) × below sc
Rests InLoopTest sc s below = below sc
Rests (InWhile c) sc s below = IsExpression sc c × below sc
Rests InDo sc s below = below sc
Rests (InDoTest u) sc s below = IsStatement sc u × below sc
Rests InSwitchTest sc s below = below sc
Rests (InForInit outer) sc s below = (outer ≡ sc) × below sc
Rests (InForCondition outer f) sc s below = IsForStart outer f × (sc ≡ after_for_start outer f) × below outer
Rests (InForStep outer f c) sc s below = IsForStart outer f × (sc ≡ after_for_start outer f) × IsMaybe sc c × below outer
Rests (InFor outer f c e) sc s below = IsForStart outer f × (sc ≡ after_for_start outer f) × IsMaybe sc c × IsMaybe sc e × below outer

-- a declarator that is read, on top of a stack; what its words are with what stands behind them
abbrev pub IsRead : Scope → Stack Tree → Kind → t.Declarator → (List Word → List Word) → Type 0
IsRead sc s k d spelled = (is_direct d ≡ true) × IsDeclarator (is_free k) sc d × (may_name k (name_of d) ≡ true) × KindOk s k × ((ws : List Word) → GroupOk sc s (spelled ws))

-- `start` is the scope below all that is open.
module _ (start : Scope) where
  abbrev pub IsStack : Stack Tree → Scope → Type 0
  IsStack [] sc = sc ≡ start
  IsStack (f ∷ s) sc = Rests f sc s (IsStack s)

  -- specifiers that are read, on top of a stack
  abbrev pub AreRead : Scope → Stack Tree → t.Specs → Type 0
  AreRead sc s ss = (base : Scope) × AreSpecs base ss × (sc ≡ after_specs base ss) × IsStack s base

  abbrev pub IsAt : Mode Tree → Scope → Stack Tree → Type 0
  IsAt Want sc s = IsStack s sc
  IsAt (Have x) sc s = IsExpression sc x × (15 ≤ expression_level x) × IsStack s sc
  IsAt (Texts u us) sc s = IsStack s sc
  IsAt (First f) sc s = (16 ≤ expression_level f) × IsExpression sc f × IsStack s sc
  IsAt (Dotted x o) sc s = (16 ≤ expression_level x) × IsExpression sc x × IsStack s sc
  IsAt (Specs ss) sc s = AreRead sc s ss
  IsAt (Tagging k ss) sc s = AreRead sc s ss
  IsAt (Tagged k ss u) sc s = AreRead sc s ss
  IsAt NextMember sc s = HasMembers s × IsStack s sc
  IsAt FirstEnumerator sc s = IsStack s sc
  IsAt NextEnumerator sc s = HasEnumerators s × IsStack s sc
  IsAt (Enumerated u) sc s = IsStack s sc
  IsAt (WantDeclarator k) sc s = KindOk s k × ((v : Word) → GroupOk sc s (v ∷ [])) × IsStack s sc
  IsAt (Qualifying k qs) sc s = KindOk s k × IsStack s sc
  IsAt (Opened k) sc s = KindOk s k × IsStack s sc
  IsAt (HaveDeclarator k d) sc s = IsRead sc s k d (spell_declarator d) × IsStack s sc
  IsAt (Sizing k d) sc s = IsRead sc s k d (λ ws. spell_declarator d (Sign m.OpenBracket ∷ ws)) × IsStack s sc
  IsAt (Listing k d) sc s = IsRead sc s k d (λ ws. spell_declarator d (Sign m.Open ∷ ws)) × IsStack s sc
  IsAt NextParameter sc s = HasParameters s × IsStack s sc
  IsAt AfterEllipsis sc s = HasParameters s × IsStack s sc
  IsAt WantInit sc s = IsStack s sc
  IsAt (HaveInit v) sc s = IsInitialiser sc v × IsStack s sc
  IsAt FirstItem sc s = NoItems s × IsStack s sc
  IsAt NextItem sc s = HasItems s × IsStack s sc
  IsAt Pointed sc s = IsStack s sc
  IsAt (Placed g) sc s = IsPlaced g × IsDesignator sc (designator_of g) × IsStack s sc
  IsAt (Opening aim) sc s = IsStack (aim_frame trees_built aim ∷ s) sc
  IsAt (AssertText x) sc s = (3 ≤ expression_level x) × IsExpression sc x × IsStack s sc
  IsAt (AssertClose x u) sc s = (3 ≤ expression_level x) × IsExpression sc x × IsStack s sc
  IsAt (AssertEnd x u) sc s = (3 ≤ expression_level x) × IsExpression sc x × IsStack s sc
  IsAt Begin sc s = (top_is_else s ≡ false) × IsStack s sc
  IsAt (Done u) sc s = IsStatement sc u × (takes_else u ≡ false) × (is_if u ≡ false) × IsStack s sc
  IsAt (Ending u) sc s = IsStatement sc u × (takes_else u ≡ false) × (is_if u ≡ false) × ((ws : List Word) → ending_words u (Sign m.Semicolon ∷ ws) ≡ spell_statement u ws) × IsStack s sc
  IsAt (AfterElse bs) sc s = (has_branches bs ≡ true) × AreLed sc bs × (top_is_else s ≡ false) × IsStack s sc
  IsAt Returning sc s = IsStack s sc
  IsAt (Switching x) sc s = IsExpression sc x × IsStack s sc
  IsAt DefaultColon sc s = IsStack s sc
  IsAt OpenFor sc s = IsStack s sc
  IsAt ForInit sc s = IsStack s sc
  IsAt ForCondition sc s = IsStack s sc
  IsAt ForStep sc s = IsStack s sc
