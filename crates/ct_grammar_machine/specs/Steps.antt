-- The parser as a machine: a stack of open productions and what comes next, one word at a time.
use Rattle.std.specs.Prelude.{ℕ, Bool, true, false, not, ◌&&◌, nat_lt, if◌then◌else◌, List, [], ◌∷◌, ◌++◌, Option, Some, None}
use Rattle.ct_base.specs.declared.operators.BinaryOp.TheVariants as b
use Rattle.ct_syntax.specs.declared.words.PrefixOp.{PrefixOp}
use Rattle.ct_syntax.specs.declared.words.PrefixOp.TheVariants as p
use Rattle.ct_syntax.specs.declared.words.InfixOp.TheVariants as i
use Rattle.ct_syntax.specs.declared.words.AssignOp.{AssignOp}
use Rattle.ct_syntax.specs.declared.words.AssignOp.TheVariants as a
use Rattle.ct_syntax.specs.declared.words.MemberOp.{MemberOp}
use Rattle.ct_syntax.specs.declared.words.MemberOp.TheVariants as op
use Rattle.ct_syntax.specs.declared.words.Mark.{Mark}
use Rattle.ct_syntax.specs.declared.words.Mark.TheVariants as m
use Rattle.ct_syntax.specs.declared.words.Keyword.{Keyword}
use Rattle.ct_syntax.specs.declared.words.Keyword.TheVariants as w
use Rattle.ct_syntax.specs.declared.words.SpecWord.TheVariants as s
use Rattle.ct_syntax.specs.declared.words.Qualifier.{Qualifier}
use Rattle.ct_syntax.specs.declared.words.Qualifier.TheVariants as q
use Rattle.ct_syntax.specs.declared.expressions.ParameterForm.TheVariants as form
use Rattle.ct_syntax.specs.Words.{Text, Word, Named, Numbered, Quote, Literal, Sign, Key, Stray}
use Rattle.ct_syntax.specs.Scopes.{Scope, with_name, with_maybe}
use Rattle.ct_syntax.specs.Grammar.{begins_list, begins_specs}
use Rattle.ct_grammar_machine.specs.Algebra.{Sort, expr, specs, decl, parameters, init, declaration, stmt, branches, items, Aimed, AtNext, AtMember, AtIndex, Algebra}
use Rattle.ct_grammar_machine.specs.Frames.{Kind, Ordinary, OfParameter, OfType, is_free, Which, AStruct, AnEnum, Frame, InParen, InCall, InIndex, InPrefix, InUnary, InSizeof, InCast, InInfix, InThen, InElse, InAssign, InComma, CastSpecs, SizeofSpecs, CastDeclarator, SizeofDeclarator, InMembers, InMember, InEnumerators, InEnumerator, InGroup, InPointer, InArray, InParameters, InParameter}
use Rattle.ct_grammar_machine.specs.Frames.{Mode, Want, Have, Texts, First, Dotted, Specs, Tagging, Tagged, NextMember, FirstEnumerator, NextEnumerator, Enumerated, WantDeclarator, Qualifying, Opened, HaveDeclarator, Sizing, Listing, NextParameter, AfterEllipsis}
use Rattle.ct_grammar_machine.specs.Frames.{DeclSpecs, DeclDeclarator, DeclInit, InBraces, InItem, InPlace, InAssert, InBlock, InSwitch, InFunction, InUnit, InCase, InRun, InReturn, InTest, InBranch, InElseBody, InLoopTest, InWhile, InDo, InDoTest, InSwitchTest, InForInit, InForCondition, InForStep, InFor, Aim, ToTest, ToLoop, ToDo, ToSwitch, ToAssert}
use Rattle.ct_grammar_machine.specs.Frames.{WantInit, HaveInit, FirstItem, NextItem, Pointed, Placed, Opening, AssertText, AssertClose, AssertEnd, Begin, Done, Ending, AfterElse, Returning, Switching, DefaultColon, OpenFor, ForInit, ForCondition, ForStep}
use Rattle.ct_grammar_machine.specs.Frames.{Stack, State, mark_pull, stack_needs, holds}

-- the operator that a mark is before an operand
abbrev pub prefix_of : Mark → Option PrefixOp
prefix_of m.Complement = Some p.Complement
prefix_of m.Not = Some p.Not
prefix_of (m.Infix (i.Number b.And)) = Some p.Address
prefix_of (m.Infix (i.Number b.Multiply)) = Some p.Dereference
prefix_of (m.Infix (i.Number b.Add)) = Some p.Plus
prefix_of (m.Infix (i.Number b.Subtract)) = Some p.Minus
prefix_of _ = None

abbrev pub is_star : Mark → Bool
is_star (m.Infix (i.Number b.Multiply)) = true
is_star _ = false

abbrev pub qualifier_of : Word → Option Qualifier
qualifier_of (Key (w.Spec s.Const)) = Some q.Const
qualifier_of (Key (w.Spec s.Volatile)) = Some q.Volatile
qualifier_of (Key w.Restrict) = Some q.Restrict
qualifier_of _ = None

abbrev pub is_label : Word → Bool
is_label (Key w.Case) = true
is_label (Key w.Default) = true
is_label _ = false

abbrev pub is_else : Word → Bool
is_else (Key w.Else) = true
is_else _ = false

module _ {C : Sort → Type 0} (alg : Algebra C) where
  abbrev pub Step : Type 0
  Step = Option (State C)

  -- ---- declarations

  -- behind a declaration
  abbrev pub declaration_done : Scope → Stack C → C declaration → Step
  declaration_done scope (InUnit is ∷ s) d = Some (scope, InUnit (alg.push_outside is d) ∷ s, Begin)
  declaration_done scope (InBlock outer b ∷ s) d = Some (scope, InBlock outer (alg.push_declared b d) ∷ s, Begin)
  declaration_done scope (InSwitch outer x b ∷ s) d = Some (scope, InSwitch outer x (alg.push_declared b d) ∷ s, Begin)
  declaration_done scope (InFunction outer ss f b ∷ s) d = Some (scope, InFunction outer ss f (alg.push_declared b d) ∷ s, Begin)
  declaration_done scope (InForInit outer ∷ s) d = Some (scope, InForCondition outer (alg.start_declaration d) ∷ s, ForCondition)
  declaration_done scope _ d = None

  -- A definition stands at file scope.
  abbrev pub definition_opens : Scope → Stack C → Bool → C specs → C decl → Step
  definition_opens scope (InUnit is ∷ s) true ss d = Some (alg.inside d scope, InFunction scope ss d alg.no_body ∷ InUnit is ∷ s, Begin)
  definition_opens scope _ first ss d = None

  -- A mark behind an initialiser.
  abbrev pub init_done : Scope → Mark → Stack C → C init → Step
  init_done scope m.Comma (DeclInit ss ds d ∷ s) v = Some (scope, DeclDeclarator false ss (alg.push_init_declarator ds d (Some v)) ∷ s, WantDeclarator Ordinary)
  init_done scope m.Semicolon (DeclInit ss ds d ∷ s) v = declaration_done scope s (alg.declare ss (alg.push_init_declarator ds d (Some v)))
  init_done scope m.Comma (InItem is g ∷ s) v = Some (scope, InBraces (alg.push_init is g v) ∷ s, NextItem)
  init_done scope m.CloseBrace (InItem is g ∷ s) v = Some (scope, s, HaveInit (alg.braces (alg.push_init is g v) false))
  init_done scope _ _ v = None

  -- ---- declarators

  -- The declarator of a frame that no mark of its own ends.
  abbrev pub reduced_pointers : Stack C → C decl → Stack C × C decl
  reduced_pointers (InPointer k qs ∷ s) d = reduced_pointers s (alg.pointer qs d)
  reduced_pointers s d = (s, d)

  -- behind a parameter list
  abbrev pub closed : C decl → C parameters → C decl
  closed d ps = if alg.only_void ps then alg.function d form.Void alg.no_parameters else alg.function d form.Fixed ps

  -- A mark behind a whole declarator, which its pointers are a part of.
  abbrev pub declarator_done : Scope → Mark → Stack C × C decl → Step
  declarator_done scope m.Close (InGroup k ∷ s, d) = Some (scope, s, HaveDeclarator k (alg.group d))
  declarator_done scope m.Close (CastDeclarator outer ss ∷ s, d) = Some (outer, InCast ss d ∷ s, Want)
  declarator_done scope m.Close (SizeofDeclarator outer ss ∷ s, d) = Some (outer, s, Have (alg.sizeof_type ss d))
  declarator_done scope m.Close (InParameter k outer f ps ss ∷ s, d) = Some (outer, s, HaveDeclarator k (closed f (alg.push_parameter ps ss d)))
  declarator_done scope m.Comma (InParameter k outer f ps ss ∷ s, d) = Some (with_maybe scope (alg.name_in d) (alg.declares_types ss), InParameters k outer f (alg.push_parameter ps ss d) ∷ s, NextParameter)
  declarator_done scope m.Comma (InMember ss tag ms us ds ∷ s, d) = Some (scope, InMember ss tag ms us (alg.push_declarator ds d) ∷ s, WantDeclarator Ordinary)
  declarator_done scope m.Semicolon (InMember ss tag ms us ds ∷ s, d) = Some (scope, InMembers ss tag (alg.push_member ms us (alg.push_declarator ds d)) ∷ s, NextMember)
  declarator_done scope m.Comma (DeclDeclarator first ss ds ∷ s, d) = Some (with_maybe scope (alg.name_in d) (alg.declares_types ss), DeclDeclarator false ss (alg.push_init_declarator ds d None) ∷ s, WantDeclarator Ordinary)
  declarator_done scope m.Semicolon (DeclDeclarator first ss ds ∷ s, d) = declaration_done (with_maybe scope (alg.name_in d) (alg.declares_types ss)) s (alg.declare ss (alg.push_init_declarator ds d None))
  declarator_done scope (m.Assign a.Plain) (DeclDeclarator first ss ds ∷ s, d) = Some (with_maybe scope (alg.name_in d) (alg.declares_types ss), DeclInit ss ds d ∷ s, WantInit)
  declarator_done scope m.OpenBrace (DeclDeclarator first ss ds ∷ s, d) = definition_opens (with_maybe scope (alg.name_in d) (alg.declares_types ss)) s first ss d
  declarator_done scope _ _ = None

  abbrev pub have_declarator : Scope → Stack C → Kind → C decl → Word → Step
  have_declarator scope s k d (Sign m.OpenBracket) = Some (scope, s, Sizing k d)
  have_declarator scope s k d (Sign m.Open) = Some (scope, s, Listing k d)
  have_declarator scope s k d (Sign mark) = declarator_done scope mark (reduced_pointers s d)
  have_declarator scope s k d w = None

  -- a word in the place of a name
  abbrev pub no_name : Scope → Stack C → Kind → Word → Step
  no_name scope s Ordinary w = None
  no_name scope s OfParameter w = have_declarator scope s OfParameter alg.nameless w
  no_name scope s OfType w = have_declarator scope s OfType alg.nameless w

  abbrev pub want_named : Scope → Stack C → Kind → Text → Step
  want_named scope s OfType t = None
  want_named scope s k t = Some (scope, s, HaveDeclarator k (alg.called t))

  abbrev pub want_mark : Scope → Stack C → Kind → Mark → Step
  want_mark scope s k m.Open = Some (scope, s, Opened k)
  want_mark scope s k mark = if is_star mark then Some (scope, s, Qualifying k []) else no_name scope s k (Sign mark)

  abbrev pub want_declarator : Scope → Stack C → Kind → Word → Step
  want_declarator scope s k (Named t) = want_named scope s k t
  want_declarator scope s k (Sign mark) = want_mark scope s k mark
  want_declarator scope s k w = None

  abbrev pub qualify : Scope → Stack C → Kind → List Qualifier → Option Qualifier → Word → Step
  qualify scope s k qs (Some q) w = Some (scope, s, Qualifying k (qs ++ q ∷ []))
  qualify scope s k qs None w = want_declarator scope (InPointer k qs ∷ s) k w

  -- ---- specifiers

  abbrev pub declaration_specs : Scope → Stack C → C specs → Word → Step
  declaration_specs scope s ss (Sign m.Semicolon) = declaration_done scope s (alg.declare ss alg.no_init_declarators)
  declaration_specs scope s ss w = want_declarator scope (DeclDeclarator true ss alg.no_init_declarators ∷ s) Ordinary w

  abbrev pub specs_done : Scope → Stack C → C specs → Word → Step
  specs_done scope (CastSpecs outer ∷ s) ss w = want_declarator scope (CastDeclarator outer ss ∷ s) OfType w
  specs_done scope (SizeofSpecs outer ∷ s) ss w = want_declarator scope (SizeofDeclarator outer ss ∷ s) OfType w
  specs_done scope (InMembers us tag ms ∷ s) ss w = want_declarator scope (InMember us tag ms ss alg.no_declarators ∷ s) Ordinary w
  specs_done scope (InParameters k outer d ps ∷ s) ss w = want_declarator scope (InParameter k outer d ps ss ∷ s) OfParameter w
  specs_done scope (DeclSpecs ∷ s) ss w = declaration_specs scope s ss w
  specs_done scope _ ss w = None

  abbrev pub specs_end : Scope → Stack C → C specs → Word → Step
  specs_end scope s ss w = if alg.forms_type ss then specs_done scope s ss w else None

  -- A typedef name is a specifier where no part of a type stands before it.
  abbrev pub specs_step : Scope → Stack C → C specs → Word → Step
  specs_step scope s ss (Key (w.Spec k)) = Some (scope, s, Specs (alg.with_word ss k))
  specs_step scope s ss (Key w.Struct) = Some (scope, s, Tagging AStruct ss)
  specs_step scope s ss (Key w.Enum) = Some (scope, s, Tagging AnEnum ss)
  specs_step scope s ss (Named t) = if scope t && not (alg.has_type ss) then Some (scope, s, Specs (alg.with_typedef ss t)) else specs_end scope s ss (Named t)
  specs_step scope s ss w = specs_end scope s ss w

  abbrev pub open_braces : Scope → Stack C → Which → C specs → Option Text → Step
  open_braces scope s AStruct ss tag = Some (scope, InMembers ss tag alg.no_members ∷ s, Specs alg.no_specs)
  open_braces scope s AnEnum ss tag = Some (scope, InEnumerators ss tag alg.no_enumerators ∷ s, FirstEnumerator)

  abbrev pub tagging : Scope → Stack C → Which → C specs → Word → Step
  tagging scope s k ss (Named t) = Some (scope, s, Tagged k ss t)
  tagging scope s k ss (Sign m.OpenBrace) = open_braces scope s k ss None
  tagging scope s k ss w = None

  abbrev pub with_tag : Which → C specs → Text → C specs
  with_tag AStruct ss t = alg.with_struct_tag ss t
  with_tag AnEnum ss t = alg.with_enum_tag ss t

  abbrev pub tagged : Scope → Stack C → Which → C specs → Text → Word → Step
  tagged scope s k ss t (Sign m.OpenBrace) = open_braces scope s k ss (Some t)
  tagged scope s k ss t w = specs_step scope s (with_tag k ss t) w

  abbrev pub close_members : Scope → Stack C → Step
  close_members scope (InMembers ss tag ms ∷ s) = Some (scope, s, Specs (alg.with_struct ss tag ms))
  close_members scope _ = None

  abbrev pub next_member : Scope → Stack C → Word → Step
  next_member scope s (Sign m.CloseBrace) = close_members scope s
  next_member scope s w = specs_step scope s alg.no_specs w

  abbrev pub first_enumerator : Scope → Stack C → Word → Step
  first_enumerator scope s (Named t) = Some (scope, s, Enumerated t)
  first_enumerator scope s w = None

  abbrev pub close_enumerators : Scope → Stack C → Step
  close_enumerators scope (InEnumerators ss tag es ∷ s) = Some (scope, s, Specs (alg.with_enum ss tag es true))
  close_enumerators scope _ = None

  abbrev pub next_enumerator : Scope → Stack C → Word → Step
  next_enumerator scope s (Sign m.CloseBrace) = close_enumerators scope s
  next_enumerator scope s w = first_enumerator scope s w

  abbrev pub enumerated : Scope → Stack C → Text → Word → Step
  enumerated scope (InEnumerators ss tag es ∷ s) t (Sign (m.Assign a.Plain)) = Some (scope, InEnumerator ss tag es t ∷ s, Want)
  enumerated scope (InEnumerators ss tag es ∷ s) t (Sign m.Comma) = Some (with_name scope t false, InEnumerators ss tag (alg.push_enumerator es t) ∷ s, NextEnumerator)
  enumerated scope (InEnumerators ss tag es ∷ s) t (Sign m.CloseBrace) = Some (with_name scope t false, s, Specs (alg.with_enum ss tag (alg.push_enumerator es t) false))
  enumerated scope _ t w = None

  -- ---- expressions

  -- The tree of a frame that no mark of its own ends.
  abbrev pub plug : Frame C → C expr → C expr
  plug (InPrefix o) x = alg.prefixed o x
  plug (InUnary o) x = alg.unary o x
  plug InSizeof x = alg.sizeof_value x
  plug (InCast ss d) x = alg.cast ss d x
  plug (InInfix o l) x = alg.infixed o l x
  plug (InElse c y) x = alg.conditional c y x
  plug (InAssign o l) x = alg.assign o l x
  plug (InComma l) x = alg.comma l x
  plug _ x = x

  -- Ends the frames that hold at least so tightly.
  abbrev pub reduced : ℕ → Stack C → C expr → Stack C × C expr
  reduced p [] x = ([], x)
  reduced p (f ∷ s) x = if nat_lt (holds f) p then (f ∷ s, x) else reduced p s (plug f x)

  abbrev pub on_close : Scope → Stack C → C expr → Step
  on_close scope (InParen ∷ s) x = Some (scope, s, Have (alg.paren x))
  on_close scope (InCall f xs ∷ s) x = Some (scope, s, Have (alg.call f (alg.push xs x)))
  on_close scope (InTest bs ∷ s) x = Some (scope, InBranch bs x ∷ s, Begin)
  on_close scope (InLoopTest ∷ s) x = Some (scope, InWhile x ∷ s, Begin)
  on_close scope (InDoTest t ∷ s) x = Some (scope, s, Ending (alg.do_loop t x))
  on_close scope (InSwitchTest ∷ s) x = Some (scope, s, Switching x)
  on_close scope (InForStep outer f c ∷ s) x = Some (scope, InFor outer f c (Some x) ∷ s, Begin)
  on_close scope _ x = None

  abbrev pub on_close_bracket : Scope → Stack C → C expr → Step
  on_close_bracket scope (InIndex y ∷ s) x = Some (scope, s, Have (alg.index y x))
  on_close_bracket scope (InArray k d ∷ s) x = Some (scope, s, HaveDeclarator k (alg.array d x))
  on_close_bracket scope (InPlace is ∷ s) x = Some (scope, InBraces is ∷ s, Placed (AtIndex x))
  on_close_bracket scope _ x = None

  abbrev pub on_comma : Scope → Stack C → C expr → Step
  on_comma scope (InCall f xs ∷ s) x = Some (scope, InCall f (alg.push xs x) ∷ s, Want)
  on_comma scope (InEnumerator ss tag es t ∷ s) x = Some (with_name scope t false, InEnumerators ss tag (alg.push_valued es t x) ∷ s, NextEnumerator)
  on_comma scope (DeclInit ss ds d ∷ s) x = init_done scope m.Comma (DeclInit ss ds d ∷ s) (alg.value_init x)
  on_comma scope (InItem is g ∷ s) x = init_done scope m.Comma (InItem is g ∷ s) (alg.value_init x)
  on_comma scope (InAssert ∷ s) x = Some (scope, s, AssertText x)
  on_comma scope s x = if nat_lt 1 (stack_needs s) then None else Some (scope, InComma x ∷ s, Want)

  -- Labels stand in the braces of a switch alone.
  abbrev pub case_done : Scope → Stack C → C expr → Step
  case_done scope (InSwitch outer y b ∷ s) x = Some (scope, InSwitch outer y (alg.push_case b x) ∷ s, Begin)
  case_done scope _ x = None

  abbrev pub default_done : Scope → Stack C → Step
  default_done scope (InSwitch outer y b ∷ s) = Some (scope, InSwitch outer y (alg.push_default b) ∷ s, Begin)
  default_done scope _ = None

  abbrev pub on_colon : Scope → Stack C → C expr → Step
  on_colon scope (InThen c ∷ s) x = Some (scope, InElse c x ∷ s, Want)
  on_colon scope (InCase ∷ s) x = case_done scope s x
  on_colon scope _ x = None

  abbrev pub on_close_brace : Scope → Stack C → C expr → Step
  on_close_brace scope (InEnumerator ss tag es t ∷ s) x = Some (with_name scope t false, s, Specs (alg.with_enum ss tag (alg.push_valued es t x) false))
  on_close_brace scope (InItem is g ∷ s) x = init_done scope m.CloseBrace (InItem is g ∷ s) (alg.value_init x)
  on_close_brace scope _ x = None

  abbrev pub on_semicolon : Scope → Stack C → C expr → Step
  on_semicolon scope (DeclInit ss ds d ∷ s) x = init_done scope m.Semicolon (DeclInit ss ds d ∷ s) (alg.value_init x)
  on_semicolon scope (InRun ∷ s) x = Some (scope, s, Done (alg.run (Some x)))
  on_semicolon scope (InReturn ∷ s) x = Some (scope, s, Done (alg.return (Some x)))
  on_semicolon scope (InForInit outer ∷ s) x = Some (scope, InForCondition outer (alg.start_value (Some x)) ∷ s, ForCondition)
  on_semicolon scope (InForCondition outer f ∷ s) x = Some (scope, InForStep outer f (Some x) ∷ s, ForStep)
  on_semicolon scope _ x = None

  -- An assignment stands only where one may, and its left side is a unary production.
  abbrev pub on_assign : Scope → AssignOp → Stack C → C expr → Step
  on_assign scope o s x = if nat_lt 2 (stack_needs s) then None else (if nat_lt (alg.level_of x) 15 then None else Some (scope, InAssign o x ∷ s, Want))

  -- what stands behind a postfix production alone
  abbrev pub on_postfix : C expr → State C → Step
  on_postfix x next = if nat_lt (alg.level_of x) 16 then None else Some next

  -- A mark behind an operand, once what it ends is ended.
  abbrev pub act : Scope → Mark → Stack C → C expr → Step
  act scope m.Open s x = on_postfix x (scope, s, First x)
  act scope m.OpenBracket s x = on_postfix x (scope, InIndex x ∷ s, Want)
  act scope (m.Member o) s x = on_postfix x (scope, s, Dotted x o)
  act scope (m.Step o) s x = on_postfix x (scope, s, Have (alg.postfix x o))
  act scope (m.Infix o) s x = Some (scope, InInfix o x ∷ s, Want)
  act scope (m.Assign o) s x = on_assign scope o s x
  act scope m.Question s x = Some (scope, InThen x ∷ s, Want)
  act scope m.Close s x = on_close scope s x
  act scope m.CloseBracket s x = on_close_bracket scope s x
  act scope m.Comma s x = on_comma scope s x
  act scope m.Colon s x = on_colon scope s x
  act scope m.CloseBrace s x = on_close_brace scope s x
  act scope m.Semicolon s x = on_semicolon scope s x
  act scope _ s x = None

  abbrev pub at : Scope → Mark → Stack C × C expr → Step
  at scope k pair = act scope k pair.0 pair.1

  abbrev pub after : Scope → Stack C → C expr → Word → Step
  after scope s x (Sign k) = at scope k (reduced (mark_pull k) s x)
  after scope s x _ = None

  -- A type right behind an open parenthesis begins a cast, or is the operand of `sizeof`.
  abbrev pub begin_type : Scope → Stack C → Word → Step
  begin_type scope (InParen ∷ InSizeof ∷ s) w = specs_step scope (SizeofSpecs scope ∷ s) alg.no_specs w
  begin_type scope (InParen ∷ s) w = if nat_lt 14 (stack_needs s) then None else specs_step scope (CastSpecs scope ∷ s) alg.no_specs w
  begin_type scope _ w = None

  abbrev pub named : Bool → Scope → Stack C → Text → Step
  named false scope s t = Some (scope, s, Have (alg.name t))
  named true scope s t = begin_type scope s (Named t)

  abbrev pub prefixed : Scope → Stack C → Option PrefixOp → Step
  prefixed scope s None = None
  prefixed scope s (Some o) = Some (scope, InUnary o ∷ s, Want)

  abbrev pub begin_mark : Scope → Stack C → Mark → Step
  begin_mark scope s m.Open = Some (scope, InParen ∷ s, Want)
  begin_mark scope s (m.Step o) = Some (scope, InPrefix o ∷ s, Want)
  begin_mark scope s mark = prefixed scope s (prefix_of mark)

  abbrev pub begin_key : Scope → Stack C → Keyword → Step
  begin_key scope s w.Sizeof = Some (scope, InSizeof ∷ s, Want)
  begin_key scope s k = begin_type scope s (Key k)

  abbrev pub begin : Scope → Stack C → Word → Step
  begin scope s (Named t) = named (scope t) scope s t
  begin scope s (Numbered t) = Some (scope, s, Have (alg.number t))
  begin scope s (Quote t) = Some (scope, s, Have (alg.character t))
  begin scope s (Literal t) = Some (scope, s, Texts t [])
  begin scope s (Sign mark) = begin_mark scope s mark
  begin scope s (Key k) = begin_key scope s k
  begin scope s Stray = None

  abbrev pub texts : Scope → Stack C → Text → List Text → Word → Step
  texts scope s t ts (Literal u) = Some (scope, s, Texts t (ts ++ u ∷ []))
  texts scope s t ts w = after scope s (alg.strings t ts) w

  abbrev pub first : Scope → Stack C → C expr → Word → Step
  first scope s f (Sign m.Close) = Some (scope, s, Have (alg.call f alg.no_arguments))
  first scope s f w = begin scope (InCall f alg.no_arguments ∷ s) w

  abbrev pub dotted : Scope → Stack C → C expr → MemberOp → Word → Step
  dotted scope s x o (Named t) = Some (scope, s, Have (alg.member_of x o t))
  dotted scope s x o w = None

  -- ---- parts of declarators that hold expressions and parameters

  abbrev pub sizing : Scope → Stack C → Kind → C decl → Word → Step
  sizing scope s k d (Sign m.CloseBracket) = Some (scope, s, HaveDeclarator k (alg.array_open d))
  sizing scope s k d w = begin scope (InArray k d ∷ s) w

  abbrev pub listing : Scope → Stack C → Kind → C decl → Word → Step
  listing scope s k d (Sign m.Close) = Some (scope, s, HaveDeclarator k (alg.function d form.Empty alg.no_parameters))
  listing scope s k d w = specs_step scope (InParameters k scope d alg.no_parameters ∷ s) alg.no_specs w

  abbrev pub opened : Scope → Stack C → Kind → Word → Step
  opened scope s k w =
      if is_free k && begins_list scope (w ∷ []) then listing scope s k alg.nameless w else want_declarator scope (InGroup k ∷ s) k w

  abbrev pub next_parameter : Scope → Stack C → Word → Step
  next_parameter scope s (Sign m.Ellipsis) = Some (scope, s, AfterEllipsis)
  next_parameter scope s w = specs_step scope s alg.no_specs w

  abbrev pub after_ellipsis : Stack C → Word → Step
  after_ellipsis (InParameters k outer d ps ∷ s) (Sign m.Close) = Some (outer, s, HaveDeclarator k (alg.function d form.Variadic ps))
  after_ellipsis _ w = None

  -- ---- initialisers

  abbrev pub want_init : Scope → Stack C → Word → Step
  want_init scope s (Sign m.OpenBrace) = Some (scope, InBraces alg.no_inits ∷ s, FirstItem)
  want_init scope s w = begin scope s w

  abbrev pub have_init : Scope → Stack C → C init → Word → Step
  have_init scope s v (Sign mark) = init_done scope mark s v
  have_init scope s v w = None

  abbrev pub item : Scope → Stack C → Word → Step
  item scope (InBraces is ∷ s) (Sign (m.Member op.Dot)) = Some (scope, InBraces is ∷ s, Pointed)
  item scope (InBraces is ∷ s) (Sign m.OpenBracket) = Some (scope, InPlace is ∷ s, Want)
  item scope (InBraces is ∷ s) w = want_init scope (InItem is AtNext ∷ s) w
  item scope _ w = None

  abbrev pub close_items : Scope → Bool → Stack C → Step
  close_items scope comma (InBraces is ∷ s) = Some (scope, s, HaveInit (alg.braces is comma))
  close_items scope comma _ = None

  -- whether a comma stands before
  abbrev pub item_or_end : Scope → Bool → Stack C → Word → Step
  item_or_end scope comma s (Sign m.CloseBrace) = close_items scope comma s
  item_or_end scope comma s w = item scope s w

  abbrev pub pointed : Scope → Stack C → Word → Step
  pointed scope s (Named t) = Some (scope, s, Placed (AtMember t))
  pointed scope s w = None

  abbrev pub placed : Scope → Stack C → Aimed C → Word → Step
  placed scope (InBraces is ∷ s) g (Sign (m.Assign a.Plain)) = Some (scope, InItem is g ∷ s, WantInit)
  placed scope _ g w = None

  -- ---- assertions

  abbrev pub assert_text : Scope → Stack C → C expr → Word → Step
  assert_text scope s x (Literal t) = Some (scope, s, AssertClose x t)
  assert_text scope s x w = None

  abbrev pub assert_close : Scope → Stack C → C expr → Text → Word → Step
  assert_close scope s x t (Sign m.Close) = Some (scope, s, AssertEnd x t)
  assert_close scope s x t w = None

  abbrev pub assert_end : Scope → Stack C → C expr → Text → Word → Step
  assert_end scope s x t (Sign m.Semicolon) = declaration_done scope s (alg.assert x t)
  assert_end scope s x t w = None

  -- ---- statements

  abbrev pub aim_frame : Aim C → Frame C
  aim_frame (ToTest bs) = InTest bs
  aim_frame ToLoop = InLoopTest
  aim_frame (ToDo t) = InDoTest t
  aim_frame ToSwitch = InSwitchTest
  aim_frame ToAssert = InAssert

  abbrev pub opening : Scope → Stack C → Aim C → Word → Step
  opening scope s aim (Sign m.Open) = Some (scope, aim_frame aim ∷ s, Want)
  opening scope s aim w = None

  abbrev pub statement_mark : Scope → Stack C → Mark → Step
  statement_mark scope s m.OpenBrace = Some (scope, InBlock scope alg.no_body ∷ s, Begin)
  statement_mark scope s m.Semicolon = Some (scope, s, Done (alg.run None))
  statement_mark scope s mark = begin scope (InRun ∷ s) (Sign mark)

  abbrev pub statement_key : Scope → Stack C → Keyword → Step
  statement_key scope s w.If = Some (scope, s, Opening (ToTest alg.no_branches))
  statement_key scope s w.While = Some (scope, s, Opening ToLoop)
  statement_key scope s w.Do = Some (scope, InDo ∷ s, Begin)
  statement_key scope s w.For = Some (scope, s, OpenFor)
  statement_key scope s w.Switch = Some (scope, s, Opening ToSwitch)
  statement_key scope s w.Break = Some (scope, s, Ending alg.break)
  statement_key scope s w.Continue = Some (scope, s, Ending alg.continue)
  statement_key scope s w.Return = Some (scope, s, Returning)
  statement_key scope s k = begin scope (InRun ∷ s) (Key k)

  abbrev pub statement : Scope → Stack C → Word → Step
  statement scope s (Sign mark) = statement_mark scope s mark
  statement scope s (Key k) = statement_key scope s k
  statement scope s w = begin scope (InRun ∷ s) w

  -- the brace that ends a block, a switch or a definition
  abbrev pub close_body : Stack C → Step
  close_body (InBlock outer b ∷ s) = Some (outer, s, Done (alg.block b))
  close_body (InSwitch outer x b ∷ s) = Some (outer, s, Done (alg.switch x b))
  close_body (InFunction outer ss d b ∷ InUnit is ∷ s) = Some (outer, InUnit (alg.push_definition is ss d b) ∷ s, Begin)
  close_body _ = None

  abbrev pub label : Scope → Stack C → Word → Step
  label scope s (Key w.Case) = Some (scope, InCase ∷ s, Want)
  label scope s (Key w.Default) = Some (scope, s, DefaultColon)
  label scope s w = None

  -- a declaration or a statement in braces
  abbrev pub block_part : Scope → Stack C → Word → Step
  block_part scope s (Sign m.CloseBrace) = close_body s
  block_part scope s (Key w.StaticAssert) = Some (scope, s, Opening ToAssert)
  block_part scope s w = if begins_specs scope (w ∷ []) then specs_step scope (DeclSpecs ∷ s) alg.no_specs w else statement scope s w

  abbrev pub file_part : Scope → C items → Stack C → Word → Step
  file_part scope is s (Sign m.Semicolon) = Some (scope, InUnit (alg.push_lone is) ∷ s, Begin)
  file_part scope is s (Key w.StaticAssert) = Some (scope, InUnit is ∷ s, Opening ToAssert)
  file_part scope is s w = specs_step scope (DeclSpecs ∷ InUnit is ∷ s) alg.no_specs w

  abbrev pub begin_part : Scope → Stack C → Word → Step
  begin_part scope (InUnit is ∷ s) w = file_part scope is s w
  begin_part scope (InBlock outer b ∷ s) w = block_part scope (InBlock outer b ∷ s) w
  begin_part scope (InFunction outer ss d b ∷ s) w = block_part scope (InFunction outer ss d b ∷ s) w
  begin_part scope (InSwitch outer x b ∷ s) w = if is_label w then label scope (InSwitch outer x b ∷ s) w else block_part scope (InSwitch outer x b ∷ s) w
  begin_part scope s w = statement scope s w

  -- Ends the statements that no word of their own ends, up to braces or a `do`.
  abbrev pub ended : Scope → Stack C → C stmt → Scope × Stack C × C stmt
  ended scope (InBranch bs x ∷ s) t = ended scope s (alg.if_else (alg.push_branch bs x t) None)
  ended scope (InElseBody bs ∷ s) t = ended scope s (alg.if_else bs (Some t))
  ended scope (InWhile x ∷ s) t = ended scope s (alg.while_loop x t)
  ended scope (InFor outer f c e ∷ s) t = ended outer s (alg.for_loop f c e t)
  ended scope s t = (scope, s, t)

  -- Ends the statements up to the nearest open `if`.
  abbrev pub on_else : Scope → Stack C → C stmt → Step
  on_else scope (InBranch bs x ∷ s) t = Some (scope, s, AfterElse (alg.push_branch bs x t))
  on_else scope (InElseBody bs ∷ s) t = on_else scope s (alg.if_else bs (Some t))
  on_else scope (InWhile x ∷ s) t = on_else scope s (alg.while_loop x t)
  on_else scope (InFor outer f c e ∷ s) t = on_else outer s (alg.for_loop f c e t)
  on_else scope _ t = None

  abbrev pub do_test : Scope → Stack C → C stmt → Word → Step
  do_test scope s t (Key w.While) = Some (scope, s, Opening (ToDo t))
  do_test scope s t w = None

  -- a word behind a statement that ended all but its braces or its `do`
  abbrev pub next_in : Scope × Stack C × C stmt → Word → Step
  next_in (scope, InBlock outer b ∷ s, t) w = begin_part scope (InBlock outer (alg.push_stated b t) ∷ s) w
  next_in (scope, InFunction outer ss d b ∷ s, t) w = begin_part scope (InFunction outer ss d (alg.push_stated b t) ∷ s) w
  next_in (scope, InSwitch outer x b ∷ s, t) w = begin_part scope (InSwitch outer x (alg.push_stated b t) ∷ s) w
  next_in (scope, InDo ∷ s, t) w = do_test scope s t w
  next_in _ w = None

  abbrev pub done : Bool → Scope → Stack C → C stmt → Word → Step
  done true scope s t w = on_else scope s t
  done false scope s t w = next_in (ended scope s t) w

  abbrev pub ending : Scope → Stack C → C stmt → Word → Step
  ending scope s t (Sign m.Semicolon) = Some (scope, s, Done t)
  ending scope s t w = None

  abbrev pub after_else : Scope → Stack C → C branches → Word → Step
  after_else scope s bs (Key w.If) = Some (scope, s, Opening (ToTest bs))
  after_else scope s bs w = statement scope (InElseBody bs ∷ s) w

  abbrev pub returning : Scope → Stack C → Word → Step
  returning scope s (Sign m.Semicolon) = Some (scope, s, Done (alg.return None))
  returning scope s w = begin scope (InReturn ∷ s) w

  abbrev pub switching : Scope → Stack C → C expr → Word → Step
  switching scope s x (Sign m.OpenBrace) = Some (scope, InSwitch scope x alg.no_body ∷ s, Begin)
  switching scope s x w = None

  abbrev pub default_colon : Scope → Stack C → Word → Step
  default_colon scope s (Sign m.Colon) = default_done scope s
  default_colon scope s w = None

  abbrev pub open_for : Scope → Stack C → Word → Step
  open_for scope s (Sign m.Open) = Some (scope, InForInit scope ∷ s, ForInit)
  open_for scope s w = None

  abbrev pub no_start : Scope → Stack C → Step
  no_start scope (InForInit outer ∷ s) = Some (scope, InForCondition outer (alg.start_value None) ∷ s, ForCondition)
  no_start scope _ = None

  abbrev pub for_starting : Scope → Stack C → Word → Step
  for_starting scope s (Sign m.Semicolon) = no_start scope s
  for_starting scope s (Key w.StaticAssert) = Some (scope, s, Opening ToAssert)
  for_starting scope s w = if begins_specs scope (w ∷ []) then specs_step scope (DeclSpecs ∷ s) alg.no_specs w else begin scope s w

  abbrev pub no_test : Scope → Stack C → Step
  no_test scope (InForCondition outer f ∷ s) = Some (scope, InForStep outer f None ∷ s, ForStep)
  no_test scope _ = None

  abbrev pub for_testing : Scope → Stack C → Word → Step
  for_testing scope s (Sign m.Semicolon) = no_test scope s
  for_testing scope s w = begin scope s w

  abbrev pub no_after : Scope → Stack C → Step
  no_after scope (InForStep outer f c ∷ s) = Some (scope, InFor outer f c None ∷ s, Begin)
  no_after scope _ = None

  abbrev pub for_aftering : Scope → Stack C → Word → Step
  for_aftering scope s (Sign m.Close) = no_after scope s
  for_aftering scope s w = begin scope s w

  abbrev pub step : Scope → Stack C → Mode C → Word → Step
  step scope s Want w = begin scope s w
  step scope s (Have x) w = after scope s x w
  step scope s (Texts t ts) w = texts scope s t ts w
  step scope s (First f) w = first scope s f w
  step scope s (Dotted x o) w = dotted scope s x o w
  step scope s (Specs ss) w = specs_step scope s ss w
  step scope s (Tagging k ss) w = tagging scope s k ss w
  step scope s (Tagged k ss t) w = tagged scope s k ss t w
  step scope s NextMember w = next_member scope s w
  step scope s FirstEnumerator w = first_enumerator scope s w
  step scope s NextEnumerator w = next_enumerator scope s w
  step scope s (Enumerated t) w = enumerated scope s t w
  step scope s (WantDeclarator k) w = want_declarator scope s k w
  step scope s (Qualifying k qs) w = qualify scope s k qs (qualifier_of w) w
  step scope s (Opened k) w = opened scope s k w
  step scope s (HaveDeclarator k d) w = have_declarator scope s k d w
  step scope s (Sizing k d) w = sizing scope s k d w
  step scope s (Listing k d) w = listing scope s k d w
  step scope s NextParameter w = next_parameter scope s w
  step scope s AfterEllipsis w = after_ellipsis s w
  step scope s WantInit w = want_init scope s w
  step scope s (HaveInit v) w = have_init scope s v w
  step scope s FirstItem w = item_or_end scope false s w
  step scope s NextItem w = item_or_end scope true s w
  step scope s Pointed w = pointed scope s w
  step scope s (Placed g) w = placed scope s g w
  step scope s (Opening aim) w = opening scope s aim w
  step scope s (AssertText x) w = assert_text scope s x w
  step scope s (AssertClose x t) w = assert_close scope s x t w
  step scope s (AssertEnd x t) w = assert_end scope s x t w
  step scope s Begin w = begin_part scope s w
  step scope s (Done t) w = done (is_else w) scope s t w
  step scope s (Ending t) w = ending scope s t w
  step scope s (AfterElse bs) w = after_else scope s bs w
  step scope s Returning w = returning scope s w
  step scope s (Switching x) w = switching scope s x w
  step scope s DefaultColon w = default_colon scope s w
  step scope s OpenFor w = open_for scope s w
  step scope s ForInit w = for_starting scope s w
  step scope s ForCondition w = for_testing scope s w
  step scope s ForStep w = for_aftering scope s w

  abbrev pub then_run : (Scope → Stack C → Mode C → Step) → Step → Step
  then_run go None = None
  then_run go (Some (scope, s, mode)) = go scope s mode

  -- the state behind the words, if the machine reads them
  abbrev pub run : List Word → Scope → Stack C → Mode C → Step
  run [] scope s mode = Some (scope, s, mode)
  run (w ∷ ws) scope s mode = then_run (run ws) (step scope s mode w)
