-- Two machines whose parts belong to each other go the same way.
use Rattle.std.proofs.Common.{◌≡◌, ℕ, Bool, true, false, not, ◌&&◌, ltb, if◌then◌else◌, List, [], ◌∷◌, Option, Some, None, refl, ap, ◌∙◌}
use Rattle.std.specs.Prelude.{option_map}
use Rattle.ct_syntax.specs.declared.words.StepOp.{StepOp}
use Rattle.ct_syntax.specs.declared.words.PrefixOp.{PrefixOp}
use Rattle.ct_syntax.specs.declared.words.InfixOp.{InfixOp}
use Rattle.ct_syntax.specs.declared.words.AssignOp.{AssignOp}
use Rattle.ct_syntax.specs.declared.words.AssignOp.TheVariants as ao
use Rattle.ct_syntax.specs.declared.words.MemberOp.{MemberOp}
use Rattle.ct_syntax.specs.declared.words.Mark.{Mark}
use Rattle.ct_syntax.specs.declared.words.Mark.TheVariants as m
use Rattle.ct_syntax.specs.declared.words.Keyword.{Keyword}
use Rattle.ct_syntax.specs.declared.words.Keyword.TheVariants as w
use Rattle.ct_syntax.specs.declared.words.SpecWord.{SpecWord}
use Rattle.ct_syntax.specs.declared.words.Qualifier.{Qualifier}
use Rattle.ct_syntax.specs.declared.expressions.ParameterForm.{ParameterForm}
use Rattle.ct_syntax.specs.declared.expressions.ParameterForm.TheVariants as form
use Rattle.ct_syntax.specs.Words.{Text, Word, Named, Numbered, Quote, Literal, Sign, Key, Stray}
use Rattle.ct_syntax.specs.Scopes.{Scope, with_name, with_maybe}
use Rattle.ct_syntax.specs.Grammar.{begins_list}
use Rattle.ct_grammar_machine.specs.Algebra.{Sort, expr, exprs, specs, members, enumerators, declarators, decl, parameters, init, inits, init_declarators, declaration, for_start, stmt, branches, body, items, Aimed, AtNext, AtMember, AtIndex, Algebra}
use Rattle.ct_grammar_machine.specs.Frames.{Kind, Ordinary, OfParameter, OfType, is_free, Which, AStruct, AnEnum, Frame, InParen, InCall, InIndex, InPrefix, InUnary, InSizeof, InCast, InInfix, InThen, InElse, InAssign, InComma, CastSpecs, SizeofSpecs, CastDeclarator, SizeofDeclarator, InMembers, InMember, InEnumerators, InEnumerator, InGroup, InPointer, InArray, InParameters, InParameter}
use Rattle.ct_grammar_machine.specs.Frames.{DeclSpecs, DeclDeclarator, DeclInit, InBraces, InItem, InPlace, InAssert, InBlock, InSwitch, InFunction, InUnit, InCase, InRun, InReturn, InTest, InBranch, InElseBody, InLoopTest, InWhile, InDo, InDoTest, InSwitchTest, InForInit, InForCondition, InForStep, InFor, Aim, ToTest, ToLoop, ToDo, ToSwitch, ToAssert}
use Rattle.ct_grammar_machine.specs.Frames.{Mode, Want, Have, Texts, First, Dotted, Specs, Tagging, Tagged, NextMember, FirstEnumerator, NextEnumerator, Enumerated, WantDeclarator, Qualifying, Opened, HaveDeclarator, Sizing, Listing, NextParameter, AfterEllipsis}
use Rattle.ct_grammar_machine.specs.Frames.{WantInit, HaveInit, FirstItem, NextItem, Pointed, Placed, Opening, AssertText, AssertClose, AssertEnd, Begin, Done, Ending, AfterElse, Returning, Switching, DefaultColon, OpenFor, ForInit, ForCondition, ForStep, Stack, State, mark_pull, stack_needs, holds}
use Rattle.ct_grammar_machine.specs.Steps.{prefix_of, is_star, declaration_done, definition_opens, init_done, reduced_pointers, closed, declarator_done, have_declarator, no_name, want_named, want_declarator, qualify, declaration_specs, specs_done, specs_end, specs_step, open_braces, tagging, with_tag, tagged, close_members, next_member, first_enumerator, close_enumerators, next_enumerator, enumerated, plug, reduced, on_close, on_close_bracket, on_comma, case_done, default_done, on_colon, on_close_brace, on_semicolon, on_assign, on_postfix, act, at, after, begin_type, named, prefixed, begin_mark, begin_key, begin, texts, first, dotted, sizing, listing, opened, next_parameter, after_ellipsis}

module _ {A B : Sort → Type 0} (h : (s : Sort) → A s → B s) where
  abbrev pub map_aimed : Aimed A → Aimed B
  map_aimed AtNext = AtNext
  map_aimed (AtMember u) = AtMember u
  map_aimed (AtIndex x) = AtIndex (h expr x)

  abbrev pub map_frame : Frame A → Frame B
  map_frame InParen = InParen
  map_frame (InCall f xs) = InCall (h expr f) (h exprs xs)
  map_frame (InIndex x) = InIndex (h expr x)
  map_frame (InPrefix o) = InPrefix o
  map_frame (InUnary o) = InUnary o
  map_frame InSizeof = InSizeof
  map_frame (InCast ss d) = InCast (h specs ss) (h decl d)
  map_frame (InInfix o x) = InInfix o (h expr x)
  map_frame (InThen c) = InThen (h expr c)
  map_frame (InElse c x) = InElse (h expr c) (h expr x)
  map_frame (InAssign o x) = InAssign o (h expr x)
  map_frame (InComma x) = InComma (h expr x)
  map_frame (CastSpecs outer) = CastSpecs outer
  map_frame (SizeofSpecs outer) = SizeofSpecs outer
  map_frame (CastDeclarator outer ss) = CastDeclarator outer (h specs ss)
  map_frame (SizeofDeclarator outer ss) = SizeofDeclarator outer (h specs ss)
  map_frame (InMembers us tag ms) = InMembers (h specs us) tag (h members ms)
  map_frame (InMember us tag ms ss ds) = InMember (h specs us) tag (h members ms) (h specs ss) (h declarators ds)
  map_frame (InEnumerators us tag es) = InEnumerators (h specs us) tag (h enumerators es)
  map_frame (InEnumerator us tag es u) = InEnumerator (h specs us) tag (h enumerators es) u
  map_frame (InGroup k) = InGroup k
  map_frame (InPointer k qs) = InPointer k qs
  map_frame (InArray k d) = InArray k (h decl d)
  map_frame (InParameters k outer d ps) = InParameters k outer (h decl d) (h parameters ps)
  map_frame (InParameter k outer d ps ss) = InParameter k outer (h decl d) (h parameters ps) (h specs ss)
  map_frame DeclSpecs = DeclSpecs
  map_frame (DeclDeclarator z ss ds) = DeclDeclarator z (h specs ss) (h init_declarators ds)
  map_frame (DeclInit ss ds d) = DeclInit (h specs ss) (h init_declarators ds) (h decl d)
  map_frame (InBraces is) = InBraces (h inits is)
  map_frame (InItem is g) = InItem (h inits is) (map_aimed g)
  map_frame (InPlace is) = InPlace (h inits is)
  map_frame InAssert = InAssert
  map_frame (InBlock outer c) = InBlock outer (h body c)
  map_frame (InSwitch outer x c) = InSwitch outer (h expr x) (h body c)
  map_frame (InFunction outer ss d c) = InFunction outer (h specs ss) (h decl d) (h body c)
  map_frame (InUnit is) = InUnit (h items is)
  map_frame InCase = InCase
  map_frame InRun = InRun
  map_frame InReturn = InReturn
  map_frame (InTest bs) = InTest (h branches bs)
  map_frame (InBranch bs c) = InBranch (h branches bs) (h expr c)
  map_frame (InElseBody bs) = InElseBody (h branches bs)
  map_frame InLoopTest = InLoopTest
  map_frame (InWhile c) = InWhile (h expr c)
  map_frame InDo = InDo
  map_frame (InDoTest u) = InDoTest (h stmt u)
  map_frame InSwitchTest = InSwitchTest
  map_frame (InForInit outer) = InForInit outer
  map_frame (InForCondition outer f) = InForCondition outer (h for_start f)
  map_frame (InForStep outer f c) = InForStep outer (h for_start f) (option_map (h expr) c)
  map_frame (InFor outer f c e) = InFor outer (h for_start f) (option_map (h expr) c) (option_map (h expr) e)

  abbrev pub map_stack : Stack A → Stack B
  map_stack [] = []
  map_stack (f ∷ s) = map_frame f ∷ map_stack s

  abbrev pub map_aim : Aim A → Aim B
  map_aim (ToTest bs) = ToTest (h branches bs)
  map_aim ToLoop = ToLoop
  map_aim (ToDo u) = ToDo (h stmt u)
  map_aim ToSwitch = ToSwitch
  map_aim ToAssert = ToAssert

  abbrev pub map_mode : Mode A → Mode B
  map_mode Want = Want
  map_mode (Have x) = Have (h expr x)
  map_mode (Texts u us) = Texts u us
  map_mode (First f) = First (h expr f)
  map_mode (Dotted x o) = Dotted (h expr x) o
  map_mode (Specs ss) = Specs (h specs ss)
  map_mode (Tagging k ss) = Tagging k (h specs ss)
  map_mode (Tagged k ss u) = Tagged k (h specs ss) u
  map_mode NextMember = NextMember
  map_mode FirstEnumerator = FirstEnumerator
  map_mode NextEnumerator = NextEnumerator
  map_mode (Enumerated u) = Enumerated u
  map_mode (WantDeclarator k) = WantDeclarator k
  map_mode (Qualifying k qs) = Qualifying k qs
  map_mode (Opened k) = Opened k
  map_mode (HaveDeclarator k d) = HaveDeclarator k (h decl d)
  map_mode (Sizing k d) = Sizing k (h decl d)
  map_mode (Listing k d) = Listing k (h decl d)
  map_mode NextParameter = NextParameter
  map_mode AfterEllipsis = AfterEllipsis
  map_mode WantInit = WantInit
  map_mode (HaveInit v) = HaveInit (h init v)
  map_mode FirstItem = FirstItem
  map_mode NextItem = NextItem
  map_mode Pointed = Pointed
  map_mode (Placed g) = Placed (map_aimed g)
  map_mode (Opening aim) = Opening (map_aim aim)
  map_mode (AssertText x) = AssertText (h expr x)
  map_mode (AssertClose x u) = AssertClose (h expr x) u
  map_mode (AssertEnd x u) = AssertEnd (h expr x) u
  map_mode Begin = Begin
  map_mode (Done u) = Done (h stmt u)
  map_mode (Ending u) = Ending (h stmt u)
  map_mode (AfterElse bs) = AfterElse (h branches bs)
  map_mode Returning = Returning
  map_mode (Switching x) = Switching (h expr x)
  map_mode DefaultColon = DefaultColon
  map_mode OpenFor = OpenFor
  map_mode ForInit = ForInit
  map_mode ForCondition = ForCondition
  map_mode ForStep = ForStep

  abbrev pub map_step : Option (State A) → Option (State B)
  map_step None = None
  map_step (Some (sc, s, mode)) = Some (sc, map_stack s, map_mode mode)

-- Each production of the parts that belong to others belongs to the production of those.
pub record Hom {A B : Sort → Type 0} (a : Algebra A) (b : Algebra B) (h : (s : Sort) → A s → B s) : Type 0 where
  pub name : (x : Text) → b.name x ≡ h expr (a.name x)
  pub number : (x : Text) → b.number x ≡ h expr (a.number x)
  pub character : (x : Text) → b.character x ≡ h expr (a.character x)
  pub strings : (x : Text) (y : List Text) → b.strings x y ≡ h expr (a.strings x y)
  pub paren : (x : A expr) → b.paren (h expr x) ≡ h expr (a.paren x)
  pub index : (x : A expr) (y : A expr) → b.index (h expr x) (h expr y) ≡ h expr (a.index x y)
  pub call : (x : A expr) (y : A exprs) → b.call (h expr x) (h exprs y) ≡ h expr (a.call x y)
  pub member_of : (x : A expr) (y : MemberOp) (z : Text) → b.member_of (h expr x) y z ≡ h expr (a.member_of x y z)
  pub postfix : (x : A expr) (y : StepOp) → b.postfix (h expr x) y ≡ h expr (a.postfix x y)
  pub prefixed : (x : StepOp) (y : A expr) → b.prefixed x (h expr y) ≡ h expr (a.prefixed x y)
  pub unary : (x : PrefixOp) (y : A expr) → b.unary x (h expr y) ≡ h expr (a.unary x y)
  pub sizeof_value : (x : A expr) → b.sizeof_value (h expr x) ≡ h expr (a.sizeof_value x)
  pub sizeof_type : (x : A specs) (y : A decl) → b.sizeof_type (h specs x) (h decl y) ≡ h expr (a.sizeof_type x y)
  pub cast : (x : A specs) (y : A decl) (z : A expr) → b.cast (h specs x) (h decl y) (h expr z) ≡ h expr (a.cast x y z)
  pub infixed : (x : InfixOp) (y : A expr) (z : A expr) → b.infixed x (h expr y) (h expr z) ≡ h expr (a.infixed x y z)
  pub conditional : (x : A expr) (y : A expr) (z : A expr) → b.conditional (h expr x) (h expr y) (h expr z) ≡ h expr (a.conditional x y z)
  pub assign : (x : AssignOp) (y : A expr) (z : A expr) → b.assign x (h expr y) (h expr z) ≡ h expr (a.assign x y z)
  pub comma : (x : A expr) (y : A expr) → b.comma (h expr x) (h expr y) ≡ h expr (a.comma x y)
  pub no_arguments : b.no_arguments ≡ h exprs a.no_arguments
  pub push : (x : A exprs) (y : A expr) → b.push (h exprs x) (h expr y) ≡ h exprs (a.push x y)
  pub no_specs : b.no_specs ≡ h specs a.no_specs
  pub with_word : (x : A specs) (y : SpecWord) → b.with_word (h specs x) y ≡ h specs (a.with_word x y)
  pub with_typedef : (x : A specs) (y : Text) → b.with_typedef (h specs x) y ≡ h specs (a.with_typedef x y)
  pub with_struct_tag : (x : A specs) (y : Text) → b.with_struct_tag (h specs x) y ≡ h specs (a.with_struct_tag x y)
  pub with_struct : (x : A specs) (y : Option Text) (z : A members) → b.with_struct (h specs x) y (h members z) ≡ h specs (a.with_struct x y z)
  pub with_enum_tag : (x : A specs) (y : Text) → b.with_enum_tag (h specs x) y ≡ h specs (a.with_enum_tag x y)
  pub with_enum : (x : A specs) (y : Option Text) (z : A enumerators) (u : Bool) → b.with_enum (h specs x) y (h enumerators z) u ≡ h specs (a.with_enum x y z u)
  pub no_members : b.no_members ≡ h members a.no_members
  pub push_member : (x : A members) (y : A specs) (z : A declarators) → b.push_member (h members x) (h specs y) (h declarators z) ≡ h members (a.push_member x y z)
  pub no_declarators : b.no_declarators ≡ h declarators a.no_declarators
  pub push_declarator : (x : A declarators) (y : A decl) → b.push_declarator (h declarators x) (h decl y) ≡ h declarators (a.push_declarator x y)
  pub no_enumerators : b.no_enumerators ≡ h enumerators a.no_enumerators
  pub push_enumerator : (x : A enumerators) (y : Text) → b.push_enumerator (h enumerators x) y ≡ h enumerators (a.push_enumerator x y)
  pub push_valued : (x : A enumerators) (y : Text) (z : A expr) → b.push_valued (h enumerators x) y (h expr z) ≡ h enumerators (a.push_valued x y z)
  pub nameless : b.nameless ≡ h decl a.nameless
  pub called : (x : Text) → b.called x ≡ h decl (a.called x)
  pub group : (x : A decl) → b.group (h decl x) ≡ h decl (a.group x)
  pub pointer : (x : List Qualifier) (y : A decl) → b.pointer x (h decl y) ≡ h decl (a.pointer x y)
  pub array_open : (x : A decl) → b.array_open (h decl x) ≡ h decl (a.array_open x)
  pub array : (x : A decl) (y : A expr) → b.array (h decl x) (h expr y) ≡ h decl (a.array x y)
  pub function : (x : A decl) (y : ParameterForm) (z : A parameters) → b.function (h decl x) y (h parameters z) ≡ h decl (a.function x y z)
  pub no_parameters : b.no_parameters ≡ h parameters a.no_parameters
  pub push_parameter : (x : A parameters) (y : A specs) (z : A decl) → b.push_parameter (h parameters x) (h specs y) (h decl z) ≡ h parameters (a.push_parameter x y z)
  pub value_init : (x : A expr) → b.value_init (h expr x) ≡ h init (a.value_init x)
  pub braces : (x : A inits) (y : Bool) → b.braces (h inits x) y ≡ h init (a.braces x y)
  pub no_inits : b.no_inits ≡ h inits a.no_inits
  pub push_init : (x : A inits) (y : Aimed A) (z : A init) → b.push_init (h inits x) (map_aimed h y) (h init z) ≡ h inits (a.push_init x y z)
  pub no_init_declarators : b.no_init_declarators ≡ h init_declarators a.no_init_declarators
  pub push_init_declarator : (x : A init_declarators) (y : A decl) (z : Option (A init)) → b.push_init_declarator (h init_declarators x) (h decl y) (option_map (h init) z) ≡ h init_declarators (a.push_init_declarator x y z)
  pub declare : (x : A specs) (y : A init_declarators) → b.declare (h specs x) (h init_declarators y) ≡ h declaration (a.declare x y)
  pub assert : (x : A expr) (y : Text) → b.assert (h expr x) y ≡ h declaration (a.assert x y)
  pub start_declaration : (x : A declaration) → b.start_declaration (h declaration x) ≡ h for_start (a.start_declaration x)
  pub start_value : (x : Option (A expr)) → b.start_value (option_map (h expr) x) ≡ h for_start (a.start_value x)
  pub block : (x : A body) → b.block (h body x) ≡ h stmt (a.block x)
  pub run : (x : Option (A expr)) → b.run (option_map (h expr) x) ≡ h stmt (a.run x)
  pub if_else : (x : A branches) (y : Option (A stmt)) → b.if_else (h branches x) (option_map (h stmt) y) ≡ h stmt (a.if_else x y)
  pub while_loop : (x : A expr) (y : A stmt) → b.while_loop (h expr x) (h stmt y) ≡ h stmt (a.while_loop x y)
  pub do_loop : (x : A stmt) (y : A expr) → b.do_loop (h stmt x) (h expr y) ≡ h stmt (a.do_loop x y)
  pub for_loop : (x : A for_start) (y : Option (A expr)) (z : Option (A expr)) (u : A stmt) → b.for_loop (h for_start x) (option_map (h expr) y) (option_map (h expr) z) (h stmt u) ≡ h stmt (a.for_loop x y z u)
  pub switch : (x : A expr) (y : A body) → b.switch (h expr x) (h body y) ≡ h stmt (a.switch x y)
  pub break : b.break ≡ h stmt a.break
  pub continue : b.continue ≡ h stmt a.continue
  pub return : (x : Option (A expr)) → b.return (option_map (h expr) x) ≡ h stmt (a.return x)
  pub no_branches : b.no_branches ≡ h branches a.no_branches
  pub push_branch : (x : A branches) (y : A expr) (z : A stmt) → b.push_branch (h branches x) (h expr y) (h stmt z) ≡ h branches (a.push_branch x y z)
  pub no_body : b.no_body ≡ h body a.no_body
  pub push_case : (x : A body) (y : A expr) → b.push_case (h body x) (h expr y) ≡ h body (a.push_case x y)
  pub push_default : (x : A body) → b.push_default (h body x) ≡ h body (a.push_default x)
  pub push_declared : (x : A body) (y : A declaration) → b.push_declared (h body x) (h declaration y) ≡ h body (a.push_declared x y)
  pub push_stated : (x : A body) (y : A stmt) → b.push_stated (h body x) (h stmt y) ≡ h body (a.push_stated x y)
  pub push_definition : (x : A items) (y : A specs) (z : A decl) (u : A body) → b.push_definition (h items x) (h specs y) (h decl z) (h body u) ≡ h items (a.push_definition x y z u)
  pub push_outside : (x : A items) (y : A declaration) → b.push_outside (h items x) (h declaration y) ≡ h items (a.push_outside x y)
  pub push_lone : (x : A items) → b.push_lone (h items x) ≡ h items (a.push_lone x)
  pub level_of : (x : A expr) → b.level_of (h expr x) ≡ a.level_of x
  pub forms_type : (x : A specs) → b.forms_type (h specs x) ≡ a.forms_type x
  pub has_type : (x : A specs) → b.has_type (h specs x) ≡ a.has_type x
  pub declares_types : (x : A specs) → b.declares_types (h specs x) ≡ a.declares_types x
  pub name_in : (x : A decl) → b.name_in (h decl x) ≡ a.name_in x
  pub only_void : (x : A parameters) → b.only_void (h parameters x) ≡ a.only_void x
  pub inside : (x : A decl) (scope : Scope) → b.inside (h decl x) scope ≡ a.inside x scope

module _ {A B : Sort → Type 0} (a : Algebra A) (b : Algebra B) (h : (s : Sort) → A s → B s) (hom : Hom a b h) where
  abbrev pub stack : Stack A → Stack B
  stack s = map_stack h s

  abbrev pub to : Option (State A) → Option (State B)
  to r = map_step h r

  pub if_map : (z : Bool) (x y : Option (State A)) → (if z then to x else to y) ≡ to (if z then x else y)
  if_map true x y = refl
  if_map false x y = refl

  pub declaration_done_map : (sc : Scope) (s : Stack A) (d : A declaration) → declaration_done b sc (stack s) (h declaration d) ≡ to (declaration_done a sc s d)
  declaration_done_map sc [] d = refl
  declaration_done_map sc (InUnit is ∷ s) d = ap (λ z. Some (sc, InUnit z ∷ stack s, Begin)) (hom.push_outside is d)
  declaration_done_map sc (InBlock outer c ∷ s) d = ap (λ z. Some (sc, InBlock outer z ∷ stack s, Begin)) (hom.push_declared c d)
  declaration_done_map sc (InSwitch outer x c ∷ s) d = ap (λ z. Some (sc, InSwitch outer (h expr x) z ∷ stack s, Begin)) (hom.push_declared c d)
  declaration_done_map sc (InFunction outer ss f c ∷ s) d = ap (λ z. Some (sc, InFunction outer (h specs ss) (h decl f) z ∷ stack s, Begin)) (hom.push_declared c d)
  declaration_done_map sc (InForInit outer ∷ s) d = ap (λ z. Some (sc, InForCondition outer z ∷ stack s, ForCondition)) (hom.start_declaration d)
  declaration_done_map sc (_ ∷ s) d = refl

  definition_map : (sc : Scope) (s : Stack A) (z : Bool) (ss : A specs) (d : A decl) → definition_opens b sc (stack s) z (h specs ss) (h decl d) ≡ to (definition_opens a sc s z ss d)
  definition_map sc [] z ss d = refl
  definition_map sc (InUnit is ∷ s) true ss d =
      ap (λ z. Some (z, InFunction sc (h specs ss) (h decl d) b.no_body ∷ InUnit (h items is) ∷ stack s, Begin)) (hom.inside d sc)
      ∙ ap (λ z. Some (a.inside d sc, InFunction sc (h specs ss) (h decl d) z ∷ InUnit (h items is) ∷ stack s, Begin)) hom.no_body
  definition_map sc (InUnit is ∷ s) false ss d = refl
  definition_map sc (_ ∷ s) z ss d = refl

  pub init_done_map : (sc : Scope) (k : Mark) (s : Stack A) (v : A init) → init_done b sc k (stack s) (h init v) ≡ to (init_done a sc k s v)
  init_done_map sc m.Comma (DeclInit ss ds d ∷ s) v = ap (λ z. Some (sc, DeclDeclarator false (h specs ss) z ∷ stack s, WantDeclarator Ordinary)) (hom.push_init_declarator ds d (Some v))
  init_done_map sc m.Semicolon (DeclInit ss ds d ∷ s) v =
      ap (λ z. declaration_done b sc (stack s) (b.declare (h specs ss) z)) (hom.push_init_declarator ds d (Some v))
      ∙ ap (declaration_done b sc (stack s)) (hom.declare ss (a.push_init_declarator ds d (Some v)))
      ∙ declaration_done_map sc s (a.declare ss (a.push_init_declarator ds d (Some v)))
  init_done_map sc m.Comma (InItem is g ∷ s) v = ap (λ z. Some (sc, InBraces z ∷ stack s, NextItem)) (hom.push_init is g v)
  init_done_map sc m.CloseBrace (InItem is g ∷ s) v =
      ap (λ z. Some (sc, stack s, HaveInit (b.braces z false))) (hom.push_init is g v) ∙ ap (λ z. Some (sc, stack s, HaveInit z)) (hom.braces (a.push_init is g v) false)
  init_done_map sc m.Comma [] v = refl
  init_done_map sc m.Semicolon [] v = refl
  init_done_map sc m.CloseBrace [] v = refl
  init_done_map sc _ [] v = refl
  init_done_map sc _ (_ ∷ s) v = refl

  -- ---- declarators

  abbrev map_pair : Stack A × A decl → Stack B × B decl
  map_pair p = (stack p.0, h decl p.1)

  pointers_map : (s : Stack A) (d : A decl) → reduced_pointers b (stack s) (h decl d) ≡ map_pair (reduced_pointers a s d)
  pointers_map [] d = refl
  pointers_map (InPointer k qs ∷ s) d = ap (reduced_pointers b (stack s)) (hom.pointer qs d) ∙ pointers_map s (a.pointer qs d)
  pointers_map (_ ∷ s) d = refl

  closed_map : (d : A decl) (ps : A parameters) → closed b (h decl d) (h parameters ps) ≡ h decl (closed a d ps)
  closed_map d ps =
      ap (λ z. if z then b.function (h decl d) form.Void b.no_parameters else b.function (h decl d) form.Fixed (h parameters ps)) (hom.only_void ps)
      ∙ ap (λ z. if a.only_void ps then b.function (h decl d) form.Void z else b.function (h decl d) form.Fixed (h parameters ps)) hom.no_parameters
      ∙ ap (λ z. if a.only_void ps then z else b.function (h decl d) form.Fixed (h parameters ps)) (hom.function d form.Void a.no_parameters)
      ∙ ap (λ z. if a.only_void ps then h decl (a.function d form.Void a.no_parameters) else z) (hom.function d form.Fixed ps)
      ∙ both (a.only_void ps)
    where
      both : (z : Bool) → (if z then h decl (a.function d form.Void a.no_parameters) else h decl (a.function d form.Fixed ps)) ≡ h decl (if z then a.function d form.Void a.no_parameters else a.function d form.Fixed ps)
      both true = refl
      both false = refl

  scope_map : (sc : Scope) (ss : A specs) (d : A decl) → with_maybe sc (b.name_in (h decl d)) (b.declares_types (h specs ss)) ≡ with_maybe sc (a.name_in d) (a.declares_types ss)
  scope_map sc ss d = ap (λ z. with_maybe sc z (b.declares_types (h specs ss))) (hom.name_in d) ∙ ap (with_maybe sc (a.name_in d)) (hom.declares_types ss)

  declarator_done_map : (sc : Scope) (k : Mark) (s : Stack A) (d : A decl) → declarator_done b sc k (stack s, h decl d) ≡ to (declarator_done a sc k (s, d))
  declarator_done_map sc m.Close (InGroup k ∷ s) d = ap (λ z. Some (sc, stack s, HaveDeclarator k z)) (hom.group d)
  declarator_done_map sc m.Close (CastDeclarator outer ss ∷ s) d = refl
  declarator_done_map sc m.Close (SizeofDeclarator outer ss ∷ s) d = ap (λ z. Some (outer, stack s, Have z)) (hom.sizeof_type ss d)
  declarator_done_map sc m.Close (InParameter k outer f ps ss ∷ s) d =
      ap (λ z. Some (outer, stack s, HaveDeclarator k (closed b (h decl f) z))) (hom.push_parameter ps ss d) ∙ ap (λ z. Some (outer, stack s, HaveDeclarator k z)) (closed_map f (a.push_parameter ps ss d))
  declarator_done_map sc m.Comma (InParameter k outer f ps ss ∷ s) d =
      ap (λ z. Some (z, InParameters k outer (h decl f) (b.push_parameter (h parameters ps) (h specs ss) (h decl d)) ∷ stack s, NextParameter)) (scope_map sc ss d)
      ∙ ap (λ z. Some (with_maybe sc (a.name_in d) (a.declares_types ss), InParameters k outer (h decl f) z ∷ stack s, NextParameter)) (hom.push_parameter ps ss d)
  declarator_done_map sc m.Comma (InMember us tag ms ss ds ∷ s) d = ap (λ z. Some (sc, InMember (h specs us) tag (h members ms) (h specs ss) z ∷ stack s, WantDeclarator Ordinary)) (hom.push_declarator ds d)
  declarator_done_map sc m.Semicolon (InMember us tag ms ss ds ∷ s) d =
      ap (λ z. Some (sc, InMembers (h specs us) tag (b.push_member (h members ms) (h specs ss) z) ∷ stack s, NextMember)) (hom.push_declarator ds d)
      ∙ ap (λ z. Some (sc, InMembers (h specs us) tag z ∷ stack s, NextMember)) (hom.push_member ms ss (a.push_declarator ds d))
  declarator_done_map sc m.Comma (DeclDeclarator z' ss ds ∷ s) d =
      ap (λ z. Some (z, DeclDeclarator false (h specs ss) (b.push_init_declarator (h init_declarators ds) (h decl d) None) ∷ stack s, WantDeclarator Ordinary)) (scope_map sc ss d)
      ∙ ap (λ z. Some (with_maybe sc (a.name_in d) (a.declares_types ss), DeclDeclarator false (h specs ss) z ∷ stack s, WantDeclarator Ordinary)) (hom.push_init_declarator ds d None)
  declarator_done_map sc m.Semicolon (DeclDeclarator z' ss ds ∷ s) d =
      let inner = with_maybe sc (a.name_in d) (a.declares_types ss) in
      ap (λ z. declaration_done b z (stack s) (b.declare (h specs ss) (b.push_init_declarator (h init_declarators ds) (h decl d) None))) (scope_map sc ss d)
      ∙ ap (λ z. declaration_done b inner (stack s) (b.declare (h specs ss) z)) (hom.push_init_declarator ds d None)
      ∙ ap (declaration_done b inner (stack s)) (hom.declare ss (a.push_init_declarator ds d None))
      ∙ declaration_done_map inner s (a.declare ss (a.push_init_declarator ds d None))
  declarator_done_map sc (m.Assign ao.Plain) (DeclDeclarator z' ss ds ∷ s) d = ap (λ z. Some (z, DeclInit (h specs ss) (h init_declarators ds) (h decl d) ∷ stack s, WantInit)) (scope_map sc ss d)
  declarator_done_map sc m.OpenBrace (DeclDeclarator z' ss ds ∷ s) d =
      ap (λ z. definition_opens b z (stack s) z' (h specs ss) (h decl d)) (scope_map sc ss d) ∙ definition_map (with_maybe sc (a.name_in d) (a.declares_types ss)) s z' ss d
  declarator_done_map sc m.Close [] d = refl
  declarator_done_map sc m.Comma [] d = refl
  declarator_done_map sc m.Semicolon [] d = refl
  declarator_done_map sc m.OpenBrace [] d = refl
  declarator_done_map sc (m.Assign ao.Plain) [] d = refl
  declarator_done_map sc _ [] d = refl
  declarator_done_map sc _ (_ ∷ s) d = refl

  pub have_declarator_map : (sc : Scope) (s : Stack A) (k : Kind) (d : A decl) (v : Word) → have_declarator b sc (stack s) k (h decl d) v ≡ to (have_declarator a sc s k d v)
  have_declarator_map sc s k d (Sign m.OpenBracket) = refl
  have_declarator_map sc s k d (Sign m.Open) = refl
  have_declarator_map sc s k d (Sign mark) = let p = reduced_pointers a s d in ap (declarator_done b sc mark) (pointers_map s d) ∙ declarator_done_map sc mark p.0 p.1
  have_declarator_map sc s k d _ = refl

  no_name_map : (sc : Scope) (s : Stack A) (k : Kind) (v : Word) → no_name b sc (stack s) k v ≡ to (no_name a sc s k v)
  no_name_map sc s Ordinary v = refl
  no_name_map sc s OfParameter v = ap (λ z. have_declarator b sc (stack s) OfParameter z v) hom.nameless ∙ have_declarator_map sc s OfParameter a.nameless v
  no_name_map sc s OfType v = ap (λ z. have_declarator b sc (stack s) OfType z v) hom.nameless ∙ have_declarator_map sc s OfType a.nameless v

  want_named_map : (sc : Scope) (s : Stack A) (k : Kind) (u : Text) → want_named b sc (stack s) k u ≡ to (want_named a sc s k u)
  want_named_map sc s OfType u = refl
  want_named_map sc s Ordinary u = ap (λ z. Some (sc, stack s, HaveDeclarator Ordinary z)) (hom.called u)
  want_named_map sc s OfParameter u = ap (λ z. Some (sc, stack s, HaveDeclarator OfParameter z)) (hom.called u)

  star_map : (sc : Scope) (s : Stack A) (k : Kind) (mark : Mark) → (if is_star mark then Some (sc, stack s, Qualifying k []) else no_name b sc (stack s) k (Sign mark)) ≡ to (if is_star mark then Some (sc, s, Qualifying k []) else no_name a sc s k (Sign mark))
  star_map sc s k mark = ap (λ z. if is_star mark then Some (sc, stack s, Qualifying k []) else z) (no_name_map sc s k (Sign mark)) ∙ if_map (is_star mark) (Some (sc, s, Qualifying k [])) (no_name a sc s k (Sign mark))

  pub want_map : (sc : Scope) (s : Stack A) (k : Kind) (v : Word) → want_declarator b sc (stack s) k v ≡ to (want_declarator a sc s k v)
  want_map sc s k (Named u) = want_named_map sc s k u
  want_map sc s k (Sign m.Open) = refl
  want_map sc s k (Sign mark) = star_map sc s k mark
  want_map sc s k _ = refl

  pub qualify_map : (sc : Scope) (s : Stack A) (k : Kind) (qs : List Qualifier) (r : Option Qualifier) (v : Word) → qualify b sc (stack s) k qs r v ≡ to (qualify a sc s k qs r v)
  qualify_map sc s k qs (Some u) v = refl
  qualify_map sc s k qs None v = want_map sc (InPointer k qs ∷ s) k v

  -- ---- specifiers

  declaration_specs_map : (sc : Scope) (s : Stack A) (ss : A specs) (v : Word) → declaration_specs b sc (stack s) (h specs ss) v ≡ to (declaration_specs a sc s ss v)
  declaration_specs_map sc s ss (Sign m.Semicolon) =
      ap (λ z. declaration_done b sc (stack s) (b.declare (h specs ss) z)) hom.no_init_declarators ∙ ap (declaration_done b sc (stack s)) (hom.declare ss a.no_init_declarators) ∙ declaration_done_map sc s (a.declare ss a.no_init_declarators)
  declaration_specs_map sc s ss v =
      ap (λ z. want_declarator b sc (DeclDeclarator true (h specs ss) z ∷ stack s) Ordinary v) hom.no_init_declarators ∙ want_map sc (DeclDeclarator true ss a.no_init_declarators ∷ s) Ordinary v

  specs_done_map : (sc : Scope) (s : Stack A) (ss : A specs) (v : Word) → specs_done b sc (stack s) (h specs ss) v ≡ to (specs_done a sc s ss v)
  specs_done_map sc [] ss v = refl
  specs_done_map sc (CastSpecs outer ∷ s) ss v = want_map sc (CastDeclarator outer ss ∷ s) OfType v
  specs_done_map sc (SizeofSpecs outer ∷ s) ss v = want_map sc (SizeofDeclarator outer ss ∷ s) OfType v
  specs_done_map sc (InMembers us tag ms ∷ s) ss v =
      ap (λ z. want_declarator b sc (InMember (h specs us) tag (h members ms) (h specs ss) z ∷ stack s) Ordinary v) hom.no_declarators ∙ want_map sc (InMember us tag ms ss a.no_declarators ∷ s) Ordinary v
  specs_done_map sc (InParameters k outer d ps ∷ s) ss v = want_map sc (InParameter k outer d ps ss ∷ s) OfParameter v
  specs_done_map sc (DeclSpecs ∷ s) ss v = declaration_specs_map sc s ss v
  specs_done_map sc (_ ∷ s) ss v = refl

  specs_end_map : (sc : Scope) (s : Stack A) (ss : A specs) (v : Word) → specs_end b sc (stack s) (h specs ss) v ≡ to (specs_end a sc s ss v)
  specs_end_map sc s ss v =
      ap (λ z. if z then specs_done b sc (stack s) (h specs ss) v else None) (hom.forms_type ss)
      ∙ ap (λ z. if a.forms_type ss then z else None) (specs_done_map sc s ss v)
      ∙ if_map (a.forms_type ss) (specs_done a sc s ss v) None

  pub specs_map : (sc : Scope) (s : Stack A) (ss : A specs) (v : Word) → specs_step b sc (stack s) (h specs ss) v ≡ to (specs_step a sc s ss v)
  specs_map sc s ss (Key (w.Spec k)) = ap (λ z. Some (sc, stack s, Specs z)) (hom.with_word ss k)
  specs_map sc s ss (Key w.Struct) = refl
  specs_map sc s ss (Key w.Enum) = refl
  specs_map sc s ss (Named u) =
      ap (λ z. if sc u && not z then Some (sc, stack s, Specs (b.with_typedef (h specs ss) u)) else specs_end b sc (stack s) (h specs ss) (Named u)) (hom.has_type ss)
      ∙ ap (λ z. if sc u && not (a.has_type ss) then Some (sc, stack s, Specs z) else specs_end b sc (stack s) (h specs ss) (Named u)) (hom.with_typedef ss u)
      ∙ ap (λ z. if sc u && not (a.has_type ss) then Some (sc, stack s, Specs (h specs (a.with_typedef ss u))) else z) (specs_end_map sc s ss (Named u))
      ∙ if_map (sc u && not (a.has_type ss)) (Some (sc, s, Specs (a.with_typedef ss u))) (specs_end a sc s ss (Named u))
  specs_map sc s ss v = specs_end_map sc s ss v

  pub begin_specs_map : (sc : Scope) (s : Stack A) (v : Word) → specs_step b sc (stack s) b.no_specs v ≡ to (specs_step a sc s a.no_specs v)
  begin_specs_map sc s v = ap (λ z. specs_step b sc (stack s) z v) hom.no_specs ∙ specs_map sc s a.no_specs v

  open_braces_map : (sc : Scope) (s : Stack A) (k : Which) (ss : A specs) (tag : Option Text) → open_braces b sc (stack s) k (h specs ss) tag ≡ to (open_braces a sc s k ss tag)
  open_braces_map sc s AStruct ss tag =
      ap (λ z. Some (sc, InMembers (h specs ss) tag z ∷ stack s, Specs b.no_specs)) hom.no_members ∙ ap (λ z. Some (sc, InMembers (h specs ss) tag (h members a.no_members) ∷ stack s, Specs z)) hom.no_specs
  open_braces_map sc s AnEnum ss tag = ap (λ z. Some (sc, InEnumerators (h specs ss) tag z ∷ stack s, FirstEnumerator)) hom.no_enumerators

  pub tagging_map : (sc : Scope) (s : Stack A) (k : Which) (ss : A specs) (v : Word) → tagging b sc (stack s) k (h specs ss) v ≡ to (tagging a sc s k ss v)
  tagging_map sc s k ss (Named u) = refl
  tagging_map sc s k ss (Sign m.OpenBrace) = open_braces_map sc s k ss None
  tagging_map sc s k ss _ = refl

  with_tag_map : (k : Which) (ss : A specs) (u : Text) → with_tag b k (h specs ss) u ≡ h specs (with_tag a k ss u)
  with_tag_map AStruct ss u = hom.with_struct_tag ss u
  with_tag_map AnEnum ss u = hom.with_enum_tag ss u

  tag_map : (sc : Scope) (s : Stack A) (k : Which) (ss : A specs) (u : Text) (v : Word) → specs_step b sc (stack s) (with_tag b k (h specs ss) u) v ≡ to (specs_step a sc s (with_tag a k ss u) v)
  tag_map sc s k ss u v = ap (λ z. specs_step b sc (stack s) z v) (with_tag_map k ss u) ∙ specs_map sc s (with_tag a k ss u) v

  pub tagged_map : (sc : Scope) (s : Stack A) (k : Which) (ss : A specs) (u : Text) (v : Word) → tagged b sc (stack s) k (h specs ss) u v ≡ to (tagged a sc s k ss u v)
  tagged_map sc s k ss u (Sign m.OpenBrace) = open_braces_map sc s k ss (Some u)
  tagged_map sc s k ss u v = tag_map sc s k ss u v

  close_members_map : (sc : Scope) (s : Stack A) → close_members b sc (stack s) ≡ to (close_members a sc s)
  close_members_map sc [] = refl
  close_members_map sc (InMembers ss tag ms ∷ s) = ap (λ z. Some (sc, stack s, Specs z)) (hom.with_struct ss tag ms)
  close_members_map sc (_ ∷ s) = refl

  pub next_member_map : (sc : Scope) (s : Stack A) (v : Word) → next_member b sc (stack s) v ≡ to (next_member a sc s v)
  next_member_map sc s (Sign m.CloseBrace) = close_members_map sc s
  next_member_map sc s v = begin_specs_map sc s v

  pub first_enumerator_map : (sc : Scope) (s : Stack A) (v : Word) → first_enumerator b sc (stack s) v ≡ to (first_enumerator a sc s v)
  first_enumerator_map sc s (Named u) = refl
  first_enumerator_map sc s _ = refl

  close_enumerators_map : (sc : Scope) (s : Stack A) → close_enumerators b sc (stack s) ≡ to (close_enumerators a sc s)
  close_enumerators_map sc [] = refl
  close_enumerators_map sc (InEnumerators ss tag es ∷ s) = ap (λ z. Some (sc, stack s, Specs z)) (hom.with_enum ss tag es true)
  close_enumerators_map sc (_ ∷ s) = refl

  pub next_enumerator_map : (sc : Scope) (s : Stack A) (v : Word) → next_enumerator b sc (stack s) v ≡ to (next_enumerator a sc s v)
  next_enumerator_map sc s (Sign m.CloseBrace) = close_enumerators_map sc s
  next_enumerator_map sc s v = first_enumerator_map sc s v

  pub enumerated_map : (sc : Scope) (s : Stack A) (u : Text) (v : Word) → enumerated b sc (stack s) u v ≡ to (enumerated a sc s u v)
  enumerated_map sc [] u v = refl
  enumerated_map sc (InEnumerators ss tag es ∷ s) u (Sign (m.Assign ao.Plain)) = refl
  enumerated_map sc (InEnumerators ss tag es ∷ s) u (Sign m.Comma) = ap (λ z. Some (with_name sc u false, InEnumerators (h specs ss) tag z ∷ stack s, NextEnumerator)) (hom.push_enumerator es u)
  enumerated_map sc (InEnumerators ss tag es ∷ s) u (Sign m.CloseBrace) =
      ap (λ z. Some (with_name sc u false, stack s, Specs (b.with_enum (h specs ss) tag z false))) (hom.push_enumerator es u) ∙ ap (λ z. Some (with_name sc u false, stack s, Specs z)) (hom.with_enum ss tag (a.push_enumerator es u) false)
  enumerated_map sc (InEnumerators ss tag es ∷ s) u _ = refl
  enumerated_map sc (_ ∷ s) u v = refl

  -- ---- expressions

  holds_map : (f : Frame A) → holds (map_frame h f) ≡ holds f
  holds_map (InPrefix o) = refl
  holds_map (InInfix o x) = refl
  holds_map _ = refl

  needs_map : (s : Stack A) → stack_needs (stack s) ≡ stack_needs s
  needs_map [] = refl
  needs_map (InInfix o x ∷ s) = refl
  needs_map (_ ∷ s) = refl

  plug_map : (f : Frame A) (x : A expr) → plug b (map_frame h f) (h expr x) ≡ h expr (plug a f x)
  plug_map (InPrefix o) x = hom.prefixed o x
  plug_map (InUnary o) x = hom.unary o x
  plug_map InSizeof x = hom.sizeof_value x
  plug_map (InCast ss d) x = hom.cast ss d x
  plug_map (InInfix o y) x = hom.infixed o y x
  plug_map (InElse c y) x = hom.conditional c y x
  plug_map (InAssign o y) x = hom.assign o y x
  plug_map (InComma y) x = hom.comma y x
  plug_map _ x = refl

  abbrev map_value : Stack A × A expr → Stack B × B expr
  map_value p = (stack p.0, h expr p.1)

  reduced_map : (p : ℕ) (s : Stack A) (x : A expr) → reduced b p (stack s) (h expr x) ≡ map_value (reduced a p s x)
  reduced_map p [] x = refl
  reduced_map p (f ∷ s) x =
      ap (λ n. if ltb n p then (stack (f ∷ s), h expr x) else reduced b p (stack s) (plug b (map_frame h f) (h expr x))) (holds_map f)
      ∙ ap (λ z. if ltb (holds f) p then (stack (f ∷ s), h expr x) else reduced b p (stack s) z) (plug_map f x)
      ∙ ap (λ z. if ltb (holds f) p then (stack (f ∷ s), h expr x) else z) (reduced_map p s (plug a f x))
      ∙ both (ltb (holds f) p)
    where
      both : (z : Bool) → (if z then map_value (f ∷ s, x) else map_value (reduced a p s (plug a f x))) ≡ map_value (if z then (f ∷ s, x) else reduced a p s (plug a f x))
      both true = refl
      both false = refl

  on_close_map : (sc : Scope) (s : Stack A) (x : A expr) → on_close b sc (stack s) (h expr x) ≡ to (on_close a sc s x)
  on_close_map sc [] x = refl
  on_close_map sc (InParen ∷ s) x = ap (λ z. Some (sc, stack s, Have z)) (hom.paren x)
  on_close_map sc (InCall f xs ∷ s) x = ap (λ z. Some (sc, stack s, Have (b.call (h expr f) z))) (hom.push xs x) ∙ ap (λ z. Some (sc, stack s, Have z)) (hom.call f (a.push xs x))
  on_close_map sc (InDoTest u ∷ s) x = ap (λ z. Some (sc, stack s, Ending z)) (hom.do_loop u x)
  on_close_map sc (_ ∷ s) x = refl

  on_close_bracket_map : (sc : Scope) (s : Stack A) (x : A expr) → on_close_bracket b sc (stack s) (h expr x) ≡ to (on_close_bracket a sc s x)
  on_close_bracket_map sc [] x = refl
  on_close_bracket_map sc (InIndex y ∷ s) x = ap (λ z. Some (sc, stack s, Have z)) (hom.index y x)
  on_close_bracket_map sc (InArray k d ∷ s) x = ap (λ z. Some (sc, stack s, HaveDeclarator k z)) (hom.array d x)
  on_close_bracket_map sc (_ ∷ s) x = refl

  comma_map : (sc : Scope) (s : Stack A) (x : A expr) → (if ltb 1 (stack_needs (stack s)) then None else Some (sc, InComma (h expr x) ∷ stack s, Want)) ≡ to (if ltb 1 (stack_needs s) then None else Some (sc, InComma x ∷ s, Want))
  comma_map sc s x = ap (λ n. if ltb 1 n then None else Some (sc, InComma (h expr x) ∷ stack s, Want)) (needs_map s) ∙ if_map (ltb 1 (stack_needs s)) None (Some (sc, InComma x ∷ s, Want))

  value_init_map : (sc : Scope) (k : Mark) (s : Stack A) (x : A expr) → init_done b sc k (stack s) (b.value_init (h expr x)) ≡ to (init_done a sc k s (a.value_init x))
  value_init_map sc k s x = ap (init_done b sc k (stack s)) (hom.value_init x) ∙ init_done_map sc k s (a.value_init x)

  on_comma_map : (sc : Scope) (s : Stack A) (x : A expr) → on_comma b sc (stack s) (h expr x) ≡ to (on_comma a sc s x)
  on_comma_map sc (InCall f xs ∷ s) x = ap (λ z. Some (sc, InCall (h expr f) z ∷ stack s, Want)) (hom.push xs x)
  on_comma_map sc (InEnumerator ss tag es u ∷ s) x = ap (λ z. Some (with_name sc u false, InEnumerators (h specs ss) tag z ∷ stack s, NextEnumerator)) (hom.push_valued es u x)
  on_comma_map sc (DeclInit ss ds d ∷ s) x = value_init_map sc m.Comma (DeclInit ss ds d ∷ s) x
  on_comma_map sc (InItem is g ∷ s) x = value_init_map sc m.Comma (InItem is g ∷ s) x
  on_comma_map sc (InAssert ∷ s) x = refl
  on_comma_map sc [] x = comma_map sc [] x
  on_comma_map sc (f ∷ s) x = comma_map sc (f ∷ s) x

  case_done_map : (sc : Scope) (s : Stack A) (x : A expr) → case_done b sc (stack s) (h expr x) ≡ to (case_done a sc s x)
  case_done_map sc [] x = refl
  case_done_map sc (InSwitch outer y c ∷ s) x = ap (λ z. Some (sc, InSwitch outer (h expr y) z ∷ stack s, Begin)) (hom.push_case c x)
  case_done_map sc (_ ∷ s) x = refl

  pub default_done_map : (sc : Scope) (s : Stack A) → default_done b sc (stack s) ≡ to (default_done a sc s)
  default_done_map sc [] = refl
  default_done_map sc (InSwitch outer y c ∷ s) = ap (λ z. Some (sc, InSwitch outer (h expr y) z ∷ stack s, Begin)) (hom.push_default c)
  default_done_map sc (_ ∷ s) = refl

  on_colon_map : (sc : Scope) (s : Stack A) (x : A expr) → on_colon b sc (stack s) (h expr x) ≡ to (on_colon a sc s x)
  on_colon_map sc [] x = refl
  on_colon_map sc (InThen c ∷ s) x = refl
  on_colon_map sc (InCase ∷ s) x = case_done_map sc s x
  on_colon_map sc (_ ∷ s) x = refl

  on_close_brace_map : (sc : Scope) (s : Stack A) (x : A expr) → on_close_brace b sc (stack s) (h expr x) ≡ to (on_close_brace a sc s x)
  on_close_brace_map sc [] x = refl
  on_close_brace_map sc (InEnumerator ss tag es u ∷ s) x =
      ap (λ z. Some (with_name sc u false, stack s, Specs (b.with_enum (h specs ss) tag z false))) (hom.push_valued es u x) ∙ ap (λ z. Some (with_name sc u false, stack s, Specs z)) (hom.with_enum ss tag (a.push_valued es u x) false)
  on_close_brace_map sc (InItem is g ∷ s) x = value_init_map sc m.CloseBrace (InItem is g ∷ s) x
  on_close_brace_map sc (_ ∷ s) x = refl

  on_semicolon_map : (sc : Scope) (s : Stack A) (x : A expr) → on_semicolon b sc (stack s) (h expr x) ≡ to (on_semicolon a sc s x)
  on_semicolon_map sc [] x = refl
  on_semicolon_map sc (DeclInit ss ds d ∷ s) x = value_init_map sc m.Semicolon (DeclInit ss ds d ∷ s) x
  on_semicolon_map sc (InRun ∷ s) x = ap (λ z. Some (sc, stack s, Done z)) (hom.run (Some x))
  on_semicolon_map sc (InReturn ∷ s) x = ap (λ z. Some (sc, stack s, Done z)) (hom.return (Some x))
  on_semicolon_map sc (InForInit outer ∷ s) x = ap (λ z. Some (sc, InForCondition outer z ∷ stack s, ForCondition)) (hom.start_value (Some x))
  on_semicolon_map sc (_ ∷ s) x = refl

  on_assign_map : (sc : Scope) (o : AssignOp) (s : Stack A) (x : A expr) → on_assign b sc o (stack s) (h expr x) ≡ to (on_assign a sc o s x)
  on_assign_map sc o s x =
      ap (λ n. if ltb 2 n then None else (if ltb (b.level_of (h expr x)) 15 then None else Some (sc, InAssign o (h expr x) ∷ stack s, Want))) (needs_map s)
      ∙ ap (λ n. if ltb 2 (stack_needs s) then None else (if ltb n 15 then None else Some (sc, InAssign o (h expr x) ∷ stack s, Want))) (hom.level_of x)
      ∙ ap (λ z. if ltb 2 (stack_needs s) then None else z) (if_map (ltb (a.level_of x) 15) None (Some (sc, InAssign o x ∷ s, Want)))
      ∙ if_map (ltb 2 (stack_needs s)) None (if ltb (a.level_of x) 15 then None else Some (sc, InAssign o x ∷ s, Want))

  postfix_map : (x : A expr) (sc : Scope) (s : Stack A) (mode : Mode A) → on_postfix b (h expr x) (sc, stack s, map_mode h mode) ≡ to (on_postfix a x (sc, s, mode))
  postfix_map x sc s mode = ap (λ n. if ltb n 16 then None else Some (sc, stack s, map_mode h mode)) (hom.level_of x) ∙ if_map (ltb (a.level_of x) 16) None (Some (sc, s, mode))

  act_map : (sc : Scope) (k : Mark) (s : Stack A) (x : A expr) → act b sc k (stack s) (h expr x) ≡ to (act a sc k s x)
  act_map sc m.Open s x = postfix_map x sc s (First x)
  act_map sc m.OpenBracket s x = postfix_map x sc (InIndex x ∷ s) Want
  act_map sc (m.Member o) s x = postfix_map x sc s (Dotted x o)
  act_map sc (m.Step o) s x = ap (λ z. on_postfix b (h expr x) (sc, stack s, Have z)) (hom.postfix x o) ∙ postfix_map x sc s (Have (a.postfix x o))
  act_map sc (m.Infix o) s x = refl
  act_map sc (m.Assign o) s x = on_assign_map sc o s x
  act_map sc m.Question s x = refl
  act_map sc m.Close s x = on_close_map sc s x
  act_map sc m.CloseBracket s x = on_close_bracket_map sc s x
  act_map sc m.Comma s x = on_comma_map sc s x
  act_map sc m.Colon s x = on_colon_map sc s x
  act_map sc m.CloseBrace s x = on_close_brace_map sc s x
  act_map sc m.Semicolon s x = on_semicolon_map sc s x
  act_map sc _ s x = refl

  pub after_map : (sc : Scope) (s : Stack A) (x : A expr) (v : Word) → after b sc (stack s) (h expr x) v ≡ to (after a sc s x v)
  after_map sc s x (Sign k) = let p = reduced a (mark_pull k) s x in ap (at b sc k) (reduced_map (mark_pull k) s x) ∙ act_map sc k p.0 p.1
  after_map sc s x _ = refl

  cast_map : (sc : Scope) (s : Stack A) (v : Word) → (if ltb 14 (stack_needs (stack s)) then None else specs_step b sc (CastSpecs sc ∷ stack s) b.no_specs v) ≡ to (if ltb 14 (stack_needs s) then None else specs_step a sc (CastSpecs sc ∷ s) a.no_specs v)
  cast_map sc s v =
      ap (λ n. if ltb 14 n then None else specs_step b sc (CastSpecs sc ∷ stack s) b.no_specs v) (needs_map s)
      ∙ ap (λ z. if ltb 14 (stack_needs s) then None else z) (begin_specs_map sc (CastSpecs sc ∷ s) v)
      ∙ if_map (ltb 14 (stack_needs s)) None (specs_step a sc (CastSpecs sc ∷ s) a.no_specs v)

  begin_type_map : (sc : Scope) (s : Stack A) (v : Word) → begin_type b sc (stack s) v ≡ to (begin_type a sc s v)
  begin_type_map sc [] v = refl
  begin_type_map sc (InParen ∷ []) v = cast_map sc [] v
  begin_type_map sc (InParen ∷ InSizeof ∷ s) v = begin_specs_map sc (SizeofSpecs sc ∷ s) v
  begin_type_map sc (InParen ∷ f ∷ s) v = cast_map sc (f ∷ s) v
  begin_type_map sc (_ ∷ s) v = refl

  named_map : (z : Bool) (sc : Scope) (s : Stack A) (u : Text) → named b z sc (stack s) u ≡ to (named a z sc s u)
  named_map false sc s u = ap (λ x. Some (sc, stack s, Have x)) (hom.name u)
  named_map true sc s u = begin_type_map sc s (Named u)

  prefixed_map : (sc : Scope) (s : Stack A) (o : Option PrefixOp) → prefixed b sc (stack s) o ≡ to (prefixed a sc s o)
  prefixed_map sc s None = refl
  prefixed_map sc s (Some o) = refl

  begin_mark_map : (sc : Scope) (s : Stack A) (k : Mark) → begin_mark b sc (stack s) k ≡ to (begin_mark a sc s k)
  begin_mark_map sc s m.Open = refl
  begin_mark_map sc s (m.Step o) = refl
  begin_mark_map sc s k = prefixed_map sc s (prefix_of k)

  begin_key_map : (sc : Scope) (s : Stack A) (k : Keyword) → begin_key b sc (stack s) k ≡ to (begin_key a sc s k)
  begin_key_map sc s w.Sizeof = refl
  begin_key_map sc s k = begin_type_map sc s (Key k)

  pub begin_map : (sc : Scope) (s : Stack A) (v : Word) → begin b sc (stack s) v ≡ to (begin a sc s v)
  begin_map sc s (Named u) = named_map (sc u) sc s u
  begin_map sc s (Numbered u) = ap (λ x. Some (sc, stack s, Have x)) (hom.number u)
  begin_map sc s (Quote u) = ap (λ x. Some (sc, stack s, Have x)) (hom.character u)
  begin_map sc s (Literal u) = refl
  begin_map sc s (Sign k) = begin_mark_map sc s k
  begin_map sc s (Key k) = begin_key_map sc s k
  begin_map sc s Stray = refl

  pub texts_map : (sc : Scope) (s : Stack A) (u : Text) (us : List Text) (v : Word) → texts b sc (stack s) u us v ≡ to (texts a sc s u us v)
  texts_map sc s u us (Literal x) = refl
  texts_map sc s u us v = ap (λ z. after b sc (stack s) z v) (hom.strings u us) ∙ after_map sc s (a.strings u us) v

  pub first_map : (sc : Scope) (s : Stack A) (f : A expr) (v : Word) → first b sc (stack s) (h expr f) v ≡ to (first a sc s f v)
  first_map sc s f (Sign m.Close) = ap (λ z. Some (sc, stack s, Have (b.call (h expr f) z))) hom.no_arguments ∙ ap (λ z. Some (sc, stack s, Have z)) (hom.call f a.no_arguments)
  first_map sc s f v = ap (λ z. begin b sc (InCall (h expr f) z ∷ stack s) v) hom.no_arguments ∙ begin_map sc (InCall f a.no_arguments ∷ s) v

  pub dotted_map : (sc : Scope) (s : Stack A) (x : A expr) (o : MemberOp) (v : Word) → dotted b sc (stack s) (h expr x) o v ≡ to (dotted a sc s x o v)
  dotted_map sc s x o (Named u) = ap (λ z. Some (sc, stack s, Have z)) (hom.member_of x o u)
  dotted_map sc s x o _ = refl

  pub sizing_map : (sc : Scope) (s : Stack A) (k : Kind) (d : A decl) (v : Word) → sizing b sc (stack s) k (h decl d) v ≡ to (sizing a sc s k d v)
  sizing_map sc s k d (Sign m.CloseBracket) = ap (λ z. Some (sc, stack s, HaveDeclarator k z)) (hom.array_open d)
  sizing_map sc s k d v = begin_map sc (InArray k d ∷ s) v

  pub listing_map : (sc : Scope) (s : Stack A) (k : Kind) (d : A decl) (v : Word) → listing b sc (stack s) k (h decl d) v ≡ to (listing a sc s k d v)
  listing_map sc s k d (Sign m.Close) = ap (λ z. Some (sc, stack s, HaveDeclarator k (b.function (h decl d) form.Empty z))) hom.no_parameters ∙ ap (λ z. Some (sc, stack s, HaveDeclarator k z)) (hom.function d form.Empty a.no_parameters)
  listing_map sc s k d v = ap (λ z. specs_step b sc (InParameters k sc (h decl d) z ∷ stack s) b.no_specs v) hom.no_parameters ∙ begin_specs_map sc (InParameters k sc d a.no_parameters ∷ s) v

  pub opened_map : (sc : Scope) (s : Stack A) (k : Kind) (v : Word) → opened b sc (stack s) k v ≡ to (opened a sc s k v)
  opened_map sc s k v =
      let z = is_free k && begins_list sc (v ∷ []) in
      ap (λ x. if z then listing b sc (stack s) k x v else want_declarator b sc (InGroup k ∷ stack s) k v) hom.nameless
      ∙ ap (λ x. if z then x else want_declarator b sc (InGroup k ∷ stack s) k v) (listing_map sc s k a.nameless v)
      ∙ ap (λ x. if z then to (listing a sc s k a.nameless v) else x) (want_map sc (InGroup k ∷ s) k v)
      ∙ if_map z (listing a sc s k a.nameless v) (want_declarator a sc (InGroup k ∷ s) k v)

  pub next_parameter_map : (sc : Scope) (s : Stack A) (v : Word) → next_parameter b sc (stack s) v ≡ to (next_parameter a sc s v)
  next_parameter_map sc s (Sign m.Ellipsis) = refl
  next_parameter_map sc s v = begin_specs_map sc s v

  pub after_ellipsis_map : (s : Stack A) (v : Word) → after_ellipsis b (stack s) v ≡ to (after_ellipsis a s v)
  after_ellipsis_map [] v = refl
  after_ellipsis_map (InParameters k outer d ps ∷ s) (Sign m.Close) = ap (λ z. Some (outer, stack s, HaveDeclarator k z)) (hom.function d form.Variadic ps)
  after_ellipsis_map (InParameters k outer d ps ∷ s) _ = refl
  after_ellipsis_map (_ ∷ s) v = refl
