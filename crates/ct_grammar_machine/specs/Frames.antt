-- The productions that are open, and what comes next.
use Rattle.std.specs.Prelude.{ℕ, ◌+◌, Bool, true, false, List, [], ◌∷◌, Option}
use Rattle.ct_syntax.specs.declared.words.StepOp.{StepOp}
use Rattle.ct_syntax.specs.declared.words.PrefixOp.{PrefixOp}
use Rattle.ct_syntax.specs.declared.words.InfixOp.{InfixOp}
use Rattle.ct_syntax.specs.declared.words.AssignOp.{AssignOp}
use Rattle.ct_syntax.specs.declared.words.MemberOp.{MemberOp}
use Rattle.ct_syntax.specs.declared.words.Mark.{Mark}
use Rattle.ct_syntax.specs.declared.words.Mark.TheVariants as m
use Rattle.ct_syntax.specs.declared.words.Qualifier.{Qualifier}
use Rattle.ct_syntax.specs.Words.{Text, Word, Literal, Sign}
use Rattle.ct_syntax.specs.Scopes.{Scope}
use Rattle.ct_syntax.specs.Grammar.{infix_level}
use Rattle.ct_grammar_machine.specs.Algebra.{Sort, expr, exprs, specs, members, enumerators, declarators, decl, parameters, init, inits, init_declarators, for_start, stmt, branches, body, items, Aimed}

-- What a declarator is for: a declaration or a member, a parameter, or a type name.
pub data Kind : Type 0 where
  Ordinary : Kind
  OfParameter : Kind
  OfType : Kind

-- whether it may have no name
abbrev pub is_free : Kind → Bool
is_free Ordinary = false
is_free OfParameter = true
is_free OfType = true

pub data Which : Type 0 where
  AStruct : Which
  AnEnum : Which

-- A production that is open, and what of it is read. Parts of a list are in the order of the text.
pub data Frame (C : Sort → Type 0) : Type 0 where
  InParen : Frame C
  InCall : (function : C expr) → (before : C exprs) → Frame C
  InIndex : (array : C expr) → Frame C
  InPrefix : (op : StepOp) → Frame C
  InUnary : (op : PrefixOp) → Frame C
  InSizeof : Frame C
  InCast : (type : C specs) → (declarator : C decl) → Frame C
  InInfix : (op : InfixOp) → (left : C expr) → Frame C
  InThen : (test : C expr) → Frame C
  InElse : (test : C expr) → (yes : C expr) → Frame C
  InAssign : (op : AssignOp) → (left : C expr) → Frame C
  InComma : (left : C expr) → Frame C
  -- the specifiers of a type name; the scope round it
  CastSpecs : (outer : Scope) → Frame C
  SizeofSpecs : (outer : Scope) → Frame C
  -- the declarator behind them
  CastDeclarator : (outer : Scope) → (type : C specs) → Frame C
  SizeofDeclarator : (outer : Scope) → (type : C specs) → Frame C
  -- the specifiers before a struct, its tag, and its members so far
  InMembers : (before : C specs) → (tag : Option Text) → (members : C members) → Frame C
  -- besides, the specifiers of a member, and its declarators so far
  InMember : (before : C specs) → (tag : Option Text) → (members : C members) → (type : C specs) → (declarators : C declarators) → Frame C
  InEnumerators : (before : C specs) → (tag : Option Text) → (enumerators : C enumerators) → Frame C
  -- besides, the enumerator whose value is read
  InEnumerator : (before : C specs) → (tag : Option Text) → (enumerators : C enumerators) → (name : Text) → Frame C
  InGroup : (kind : Kind) → Frame C
  InPointer : (kind : Kind) → (qualifiers : List Qualifier) → Frame C
  InArray : (kind : Kind) → (inner : C decl) → Frame C
  -- the scope round a parameter list, what it stands behind, and the parameters so far
  InParameters : (kind : Kind) → (outer : Scope) → (inner : C decl) → (parameters : C parameters) → Frame C
  -- besides, the specifiers of a parameter
  InParameter : (kind : Kind) → (outer : Scope) → (inner : C decl) → (parameters : C parameters) → (type : C specs) → Frame C
  -- the specifiers of a declaration
  DeclSpecs : Frame C
  -- whether its first declarator is read; its specifiers, and its declarators so far
  DeclDeclarator : (first : Bool) → (type : C specs) → (before : C init_declarators) → Frame C
  -- besides, the declarator whose initialiser is read
  DeclInit : (type : C specs) → (before : C init_declarators) → (declarator : C decl) → Frame C
  -- the items in braces so far
  InBraces : (items : C inits) → Frame C
  -- besides, what the item is for that is read
  InItem : (items : C inits) → (aim : Aimed C) → Frame C
  InPlace : (items : C inits) → Frame C
  InAssert : Frame C
  -- the scope round a block, and its parts so far
  InBlock : (outer : Scope) → (body : C body) → Frame C
  InSwitch : (outer : Scope) → (value : C expr) → (body : C body) → Frame C
  -- the scope behind a definition, its specifiers, its declarator, and the parts of its body so far
  InFunction : (outer : Scope) → (type : C specs) → (declarator : C decl) → (body : C body) → Frame C
  InUnit : (items : C items) → Frame C
  -- the value of a label
  InCase : Frame C
  InRun : Frame C
  InReturn : Frame C
  -- the branches before, and then besides the test of the one whose body is read
  InTest : (before : C branches) → Frame C
  InBranch : (before : C branches) → (test : C expr) → Frame C
  InElseBody : (branches : C branches) → Frame C
  InLoopTest : Frame C
  InWhile : (test : C expr) → Frame C
  -- the body of a `do`, and then its test
  InDo : Frame C
  InDoTest : (body : C stmt) → Frame C
  InSwitchTest : Frame C
  -- the four parts of a `for`, and the scope round it
  InForInit : (outer : Scope) → Frame C
  InForCondition : (outer : Scope) → (start : C for_start) → Frame C
  InForStep : (outer : Scope) → (start : C for_start) → (test : Option (C expr)) → Frame C
  InFor : (outer : Scope) → (start : C for_start) → (test : Option (C expr)) → (after : Option (C expr)) → Frame C

-- What stands in parentheses.
pub data Aim (C : Sort → Type 0) : Type 0 where
  ToTest : (before : C branches) → Aim C
  ToLoop : Aim C
  ToDo : (body : C stmt) → Aim C
  ToSwitch : Aim C
  ToAssert : Aim C

-- What comes next.
pub data Mode (C : Sort → Type 0) : Type 0 where
  -- an operand
  Want : Mode C
  -- an operator or an end, after an operand
  Have : (operand : C expr) → Mode C
  -- a further string literal, or what may stand behind one
  Texts : (first : Text) → (others : List Text) → Mode C
  -- an argument, or none
  First : (function : C expr) → Mode C
  -- the name of a member
  Dotted : (whole : C expr) → (op : MemberOp) → Mode C
  -- a specifier, or what may stand behind these
  Specs : (before : C specs) → Mode C
  -- a tag, or a brace
  Tagging : (which : Which) → (before : C specs) → Mode C
  -- a brace, or what may stand behind the tag
  Tagged : (which : Which) → (before : C specs) → (tag : Text) → Mode C
  -- a member, or the closing brace
  NextMember : Mode C
  -- an enumerator
  FirstEnumerator : Mode C
  -- an enumerator, or the closing brace, behind a comma
  NextEnumerator : Mode C
  -- what may stand behind the name of an enumerator
  Enumerated : (name : Text) → Mode C
  -- a declarator
  WantDeclarator : (kind : Kind) → Mode C
  -- what stands behind the `*` of a pointer and these qualifiers
  Qualifying : (kind : Kind) → (before : List Qualifier) → Mode C
  -- what stands behind a parenthesis in the place of a declarator
  Opened : (kind : Kind) → Mode C
  -- what may stand behind a declarator
  HaveDeclarator : (kind : Kind) → (inner : C decl) → Mode C
  -- a size or the closing bracket
  Sizing : (kind : Kind) → (inner : C decl) → Mode C
  -- a parameter or the closing parenthesis
  Listing : (kind : Kind) → (inner : C decl) → Mode C
  -- a parameter or `...`, behind a comma
  NextParameter : Mode C
  -- the closing parenthesis, behind `...`
  AfterEllipsis : Mode C
  -- an initialiser
  WantInit : Mode C
  -- what may stand behind an initialiser in braces
  HaveInit : (init : C init) → Mode C
  -- an item, or the closing brace
  FirstItem : Mode C
  -- the same, behind a comma
  NextItem : Mode C
  -- the name of a member, behind a dot
  Pointed : Mode C
  -- the `=` behind what an item is for
  Placed : (aim : Aimed C) → Mode C
  -- an open parenthesis
  Opening : (aim : Aim C) → Mode C
  -- the parts of an assertion behind its comma
  AssertText : (condition : C expr) → Mode C
  AssertClose : (condition : C expr) → (text : Text) → Mode C
  AssertEnd : (condition : C expr) → (text : Text) → Mode C
  -- a statement, or what else may stand in its place
  Begin : Mode C
  -- a statement is read
  Done : (done : C stmt) → Mode C
  -- a semicolon ends the statement
  Ending : (done : C stmt) → Mode C
  AfterElse : (branches : C branches) → Mode C
  Returning : Mode C
  -- the brace of a switch
  Switching : (value : C expr) → Mode C
  DefaultColon : Mode C
  OpenFor : Mode C
  ForInit : Mode C
  ForCondition : Mode C
  ForStep : Mode C

abbrev pub Stack : (Sort → Type 0) → Type 0
Stack C = List (Frame C)

-- the scope, what is open, the innermost first, and what comes next
abbrev pub State : (Sort → Type 0) → Type 0
State C = Scope × Stack C × Mode C

-- How far a word behind an operand reaches back: it ends the frames that hold at least so tightly.
abbrev pub mark_pull : Mark → ℕ
mark_pull m.Open = 16
mark_pull m.OpenBracket = 16
mark_pull (m.Member o) = 16
mark_pull (m.Step o) = 16
mark_pull (m.Infix o) = infix_level o
mark_pull (m.Assign o) = 4
mark_pull m.Question = 4
mark_pull _ = 1

abbrev pub pull : Word → ℕ
pull (Sign k) = mark_pull k
pull (Literal t) = 17
pull _ = 1

module _ {C : Sort → Type 0} where
  -- The production that the part of a frame is at least of.
  abbrev pub needs : Frame C → ℕ
  needs (InPrefix o) = 15
  needs InSizeof = 15
  needs (InUnary o) = 14
  needs (InCast ss d) = 14
  needs (InInfix o x) = infix_level o + 1
  needs (InElse c x) = 3
  needs (InEnumerator ss tag es n) = 3
  needs (InAssign o x) = 2
  needs (InComma x) = 2
  needs (InCall f xs) = 2
  needs (InArray k d) = 2
  needs (DeclInit ss ds d) = 2
  needs (InItem is g) = 2
  needs (InPlace is) = 3
  needs InAssert = 3
  needs InCase = 3
  needs _ = 1

  abbrev pub stack_needs : Stack C → ℕ
  stack_needs [] = 1
  stack_needs (f ∷ s) = needs f

  -- How tightly a frame holds the operand behind it: 0 where only a mark of its own ends it.
  abbrev pub holds : Frame C → ℕ
  holds (InPrefix o) = 15
  holds InSizeof = 15
  holds (InUnary o) = 15
  holds (InCast ss d) = 14
  holds (InInfix o x) = infix_level o
  holds (InElse c x) = 3
  holds (InAssign o x) = 2
  holds (InComma x) = 1
  holds _ = 0
