-- Which trees the grammar makes: each part is of a production that may stand there, and a name is a typedef
-- name exactly where a type stands.
use Rattle.std.specs.Prelude.{◌≡◌, ℕ, ◌+◌, ◌≤◌, Bool, true, false, not, ◌&&◌, List, [], ◌∷◌, Option, Some, None}
use Rattle.ct_base.specs.declared.operators.BinaryOp.TheVariants as b
use Rattle.ct_syntax.specs.declared.words.InfixOp.{InfixOp}
use Rattle.ct_syntax.specs.declared.words.InfixOp.TheVariants as i
use Rattle.ct_syntax.specs.declared.words.Mark.TheVariants as m
use Rattle.ct_syntax.specs.declared.words.Keyword.TheVariants as w
use Rattle.ct_syntax.specs.declared.words.SpecWord.TheVariants as s
use Rattle.ct_syntax.specs.declared.expressions.ParameterForm.{ParameterForm}
use Rattle.ct_syntax.specs.declared.expressions.ParameterForm.TheVariants as form
use Rattle.ct_syntax.specs.Words.{Word, Named, Sign, Key}
use Rattle.ct_syntax.specs.Trees.{Expression, Name, Number, Character, Strings, Paren, Index, Call, Member, Postfix, Prefix, Unary, SizeofValue, SizeofType, Cast, Infix, Conditional, Assign, Comma}
use Rattle.ct_syntax.specs.Trees.{Expressions, no_expression, expression, Optional, absent, present}
use Rattle.ct_syntax.specs.Trees.{Specs, no_spec, spec_word, typedef_name, struct_tag, struct_list, enum_tag, enum_list, Members, no_member, member, Enumerators, no_enumerator, enumerator}
use Rattle.ct_syntax.specs.Trees.{Declarators, no_declarator, declarator, Declarator, Nameless, Called, Group, Pointer, Array, Function, Parameters, no_parameter, parameter}
use Rattle.ct_syntax.specs.Trees.{Designator, Next, OfMember, OfIndex, Initialiser, Value, Braces, InitialiserItems, no_item, item, InitDeclarator, Declaration, Declare, Assert, ForStart, StartDeclaration, StartValue}
use Rattle.ct_syntax.specs.Trees.{Statement, Block, Run, If, While, Do, For, Switch, Break, Continue, Return, Branches, no_branch, branch, Other, no_else, else_do, Body, no_part, case_label, default_label, declared, stated, Item, Definition, Outside, Lone}
use Rattle.ct_syntax.specs.Scopes.{Scope, with_name, name_of, after_specs, after_members, after_enumerators, after_declarator, after_declaration, after_for_start, after_item, inside_definition}
use Rattle.ct_syntax.specs.TypeWords.{form_type}
use Rattle.ct_syntax.specs.Spelling.{spell_declarator}

-- How tightly an operator binds: C's ten levels (C11 6.5.5 to 6.5.14), the loosest being 4.
abbrev pub infix_level : InfixOp → ℕ
infix_level i.LogicalOr = 4
infix_level i.LogicalAnd = 5
infix_level (i.Number b.Or) = 6
infix_level (i.Number b.Xor) = 7
infix_level (i.Number b.And) = 8
infix_level (i.Number b.Equal) = 9
infix_level (i.Number b.NotEqual) = 9
infix_level (i.Number b.Less) = 10
infix_level (i.Number b.Greater) = 10
infix_level (i.Number b.LessEqual) = 10
infix_level (i.Number b.GreaterEqual) = 10
infix_level (i.Number b.ShiftLeft) = 11
infix_level (i.Number b.ShiftRight) = 11
infix_level (i.Number b.Add) = 12
infix_level (i.Number b.Subtract) = 12
infix_level (i.Number b.Multiply) = 13
infix_level (i.Number b.Divide) = 13
infix_level (i.Number b.Remainder) = 13

-- The production that an expression is of: 1 is expr, 2 assign, 3 cond, 4 to 13 binary, 14 cast, 15 unary and
-- 16 postfix, primary included. One of a higher level may stand where one of a lower level is asked for.
abbrev pub expression_level : Expression → ℕ
expression_level (Comma x y) = 1
expression_level (Assign o x y) = 2
expression_level (Conditional c x y) = 3
expression_level (Infix o x y) = infix_level o
expression_level (Cast ss d x) = 14
expression_level (Prefix o x) = 15
expression_level (Unary o x) = 15
expression_level (SizeofValue x) = 15
expression_level (SizeofType ss d) = 15
expression_level _ = 16

-- a pointer stands in no declarator before brackets or a parameter list, but in parentheses
abbrev pub is_direct : Declarator → Bool
is_direct (Pointer qs d) = false
is_direct _ = true

-- Whether specifiers begin: with one of their words, or with a typedef name.
abbrev pub begins_specs : Scope → List Word → Bool
begins_specs scope (Key (w.Spec k) ∷ rest) = true
begins_specs scope (Key w.Struct ∷ rest) = true
begins_specs scope (Key w.Enum ∷ rest) = true
begins_specs scope (Named t ∷ rest) = scope t
begins_specs scope _ = false

-- Whether a parameter list begins, behind its parenthesis: in an abstract declarator, and in the declarator of a
-- parameter, `()` is one, and so is a parenthesis before specifiers (C11 6.7.6.3p11).
abbrev pub begins_list : Scope → List Word → Bool
begins_list scope (Sign m.Close ∷ rest) = true
begins_list scope ws = begins_specs scope ws

-- whether it is the one word `void`, which is a form of its own
abbrev pub is_only_void : Parameters → Bool
is_only_void (parameter (spec_word s.Void no_spec) Nameless no_parameter) = true
is_only_void _ = false

abbrev pub has_parameters : Parameters → Bool
has_parameters no_parameter = false
has_parameters _ = true

-- whether a list of parameters is written in a form
abbrev pub fits_form : ParameterForm → Parameters → Bool
fits_form form.Empty ps = not (has_parameters ps)
fits_form form.Void ps = not (has_parameters ps)
fits_form form.Fixed ps = has_parameters ps && not (is_only_void ps)
fits_form form.Variadic ps = has_parameters ps

abbrev pub has_members : Members → Bool
has_members no_member = false
has_members _ = true

abbrev pub has_declarators : Declarators → Bool
has_declarators no_declarator = false
has_declarators _ = true

abbrev pub has_enumerators : Enumerators → Bool
has_enumerators no_enumerator = false
has_enumerators _ = true

abbrev mutual
  pub IsExpression : Scope → Expression → Type 0
  IsExpression scope (Name t) = scope t ≡ false
  IsExpression scope (Number t) = Unit {0}
  IsExpression scope (Character t) = Unit {0}
  IsExpression scope (Strings t ts) = Unit {0}
  IsExpression scope (Paren x) = IsExpression scope x
  IsExpression scope (Index x i) = (16 ≤ expression_level x) × IsExpression scope x × IsExpression scope i
  IsExpression scope (Call f xs) = (16 ≤ expression_level f) × IsExpression scope f × AreArguments scope xs
  IsExpression scope (Member x o t) = (16 ≤ expression_level x) × IsExpression scope x
  IsExpression scope (Postfix x o) = (16 ≤ expression_level x) × IsExpression scope x
  IsExpression scope (Prefix o x) = (15 ≤ expression_level x) × IsExpression scope x
  IsExpression scope (Unary o x) = (14 ≤ expression_level x) × IsExpression scope x
  IsExpression scope (SizeofValue x) = (15 ≤ expression_level x) × IsExpression scope x
  IsExpression scope (SizeofType ss d) = AreSpecs scope ss × (form_type ss ≡ true) × (name_of d ≡ None) × IsDeclarator true (after_specs scope ss) d
  IsExpression scope (Cast ss d x) = (14 ≤ expression_level x) × IsExpression scope x × AreSpecs scope ss × (form_type ss ≡ true) × (name_of d ≡ None) × IsDeclarator true (after_specs scope ss) d
  IsExpression scope (Infix o x y) = (infix_level o ≤ expression_level x) × (infix_level o + 1 ≤ expression_level y) × IsExpression scope x × IsExpression scope y
  IsExpression scope (Conditional c x y) = (4 ≤ expression_level c) × (3 ≤ expression_level y) × IsExpression scope c × IsExpression scope x × IsExpression scope y
  IsExpression scope (Assign o x y) = (15 ≤ expression_level x) × (2 ≤ expression_level y) × IsExpression scope x × IsExpression scope y
  IsExpression scope (Comma x y) = (2 ≤ expression_level y) × IsExpression scope x × IsExpression scope y

  pub AreArguments : Scope → Expressions → Type 0
  AreArguments scope no_expression = Unit {0}
  AreArguments scope (expression x xs) = (2 ≤ expression_level x) × IsExpression scope x × AreArguments scope xs

  -- an expression of at least a level, or none
  pub IsOptional : ℕ → Scope → Optional → Type 0
  IsOptional least scope absent = Unit {0}
  IsOptional least scope (present x) = (least ≤ expression_level x) × IsExpression scope x

  pub AreSpecs : Scope → Specs → Type 0
  AreSpecs scope no_spec = Unit {0}
  AreSpecs scope (spec_word k ss) = AreSpecs scope ss
  AreSpecs scope (typedef_name t ss) = (scope t ≡ true) × AreSpecs scope ss
  AreSpecs scope (struct_tag t ss) = AreSpecs scope ss
  AreSpecs scope (struct_list tag ms ss) = (has_members ms ≡ true) × AreMembers scope ms × AreSpecs (after_members scope ms) ss
  AreSpecs scope (enum_tag t ss) = AreSpecs scope ss
  AreSpecs scope (enum_list tag es comma ss) = (has_enumerators es ≡ true) × AreEnumerators scope es × AreSpecs (after_enumerators scope es) ss

  pub AreMembers : Scope → Members → Type 0
  AreMembers scope no_member = Unit {0}
  AreMembers scope (member ss ds ms) =
      AreSpecs scope ss × (form_type ss ≡ true) × (has_declarators ds ≡ true) × AreDeclarators (after_specs scope ss) ds × AreMembers (after_specs scope ss) ms

  pub AreEnumerators : Scope → Enumerators → Type 0
  AreEnumerators scope no_enumerator = Unit {0}
  AreEnumerators scope (enumerator t v es) = IsOptional 3 scope v × AreEnumerators (with_name scope t false) es

  pub AreDeclarators : Scope → Declarators → Type 0
  AreDeclarators scope no_declarator = Unit {0}
  AreDeclarators scope (declarator d ds) = IsDeclarator false scope d × AreDeclarators scope ds

  -- A declarator, where it is said whether it is that of a parameter or of a type name, which alone may have no
  -- name.
  pub IsDeclarator : Bool → Scope → Declarator → Type 0
  IsDeclarator free scope Nameless = free ≡ true
  IsDeclarator free scope (Called t) = Unit {0}
  IsDeclarator free scope (Group d) = ((free && begins_list scope (spell_declarator d (Sign m.Close ∷ []))) ≡ false) × IsDeclarator free scope d
  IsDeclarator free scope (Pointer qs d) = IsDeclarator free scope d
  IsDeclarator free scope (Array d size) = (is_direct d ≡ true) × IsDeclarator free scope d × IsOptional 2 scope size
  IsDeclarator free scope (Function d f ps) = (is_direct d ≡ true) × IsDeclarator free scope d × (fits_form f ps ≡ true) × AreParameters scope ps

  pub AreParameters : Scope → Parameters → Type 0
  AreParameters scope no_parameter = Unit {0}
  AreParameters scope (parameter ss d ps) =
      AreSpecs scope ss × (form_type ss ≡ true) × IsDeclarator true (after_specs scope ss) d × AreParameters (after_declarator (after_specs scope ss) ss d) ps

abbrev pub IsDesignator : Scope → Designator → Type 0
IsDesignator scope Next = Unit {0}
IsDesignator scope (OfMember t) = Unit {0}
IsDesignator scope (OfIndex x) = (3 ≤ expression_level x) × IsExpression scope x

abbrev pub has_items : InitialiserItems → Bool
has_items no_item = false
has_items _ = true

abbrev mutual
  pub IsInitialiser : Scope → Initialiser → Type 0
  IsInitialiser scope (Value x) = (2 ≤ expression_level x) × IsExpression scope x
  IsInitialiser scope (Braces is comma) = ((comma && not (has_items is)) ≡ false) × AreItems scope is

  pub AreItems : Scope → InitialiserItems → Type 0
  AreItems scope no_item = Unit {0}
  AreItems scope (item g v is) = IsDesignator scope g × IsInitialiser scope v × AreItems scope is

abbrev pub IsOptionalInitialiser : Scope → Option Initialiser → Type 0
IsOptionalInitialiser scope None = Unit {0}
IsOptionalInitialiser scope (Some v) = IsInitialiser scope v

abbrev pub AreInitDeclarators : Scope → Specs → List InitDeclarator → Type 0
AreInitDeclarators scope ss [] = Unit {0}
AreInitDeclarators scope ss (d ∷ ds) =
    IsDeclarator false scope d.declarator × IsOptionalInitialiser (after_declarator scope ss d.declarator) d.start × AreInitDeclarators (after_declarator scope ss d.declarator) ss ds

abbrev pub IsDeclaration : Scope → Declaration → Type 0
IsDeclaration scope (Declare ss ds) = AreSpecs scope ss × (form_type ss ≡ true) × AreInitDeclarators (after_specs scope ss) ss ds
IsDeclaration scope (Assert x t) = (3 ≤ expression_level x) × IsExpression scope x

abbrev pub IsMaybe : Scope → Option Expression → Type 0
IsMaybe scope None = Unit {0}
IsMaybe scope (Some x) = IsExpression scope x

abbrev pub IsForStart : Scope → ForStart → Type 0
IsForStart scope (StartDeclaration d) = IsDeclaration scope d
IsForStart scope (StartValue x) = IsMaybe scope x

abbrev pub is_if : Statement → Bool
is_if (If bs o) = true
is_if _ = false

-- whether an `else` behind it would be its own
abbrev mutual
  pub takes_else : Statement → Bool
  takes_else (If bs o) = other_takes_else o
  takes_else (While c s) = takes_else s
  takes_else (For f c e s) = takes_else s
  takes_else _ = false

  pub other_takes_else : Other → Bool
  other_takes_else no_else = true
  other_takes_else (else_do s) = takes_else s

-- whether an `else` stands behind a branch that these branches follow
abbrev pub is_followed : Branches → Other → Bool
is_followed no_branch no_else = false
is_followed _ _ = true

abbrev pub has_branches : Branches → Bool
has_branches no_branch = false
has_branches _ = true

abbrev mutual
  pub IsStatement : Scope → Statement → Type 0
  IsStatement scope (Block b) = IsBody false scope b
  IsStatement scope (Run x) = IsMaybe scope x
  IsStatement scope (If bs o) = (has_branches bs ≡ true) × AreBranches scope bs o × IsOther scope o
  IsStatement scope (While c s) = IsExpression scope c × IsStatement scope s
  IsStatement scope (Do s c) = IsStatement scope s × IsExpression scope c
  IsStatement scope (For f c e s) = IsForStart scope f × IsMaybe (after_for_start scope f) c × IsMaybe (after_for_start scope f) e × IsStatement (after_for_start scope f) s
  IsStatement scope (Switch x b) = IsExpression scope x × IsBody true scope b
  IsStatement scope Break = Unit {0}
  IsStatement scope Continue = Unit {0}
  IsStatement scope (Return x) = IsMaybe scope x

  -- An `else` belongs to the nearest `if`, so no branch before one ends in an open `if`.
  pub AreBranches : Scope → Branches → Other → Type 0
  AreBranches scope no_branch o = Unit {0}
  AreBranches scope (branch c s bs) o = IsExpression scope c × ((is_followed bs o && takes_else s) ≡ false) × IsStatement scope s × AreBranches scope bs o

  -- An `if` right behind an `else` is a branch of the same ladder.
  pub IsOther : Scope → Other → Type 0
  IsOther scope no_else = Unit {0}
  IsOther scope (else_do s) = (is_if s ≡ false) × IsStatement scope s

  -- what stands in braces, where it is said whether labels may stand there
  pub IsBody : Bool → Scope → Body → Type 0
  IsBody labels scope no_part = Unit {0}
  IsBody labels scope (case_label x b) = (labels ≡ true) × (3 ≤ expression_level x) × IsExpression scope x × IsBody labels scope b
  IsBody labels scope (default_label b) = (labels ≡ true) × IsBody labels scope b
  IsBody labels scope (declared d b) = IsDeclaration scope d × IsBody labels (after_declaration scope d) b
  IsBody labels scope (stated s b) = IsStatement scope s × IsBody labels scope b

abbrev pub IsItem : Scope → Item → Type 0
IsItem scope (Definition ss d b) = AreSpecs scope ss × (form_type ss ≡ true) × IsDeclarator false (after_specs scope ss) d × IsBody false (inside_definition scope ss d) b
IsItem scope (Outside d) = IsDeclaration scope d
IsItem scope Lone = Unit {0}

abbrev pub IsTranslationUnit : Scope → List Item → Type 0
IsTranslationUnit scope [] = Unit {0}
IsTranslationUnit scope (i ∷ is) = IsItem scope i × IsTranslationUnit (after_item scope i) is
