-- Which limit of depth a tree passes first, in the order of the text: a construct is met at its first token, and one
-- that begins at the same token as a part of it is met before the part. All that is open at a place counts, also
-- through a type in an expression and an expression in a type.
use Rattle.std.specs.Prelude.{ℕ, zero, suc, List, [], ◌∷◌, Option, Some, None}
use Rattle.ct_base.specs.declared.limits.LimitKind.{LimitKind}
use Rattle.ct_base.specs.declared.limits.LimitKind.TheVariants.{ExpressionDepth, StatementDepth, DeclaratorDepth}
use Rattle.ct_syntax.specs.Trees.{Expression, Name, Number, Character, Strings, Paren, Index, Call, Member, Postfix, Prefix, Unary, SizeofValue, SizeofType, Cast, Infix, Conditional, Assign, Comma}
use Rattle.ct_syntax.specs.Trees.{Expressions, no_expression, expression, Optional, absent, present}
use Rattle.ct_syntax.specs.Trees.{Specs, no_spec, spec_word, typedef_name, struct_tag, struct_list, enum_tag, enum_list, Members, no_member, member, Enumerators, no_enumerator, enumerator}
use Rattle.ct_syntax.specs.Trees.{Declarators, no_declarator, declarator, Declarator, Nameless, Called, Group, Pointer, Array, Function, Parameters, no_parameter, parameter}
use Rattle.ct_syntax.specs.Trees.{Designator, Next, OfMember, OfIndex, Initialiser, Value, Braces, InitialiserItems, no_item, item, InitDeclarator, Declaration, Declare, Assert, ForStart, StartDeclaration, StartValue}
use Rattle.ct_syntax.specs.Trees.{Statement, Block, Run, If, While, Do, For, Switch, Break, Continue, Return, Branches, no_branch, branch, Other, no_else, else_do, Body, no_part, case_label, default_label, declared, stated, Item, Definition, Outside, Lone}

-- How many more constructs of each sort may be opened at a place.
pub data Room : Type 0 where
  Left : (expressions : ℕ) → (declarators : ℕ) → (statements : ℕ) → Room

-- at the beginning of an item
abbrev pub all_room : Room
all_room = Left 64 32 32

-- A construct, and then its parts, which have one place less.
abbrev pub in_expression : Room → (Room → Option LimitKind) → Option LimitKind
in_expression (Left zero d s) parts = Some ExpressionDepth
in_expression (Left (suc e) d s) parts = parts (Left e d s)

abbrev pub in_declarator : Room → (Room → Option LimitKind) → Option LimitKind
in_declarator (Left e zero s) parts = Some DeclaratorDepth
in_declarator (Left e (suc d) s) parts = parts (Left e d s)

abbrev pub in_statement : Room → (Room → Option LimitKind) → Option LimitKind
in_statement (Left e d zero) parts = Some StatementDepth
in_statement (Left e d (suc s)) parts = parts (Left e d s)

-- what is passed in a part, or else in what stands behind it
abbrev pub or_else : Option LimitKind → Option LimitKind → Option LimitKind
or_else (Some k) later = Some k
or_else None later = later

abbrev mutual
  pub passed : Room → Expression → Option LimitKind
  passed r (Name t) = in_expression r (λ p. None)
  passed r (Number t) = in_expression r (λ p. None)
  passed r (Character t) = in_expression r (λ p. None)
  passed r (Strings t ts) = in_expression r (λ p. None)
  passed r (Paren x) = in_expression r (λ p. passed p x)
  passed r (Index x i) = in_expression r (λ p. or_else (passed p x) (passed p i))
  passed r (Call f xs) = in_expression r (λ p. or_else (passed p f) (passed_list p xs))
  passed r (Member x o t) = in_expression r (λ p. passed p x)
  passed r (Postfix x o) = in_expression r (λ p. passed p x)
  passed r (Prefix o x) = in_expression r (λ p. passed p x)
  passed r (Unary o x) = in_expression r (λ p. passed p x)
  passed r (SizeofValue x) = in_expression r (λ p. passed p x)
  passed r (SizeofType ss d) = in_expression r (λ p. or_else (passed_specs p ss) (passed_declarator p d))
  passed r (Cast ss d x) = in_expression r (λ p. or_else (or_else (passed_specs p ss) (passed_declarator p d)) (passed p x))
  passed r (Infix o x y) = in_expression r (λ p. or_else (passed p x) (passed p y))
  passed r (Conditional c x y) = in_expression r (λ p. or_else (or_else (passed p c) (passed p x)) (passed p y))
  passed r (Assign o x y) = in_expression r (λ p. or_else (passed p x) (passed p y))
  passed r (Comma x y) = in_expression r (λ p. or_else (passed p x) (passed p y))

  pub passed_list : Room → Expressions → Option LimitKind
  passed_list r no_expression = None
  passed_list r (expression x xs) = or_else (passed r x) (passed_list r xs)

  pub passed_optional : Room → Optional → Option LimitKind
  passed_optional r absent = None
  passed_optional r (present x) = passed r x

  pub passed_specs : Room → Specs → Option LimitKind
  passed_specs r no_spec = None
  passed_specs r (spec_word k ss) = passed_specs r ss
  passed_specs r (typedef_name t ss) = passed_specs r ss
  passed_specs r (struct_tag t ss) = passed_specs r ss
  passed_specs r (struct_list tag ms ss) = or_else (in_declarator r (λ p. passed_members p ms)) (passed_specs r ss)
  passed_specs r (enum_tag t ss) = passed_specs r ss
  passed_specs r (enum_list tag es comma ss) = or_else (passed_enumerators r es) (passed_specs r ss)

  pub passed_members : Room → Members → Option LimitKind
  passed_members r no_member = None
  passed_members r (member ss ds ms) = or_else (or_else (passed_specs r ss) (passed_declarators r ds)) (passed_members r ms)

  pub passed_enumerators : Room → Enumerators → Option LimitKind
  passed_enumerators r no_enumerator = None
  passed_enumerators r (enumerator t v es) = or_else (passed_optional r v) (passed_enumerators r es)

  pub passed_declarators : Room → Declarators → Option LimitKind
  passed_declarators r no_declarator = None
  passed_declarators r (declarator d ds) = or_else (passed_declarator r d) (passed_declarators r ds)

  pub passed_declarator : Room → Declarator → Option LimitKind
  passed_declarator r Nameless = None
  passed_declarator r (Called t) = None
  passed_declarator r (Group d) = in_declarator r (λ p. passed_declarator p d)
  passed_declarator r (Pointer qs d) = in_declarator r (λ p. passed_declarator p d)
  passed_declarator r (Array d size) = in_declarator r (λ p. or_else (passed_declarator p d) (passed_optional p size))
  passed_declarator r (Function d f ps) = in_declarator r (λ p. or_else (passed_declarator p d) (passed_parameters p ps))

  pub passed_parameters : Room → Parameters → Option LimitKind
  passed_parameters r no_parameter = None
  passed_parameters r (parameter ss d ps) = or_else (or_else (passed_specs r ss) (passed_declarator r d)) (passed_parameters r ps)

abbrev pub passed_designator : Room → Designator → Option LimitKind
passed_designator r Next = None
passed_designator r (OfMember t) = None
passed_designator r (OfIndex x) = passed r x

abbrev mutual
  pub passed_initialiser : Room → Initialiser → Option LimitKind
  passed_initialiser r (Value x) = passed r x
  passed_initialiser r (Braces is comma) = in_declarator r (λ p. passed_items p is)

  pub passed_items : Room → InitialiserItems → Option LimitKind
  passed_items r no_item = None
  passed_items r (item g v is) = or_else (or_else (passed_designator r g) (passed_initialiser r v)) (passed_items r is)

abbrev pub passed_start : Room → Option Initialiser → Option LimitKind
passed_start r None = None
passed_start r (Some v) = passed_initialiser r v

abbrev pub passed_init_declarators : Room → List InitDeclarator → Option LimitKind
passed_init_declarators r [] = None
passed_init_declarators r (d ∷ ds) = or_else (or_else (passed_declarator r d.declarator) (passed_start r d.start)) (passed_init_declarators r ds)

abbrev pub passed_declaration : Room → Declaration → Option LimitKind
passed_declaration r (Declare ss ds) = or_else (passed_specs r ss) (passed_init_declarators r ds)
passed_declaration r (Assert x t) = passed r x

abbrev pub passed_maybe : Room → Option Expression → Option LimitKind
passed_maybe r None = None
passed_maybe r (Some x) = passed r x

abbrev pub passed_for_start : Room → ForStart → Option LimitKind
passed_for_start r (StartDeclaration d) = passed_declaration r d
passed_for_start r (StartValue x) = passed_maybe r x

-- The branches of one `if` are at one level.
abbrev mutual
  pub passed_statement : Room → Statement → Option LimitKind
  passed_statement r (Block b) = in_statement r (λ p. passed_body p b)
  passed_statement r (Run x) = in_statement r (λ p. passed_maybe p x)
  passed_statement r (If bs o) = in_statement r (λ p. or_else (passed_branches p bs) (passed_other p o))
  passed_statement r (While c s) = in_statement r (λ p. or_else (passed p c) (passed_statement p s))
  passed_statement r (Do s c) = in_statement r (λ p. or_else (passed_statement p s) (passed p c))
  passed_statement r (For f c e s) = in_statement r (λ p. or_else (or_else (or_else (passed_for_start p f) (passed_maybe p c)) (passed_maybe p e)) (passed_statement p s))
  passed_statement r (Switch x b) = in_statement r (λ p. or_else (passed p x) (passed_body p b))
  passed_statement r Break = in_statement r (λ p. None)
  passed_statement r Continue = in_statement r (λ p. None)
  passed_statement r (Return x) = in_statement r (λ p. passed_maybe p x)

  pub passed_branches : Room → Branches → Option LimitKind
  passed_branches r no_branch = None
  passed_branches r (branch c s bs) = or_else (or_else (passed r c) (passed_statement r s)) (passed_branches r bs)

  pub passed_other : Room → Other → Option LimitKind
  passed_other r no_else = None
  passed_other r (else_do s) = passed_statement r s

  pub passed_body : Room → Body → Option LimitKind
  passed_body r no_part = None
  passed_body r (case_label x b) = or_else (passed r x) (passed_body r b)
  passed_body r (default_label b) = passed_body r b
  passed_body r (declared d b) = or_else (passed_declaration r d) (passed_body r b)
  passed_body r (stated s b) = or_else (passed_statement r s) (passed_body r b)

-- The block of a function is itself a statement.
abbrev pub passed_item : Room → Item → Option LimitKind
passed_item r (Definition ss d b) = or_else (or_else (passed_specs r ss) (passed_declarator r d)) (in_statement r (λ p. passed_body p b))
passed_item r (Outside d) = passed_declaration r d
passed_item r Lone = None

abbrev pub passed_unit : Room → List Item → Option LimitKind
passed_unit r [] = None
passed_unit r (i ∷ is) = or_else (passed_item r i) (passed_unit r is)
