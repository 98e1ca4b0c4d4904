-- How deep a tree nests, for a parser, which builds a tree from its parts: what is reached as the tree is read, in the
-- order of the text. Each entry says that one more construct of a sort is open there than anywhere before. Which limit
-- a tree passes is defined in ct_syntax's Depths; a lemma of ct_parser shows that what is reached tells just that.
use Rattle.std.specs.Prelude.{ℕ, zero, suc, Bool, is_none, List, [], ◌∷◌, ◌++◌, Option, Some, None}
use Rattle.ct_base.specs.declared.limits.LimitKind.{LimitKind}
use Rattle.ct_base.specs.declared.limits.LimitKind.TheVariants.{ExpressionDepth, StatementDepth, DeclaratorDepth}
use Rattle.ct_parser_parts.specs.declared.reach.Nest.{Nest}
use Rattle.ct_parser_parts.specs.declared.reach.Nest.TheVariants.{Expression as OfExpression, Declarator as OfDeclarator, Statement as OfStatement}
use Rattle.ct_syntax.specs.Depths.{Room, all_room, in_expression as enter_expression, in_declarator as enter_declarator, in_statement as enter_statement}
use Rattle.ct_syntax.specs.Trees.{Expression, Name, Number, Character, Strings, Paren, Index, Call, Member, Postfix, Prefix, Unary, SizeofValue, SizeofType, Cast, Infix, Conditional, Assign, Comma}
use Rattle.ct_syntax.specs.Trees.{Expressions, no_expression, expression, Optional, absent, present}
use Rattle.ct_syntax.specs.Trees.{Specs, no_spec, spec_word, typedef_name, struct_tag, struct_list, enum_tag, enum_list, Members, no_member, member, Enumerators, no_enumerator, enumerator}
use Rattle.ct_syntax.specs.Trees.{Declarators, no_declarator, declarator, Declarator, Nameless, Called, Group, Pointer, Array, Function, Parameters, no_parameter, parameter}
use Rattle.ct_syntax.specs.Trees.{Designator, Next, OfMember, OfIndex, Initialiser, Value, Braces, InitialiserItems, no_item, item, InitDeclarator, Declaration, Declare, Assert, ForStart, StartDeclaration, StartValue}
use Rattle.ct_syntax.specs.Trees.{Statement, Block, Run, If, While, Do, For, Switch, Break, Continue, Return, Branches, no_branch, branch, Other, no_else, else_do, Body, no_part, case_label, default_label, declared, stated, Item, Definition, Outside, Lone}

abbrev pub Depth : Type 0
Depth = List Nest

-- the limit of a sort
abbrev pub kind_of : Nest → LimitKind
kind_of OfExpression = ExpressionDepth
kind_of OfDeclarator = DeclaratorDepth
kind_of OfStatement = StatementDepth

abbrev pub flat : Depth
flat = []

-- how many entries are of each sort
abbrev pub expressions_of : Depth → ℕ
expressions_of [] = zero
expressions_of (OfExpression ∷ a) = suc (expressions_of a)
expressions_of (_ ∷ a) = expressions_of a

abbrev pub declarators_of : Depth → ℕ
declarators_of [] = zero
declarators_of (OfDeclarator ∷ a) = suc (declarators_of a)
declarators_of (_ ∷ a) = declarators_of a

abbrev pub statements_of : Depth → ℕ
statements_of [] = zero
statements_of (OfStatement ∷ a) = suc (statements_of a)
statements_of (_ ∷ a) = statements_of a

-- the entries that go beyond what is reached already
abbrev pub beyond : ℕ → ℕ → ℕ → Depth → Depth
beyond e d s [] = []
beyond zero d s (OfExpression ∷ a) = OfExpression ∷ beyond zero d s a
beyond (suc e) d s (OfExpression ∷ a) = beyond e d s a
beyond e zero s (OfDeclarator ∷ a) = OfDeclarator ∷ beyond e zero s a
beyond e (suc d) s (OfDeclarator ∷ a) = beyond e d s a
beyond e d zero (OfStatement ∷ a) = OfStatement ∷ beyond e d zero a
beyond e d (suc s) (OfStatement ∷ a) = beyond e d s a

-- two parts, one behind the other
abbrev pub both : Depth → Depth → Depth
both a b = a ++ beyond (expressions_of a) (declarators_of a) (statements_of a) b

-- the entries but for those of each sort that stand behind a passed limit
abbrev pub shortened : ℕ → ℕ → ℕ → Depth → Depth
shortened e d s [] = []
shortened zero d s (OfExpression ∷ a) = shortened zero d s a
shortened (suc e) d s (OfExpression ∷ a) = OfExpression ∷ shortened e d s a
shortened e zero s (OfDeclarator ∷ a) = shortened e zero s a
shortened e (suc d) s (OfDeclarator ∷ a) = OfDeclarator ∷ shortened e d s a
shortened e d zero (OfStatement ∷ a) = shortened e d zero a
shortened e d (suc s) (OfStatement ∷ a) = OfStatement ∷ shortened e d s a

-- a construct round its parts
abbrev pub nested : Nest → Depth → Depth
nested n a = shortened 65 33 33 (n ∷ a)

abbrev pub in_expression : Depth → Depth
in_expression a = nested OfExpression a

abbrev pub in_declarator : Depth → Depth
in_declarator a = nested OfDeclarator a

abbrev pub in_statement : Depth → Depth
in_statement a = nested OfStatement a

-- the limit that is passed first, where so much more may be opened
abbrev pub passed_by : Room → Depth → Option LimitKind
passed_by r [] = None
passed_by r (OfExpression ∷ a) = enter_expression r (λ p. passed_by p a)
passed_by r (OfDeclarator ∷ a) = enter_declarator r (λ p. passed_by p a)
passed_by r (OfStatement ∷ a) = enter_statement r (λ p. passed_by p a)

-- whether no limit is passed
abbrev pub is_within : Depth → Bool
is_within a = is_none (passed_by all_room a)

abbrev mutual
  pub depth : Expression → Depth
  depth (Name t) = in_expression flat
  depth (Number t) = in_expression flat
  depth (Character t) = in_expression flat
  depth (Strings t ts) = in_expression flat
  depth (Paren x) = in_expression (depth x)
  depth (Index x i) = in_expression (both (depth x) (depth i))
  depth (Call f xs) = in_expression (both (depth f) (depths xs))
  depth (Member x o t) = in_expression (depth x)
  depth (Postfix x o) = in_expression (depth x)
  depth (Prefix o x) = in_expression (depth x)
  depth (Unary o x) = in_expression (depth x)
  depth (SizeofValue x) = in_expression (depth x)
  depth (SizeofType ss d) = in_expression (both (depth_specs ss) (depth_declarator d))
  depth (Cast ss d x) = in_expression (both (both (depth_specs ss) (depth_declarator d)) (depth x))
  depth (Infix o x y) = in_expression (both (depth x) (depth y))
  depth (Conditional c x y) = in_expression (both (both (depth c) (depth x)) (depth y))
  depth (Assign o x y) = in_expression (both (depth x) (depth y))
  depth (Comma x y) = in_expression (both (depth x) (depth y))

  pub depths : Expressions → Depth
  depths no_expression = flat
  depths (expression x xs) = both (depth x) (depths xs)

  pub depth_optional : Optional → Depth
  depth_optional absent = flat
  depth_optional (present x) = depth x

  pub depth_specs : Specs → Depth
  depth_specs no_spec = flat
  depth_specs (spec_word k ss) = depth_specs ss
  depth_specs (typedef_name t ss) = depth_specs ss
  depth_specs (struct_tag t ss) = depth_specs ss
  depth_specs (struct_list tag ms ss) = both (in_declarator (depth_members ms)) (depth_specs ss)
  depth_specs (enum_tag t ss) = depth_specs ss
  depth_specs (enum_list tag es comma ss) = both (depth_enumerators es) (depth_specs ss)

  pub depth_members : Members → Depth
  depth_members no_member = flat
  depth_members (member ss ds ms) = both (both (depth_specs ss) (depth_declarators ds)) (depth_members ms)

  pub depth_enumerators : Enumerators → Depth
  depth_enumerators no_enumerator = flat
  depth_enumerators (enumerator t v es) = both (depth_optional v) (depth_enumerators es)

  pub depth_declarators : Declarators → Depth
  depth_declarators no_declarator = flat
  depth_declarators (declarator d ds) = both (depth_declarator d) (depth_declarators ds)

  pub depth_declarator : Declarator → Depth
  depth_declarator Nameless = flat
  depth_declarator (Called t) = flat
  depth_declarator (Group d) = in_declarator (depth_declarator d)
  depth_declarator (Pointer qs d) = in_declarator (depth_declarator d)
  depth_declarator (Array d size) = in_declarator (both (depth_declarator d) (depth_optional size))
  depth_declarator (Function d f ps) = in_declarator (both (depth_declarator d) (depth_parameters ps))

  pub depth_parameters : Parameters → Depth
  depth_parameters no_parameter = flat
  depth_parameters (parameter ss d ps) = both (both (depth_specs ss) (depth_declarator d)) (depth_parameters ps)

abbrev pub depth_designator : Designator → Depth
depth_designator Next = flat
depth_designator (OfMember t) = flat
depth_designator (OfIndex x) = depth x

abbrev mutual
  pub depth_initialiser : Initialiser → Depth
  depth_initialiser (Value x) = depth x
  depth_initialiser (Braces is comma) = in_declarator (depth_items is)

  pub depth_items : InitialiserItems → Depth
  depth_items no_item = flat
  depth_items (item g v is) = both (both (depth_designator g) (depth_initialiser v)) (depth_items is)

abbrev pub depth_start : Option Initialiser → Depth
depth_start None = flat
depth_start (Some v) = depth_initialiser v

abbrev pub depth_init_declarators : List InitDeclarator → Depth
depth_init_declarators [] = flat
depth_init_declarators (d ∷ ds) = both (both (depth_declarator d.declarator) (depth_start d.start)) (depth_init_declarators ds)

abbrev pub depth_declaration : Declaration → Depth
depth_declaration (Declare ss ds) = both (depth_specs ss) (depth_init_declarators ds)
depth_declaration (Assert x t) = depth x

abbrev pub depth_maybe : Option Expression → Depth
depth_maybe None = flat
depth_maybe (Some x) = depth x

abbrev pub depth_for_start : ForStart → Depth
depth_for_start (StartDeclaration d) = depth_declaration d
depth_for_start (StartValue x) = depth_maybe x

-- The branches of one `if` are at one level.
abbrev mutual
  pub depth_statement : Statement → Depth
  depth_statement (Block b) = in_statement (depth_body b)
  depth_statement (Run x) = in_statement (depth_maybe x)
  depth_statement (If bs o) = in_statement (both (depth_branches bs) (depth_other o))
  depth_statement (While c s) = in_statement (both (depth c) (depth_statement s))
  depth_statement (Do s c) = in_statement (both (depth_statement s) (depth c))
  depth_statement (For f c e s) = in_statement (both (both (both (depth_for_start f) (depth_maybe c)) (depth_maybe e)) (depth_statement s))
  depth_statement (Switch x b) = in_statement (both (depth x) (depth_body b))
  depth_statement Break = in_statement flat
  depth_statement Continue = in_statement flat
  depth_statement (Return x) = in_statement (depth_maybe x)

  pub depth_branches : Branches → Depth
  depth_branches no_branch = flat
  depth_branches (branch c s bs) = both (both (depth c) (depth_statement s)) (depth_branches bs)

  pub depth_other : Other → Depth
  depth_other no_else = flat
  depth_other (else_do s) = depth_statement s

  pub depth_body : Body → Depth
  depth_body no_part = flat
  depth_body (case_label x b) = both (depth x) (depth_body b)
  depth_body (default_label b) = depth_body b
  depth_body (declared d b) = both (depth_declaration d) (depth_body b)
  depth_body (stated s b) = both (depth_statement s) (depth_body b)

-- The block of a function is itself a statement.
abbrev pub depth_item : Item → Depth
depth_item (Definition ss d b) = both (both (depth_specs ss) (depth_declarator d)) (in_statement (depth_body b))
depth_item (Outside d) = depth_declaration d
depth_item Lone = flat

abbrev pub depth_unit : List Item → Depth
depth_unit [] = flat
depth_unit (i ∷ is) = both (depth_item i) (depth_unit is)
