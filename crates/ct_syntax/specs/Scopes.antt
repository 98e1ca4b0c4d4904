-- Which names are typedef names. A declaration is in scope from the end of its declarator on, and an enumerator
-- from its own end on (C11 6.2.1p7). A tag or a member declares no name of this kind. A type name in an
-- expression declares nothing for what stands behind it.
use Rattle.std.specs.Prelude.{Bool, true, false, if◌then◌else◌, List, [], ◌∷◌, Option, Some, None}
use Rattle.std.specs.Str.{bytes_eq}
use Rattle.ct_syntax.specs.declared.words.SpecWord.TheVariants as s
use Rattle.ct_syntax.specs.Words.{Text}
use Rattle.ct_syntax.specs.Trees.{Specs, no_spec, spec_word, typedef_name, struct_tag, struct_list, enum_tag, enum_list, Members, no_member, member, Enumerators, no_enumerator, enumerator}
use Rattle.ct_syntax.specs.Trees.{Declarator, Nameless, Called, Group, Pointer, Array, Function, Parameters, no_parameter, parameter}
use Rattle.ct_syntax.specs.Trees.{InitDeclarator, Declaration, Declare, Assert, ForStart, StartDeclaration, StartValue, Item, Definition, Outside, Lone}

abbrev pub Scope : Type 0
Scope = Text → Bool

-- before the first declaration of a unit
abbrev pub no_names : Scope
no_names t = false

-- A scope in which a name is declared besides, as a typedef name or not: it hides what it was.
abbrev pub with_name : Scope → Text → Bool → Scope
with_name scope t is_type u = if bytes_eq t u then is_type else scope u

abbrev pub with_maybe : Scope → Option Text → Bool → Scope
with_maybe scope None is_type = scope
with_maybe scope (Some t) is_type = with_name scope t is_type

abbrev pub name_of : Declarator → Option Text
name_of Nameless = None
name_of (Called t) = Some t
name_of (Group d) = name_of d
name_of (Pointer qs d) = name_of d
name_of (Array d size) = name_of d
name_of (Function d f ps) = name_of d

abbrev pub is_typedef : Specs → Bool
is_typedef no_spec = false
is_typedef (spec_word s.Typedef ss) = true
is_typedef (spec_word w ss) = is_typedef ss
is_typedef (typedef_name t ss) = is_typedef ss
is_typedef (struct_tag t ss) = is_typedef ss
is_typedef (struct_list tag ms ss) = is_typedef ss
is_typedef (enum_tag t ss) = is_typedef ss
is_typedef (enum_list tag es comma ss) = is_typedef ss

-- the enumerators of specifiers, those in its member lists too
abbrev mutual
  pub after_specs : Scope → Specs → Scope
  after_specs scope no_spec = scope
  after_specs scope (spec_word w ss) = after_specs scope ss
  after_specs scope (typedef_name t ss) = after_specs scope ss
  after_specs scope (struct_tag t ss) = after_specs scope ss
  after_specs scope (struct_list tag ms ss) = after_specs (after_members scope ms) ss
  after_specs scope (enum_tag t ss) = after_specs scope ss
  after_specs scope (enum_list tag es comma ss) = after_specs (after_enumerators scope es) ss

  pub after_members : Scope → Members → Scope
  after_members scope no_member = scope
  after_members scope (member ss ds ms) = after_members (after_specs scope ss) ms

  pub after_enumerators : Scope → Enumerators → Scope
  after_enumerators scope no_enumerator = scope
  after_enumerators scope (enumerator t v es) = after_enumerators (with_name scope t false) es

-- behind a declarator of these specifiers
abbrev pub after_declarator : Scope → Specs → Declarator → Scope
after_declarator scope ss d = with_maybe scope (name_of d) (is_typedef ss)

-- inside a parameter list, behind these parameters
abbrev pub after_parameters : Scope → Parameters → Scope
after_parameters scope no_parameter = scope
after_parameters scope (parameter ss d ps) = after_parameters (after_declarator (after_specs scope ss) ss d) ps

abbrev pub after_init_declarators : Scope → Specs → List InitDeclarator → Scope
after_init_declarators scope ss [] = scope
after_init_declarators scope ss (d ∷ ds) = after_init_declarators (after_declarator scope ss d.declarator) ss ds

abbrev pub after_declaration : Scope → Declaration → Scope
after_declaration scope (Declare ss ds) = after_init_declarators (after_specs scope ss) ss ds
after_declaration scope (Assert x t) = scope

abbrev pub after_for_start : Scope → ForStart → Scope
after_for_start scope (StartDeclaration d) = after_declaration scope d
after_for_start scope (StartValue x) = scope

-- a name, in parentheses or not
abbrev pub is_plain_declarator : Declarator → Bool
is_plain_declarator (Called t) = true
is_plain_declarator (Group d) = is_plain_declarator d
is_plain_declarator _ = false

-- The parameter list of the function that a declarator names: the one right behind the name.
abbrev pub own_parameters : Declarator → Parameters
own_parameters (Function d f ps) = if is_plain_declarator d then ps else own_parameters d
own_parameters (Group d) = own_parameters d
own_parameters (Pointer qs d) = own_parameters d
own_parameters (Array d size) = own_parameters d
own_parameters _ = no_parameter

-- behind a definition, whose parameters are in scope in its body alone
abbrev pub after_item : Scope → Item → Scope
after_item scope (Definition ss d b) = after_declarator (after_specs scope ss) ss d
after_item scope (Outside d) = after_declaration scope d
after_item scope Lone = scope

abbrev pub inside_definition : Scope → Specs → Declarator → Scope
inside_definition scope ss d = after_parameters (after_declarator (after_specs scope ss) ss d) (own_parameters d)

abbrev pub after_unit : Scope → List Item → Scope
after_unit scope [] = scope
after_unit scope (i ∷ is) = after_unit (after_item scope i) is
