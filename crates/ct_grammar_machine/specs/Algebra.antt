-- What a parser builds, production by production: trees, or trees up to a depth.
use Rattle.std.specs.Prelude.{ℕ, Bool, not, ◌==◌, ◌&&◌, List, [], ◌∷◌, ◌++◌, Option, Some, None}
use Rattle.ct_syntax.specs.declared.words.StepOp.{StepOp}
use Rattle.ct_syntax.specs.declared.words.PrefixOp.{PrefixOp}
use Rattle.ct_syntax.specs.declared.words.InfixOp.{InfixOp}
use Rattle.ct_syntax.specs.declared.words.AssignOp.{AssignOp}
use Rattle.ct_syntax.specs.declared.words.MemberOp.{MemberOp}
use Rattle.ct_syntax.specs.declared.words.Qualifier.{Qualifier}
use Rattle.ct_syntax.specs.declared.words.SpecWord.{SpecWord}
use Rattle.ct_syntax.specs.declared.expressions.ParameterForm.{ParameterForm}
use Rattle.ct_syntax.specs.Words.{Text}
use Rattle.ct_syntax.specs.Trees as t
use Rattle.ct_syntax.specs.Scopes.{Scope, name_of, is_typedef, after_parameters, own_parameters}
use Rattle.ct_syntax.specs.TypeWords.{form_type, whole_types, specifier_words, same_words}
use Rattle.ct_syntax.specs.Grammar.{expression_level, is_only_void}

pub data Sort : Type 0 where
  expr : Sort
  exprs : Sort
  specs : Sort
  members : Sort
  enumerators : Sort
  declarators : Sort
  decl : Sort
  parameters : Sort
  init : Sort
  inits : Sort
  init_declarators : Sort
  declaration : Sort
  for_start : Sort
  stmt : Sort
  branches : Sort
  body : Sort
  items : Sort

-- what an initialiser in braces is for
pub data Aimed (C : Sort → Type 0) : Type 0 where
  AtNext : Aimed C
  AtMember : (name : Text) → Aimed C
  AtIndex : (place : C expr) → Aimed C

-- A list is built from its beginning. The last fields are what control reads from what is built.
pub record Algebra (C : Sort → Type 0) : Type 0 where
  pub name : Text → C expr
  pub number : Text → C expr
  pub character : Text → C expr
  pub strings : Text → List Text → C expr
  pub paren : C expr → C expr
  pub index : C expr → C expr → C expr
  pub call : C expr → C exprs → C expr
  pub member_of : C expr → MemberOp → Text → C expr
  pub postfix : C expr → StepOp → C expr
  pub prefixed : StepOp → C expr → C expr
  pub unary : PrefixOp → C expr → C expr
  pub sizeof_value : C expr → C expr
  pub sizeof_type : C specs → C decl → C expr
  pub cast : C specs → C decl → C expr → C expr
  pub infixed : InfixOp → C expr → C expr → C expr
  pub conditional : C expr → C expr → C expr → C expr
  pub assign : AssignOp → C expr → C expr → C expr
  pub comma : C expr → C expr → C expr
  pub no_arguments : C exprs
  pub push : C exprs → C expr → C exprs
  pub no_specs : C specs
  pub with_word : C specs → SpecWord → C specs
  pub with_typedef : C specs → Text → C specs
  pub with_struct_tag : C specs → Text → C specs
  pub with_struct : C specs → Option Text → C members → C specs
  pub with_enum_tag : C specs → Text → C specs
  pub with_enum : C specs → Option Text → C enumerators → Bool → C specs
  pub no_members : C members
  pub push_member : C members → C specs → C declarators → C members
  pub no_declarators : C declarators
  pub push_declarator : C declarators → C decl → C declarators
  pub no_enumerators : C enumerators
  pub push_enumerator : C enumerators → Text → C enumerators
  pub push_valued : C enumerators → Text → C expr → C enumerators
  pub nameless : C decl
  pub called : Text → C decl
  pub group : C decl → C decl
  pub pointer : List Qualifier → C decl → C decl
  pub array_open : C decl → C decl
  pub array : C decl → C expr → C decl
  pub function : C decl → ParameterForm → C parameters → C decl
  pub no_parameters : C parameters
  pub push_parameter : C parameters → C specs → C decl → C parameters
  pub value_init : C expr → C init
  pub braces : C inits → Bool → C init
  pub no_inits : C inits
  pub push_init : C inits → Aimed C → C init → C inits
  pub no_init_declarators : C init_declarators
  pub push_init_declarator : C init_declarators → C decl → Option (C init) → C init_declarators
  pub declare : C specs → C init_declarators → C declaration
  pub assert : C expr → Text → C declaration
  pub start_declaration : C declaration → C for_start
  pub start_value : Option (C expr) → C for_start
  pub block : C body → C stmt
  pub run : Option (C expr) → C stmt
  pub if_else : C branches → Option (C stmt) → C stmt
  pub while_loop : C expr → C stmt → C stmt
  pub do_loop : C stmt → C expr → C stmt
  pub for_loop : C for_start → Option (C expr) → Option (C expr) → C stmt → C stmt
  pub switch : C expr → C body → C stmt
  pub break : C stmt
  pub continue : C stmt
  pub return : Option (C expr) → C stmt
  pub no_branches : C branches
  pub push_branch : C branches → C expr → C stmt → C branches
  pub no_body : C body
  pub push_case : C body → C expr → C body
  pub push_default : C body → C body
  pub push_declared : C body → C declaration → C body
  pub push_stated : C body → C stmt → C body
  pub no_items : C items
  pub push_definition : C items → C specs → C decl → C body → C items
  pub push_outside : C items → C declaration → C items
  pub push_lone : C items → C items
  pub level_of : C expr → ℕ
  pub forms_type : C specs → Bool
  pub has_type : C specs → Bool
  pub declares_types : C specs → Bool
  pub name_in : C decl → Option Text
  pub only_void : C parameters → Bool
  -- the scope inside the function that a declarator names
  pub inside : C decl → Scope → Scope

-- ---- trees

abbrev pub Tree : Sort → Type 0
Tree expr = t.Expression
Tree exprs = t.Expressions
Tree specs = t.Specs
Tree members = t.Members
Tree enumerators = t.Enumerators
Tree declarators = t.Declarators
Tree decl = t.Declarator
Tree parameters = t.Parameters
Tree init = t.Initialiser
Tree inits = t.InitialiserItems
Tree init_declarators = List t.InitDeclarator
Tree declaration = t.Declaration
Tree for_start = t.ForStart
Tree stmt = t.Statement
Tree branches = t.Branches
Tree body = t.Body
Tree items = List t.Item

abbrev pub expressions_then : t.Expressions → t.Expressions → t.Expressions
expressions_then t.no_expression ys = ys
expressions_then (t.expression x xs) ys = t.expression x (expressions_then xs ys)

abbrev pub specs_then : t.Specs → t.Specs → t.Specs
specs_then t.no_spec us = us
specs_then (t.spec_word w ss) us = t.spec_word w (specs_then ss us)
specs_then (t.typedef_name n ss) us = t.typedef_name n (specs_then ss us)
specs_then (t.struct_tag n ss) us = t.struct_tag n (specs_then ss us)
specs_then (t.struct_list tag ms ss) us = t.struct_list tag ms (specs_then ss us)
specs_then (t.enum_tag n ss) us = t.enum_tag n (specs_then ss us)
specs_then (t.enum_list tag es c ss) us = t.enum_list tag es c (specs_then ss us)

abbrev pub members_then : t.Members → t.Members → t.Members
members_then t.no_member ns = ns
members_then (t.member ss ds ms) ns = t.member ss ds (members_then ms ns)

abbrev pub enumerators_then : t.Enumerators → t.Enumerators → t.Enumerators
enumerators_then t.no_enumerator fs = fs
enumerators_then (t.enumerator n v es) fs = t.enumerator n v (enumerators_then es fs)

abbrev pub declarators_then : t.Declarators → t.Declarators → t.Declarators
declarators_then t.no_declarator es = es
declarators_then (t.declarator d ds) es = t.declarator d (declarators_then ds es)

abbrev pub parameters_then : t.Parameters → t.Parameters → t.Parameters
parameters_then t.no_parameter qs = qs
parameters_then (t.parameter ss d ps) qs = t.parameter ss d (parameters_then ps qs)

abbrev pub inits_then : t.InitialiserItems → t.InitialiserItems → t.InitialiserItems
inits_then t.no_item js = js
inits_then (t.item g v is) js = t.item g v (inits_then is js)

abbrev pub branches_then : t.Branches → t.Branches → t.Branches
branches_then t.no_branch cs = cs
branches_then (t.branch x s bs) cs = t.branch x s (branches_then bs cs)

abbrev pub body_then : t.Body → t.Body → t.Body
body_then t.no_part c = c
body_then (t.case_label x b) c = t.case_label x (body_then b c)
body_then (t.default_label b) c = t.default_label (body_then b c)
body_then (t.declared d b) c = t.declared d (body_then b c)
body_then (t.stated s b) c = t.stated s (body_then b c)

abbrev pub designator_of : Aimed Tree → t.Designator
designator_of AtNext = t.Next
designator_of (AtMember n) = t.OfMember n
designator_of (AtIndex x) = t.OfIndex x

abbrev pub other_of : Option t.Statement → t.Other
other_of None = t.no_else
other_of (Some s) = t.else_do s

-- whether a part of a type stands among specifiers
abbrev pub has_type_part : t.Specs → Bool
has_type_part ss = not ((whole_types ss == 0) && same_words (specifier_words ss) [])

abbrev pub trees_built : Algebra Tree
trees_built = record {
  name = t.Name;
  number = t.Number;
  character = t.Character;
  strings = t.Strings;
  paren = t.Paren;
  index = t.Index;
  call = t.Call;
  member_of = t.Member;
  postfix = t.Postfix;
  prefixed = t.Prefix;
  unary = t.Unary;
  sizeof_value = t.SizeofValue;
  sizeof_type = t.SizeofType;
  cast = t.Cast;
  infixed = t.Infix;
  conditional = t.Conditional;
  assign = t.Assign;
  comma = t.Comma;
  no_arguments = t.no_expression;
  push = λ xs x. expressions_then xs (t.expression x t.no_expression);
  no_specs = t.no_spec;
  with_word = λ ss w. specs_then ss (t.spec_word w t.no_spec);
  with_typedef = λ ss n. specs_then ss (t.typedef_name n t.no_spec);
  with_struct_tag = λ ss n. specs_then ss (t.struct_tag n t.no_spec);
  with_struct = λ ss tag ms. specs_then ss (t.struct_list tag ms t.no_spec);
  with_enum_tag = λ ss n. specs_then ss (t.enum_tag n t.no_spec);
  with_enum = λ ss tag es c. specs_then ss (t.enum_list tag es c t.no_spec);
  no_members = t.no_member;
  push_member = λ ms ss ds. members_then ms (t.member ss ds t.no_member);
  no_declarators = t.no_declarator;
  push_declarator = λ ds d. declarators_then ds (t.declarator d t.no_declarator);
  no_enumerators = t.no_enumerator;
  push_enumerator = λ es n. enumerators_then es (t.enumerator n t.absent t.no_enumerator);
  push_valued = λ es n x. enumerators_then es (t.enumerator n (t.present x) t.no_enumerator);
  nameless = t.Nameless;
  called = t.Called;
  group = t.Group;
  pointer = t.Pointer;
  array_open = λ d. t.Array d t.absent;
  array = λ d x. t.Array d (t.present x);
  function = t.Function;
  no_parameters = t.no_parameter;
  push_parameter = λ ps ss d. parameters_then ps (t.parameter ss d t.no_parameter);
  value_init = t.Value;
  braces = t.Braces;
  no_inits = t.no_item;
  push_init = λ is g v. inits_then is (t.item (designator_of g) v t.no_item);
  no_init_declarators = [];
  push_init_declarator = λ ds d v. ds ++ record { declarator = d; start = v } ∷ [];
  declare = t.Declare;
  assert = t.Assert;
  start_declaration = t.StartDeclaration;
  start_value = t.StartValue;
  block = t.Block;
  run = t.Run;
  if_else = λ bs o. t.If bs (other_of o);
  while_loop = t.While;
  do_loop = t.Do;
  for_loop = t.For;
  switch = t.Switch;
  break = t.Break;
  continue = t.Continue;
  return = t.Return;
  no_branches = t.no_branch;
  push_branch = λ bs x s. branches_then bs (t.branch x s t.no_branch);
  no_body = t.no_part;
  push_case = λ b x. body_then b (t.case_label x t.no_part);
  push_default = λ b. body_then b (t.default_label t.no_part);
  push_declared = λ b d. body_then b (t.declared d t.no_part);
  push_stated = λ b s. body_then b (t.stated s t.no_part);
  no_items = [];
  push_definition = λ is ss d b. is ++ t.Definition ss d b ∷ [];
  push_outside = λ is d. is ++ t.Outside d ∷ [];
  push_lone = λ is. is ++ t.Lone ∷ [];
  level_of = expression_level;
  forms_type = form_type;
  has_type = has_type_part;
  declares_types = is_typedef;
  name_in = name_of;
  only_void = is_only_void;
  inside = λ d scope. after_parameters scope (own_parameters d);
}
