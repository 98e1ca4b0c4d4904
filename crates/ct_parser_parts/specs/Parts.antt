-- Trees up to the limits of depth: what is deeper is read, and not built. Of each part stands besides what control
-- reads.
use Rattle.std.specs.Prelude.{ℕ, ◌+◌, ◌==◌, ◌&&◌, ◌||◌, not, Bool, true, false, if◌then◌else◌, List, [], ◌∷◌, ◌++◌, Option, Some, None, option_map}
use Rattle.std.specs.List.{list_any}
use Rattle.ct_syntax.specs.declared.words.SpecWord.{SpecWord}
use Rattle.ct_syntax.specs.declared.words.SpecWord.TheVariants as s
use Rattle.ct_syntax.specs.Words.{Text}
use Rattle.ct_syntax.specs.Scopes.{Scope, with_name, name_of, is_typedef, is_plain_declarator, own_parameters}
use Rattle.ct_syntax.specs.TypeWords.{same_words, type_lists, specifier_words, whole_types}
use Rattle.ct_syntax.specs.Grammar.{infix_level, expression_level, is_only_void}
use Rattle.ct_parser_parts.specs.Reach.{Depth, flat, both, in_expression, in_declarator, in_statement, is_within, depth, depths, depth_specs, depth_members, depth_enumerators, depth_declarators, depth_declarator, depth_parameters, depth_initialiser, depth_items, depth_init_declarators, depth_declaration, depth_for_start, depth_statement, depth_branches, depth_body, depth_unit}
use Rattle.ct_syntax.specs.Trees as t
use Rattle.ct_grammar_machine.specs.Algebra.{Sort, expr, exprs, specs, members, enumerators, declarators, decl, parameters, init, inits, init_declarators, declaration, for_start, stmt, branches, body, items, Aimed, AtNext, AtMember, AtIndex, Algebra, Tree, designator_of, other_of, expressions_then, specs_then, members_then, enumerators_then, declarators_then, parameters_then, inits_then, branches_then, body_then}

-- ---- what control reads

-- names in the order in which they are declared, each with whether it is a typedef name
abbrev pub Names : Type 0
Names = List (Text × Bool)

abbrev pub declare_all : Scope → Names → Scope
declare_all scope [] = scope
declare_all scope ((u, is_type) ∷ ns) = declare_all (with_name scope u is_type) ns

abbrev mutual
  pub names_specs : t.Specs → Names
  names_specs t.no_spec = []
  names_specs (t.spec_word w ss) = names_specs ss
  names_specs (t.typedef_name u ss) = names_specs ss
  names_specs (t.struct_tag u ss) = names_specs ss
  names_specs (t.struct_list tag ms ss) = names_members ms ++ names_specs ss
  names_specs (t.enum_tag u ss) = names_specs ss
  names_specs (t.enum_list tag es c ss) = names_enumerators es ++ names_specs ss

  pub names_members : t.Members → Names
  names_members t.no_member = []
  names_members (t.member ss ds ms) = names_specs ss ++ names_members ms

  pub names_enumerators : t.Enumerators → Names
  names_enumerators t.no_enumerator = []
  names_enumerators (t.enumerator u v es) = (u, false) ∷ names_enumerators es

abbrev pub name_maybe : Option Text → Bool → Names
name_maybe None is_type = []
name_maybe (Some u) is_type = (u, is_type) ∷ []

abbrev pub names_parameters : t.Parameters → Names
names_parameters t.no_parameter = []
names_parameters (t.parameter ss d ps) = names_specs ss ++ (name_maybe (name_of d) (is_typedef ss) ++ names_parameters ps)

pub record SpecInfo : Type 0 where
  pub words : List SpecWord
  pub wholes : ℕ
  pub typedef : Bool
  pub names : Names

pub record DeclaratorInfo : Type 0 where
  pub nameless : Bool
  pub name : Option Text
  pub plain : Bool
  pub own : Names

pub record ParameterInfo : Type 0 where
  pub empty : Bool
  pub only_void : Bool
  pub names : Names

abbrev pub Info : Sort → Type 0
Info expr = ℕ
Info specs = SpecInfo
Info members = Names
Info enumerators = Names
Info decl = DeclaratorInfo
Info parameters = ParameterInfo
Info _ = Unit {0}

abbrev pub is_typedef_word : SpecWord → Bool
is_typedef_word s.Typedef = true
is_typedef_word _ = false

abbrev pub is_nameless : t.Declarator → Bool
is_nameless t.Nameless = true
is_nameless _ = false

abbrev pub is_empty : t.Parameters → Bool
is_empty t.no_parameter = true
is_empty _ = false

abbrev pub is_one_void : List SpecWord → Bool
is_one_void (s.Void ∷ []) = true
is_one_void _ = false

abbrev pub spec_info : t.Specs → SpecInfo
spec_info ss = record { words = specifier_words ss; wholes = whole_types ss; typedef = is_typedef ss; names = names_specs ss }

abbrev pub declarator_info : t.Declarator → DeclaratorInfo
declarator_info d = record { nameless = is_nameless d; name = name_of d; plain = is_plain_declarator d; own = names_parameters (own_parameters d) }

abbrev pub parameter_info : t.Parameters → ParameterInfo
parameter_info ps = record { empty = is_empty ps; only_void = is_only_void ps; names = names_parameters ps }

abbrev pub info_of : (sort : Sort) → Tree sort → Info sort
info_of expr x = expression_level x
info_of specs ss = spec_info ss
info_of members ms = names_members ms
info_of enumerators es = names_enumerators es
info_of decl d = declarator_info d
info_of parameters ps = parameter_info ps
info_of exprs x = tt
info_of declarators x = tt
info_of init x = tt
info_of inits x = tt
info_of init_declarators x = tt
info_of declaration x = tt
info_of for_start x = tt
info_of stmt x = tt
info_of branches x = tt
info_of body x = tt
info_of items x = tt

-- the words of a type, and how many whole types stand beside them
abbrev pub form_words : List SpecWord → ℕ → Bool
form_words ws n = ((n == 0) && list_any (same_words ws) type_lists) || ((n == 1) && same_words ws [])

abbrev pub has_part : List SpecWord → ℕ → Bool
has_part ws n = not ((n == 0) && same_words ws [])

-- ---- what is built

abbrev pub depth_of : (sort : Sort) → Tree sort → Depth
depth_of expr x = depth x
depth_of exprs xs = depths xs
depth_of specs ss = depth_specs ss
depth_of members ms = depth_members ms
depth_of enumerators es = depth_enumerators es
depth_of declarators ds = depth_declarators ds
depth_of decl d = depth_declarator d
depth_of parameters ps = depth_parameters ps
depth_of init v = depth_initialiser v
depth_of inits is = depth_items is
depth_of init_declarators ds = depth_init_declarators ds
depth_of declaration d = depth_declaration d
depth_of for_start f = depth_for_start f
depth_of stmt u = depth_statement u
depth_of branches bs = depth_branches bs
depth_of body c = depth_body c
depth_of items is = depth_unit is

-- a tree, if it passes no limit, and what is reached in it
pub record Built (T : Type 0) : Type 0 where
  pub tree : Option T
  pub reach : Depth

abbrev pub kept : {T : Type 0} → Bool → Option T → Option T
kept false x = None
kept true x = x

abbrev pub fit : {T : Type 0} → Depth → T → Built T
fit d x = record { tree = kept (is_within d) (Some x); reach = d }

pub record Part (sort : Sort) : Type 0 where
  pub built : Built (Tree sort)
  pub info : Info sort

abbrev pub part : (sort : Sort) → Tree sort → Part sort
part sort x = record { built = fit (depth_of sort x) x; info = info_of sort x }

-- a construct round what is built, if it is
abbrev pub one : {A R : Type 0} → (Depth → Depth) → (A → R) → Built A → Built R
one g f a = record { tree = option_map f (kept (is_within (g a.reach)) a.tree); reach = g a.reach }

abbrev pub option_pair : {A B : Type 0} → Option A → Option B → Option (A × B)
option_pair None y = None
option_pair (Some x) None = None
option_pair (Some x) (Some y) = Some (x, y)

-- two parts, one behind the other
abbrev pub pair : {A B : Type 0} → Built A → Built B → Built (A × B)
pair a b = record { tree = option_pair a.tree b.tree; reach = both a.reach b.reach }

-- a part that is no construct of its own
abbrev pub over : {A R : Type 0} → (A → R) → Built A → Built R
over f a = record { tree = option_map f a.tree; reach = a.reach }

abbrev pub built_of : (sort : Sort) → Option (Part sort) → Built (Option (Tree sort))
built_of sort None = record { tree = Some None; reach = flat }
built_of sort (Some x) = over Some x.built

abbrev pub aimed : Aimed Part → Built (Aimed Tree)
aimed AtNext = record { tree = Some AtNext; reach = flat }
aimed (AtMember u) = record { tree = Some (AtMember u); reach = flat }
aimed (AtIndex x) = over AtIndex x.built

abbrev pub make : (sort : Sort) → Built (Tree sort) → Info sort → Part sort
make sort x i = record { built = x; info = i }

-- ---- the productions

abbrev pub with_whole : SpecInfo → Names → SpecInfo
with_whole i ns = record { words = i.words; wholes = i.wholes + 1; typedef = i.typedef; names = i.names ++ ns }

abbrev pub wrapped : Bool → DeclaratorInfo → DeclaratorInfo
wrapped plain i = record { nameless = false; name = i.name; plain = plain; own = i.own }

abbrev pub is_void : SpecInfo → Bool
is_void i = is_one_void i.words && (i.wholes == 0)

-- one declarator more, with an initialiser or without
abbrev pub started : Built (List t.InitDeclarator) → Built t.Declarator → Built (Option t.Initialiser) → Built (List t.InitDeclarator)
started x y v = over (λ p. p.0 ++ record { declarator = p.1.0; start = p.1.1 } ∷ []) (pair x (pair y v))

-- an `if`, with an `else` or without
abbrev pub branched : Built t.Branches → Built (Option t.Statement) → Built t.Statement
branched x y = one in_statement (λ p. t.If p.0 (other_of p.1)) (pair x y)

abbrev pub parts_built : Algebra Part
parts_built = record {
  name = λ u. make expr (fit (in_expression flat) (t.Name u)) 16;
  number = λ u. make expr (fit (in_expression flat) (t.Number u)) 16;
  character = λ u. make expr (fit (in_expression flat) (t.Character u)) 16;
  strings = λ u us. make expr (fit (in_expression flat) (t.Strings u us)) 16;
  paren = λ x. make expr (one in_expression (t.Paren) x.built) 16;
  index = λ x y. make expr (one in_expression (λ p. t.Index p.0 p.1) (pair x.built y.built)) 16;
  call = λ x y. make expr (one in_expression (λ p. t.Call p.0 p.1) (pair x.built y.built)) 16;
  member_of = λ x o u. make expr (one in_expression (λ z. t.Member z o u) x.built) 16;
  postfix = λ x o. make expr (one in_expression (λ z. t.Postfix z o) x.built) 16;
  prefixed = λ o x. make expr (one in_expression (t.Prefix o) x.built) 15;
  unary = λ o x. make expr (one in_expression (t.Unary o) x.built) 15;
  sizeof_value = λ x. make expr (one in_expression (t.SizeofValue) x.built) 15;
  sizeof_type = λ x y. make expr (one in_expression (λ p. t.SizeofType p.0 p.1) (pair x.built y.built)) 15;
  cast = λ x y z. make expr (one in_expression (λ p. t.Cast p.0.0 p.0.1 p.1) (pair (pair x.built y.built) z.built)) 14;
  infixed = λ o x y. make expr (one in_expression (λ p. t.Infix o p.0 p.1) (pair x.built y.built)) (infix_level o);
  conditional = λ x y z. make expr (one in_expression (λ p. t.Conditional p.0.0 p.0.1 p.1) (pair (pair x.built y.built) z.built)) 3;
  assign = λ o x y. make expr (one in_expression (λ p. t.Assign o p.0 p.1) (pair x.built y.built)) 2;
  comma = λ x y. make expr (one in_expression (λ p. t.Comma p.0 p.1) (pair x.built y.built)) 1;
  no_arguments = make exprs (fit flat t.no_expression) tt;
  push = λ x y. make exprs (over (λ p. expressions_then p.0 (t.expression p.1 t.no_expression)) (pair x.built y.built)) tt;
  no_specs = make specs (fit flat t.no_spec) (record { words = []; wholes = 0; typedef = false; names = [] });
  with_word = λ x k. make specs (over (λ z. specs_then z (t.spec_word k t.no_spec)) x.built) (record { words = x.info.words ++ k ∷ []; wholes = x.info.wholes; typedef = x.info.typedef || is_typedef_word k; names = x.info.names });
  with_typedef = λ x u. make specs (over (λ z. specs_then z (t.typedef_name u t.no_spec)) x.built) (with_whole x.info []);
  with_struct_tag = λ x u. make specs (over (λ z. specs_then z (t.struct_tag u t.no_spec)) x.built) (with_whole x.info []);
  with_struct = λ x u y. make specs (over (λ p. specs_then p.0 (t.struct_list u p.1 t.no_spec)) (pair x.built (one in_declarator (λ z. z) y.built))) (with_whole x.info y.info);
  with_enum_tag = λ x u. make specs (over (λ z. specs_then z (t.enum_tag u t.no_spec)) x.built) (with_whole x.info []);
  with_enum = λ x u y c. make specs (over (λ p. specs_then p.0 (t.enum_list u p.1 c t.no_spec)) (pair x.built y.built)) (with_whole x.info y.info);
  no_members = make members (fit flat t.no_member) [];
  push_member = λ x y z. make members (over (λ p. members_then p.0 (t.member p.1.0 p.1.1 t.no_member)) (pair x.built (pair y.built z.built))) (x.info ++ y.info.names);
  no_declarators = make declarators (fit flat t.no_declarator) tt;
  push_declarator = λ x y. make declarators (over (λ p. declarators_then p.0 (t.declarator p.1 t.no_declarator)) (pair x.built y.built)) tt;
  no_enumerators = make enumerators (fit flat t.no_enumerator) [];
  push_enumerator = λ x u. make enumerators (over (λ z. enumerators_then z (t.enumerator u t.absent t.no_enumerator)) x.built) (x.info ++ (u, false) ∷ []);
  push_valued = λ x u y. make enumerators (over (λ p. enumerators_then p.0 (t.enumerator u (t.present p.1) t.no_enumerator)) (pair x.built y.built)) (x.info ++ (u, false) ∷ []);
  nameless = make decl (fit flat t.Nameless) (record { nameless = true; name = None; plain = false; own = [] });
  called = λ u. make decl (fit flat (t.Called u)) (record { nameless = false; name = Some u; plain = true; own = [] });
  group = λ x. make decl (one in_declarator t.Group x.built) (wrapped x.info.plain x.info);
  pointer = λ qs x. make decl (one in_declarator (t.Pointer qs) x.built) (wrapped false x.info);
  array_open = λ x. make decl (one in_declarator (λ z. t.Array z t.absent) x.built) (wrapped false x.info);
  array = λ x y. make decl (one in_declarator (λ p. t.Array p.0 (t.present p.1)) (pair x.built y.built)) (wrapped false x.info);
  function = λ x k y. make decl (one in_declarator (λ p. t.Function p.0 k p.1) (pair x.built y.built)) (record { nameless = false; name = x.info.name; plain = false; own = if x.info.plain then y.info.names else x.info.own });
  no_parameters = make parameters (fit flat t.no_parameter) (record { empty = true; only_void = false; names = [] });
  push_parameter = λ x y z. make parameters (over (λ p. parameters_then p.0 (t.parameter p.1.0 p.1.1 t.no_parameter)) (pair x.built (pair y.built z.built))) (record { empty = false; only_void = x.info.empty && (is_void y.info && z.info.nameless); names = x.info.names ++ (y.info.names ++ name_maybe z.info.name y.info.typedef) });
  value_init = λ x. make init (over t.Value x.built) tt;
  braces = λ x c. make init (one in_declarator (λ z. t.Braces z c) x.built) tt;
  no_inits = make inits (fit flat t.no_item) tt;
  push_init = λ x g y. make inits (over (λ p. inits_then p.0 (t.item (designator_of p.1.0) p.1.1 t.no_item)) (pair x.built (pair (aimed g) y.built))) tt;
  no_init_declarators = make init_declarators (fit flat []) tt;
  push_init_declarator = λ x y v. make init_declarators (over (λ p. p.0 ++ record { declarator = p.1.0; start = p.1.1 } ∷ []) (pair x.built (pair y.built (built_of init v)))) tt;
  declare = λ x y. make declaration (over (λ p. t.Declare p.0 p.1) (pair x.built y.built)) tt;
  assert = λ x u. make declaration (over (λ z. t.Assert z u) x.built) tt;
  start_declaration = λ x. make for_start (over t.StartDeclaration x.built) tt;
  start_value = λ x. make for_start (over t.StartValue (built_of expr x)) tt;
  block = λ x. make stmt (one in_statement t.Block x.built) tt;
  run = λ x. make stmt (one in_statement t.Run (built_of expr x)) tt;
  if_else = λ x y. make stmt (one in_statement (λ p. t.If p.0 (other_of p.1)) (pair x.built (built_of stmt y))) tt;
  while_loop = λ x y. make stmt (one in_statement (λ p. t.While p.0 p.1) (pair x.built y.built)) tt;
  do_loop = λ x y. make stmt (one in_statement (λ p. t.Do p.0 p.1) (pair x.built y.built)) tt;
  for_loop = λ x y z v. make stmt (one in_statement (λ p. t.For p.0.0.0 p.0.0.1 p.0.1 p.1) (pair (pair (pair x.built (built_of expr y)) (built_of expr z)) v.built)) tt;
  switch = λ x y. make stmt (one in_statement (λ p. t.Switch p.0 p.1) (pair x.built y.built)) tt;
  break = make stmt (fit (in_statement flat) t.Break) tt;
  continue = make stmt (fit (in_statement flat) t.Continue) tt;
  return = λ x. make stmt (one in_statement t.Return (built_of expr x)) tt;
  no_branches = make branches (fit flat t.no_branch) tt;
  push_branch = λ x y z. make branches (over (λ p. branches_then p.0 (t.branch p.1.0 p.1.1 t.no_branch)) (pair x.built (pair y.built z.built))) tt;
  no_body = make body (fit flat t.no_part) tt;
  push_case = λ x y. make body (over (λ p. body_then p.0 (t.case_label p.1 t.no_part)) (pair x.built y.built)) tt;
  push_default = λ x. make body (over (λ z. body_then z (t.default_label t.no_part)) x.built) tt;
  push_declared = λ x y. make body (over (λ p. body_then p.0 (t.declared p.1 t.no_part)) (pair x.built y.built)) tt;
  push_stated = λ x y. make body (over (λ p. body_then p.0 (t.stated p.1 t.no_part)) (pair x.built y.built)) tt;
  no_items = make items (fit flat []) tt;
  push_definition = λ x y z v. make items (over (λ p. p.0 ++ t.Definition p.1.0.0 p.1.0.1 p.1.1 ∷ []) (pair x.built (pair (pair y.built z.built) (one in_statement (λ c. c) v.built)))) tt;
  push_outside = λ x y. make items (over (λ p. p.0 ++ t.Outside p.1 ∷ []) (pair x.built y.built)) tt;
  push_lone = λ x. make items (over (λ z. z ++ t.Lone ∷ []) x.built) tt;
  level_of = λ x. x.info;
  forms_type = λ x. form_words x.info.words x.info.wholes;
  has_type = λ x. has_part x.info.words x.info.wholes;
  declares_types = λ x. x.info.typedef;
  name_in = λ x. x.info.name;
  only_void = λ x. x.info.only_void;
  inside = λ x scope. declare_all scope x.info.own;
}
