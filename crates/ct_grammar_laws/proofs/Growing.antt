-- What is read of a unit does not depend on the items before it.
use Rattle.std.proofs.Common.{◌≡◌, List, [], ◌∷◌, Option, Some, None, refl, ap, ◌∙◌}
use Rattle.std.specs.Prelude.{option_map}
use Rattle.ct_syntax.specs.Words.{Word}
use Rattle.ct_syntax.specs.Scopes.{Scope}
use Rattle.ct_syntax.specs.Trees as t
use Rattle.ct_grammar_machine.specs.Algebra.{Sort, expr, exprs, specs, members, enumerators, declarators, decl, parameters, init, inits, init_declarators, declaration, for_start, stmt, branches, body, items, Aimed, AtNext, AtMember, AtIndex, Tree, trees_built}
use Rattle.ct_grammar_machine.specs.Frames.{InUnit, Begin}
use Rattle.ct_grammar_machine.specs.Steps.{run}
use Rattle.ct_grammar_laws.proofs.Map.{map_aimed, map_step, Hom}
use Rattle.ct_grammar_laws.proofs.MapStatements.{run_map}

-- one more item before the items
abbrev pub grow : t.Item → (sort : Sort) → Tree sort → Tree sort
grow y items is = y ∷ is
grow y expr x = x
grow y exprs x = x
grow y specs x = x
grow y members x = x
grow y enumerators x = x
grow y declarators x = x
grow y decl x = x
grow y parameters x = x
grow y init x = x
grow y inits x = x
grow y init_declarators x = x
grow y declaration x = x
grow y for_start x = x
grow y stmt x = x
grow y branches x = x
grow y body x = x

same_option : {T : Type 0} → (o : Option T) → option_map (λ x. x) o ≡ o
same_option None = refl
same_option (Some x) = refl

same_aim : (y : t.Item) (g : Aimed Tree) → map_aimed (grow y) g ≡ g
same_aim y AtNext = refl
same_aim y (AtMember u) = refl
same_aim y (AtIndex x) = refl

grows : (y : t.Item) → Hom trees_built trees_built (grow y)
grows y = record {
  name = λ u. refl;
  number = λ u. refl;
  character = λ u. refl;
  strings = λ u us. refl;
  paren = λ x. refl;
  index = λ x w. refl;
  call = λ x w. refl;
  member_of = λ x o u. refl;
  postfix = λ x o. refl;
  prefixed = λ o x. refl;
  unary = λ o x. refl;
  sizeof_value = λ x. refl;
  sizeof_type = λ x w. refl;
  cast = λ x w z. refl;
  infixed = λ o x w. refl;
  conditional = λ x w z. refl;
  assign = λ o x w. refl;
  comma = λ x w. refl;
  no_arguments = refl;
  push = λ x w. refl;
  no_specs = refl;
  with_word = λ x k. refl;
  with_typedef = λ x u. refl;
  with_struct_tag = λ x u. refl;
  with_struct = λ x u w. refl;
  with_enum_tag = λ x u. refl;
  with_enum = λ x u w c. refl;
  no_members = refl;
  push_member = λ x w z. refl;
  no_declarators = refl;
  push_declarator = λ x w. refl;
  no_enumerators = refl;
  push_enumerator = λ x u. refl;
  push_valued = λ x u w. refl;
  nameless = refl;
  called = λ u. refl;
  group = λ x. refl;
  pointer = λ qs x. refl;
  array_open = λ x. refl;
  array = λ x w. refl;
  function = λ x k w. refl;
  no_parameters = refl;
  push_parameter = λ x w z. refl;
  value_init = λ x. refl;
  braces = λ x c. refl;
  no_inits = refl;
  push_init = λ x g w. ap (λ g. trees_built.push_init x g w) (same_aim y g);
  no_init_declarators = refl;
  push_init_declarator = λ x w v. ap (λ o. trees_built.push_init_declarator x w o) (same_option v);
  declare = λ x w. refl;
  assert = λ x u. refl;
  start_declaration = λ x. refl;
  start_value = λ x. ap (λ o. trees_built.start_value o) (same_option x);
  block = λ x. refl;
  run = λ x. ap (λ o. trees_built.run o) (same_option x);
  if_else = λ x w. ap (λ o. trees_built.if_else x o) (same_option w);
  while_loop = λ x w. refl;
  do_loop = λ x w. refl;
  for_loop = λ x w z v. ap (λ o. trees_built.for_loop x o (option_map (λ x. x) z) v) (same_option w) ∙ ap (λ o. trees_built.for_loop x w o v) (same_option z);
  switch = λ x w. refl;
  break = refl;
  continue = refl;
  return = λ x. ap (λ o. trees_built.return o) (same_option x);
  no_branches = refl;
  push_branch = λ x w z. refl;
  no_body = refl;
  push_case = λ x w. refl;
  push_default = λ x. refl;
  push_declared = λ x w. refl;
  push_stated = λ x w. refl;
  push_definition = λ x w z v. refl;
  push_outside = λ x w. refl;
  push_lone = λ x. refl;
  level_of = λ x. refl;
  forms_type = λ x. refl;
  has_type = λ x. refl;
  declares_types = λ x. refl;
  name_in = λ x. refl;
  only_void = λ x. refl;
  inside = λ x scope. refl;
}

pub grown : (y : t.Item) (ws : List Word) (sc : Scope) → run trees_built ws sc (InUnit (y ∷ []) ∷ []) Begin ≡ map_step (grow y) (run trees_built ws sc (InUnit [] ∷ []) Begin)
grown y ws sc = run_map trees_built trees_built (grow y) (grows y) ws sc (InUnit [] ∷ []) Begin
