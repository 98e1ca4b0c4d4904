-- No tree spells a token that the grammar does not have.
use Rattle.std.proofs.Common.{◌≡◌, Bool, true, false, List, [], ◌∷◌, Option, Some, None}
use Rattle.ct_syntax.specs.declared.words.Qualifier.{Qualifier}
use Rattle.ct_syntax.specs.declared.expressions.ParameterForm.{ParameterForm}
use Rattle.ct_syntax.specs.declared.expressions.ParameterForm.TheVariants as form
use Rattle.ct_syntax.specs.Words.{Text, Word, Stray}
use Rattle.ct_syntax.specs.Trees.{Expression, Name, Number, Character, Strings, Paren, Index, Call, Member, Postfix, Prefix, Unary, SizeofValue, SizeofType, Cast, Infix, Conditional, Assign, Comma}
use Rattle.ct_syntax.specs.Trees.{Expressions, no_expression, expression, Optional, absent, present}
use Rattle.ct_syntax.specs.Trees.{Specs, no_spec, spec_word, typedef_name, struct_tag, struct_list, enum_tag, enum_list, Members, no_member, member, Enumerators, no_enumerator, enumerator}
use Rattle.ct_syntax.specs.Trees.{Declarators, no_declarator, declarator, Declarator, Nameless, Called, Group, Pointer, Array, Function, Parameters, no_parameter, parameter}
use Rattle.ct_syntax.specs.Trees.{Designator, Next, OfMember, OfIndex, Initialiser, Value, Braces, InitialiserItems, no_item, item, InitDeclarator, Declaration, Declare, Assert, ForStart, StartDeclaration, StartValue}
use Rattle.ct_syntax.specs.Trees.{Statement, Block, Run, If, While, Do, For, Switch, Break, Continue, Return, Branches, no_branch, branch, Other, no_else, else_do, Body, no_part, case_label, default_label, declared, stated, Item, Definition, Outside, Lone}
use Rattle.ct_syntax.specs.Spelling.{spell_texts, spell_qualifiers, spell_tag, spell_comma, spell_form, spell, spell_list, spell_more, spell_optional, spell_specs, spell_members, spell_declarators, spell_more_declarators, spell_enumerators, spell_more_enumerators, spell_value, spell_declarator, spell_parameters, spell_more_parameters, spell_designator, spell_initialiser, spell_items, spell_more_items, spell_start, spell_more_init_declarators, spell_init_declarators, spell_declaration, spell_maybe, spell_for_start, spell_statement, spell_branches, spell_more_branches, spell_other, spell_body, spell_item, spell_unit}

-- no word of these is stray
abbrev pub none_stray : List Word → Bool
none_stray [] = true
none_stray (Stray ∷ words) = false
none_stray (word ∷ words) = none_stray words

-- the words behind are not stray
abbrev Behind : List Word → Type 0
Behind words = none_stray words ≡ true

texts : (ts : List Text) (rest : List Word) → Behind rest → Behind (spell_texts ts rest)
texts [] rest h = h
texts (t ∷ ts) rest h = texts ts rest h

qualifiers : (qs : List Qualifier) (rest : List Word) → Behind rest → Behind (spell_qualifiers qs rest)
qualifiers [] rest h = h
qualifiers (q ∷ qs) rest h = qualifiers qs rest h

tag : (t : Option Text) (rest : List Word) → Behind rest → Behind (spell_tag t rest)
tag None rest h = h
tag (Some t) rest h = h

comma : (b : Bool) (rest : List Word) → Behind rest → Behind (spell_comma b rest)
comma false rest h = h
comma true rest h = h

list_form : (f : ParameterForm) (rest : List Word) → Behind rest → Behind (spell_form f rest)
list_form form.Empty rest h = h
list_form form.Void rest h = h
list_form form.Fixed rest h = h
list_form form.Variadic rest h = h

mutual
  value : (x : Expression) (rest : List Word) → Behind rest → Behind (spell x rest)
  value (Name t) rest h = h
  value (Number t) rest h = h
  value (Character t) rest h = h
  value (Strings t ts) rest h = texts ts rest h
  value (Paren x) rest h = value x _ h
  value (Index x i) rest h = value x _ (value i _ h)
  value (Call f xs) rest h = value f _ (arguments xs _ h)
  value (Member x o t) rest h = value x _ h
  value (Postfix x o) rest h = value x _ h
  value (Prefix o x) rest h = value x _ h
  value (Unary o x) rest h = value x _ h
  value (SizeofValue x) rest h = value x _ h
  value (SizeofType ss d) rest h = specs ss _ (one_declarator d _ h)
  value (Cast ss d x) rest h = specs ss _ (one_declarator d _ (value x _ h))
  value (Infix o x y) rest h = value x _ (value y _ h)
  value (Conditional c x y) rest h = value c _ (value x _ (value y _ h))
  value (Assign o x y) rest h = value x _ (value y _ h)
  value (Comma x y) rest h = value x _ (value y _ h)

  arguments : (xs : Expressions) (rest : List Word) → Behind rest → Behind (spell_list xs rest)
  arguments no_expression rest h = h
  arguments (expression x xs) rest h = value x _ (more_arguments xs _ h)

  more_arguments : (xs : Expressions) (rest : List Word) → Behind rest → Behind (spell_more xs rest)
  more_arguments no_expression rest h = h
  more_arguments (expression x xs) rest h = value x _ (more_arguments xs _ h)

  optional : (x : Optional) (rest : List Word) → Behind rest → Behind (spell_optional x rest)
  optional absent rest h = h
  optional (present x) rest h = value x _ h

  specs : (ss : Specs) (rest : List Word) → Behind rest → Behind (spell_specs ss rest)
  specs no_spec rest h = h
  specs (spec_word k ss) rest h = specs ss _ h
  specs (typedef_name t ss) rest h = specs ss _ h
  specs (struct_tag t ss) rest h = specs ss _ h
  specs (struct_list t ms ss) rest h = tag t _ (members ms _ (specs ss _ h))
  specs (enum_tag t ss) rest h = specs ss _ h
  specs (enum_list t es b ss) rest h = tag t _ (enumerators es _ (comma b _ (specs ss _ h)))

  members : (ms : Members) (rest : List Word) → Behind rest → Behind (spell_members ms rest)
  members no_member rest h = h
  members (member ss ds ms) rest h = specs ss _ (declarators ds _ (members ms _ h))

  declarators : (ds : Declarators) (rest : List Word) → Behind rest → Behind (spell_declarators ds rest)
  declarators no_declarator rest h = h
  declarators (declarator d ds) rest h = one_declarator d _ (more_declarators ds _ h)

  more_declarators : (ds : Declarators) (rest : List Word) → Behind rest → Behind (spell_more_declarators ds rest)
  more_declarators no_declarator rest h = h
  more_declarators (declarator d ds) rest h = one_declarator d _ (more_declarators ds _ h)

  enumerators : (es : Enumerators) (rest : List Word) → Behind rest → Behind (spell_enumerators es rest)
  enumerators no_enumerator rest h = h
  enumerators (enumerator t v es) rest h = enumerator_value v _ (more_enumerators es _ h)

  more_enumerators : (es : Enumerators) (rest : List Word) → Behind rest → Behind (spell_more_enumerators es rest)
  more_enumerators no_enumerator rest h = h
  more_enumerators (enumerator t v es) rest h = enumerator_value v _ (more_enumerators es _ h)

  enumerator_value : (v : Optional) (rest : List Word) → Behind rest → Behind (spell_value v rest)
  enumerator_value absent rest h = h
  enumerator_value (present x) rest h = value x _ h

  one_declarator : (d : Declarator) (rest : List Word) → Behind rest → Behind (spell_declarator d rest)
  one_declarator Nameless rest h = h
  one_declarator (Called t) rest h = h
  one_declarator (Group d) rest h = one_declarator d _ h
  one_declarator (Pointer qs d) rest h = qualifiers qs _ (one_declarator d _ h)
  one_declarator (Array d size) rest h = one_declarator d _ (optional size _ h)
  one_declarator (Function d f ps) rest h = one_declarator d _ (parameters ps _ (list_form f _ h))

  parameters : (ps : Parameters) (rest : List Word) → Behind rest → Behind (spell_parameters ps rest)
  parameters no_parameter rest h = h
  parameters (parameter ss d ps) rest h = specs ss _ (one_declarator d _ (more_parameters ps _ h))

  more_parameters : (ps : Parameters) (rest : List Word) → Behind rest → Behind (spell_more_parameters ps rest)
  more_parameters no_parameter rest h = h
  more_parameters (parameter ss d ps) rest h = specs ss _ (one_declarator d _ (more_parameters ps _ h))

designator : (g : Designator) (rest : List Word) → Behind rest → Behind (spell_designator g rest)
designator Next rest h = h
designator (OfMember t) rest h = h
designator (OfIndex x) rest h = value x _ h

mutual
  initialiser : (v : Initialiser) (rest : List Word) → Behind rest → Behind (spell_initialiser v rest)
  initialiser (Value x) rest h = value x _ h
  initialiser (Braces is b) rest h = items is _ (comma b _ h)

  items : (is : InitialiserItems) (rest : List Word) → Behind rest → Behind (spell_items is rest)
  items no_item rest h = h
  items (item g v is) rest h = designator g _ (initialiser v _ (more_items is _ h))

  more_items : (is : InitialiserItems) (rest : List Word) → Behind rest → Behind (spell_more_items is rest)
  more_items no_item rest h = h
  more_items (item g v is) rest h = designator g _ (initialiser v _ (more_items is _ h))

start : (v : Option Initialiser) (rest : List Word) → Behind rest → Behind (spell_start v rest)
start None rest h = h
start (Some v) rest h = initialiser v _ h

more_init_declarators : (ds : List InitDeclarator) (rest : List Word) → Behind rest → Behind (spell_more_init_declarators ds rest)
more_init_declarators [] rest h = h
more_init_declarators (d ∷ ds) rest h = one_declarator d.declarator _ (start d.start _ (more_init_declarators ds _ h))

init_declarators : (ds : List InitDeclarator) (rest : List Word) → Behind rest → Behind (spell_init_declarators ds rest)
init_declarators [] rest h = h
init_declarators (d ∷ ds) rest h = one_declarator d.declarator _ (start d.start _ (more_init_declarators ds _ h))

declaration : (d : Declaration) (rest : List Word) → Behind rest → Behind (spell_declaration d rest)
declaration (Declare ss ds) rest h = specs ss _ (init_declarators ds _ h)
declaration (Assert x t) rest h = value x _ h

maybe : (x : Option Expression) (rest : List Word) → Behind rest → Behind (spell_maybe x rest)
maybe None rest h = h
maybe (Some x) rest h = value x _ h

for_start : (f : ForStart) (rest : List Word) → Behind rest → Behind (spell_for_start f rest)
for_start (StartDeclaration d) rest h = declaration d _ h
for_start (StartValue x) rest h = maybe x _ h

mutual
  statement : (s : Statement) (rest : List Word) → Behind rest → Behind (spell_statement s rest)
  statement (Block b) rest h = body b _ h
  statement (Run x) rest h = maybe x _ h
  statement (If bs o) rest h = branches bs _ (other o _ h)
  statement (While c s) rest h = value c _ (statement s _ h)
  statement (Do s c) rest h = statement s _ (value c _ h)
  statement (For f c e s) rest h = for_start f _ (maybe c _ (maybe e _ (statement s _ h)))
  statement (Switch x b) rest h = value x _ (body b _ h)
  statement Break rest h = h
  statement Continue rest h = h
  statement (Return x) rest h = maybe x _ h

  branches : (bs : Branches) (rest : List Word) → Behind rest → Behind (spell_branches bs rest)
  branches no_branch rest h = h
  branches (branch c s bs) rest h = value c _ (statement s _ (more_branches bs _ h))

  more_branches : (bs : Branches) (rest : List Word) → Behind rest → Behind (spell_more_branches bs rest)
  more_branches no_branch rest h = h
  more_branches (branch c s bs) rest h = value c _ (statement s _ (more_branches bs _ h))

  other : (o : Other) (rest : List Word) → Behind rest → Behind (spell_other o rest)
  other no_else rest h = h
  other (else_do s) rest h = statement s _ h

  body : (b : Body) (rest : List Word) → Behind rest → Behind (spell_body b rest)
  body no_part rest h = h
  body (case_label x b) rest h = value x _ (body b _ h)
  body (default_label b) rest h = body b _ h
  body (declared d b) rest h = declaration d _ (body b _ h)
  body (stated s b) rest h = statement s _ (body b _ h)

external : (i : Item) (rest : List Word) → Behind rest → Behind (spell_item i rest)
external (Definition ss d b) rest h = specs ss _ (one_declarator d _ (body b _ h))
external (Outside d) rest h = declaration d _ h
external Lone rest h = h

pub none_stray_in : (is : List Item) (rest : List Word) → none_stray rest ≡ true → none_stray (spell_unit is rest) ≡ true
none_stray_in [] rest h = h
none_stray_in (i ∷ is) rest h = external i _ (none_stray_in is _ h)
