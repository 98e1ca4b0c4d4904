-- The words of a tree, with the words that stand behind it: `spell tree rest` is the words of the tree and then
-- the rest.
use Rattle.std.specs.Prelude.{Bool, true, false, List, [], ◌∷◌, Option, Some, None}
use Rattle.ct_syntax.specs.declared.words.MemberOp.TheVariants as op
use Rattle.ct_syntax.specs.declared.words.Mark.TheVariants as m
use Rattle.ct_syntax.specs.declared.words.AssignOp.TheVariants as a
use Rattle.ct_syntax.specs.declared.words.Keyword.TheVariants as w
use Rattle.ct_syntax.specs.declared.words.Qualifier.{Qualifier}
use Rattle.ct_syntax.specs.declared.words.SpecWord.TheVariants as s
use Rattle.ct_syntax.specs.declared.expressions.ParameterForm.{ParameterForm}
use Rattle.ct_syntax.specs.declared.expressions.ParameterForm.TheVariants as form
use Rattle.ct_syntax.specs.Words.{Text, Word, Named, Numbered, Quote, Literal, Sign, Key, prefix_mark, star, qualifier_keyword}
use Rattle.ct_syntax.specs.Trees.{Expression, Name, Number, Character, Strings, Paren, Index, Call, Member, Postfix, Prefix, Unary, SizeofValue, SizeofType, Cast, Infix, Conditional, Assign, Comma}
use Rattle.ct_syntax.specs.Trees.{Expressions, no_expression, expression, Optional, absent, present}
use Rattle.ct_syntax.specs.Trees.{Specs, no_spec, spec_word, typedef_name, struct_tag, struct_list, enum_tag, enum_list, Members, no_member, member, Enumerators, no_enumerator, enumerator}
use Rattle.ct_syntax.specs.Trees.{Declarators, no_declarator, declarator, Declarator, Nameless, Called, Group, Pointer, Array, Function, Parameters, no_parameter, parameter}
use Rattle.ct_syntax.specs.Trees.{Designator, Next, OfMember, OfIndex, Initialiser, Value, Braces, InitialiserItems, no_item, item, InitDeclarator, Declaration, Declare, Assert, ForStart, StartDeclaration, StartValue}
use Rattle.ct_syntax.specs.Trees.{Statement, Block, Run, If, While, Do, For, Switch, Break, Continue, Return, Branches, no_branch, branch, Other, no_else, else_do, Body, no_part, case_label, default_label, declared, stated, Item, Definition, Outside, Lone}

abbrev pub spell_texts : List Text → List Word → List Word
spell_texts [] rest = rest
spell_texts (t ∷ ts) rest = Literal t ∷ spell_texts ts rest

abbrev pub spell_qualifiers : List Qualifier → List Word → List Word
spell_qualifiers [] rest = rest
spell_qualifiers (q ∷ qs) rest = Key (qualifier_keyword q) ∷ spell_qualifiers qs rest

abbrev pub spell_tag : Option Text → List Word → List Word
spell_tag None rest = rest
spell_tag (Some t) rest = Named t ∷ rest

-- a comma behind the last one of a list, where there is one
abbrev pub spell_comma : Bool → List Word → List Word
spell_comma false rest = rest
spell_comma true rest = Sign m.Comma ∷ rest

-- what stands in the parentheses of a list behind its parameters, or in the place of them
abbrev pub spell_form : ParameterForm → List Word → List Word
spell_form form.Empty rest = rest
spell_form form.Void rest = Key (w.Spec s.Void) ∷ rest
spell_form form.Fixed rest = rest
spell_form form.Variadic rest = Sign m.Comma ∷ Sign m.Ellipsis ∷ rest

abbrev mutual
  pub spell : Expression → List Word → List Word
  spell (Name t) rest = Named t ∷ rest
  spell (Number t) rest = Numbered t ∷ rest
  spell (Character t) rest = Quote t ∷ rest
  spell (Strings t ts) rest = Literal t ∷ spell_texts ts rest
  spell (Paren x) rest = Sign m.Open ∷ spell x (Sign m.Close ∷ rest)
  spell (Index x i) rest = spell x (Sign m.OpenBracket ∷ spell i (Sign m.CloseBracket ∷ rest))
  spell (Call f xs) rest = spell f (Sign m.Open ∷ spell_list xs (Sign m.Close ∷ rest))
  spell (Member x o t) rest = spell x (Sign (m.Member o) ∷ Named t ∷ rest)
  spell (Postfix x o) rest = spell x (Sign (m.Step o) ∷ rest)
  spell (Prefix o x) rest = Sign (m.Step o) ∷ spell x rest
  spell (Unary o x) rest = Sign (prefix_mark o) ∷ spell x rest
  spell (SizeofValue x) rest = Key w.Sizeof ∷ spell x rest
  spell (SizeofType ss d) rest = Key w.Sizeof ∷ Sign m.Open ∷ spell_specs ss (spell_declarator d (Sign m.Close ∷ rest))
  spell (Cast ss d x) rest = Sign m.Open ∷ spell_specs ss (spell_declarator d (Sign m.Close ∷ spell x rest))
  spell (Infix o x y) rest = spell x (Sign (m.Infix o) ∷ spell y rest)
  spell (Conditional c x y) rest = spell c (Sign m.Question ∷ spell x (Sign m.Colon ∷ spell y rest))
  spell (Assign o x y) rest = spell x (Sign (m.Assign o) ∷ spell y rest)
  spell (Comma x y) rest = spell x (Sign m.Comma ∷ spell y rest)

  -- with a comma between two
  pub spell_list : Expressions → List Word → List Word
  spell_list no_expression rest = rest
  spell_list (expression x xs) rest = spell x (spell_more xs rest)

  pub spell_more : Expressions → List Word → List Word
  spell_more no_expression rest = rest
  spell_more (expression x xs) rest = Sign m.Comma ∷ spell x (spell_more xs rest)

  pub spell_optional : Optional → List Word → List Word
  spell_optional absent rest = rest
  spell_optional (present x) rest = spell x rest

  pub spell_specs : Specs → List Word → List Word
  spell_specs no_spec rest = rest
  spell_specs (spec_word k ss) rest = Key (w.Spec k) ∷ spell_specs ss rest
  spell_specs (typedef_name t ss) rest = Named t ∷ spell_specs ss rest
  spell_specs (struct_tag t ss) rest = Key w.Struct ∷ Named t ∷ spell_specs ss rest
  spell_specs (struct_list tag ms ss) rest = Key w.Struct ∷ spell_tag tag (Sign m.OpenBrace ∷ spell_members ms (Sign m.CloseBrace ∷ spell_specs ss rest))
  spell_specs (enum_tag t ss) rest = Key w.Enum ∷ Named t ∷ spell_specs ss rest
  spell_specs (enum_list tag es comma ss) rest = Key w.Enum ∷ spell_tag tag (Sign m.OpenBrace ∷ spell_enumerators es (spell_comma comma (Sign m.CloseBrace ∷ spell_specs ss rest)))

  pub spell_members : Members → List Word → List Word
  spell_members no_member rest = rest
  spell_members (member ss ds ms) rest = spell_specs ss (spell_declarators ds (Sign m.Semicolon ∷ spell_members ms rest))

  pub spell_declarators : Declarators → List Word → List Word
  spell_declarators no_declarator rest = rest
  spell_declarators (declarator d ds) rest = spell_declarator d (spell_more_declarators ds rest)

  pub spell_more_declarators : Declarators → List Word → List Word
  spell_more_declarators no_declarator rest = rest
  spell_more_declarators (declarator d ds) rest = Sign m.Comma ∷ spell_declarator d (spell_more_declarators ds rest)

  pub spell_enumerators : Enumerators → List Word → List Word
  spell_enumerators no_enumerator rest = rest
  spell_enumerators (enumerator t v es) rest = Named t ∷ spell_value v (spell_more_enumerators es rest)

  pub spell_more_enumerators : Enumerators → List Word → List Word
  spell_more_enumerators no_enumerator rest = rest
  spell_more_enumerators (enumerator t v es) rest = Sign m.Comma ∷ Named t ∷ spell_value v (spell_more_enumerators es rest)

  -- the value of an enumerator
  pub spell_value : Optional → List Word → List Word
  spell_value absent rest = rest
  spell_value (present x) rest = Sign (m.Assign a.Plain) ∷ spell x rest

  pub spell_declarator : Declarator → List Word → List Word
  spell_declarator Nameless rest = rest
  spell_declarator (Called t) rest = Named t ∷ rest
  spell_declarator (Group d) rest = Sign m.Open ∷ spell_declarator d (Sign m.Close ∷ rest)
  spell_declarator (Pointer qs d) rest = Sign star ∷ spell_qualifiers qs (spell_declarator d rest)
  spell_declarator (Array d size) rest = spell_declarator d (Sign m.OpenBracket ∷ spell_optional size (Sign m.CloseBracket ∷ rest))
  spell_declarator (Function d f ps) rest = spell_declarator d (Sign m.Open ∷ spell_parameters ps (spell_form f (Sign m.Close ∷ rest)))

  pub spell_parameters : Parameters → List Word → List Word
  spell_parameters no_parameter rest = rest
  spell_parameters (parameter ss d ps) rest = spell_specs ss (spell_declarator d (spell_more_parameters ps rest))

  pub spell_more_parameters : Parameters → List Word → List Word
  spell_more_parameters no_parameter rest = rest
  spell_more_parameters (parameter ss d ps) rest = Sign m.Comma ∷ spell_specs ss (spell_declarator d (spell_more_parameters ps rest))

abbrev pub spell_designator : Designator → List Word → List Word
spell_designator Next rest = rest
spell_designator (OfMember t) rest = Sign (m.Member op.Dot) ∷ Named t ∷ Sign (m.Assign a.Plain) ∷ rest
spell_designator (OfIndex x) rest = Sign m.OpenBracket ∷ spell x (Sign m.CloseBracket ∷ Sign (m.Assign a.Plain) ∷ rest)

abbrev mutual
  pub spell_initialiser : Initialiser → List Word → List Word
  spell_initialiser (Value x) rest = spell x rest
  spell_initialiser (Braces is comma) rest = Sign m.OpenBrace ∷ spell_items is (spell_comma comma (Sign m.CloseBrace ∷ rest))

  pub spell_items : InitialiserItems → List Word → List Word
  spell_items no_item rest = rest
  spell_items (item g v is) rest = spell_designator g (spell_initialiser v (spell_more_items is rest))

  pub spell_more_items : InitialiserItems → List Word → List Word
  spell_more_items no_item rest = rest
  spell_more_items (item g v is) rest = Sign m.Comma ∷ spell_designator g (spell_initialiser v (spell_more_items is rest))

abbrev pub spell_start : Option Initialiser → List Word → List Word
spell_start None rest = rest
spell_start (Some v) rest = Sign (m.Assign a.Plain) ∷ spell_initialiser v rest

abbrev pub spell_more_init_declarators : List InitDeclarator → List Word → List Word
spell_more_init_declarators [] rest = rest
spell_more_init_declarators (d ∷ ds) rest = Sign m.Comma ∷ spell_declarator d.declarator (spell_start d.start (spell_more_init_declarators ds rest))

abbrev pub spell_init_declarators : List InitDeclarator → List Word → List Word
spell_init_declarators [] rest = rest
spell_init_declarators (d ∷ ds) rest = spell_declarator d.declarator (spell_start d.start (spell_more_init_declarators ds rest))

abbrev pub spell_declaration : Declaration → List Word → List Word
spell_declaration (Declare ss ds) rest = spell_specs ss (spell_init_declarators ds (Sign m.Semicolon ∷ rest))
spell_declaration (Assert x t) rest = Key w.StaticAssert ∷ Sign m.Open ∷ spell x (Sign m.Comma ∷ Literal t ∷ Sign m.Close ∷ Sign m.Semicolon ∷ rest)

abbrev pub spell_maybe : Option Expression → List Word → List Word
spell_maybe None rest = rest
spell_maybe (Some x) rest = spell x rest

abbrev pub spell_for_start : ForStart → List Word → List Word
spell_for_start (StartDeclaration d) rest = spell_declaration d rest
spell_for_start (StartValue x) rest = spell_maybe x (Sign m.Semicolon ∷ rest)

abbrev mutual
  pub spell_statement : Statement → List Word → List Word
  spell_statement (Block b) rest = Sign m.OpenBrace ∷ spell_body b (Sign m.CloseBrace ∷ rest)
  spell_statement (Run x) rest = spell_maybe x (Sign m.Semicolon ∷ rest)
  spell_statement (If bs o) rest = spell_branches bs (spell_other o rest)
  spell_statement (While c s) rest = Key w.While ∷ Sign m.Open ∷ spell c (Sign m.Close ∷ spell_statement s rest)
  spell_statement (Do s c) rest = Key w.Do ∷ spell_statement s (Key w.While ∷ Sign m.Open ∷ spell c (Sign m.Close ∷ Sign m.Semicolon ∷ rest))
  spell_statement (For f c e s) rest = Key w.For ∷ Sign m.Open ∷ spell_for_start f (spell_maybe c (Sign m.Semicolon ∷ spell_maybe e (Sign m.Close ∷ spell_statement s rest)))
  spell_statement (Switch x b) rest = Key w.Switch ∷ Sign m.Open ∷ spell x (Sign m.Close ∷ Sign m.OpenBrace ∷ spell_body b (Sign m.CloseBrace ∷ rest))
  spell_statement Break rest = Key w.Break ∷ Sign m.Semicolon ∷ rest
  spell_statement Continue rest = Key w.Continue ∷ Sign m.Semicolon ∷ rest
  spell_statement (Return x) rest = Key w.Return ∷ spell_maybe x (Sign m.Semicolon ∷ rest)

  pub spell_branches : Branches → List Word → List Word
  spell_branches no_branch rest = rest
  spell_branches (branch c s bs) rest = Key w.If ∷ Sign m.Open ∷ spell c (Sign m.Close ∷ spell_statement s (spell_more_branches bs rest))

  -- with an `else` before each
  pub spell_more_branches : Branches → List Word → List Word
  spell_more_branches no_branch rest = rest
  spell_more_branches (branch c s bs) rest = Key w.Else ∷ Key w.If ∷ Sign m.Open ∷ spell c (Sign m.Close ∷ spell_statement s (spell_more_branches bs rest))

  pub spell_other : Other → List Word → List Word
  spell_other no_else rest = rest
  spell_other (else_do s) rest = Key w.Else ∷ spell_statement s rest

  pub spell_body : Body → List Word → List Word
  spell_body no_part rest = rest
  spell_body (case_label x b) rest = Key w.Case ∷ spell x (Sign m.Colon ∷ spell_body b rest)
  spell_body (default_label b) rest = Key w.Default ∷ Sign m.Colon ∷ spell_body b rest
  spell_body (declared d b) rest = spell_declaration d (spell_body b rest)
  spell_body (stated s b) rest = spell_statement s (spell_body b rest)

abbrev pub spell_item : Item → List Word → List Word
spell_item (Definition ss d b) rest = spell_specs ss (spell_declarator d (Sign m.OpenBrace ∷ spell_body b (Sign m.CloseBrace ∷ rest)))
spell_item (Outside d) rest = spell_declaration d rest
spell_item Lone rest = Sign m.Semicolon ∷ rest

abbrev pub spell_unit : List Item → List Word → List Word
spell_unit [] rest = rest
spell_unit (i ∷ is) rest = spell_item i (spell_unit is rest)
