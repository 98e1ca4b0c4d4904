-- The words of a tree before other words.
use Rattle.std.proofs.Common.{◌≡◌, Bool, true, false, List, [], ◌∷◌, ◌++◌, Option, Some, None, refl, ap, ◌∙◌}
use Rattle.ct_syntax.specs.declared.words.AssignOp.TheVariants as a
use Rattle.ct_syntax.specs.declared.words.Mark.TheVariants as m
use Rattle.ct_syntax.specs.declared.words.Keyword.TheVariants as w
use Rattle.ct_syntax.specs.declared.words.Qualifier.{Qualifier}
use Rattle.ct_syntax.specs.declared.expressions.ParameterForm.{ParameterForm}
use Rattle.ct_syntax.specs.declared.expressions.ParameterForm.TheVariants as form
use Rattle.ct_syntax.specs.Words.{Text, Word, Named, Literal, Sign, Key, prefix_mark, star, qualifier_keyword}
use Rattle.ct_syntax.specs.Spelling.{spell_texts, spell_qualifiers, spell_tag, spell_comma, spell_form, spell, spell_list, spell_more, spell_optional, spell_specs, spell_members, spell_declarators, spell_more_declarators, spell_enumerators, spell_more_enumerators, spell_value, spell_declarator, spell_parameters, spell_more_parameters}
use Rattle.ct_syntax.specs.Spelling.{spell_designator, spell_initialiser, spell_items, spell_more_items, spell_start, spell_more_init_declarators, spell_init_declarators, spell_declaration, spell_maybe, spell_for_start, spell_statement, spell_branches, spell_more_branches, spell_other, spell_body, spell_item}
use Rattle.ct_syntax.specs.Trees as t

texts-append : (us : List Text) (ws zs : List Word) → spell_texts us (ws ++ zs) ≡ spell_texts us ws ++ zs
texts-append [] ws zs = refl
texts-append (u ∷ us) ws zs = ap (λ vs. Literal u ∷ vs) (texts-append us ws zs)

qualifiers-append : (qs : List Qualifier) (ws zs : List Word) → spell_qualifiers qs (ws ++ zs) ≡ spell_qualifiers qs ws ++ zs
qualifiers-append [] ws zs = refl
qualifiers-append (q ∷ qs) ws zs = ap (λ vs. Key (qualifier_keyword q) ∷ vs) (qualifiers-append qs ws zs)

tag-append : (tag : Option Text) (ws zs : List Word) → spell_tag tag (ws ++ zs) ≡ spell_tag tag ws ++ zs
tag-append None ws zs = refl
tag-append (Some u) ws zs = refl

comma-append : (c : Bool) (ws zs : List Word) → spell_comma c (ws ++ zs) ≡ spell_comma c ws ++ zs
comma-append true ws zs = refl
comma-append false ws zs = refl

form-append : (f : ParameterForm) (ws zs : List Word) → spell_form f (ws ++ zs) ≡ spell_form f ws ++ zs
form-append form.Empty ws zs = refl
form-append form.Void ws zs = refl
form-append form.Fixed ws zs = refl
form-append form.Variadic ws zs = refl

mutual
  pub spell-append : (x : t.Expression) (ws zs : List Word) → spell x (ws ++ zs) ≡ spell x ws ++ zs
  spell-append (t.Name u) ws zs = refl
  spell-append (t.Number u) ws zs = refl
  spell-append (t.Character u) ws zs = refl
  spell-append (t.Strings u us) ws zs = ap (λ vs. Literal u ∷ vs) (texts-append us ws zs)
  spell-append (t.Paren x) ws zs = ap (λ vs. Sign m.Open ∷ vs) (spell-append x (Sign m.Close ∷ ws) zs)
  spell-append (t.Index x i) ws zs = ap (λ vs. spell x (Sign m.OpenBracket ∷ vs)) (spell-append i (Sign m.CloseBracket ∷ ws) zs) ∙ spell-append x _ zs
  spell-append (t.Call f xs) ws zs = ap (λ vs. spell f (Sign m.Open ∷ vs)) (list-append xs (Sign m.Close ∷ ws) zs) ∙ spell-append f _ zs
  spell-append (t.Member x o u) ws zs = spell-append x (Sign (m.Member o) ∷ Named u ∷ ws) zs
  spell-append (t.Postfix x o) ws zs = spell-append x (Sign (m.Step o) ∷ ws) zs
  spell-append (t.Prefix o x) ws zs = ap (λ vs. Sign (m.Step o) ∷ vs) (spell-append x ws zs)
  spell-append (t.Unary o x) ws zs = ap (λ vs. Sign (prefix_mark o) ∷ vs) (spell-append x ws zs)
  spell-append (t.SizeofValue x) ws zs = ap (λ vs. Key w.Sizeof ∷ vs) (spell-append x ws zs)
  spell-append (t.SizeofType ss d) ws zs = ap (λ vs. Key w.Sizeof ∷ Sign m.Open ∷ vs) (ap (spell_specs ss) (declarator-append d (Sign m.Close ∷ ws) zs) ∙ specs-append ss _ zs)
  spell-append (t.Cast ss d x) ws zs = ap (λ vs. Sign m.Open ∷ vs) (ap (λ vs. spell_specs ss (spell_declarator d (Sign m.Close ∷ vs))) (spell-append x ws zs) ∙ ap (spell_specs ss) (declarator-append d (Sign m.Close ∷ spell x ws) zs) ∙ specs-append ss _ zs)
  spell-append (t.Infix o x y) ws zs = ap (λ vs. spell x (Sign (m.Infix o) ∷ vs)) (spell-append y ws zs) ∙ spell-append x _ zs
  spell-append (t.Conditional c x y) ws zs = ap (λ vs. spell c (Sign m.Question ∷ spell x (Sign m.Colon ∷ vs))) (spell-append y ws zs) ∙ ap (λ vs. spell c (Sign m.Question ∷ vs)) (spell-append x (Sign m.Colon ∷ spell y ws) zs) ∙ spell-append c _ zs
  spell-append (t.Assign o x y) ws zs = ap (λ vs. spell x (Sign (m.Assign o) ∷ vs)) (spell-append y ws zs) ∙ spell-append x _ zs
  spell-append (t.Comma x y) ws zs = ap (λ vs. spell x (Sign m.Comma ∷ vs)) (spell-append y ws zs) ∙ spell-append x _ zs

  list-append : (xs : t.Expressions) (ws zs : List Word) → spell_list xs (ws ++ zs) ≡ spell_list xs ws ++ zs
  list-append t.no_expression ws zs = refl
  list-append (t.expression x xs) ws zs = ap (spell x) (more-append xs ws zs) ∙ spell-append x _ zs

  more-append : (xs : t.Expressions) (ws zs : List Word) → spell_more xs (ws ++ zs) ≡ spell_more xs ws ++ zs
  more-append t.no_expression ws zs = refl
  more-append (t.expression x xs) ws zs = ap (λ vs. Sign m.Comma ∷ vs) (ap (spell x) (more-append xs ws zs) ∙ spell-append x _ zs)

  optional-append : (x : t.Optional) (ws zs : List Word) → spell_optional x (ws ++ zs) ≡ spell_optional x ws ++ zs
  optional-append t.absent ws zs = refl
  optional-append (t.present x) ws zs = spell-append x ws zs

  pub specs-append : (ss : t.Specs) (ws zs : List Word) → spell_specs ss (ws ++ zs) ≡ spell_specs ss ws ++ zs
  specs-append t.no_spec ws zs = refl
  specs-append (t.spec_word k ss) ws zs = ap (λ vs. Key (w.Spec k) ∷ vs) (specs-append ss ws zs)
  specs-append (t.typedef_name u ss) ws zs = ap (λ vs. Named u ∷ vs) (specs-append ss ws zs)
  specs-append (t.struct_tag u ss) ws zs = ap (λ vs. Key w.Struct ∷ Named u ∷ vs) (specs-append ss ws zs)
  specs-append (t.struct_list tag ms ss) ws zs =
      ap (λ vs. Key w.Struct ∷ vs)
      (ap (λ vs. spell_tag tag (Sign m.OpenBrace ∷ spell_members ms (Sign m.CloseBrace ∷ vs))) (specs-append ss ws zs)
      ∙ ap (λ vs. spell_tag tag (Sign m.OpenBrace ∷ vs)) (members-append ms (Sign m.CloseBrace ∷ spell_specs ss ws) zs)
      ∙ tag-append tag _ zs)
  specs-append (t.enum_tag u ss) ws zs = ap (λ vs. Key w.Enum ∷ Named u ∷ vs) (specs-append ss ws zs)
  specs-append (t.enum_list tag es c ss) ws zs =
      ap (λ vs. Key w.Enum ∷ vs)
      (ap (λ vs. spell_tag tag (Sign m.OpenBrace ∷ spell_enumerators es (spell_comma c (Sign m.CloseBrace ∷ vs)))) (specs-append ss ws zs)
      ∙ ap (λ vs. spell_tag tag (Sign m.OpenBrace ∷ spell_enumerators es vs)) (comma-append c (Sign m.CloseBrace ∷ spell_specs ss ws) zs)
      ∙ ap (λ vs. spell_tag tag (Sign m.OpenBrace ∷ vs)) (enumerators-append es (spell_comma c (Sign m.CloseBrace ∷ spell_specs ss ws)) zs)
      ∙ tag-append tag _ zs)

  members-append : (ms : t.Members) (ws zs : List Word) → spell_members ms (ws ++ zs) ≡ spell_members ms ws ++ zs
  members-append t.no_member ws zs = refl
  members-append (t.member ss ds ms) ws zs =
      ap (λ vs. spell_specs ss (spell_declarators ds (Sign m.Semicolon ∷ vs))) (members-append ms ws zs)
      ∙ ap (spell_specs ss) (declarators-append ds (Sign m.Semicolon ∷ spell_members ms ws) zs)
      ∙ specs-append ss _ zs

  declarators-append : (ds : t.Declarators) (ws zs : List Word) → spell_declarators ds (ws ++ zs) ≡ spell_declarators ds ws ++ zs
  declarators-append t.no_declarator ws zs = refl
  declarators-append (t.declarator d ds) ws zs = ap (spell_declarator d) (more_declarators-append ds ws zs) ∙ declarator-append d _ zs

  more_declarators-append : (ds : t.Declarators) (ws zs : List Word) → spell_more_declarators ds (ws ++ zs) ≡ spell_more_declarators ds ws ++ zs
  more_declarators-append t.no_declarator ws zs = refl
  more_declarators-append (t.declarator d ds) ws zs = ap (λ vs. Sign m.Comma ∷ vs) (ap (spell_declarator d) (more_declarators-append ds ws zs) ∙ declarator-append d _ zs)

  enumerators-append : (es : t.Enumerators) (ws zs : List Word) → spell_enumerators es (ws ++ zs) ≡ spell_enumerators es ws ++ zs
  enumerators-append t.no_enumerator ws zs = refl
  enumerators-append (t.enumerator u v es) ws zs = ap (λ vs. Named u ∷ vs) (ap (spell_value v) (more_enumerators-append es ws zs) ∙ value-append v _ zs)

  more_enumerators-append : (es : t.Enumerators) (ws zs : List Word) → spell_more_enumerators es (ws ++ zs) ≡ spell_more_enumerators es ws ++ zs
  more_enumerators-append t.no_enumerator ws zs = refl
  more_enumerators-append (t.enumerator u v es) ws zs = ap (λ vs. Sign m.Comma ∷ Named u ∷ vs) (ap (spell_value v) (more_enumerators-append es ws zs) ∙ value-append v _ zs)

  value-append : (v : t.Optional) (ws zs : List Word) → spell_value v (ws ++ zs) ≡ spell_value v ws ++ zs
  value-append t.absent ws zs = refl
  value-append (t.present x) ws zs = ap (λ vs. Sign (m.Assign a.Plain) ∷ vs) (spell-append x ws zs)

  pub declarator-append : (d : t.Declarator) (ws zs : List Word) → spell_declarator d (ws ++ zs) ≡ spell_declarator d ws ++ zs
  declarator-append t.Nameless ws zs = refl
  declarator-append (t.Called u) ws zs = refl
  declarator-append (t.Group d) ws zs = ap (λ vs. Sign m.Open ∷ vs) (declarator-append d (Sign m.Close ∷ ws) zs)
  declarator-append (t.Pointer qs d) ws zs = ap (λ vs. Sign star ∷ vs) (ap (spell_qualifiers qs) (declarator-append d ws zs) ∙ qualifiers-append qs _ zs)
  declarator-append (t.Array d size) ws zs = ap (λ vs. spell_declarator d (Sign m.OpenBracket ∷ vs)) (optional-append size (Sign m.CloseBracket ∷ ws) zs) ∙ declarator-append d _ zs
  declarator-append (t.Function d f ps) ws zs =
      ap (λ vs. spell_declarator d (Sign m.Open ∷ spell_parameters ps vs)) (form-append f (Sign m.Close ∷ ws) zs)
      ∙ ap (λ vs. spell_declarator d (Sign m.Open ∷ vs)) (parameters-append ps (spell_form f (Sign m.Close ∷ ws)) zs)
      ∙ declarator-append d _ zs

  parameters-append : (ps : t.Parameters) (ws zs : List Word) → spell_parameters ps (ws ++ zs) ≡ spell_parameters ps ws ++ zs
  parameters-append t.no_parameter ws zs = refl
  parameters-append (t.parameter ss d ps) ws zs =
      ap (λ vs. spell_specs ss (spell_declarator d vs)) (more_parameters-append ps ws zs) ∙ ap (spell_specs ss) (declarator-append d _ zs) ∙ specs-append ss _ zs

  more_parameters-append : (ps : t.Parameters) (ws zs : List Word) → spell_more_parameters ps (ws ++ zs) ≡ spell_more_parameters ps ws ++ zs
  more_parameters-append t.no_parameter ws zs = refl
  more_parameters-append (t.parameter ss d ps) ws zs =
      ap (λ vs. Sign m.Comma ∷ vs) (ap (λ vs. spell_specs ss (spell_declarator d vs)) (more_parameters-append ps ws zs) ∙ ap (spell_specs ss) (declarator-append d _ zs) ∙ specs-append ss _ zs)

designator-append : (g : t.Designator) (ws zs : List Word) → spell_designator g (ws ++ zs) ≡ spell_designator g ws ++ zs
designator-append t.Next ws zs = refl
designator-append (t.OfMember u) ws zs = refl
designator-append (t.OfIndex x) ws zs = ap (λ vs. Sign m.OpenBracket ∷ vs) (spell-append x (Sign m.CloseBracket ∷ Sign (m.Assign a.Plain) ∷ ws) zs)

mutual
  initialiser-append : (v : t.Initialiser) (ws zs : List Word) → spell_initialiser v (ws ++ zs) ≡ spell_initialiser v ws ++ zs
  initialiser-append (t.Value x) ws zs = spell-append x ws zs
  initialiser-append (t.Braces is c) ws zs = ap (λ vs. Sign m.OpenBrace ∷ vs) (ap (spell_items is) (comma-append c (Sign m.CloseBrace ∷ ws) zs) ∙ items-append is _ zs)

  items-append : (is : t.InitialiserItems) (ws zs : List Word) → spell_items is (ws ++ zs) ≡ spell_items is ws ++ zs
  items-append t.no_item ws zs = refl
  items-append (t.item g v is) ws zs = ap (λ vs. spell_designator g (spell_initialiser v vs)) (more_items-append is ws zs) ∙ ap (spell_designator g) (initialiser-append v _ zs) ∙ designator-append g _ zs

  more_items-append : (is : t.InitialiserItems) (ws zs : List Word) → spell_more_items is (ws ++ zs) ≡ spell_more_items is ws ++ zs
  more_items-append t.no_item ws zs = refl
  more_items-append (t.item g v is) ws zs = ap (λ vs. Sign m.Comma ∷ vs) (ap (λ vs. spell_designator g (spell_initialiser v vs)) (more_items-append is ws zs) ∙ ap (spell_designator g) (initialiser-append v _ zs) ∙ designator-append g _ zs)

start-append : (v : Option t.Initialiser) (ws zs : List Word) → spell_start v (ws ++ zs) ≡ spell_start v ws ++ zs
start-append None ws zs = refl
start-append (Some v) ws zs = ap (λ vs. Sign (m.Assign a.Plain) ∷ vs) (initialiser-append v ws zs)

more_inits-append : (ds : List t.InitDeclarator) (ws zs : List Word) → spell_more_init_declarators ds (ws ++ zs) ≡ spell_more_init_declarators ds ws ++ zs
more_inits-append [] ws zs = refl
more_inits-append (d ∷ ds) ws zs = ap (λ vs. Sign m.Comma ∷ vs) (ap (λ vs. spell_declarator d.declarator (spell_start d.start vs)) (more_inits-append ds ws zs) ∙ ap (spell_declarator d.declarator) (start-append d.start _ zs) ∙ declarator-append d.declarator _ zs)

inits-append : (ds : List t.InitDeclarator) (ws zs : List Word) → spell_init_declarators ds (ws ++ zs) ≡ spell_init_declarators ds ws ++ zs
inits-append [] ws zs = refl
inits-append (d ∷ ds) ws zs = ap (λ vs. spell_declarator d.declarator (spell_start d.start vs)) (more_inits-append ds ws zs) ∙ ap (spell_declarator d.declarator) (start-append d.start _ zs) ∙ declarator-append d.declarator _ zs

declaration-append : (d : t.Declaration) (ws zs : List Word) → spell_declaration d (ws ++ zs) ≡ spell_declaration d ws ++ zs
declaration-append (t.Declare ss ds) ws zs = ap (spell_specs ss) (inits-append ds (Sign m.Semicolon ∷ ws) zs) ∙ specs-append ss _ zs
declaration-append (t.Assert x u) ws zs = ap (λ vs. Key w.StaticAssert ∷ Sign m.Open ∷ vs) (spell-append x (Sign m.Comma ∷ Literal u ∷ Sign m.Close ∷ Sign m.Semicolon ∷ ws) zs)

maybe-append : (x : Option t.Expression) (ws zs : List Word) → spell_maybe x (ws ++ zs) ≡ spell_maybe x ws ++ zs
maybe-append None ws zs = refl
maybe-append (Some x) ws zs = spell-append x ws zs

for_start-append : (f : t.ForStart) (ws zs : List Word) → spell_for_start f (ws ++ zs) ≡ spell_for_start f ws ++ zs
for_start-append (t.StartDeclaration d) ws zs = declaration-append d ws zs
for_start-append (t.StartValue x) ws zs = maybe-append x (Sign m.Semicolon ∷ ws) zs

mutual
  statement-append : (u : t.Statement) (ws zs : List Word) → spell_statement u (ws ++ zs) ≡ spell_statement u ws ++ zs
  statement-append (t.Block c) ws zs = ap (λ vs. Sign m.OpenBrace ∷ vs) (body-append c (Sign m.CloseBrace ∷ ws) zs)
  statement-append (t.Run x) ws zs = maybe-append x (Sign m.Semicolon ∷ ws) zs
  statement-append (t.If bs o) ws zs = ap (spell_branches bs) (other-append o ws zs) ∙ branches-append bs _ zs
  statement-append (t.While c u) ws zs = ap (λ vs. Key w.While ∷ Sign m.Open ∷ vs) (ap (λ vs. spell c (Sign m.Close ∷ vs)) (statement-append u ws zs) ∙ spell-append c _ zs)
  statement-append (t.Do u c) ws zs = ap (λ vs. Key w.Do ∷ vs) (ap (λ vs. spell_statement u (Key w.While ∷ Sign m.Open ∷ vs)) (spell-append c (Sign m.Close ∷ Sign m.Semicolon ∷ ws) zs) ∙ statement-append u _ zs)
  statement-append (t.For f c e u) ws zs =
      ap (λ vs. Key w.For ∷ Sign m.Open ∷ vs)
      (ap (λ vs. spell_for_start f (spell_maybe c (Sign m.Semicolon ∷ spell_maybe e (Sign m.Close ∷ vs)))) (statement-append u ws zs)
      ∙ ap (λ vs. spell_for_start f (spell_maybe c (Sign m.Semicolon ∷ vs))) (maybe-append e (Sign m.Close ∷ spell_statement u ws) zs)
      ∙ ap (spell_for_start f) (maybe-append c (Sign m.Semicolon ∷ spell_maybe e (Sign m.Close ∷ spell_statement u ws)) zs)
      ∙ for_start-append f _ zs)
  statement-append (t.Switch x c) ws zs = ap (λ vs. Key w.Switch ∷ Sign m.Open ∷ vs) (ap (λ vs. spell x (Sign m.Close ∷ Sign m.OpenBrace ∷ vs)) (body-append c (Sign m.CloseBrace ∷ ws) zs) ∙ spell-append x _ zs)
  statement-append t.Break ws zs = refl
  statement-append t.Continue ws zs = refl
  statement-append (t.Return x) ws zs = ap (λ vs. Key w.Return ∷ vs) (maybe-append x (Sign m.Semicolon ∷ ws) zs)

  branches-append : (bs : t.Branches) (ws zs : List Word) → spell_branches bs (ws ++ zs) ≡ spell_branches bs ws ++ zs
  branches-append t.no_branch ws zs = refl
  branches-append (t.branch c u bs) ws zs = ap (λ vs. Key w.If ∷ Sign m.Open ∷ vs) (ap (λ vs. spell c (Sign m.Close ∷ spell_statement u vs)) (more_branches-append bs ws zs) ∙ ap (λ vs. spell c (Sign m.Close ∷ vs)) (statement-append u _ zs) ∙ spell-append c _ zs)

  more_branches-append : (bs : t.Branches) (ws zs : List Word) → spell_more_branches bs (ws ++ zs) ≡ spell_more_branches bs ws ++ zs
  more_branches-append t.no_branch ws zs = refl
  more_branches-append (t.branch c u bs) ws zs = ap (λ vs. Key w.Else ∷ Key w.If ∷ Sign m.Open ∷ vs) (ap (λ vs. spell c (Sign m.Close ∷ spell_statement u vs)) (more_branches-append bs ws zs) ∙ ap (λ vs. spell c (Sign m.Close ∷ vs)) (statement-append u _ zs) ∙ spell-append c _ zs)

  other-append : (o : t.Other) (ws zs : List Word) → spell_other o (ws ++ zs) ≡ spell_other o ws ++ zs
  other-append t.no_else ws zs = refl
  other-append (t.else_do u) ws zs = ap (λ vs. Key w.Else ∷ vs) (statement-append u ws zs)

  body-append : (c : t.Body) (ws zs : List Word) → spell_body c (ws ++ zs) ≡ spell_body c ws ++ zs
  body-append t.no_part ws zs = refl
  body-append (t.case_label x c) ws zs = ap (λ vs. Key w.Case ∷ vs) (ap (λ vs. spell x (Sign m.Colon ∷ vs)) (body-append c ws zs) ∙ spell-append x _ zs)
  body-append (t.default_label c) ws zs = ap (λ vs. Key w.Default ∷ Sign m.Colon ∷ vs) (body-append c ws zs)
  body-append (t.declared d c) ws zs = ap (spell_declaration d) (body-append c ws zs) ∙ declaration-append d _ zs
  body-append (t.stated u c) ws zs = ap (spell_statement u) (body-append c ws zs) ∙ statement-append u _ zs

pub item-append : (x : t.Item) (ws zs : List Word) → spell_item x (ws ++ zs) ≡ spell_item x ws ++ zs
item-append (t.Definition ss d c) ws zs =
    ap (λ vs. spell_specs ss (spell_declarator d (Sign m.OpenBrace ∷ vs))) (body-append c (Sign m.CloseBrace ∷ ws) zs)
    ∙ ap (spell_specs ss) (declarator-append d _ zs) ∙ specs-append ss _ zs
item-append (t.Outside d) ws zs = declaration-append d ws zs
item-append t.Lone ws zs = refl
