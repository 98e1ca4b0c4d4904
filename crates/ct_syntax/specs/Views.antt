-- An expression, a specifier or a declarator without its places and without where it lies in memory.
use Rattle.std.specs.Prelude.{List, [], ◌∷◌}
use Rattle.ct_syntax.specs.Trees as t
use Rattle.ct_syntax.specs.declared.expressions.Expr.{Expr}
use Rattle.ct_syntax.specs.declared.expressions.Expr.TheVariants as e
use Rattle.ct_syntax.specs.declared.expressions.Spec.{Spec}
use Rattle.ct_syntax.specs.declared.expressions.Spec.TheVariants as s
use Rattle.ct_syntax.specs.declared.expressions.Declarator.{Declarator}
use Rattle.ct_syntax.specs.declared.expressions.Declarator.TheVariants as d
use Rattle.ct_syntax.specs.declared.expressions.Declarator.TheBlock.{Held-Declarator-Array-2, None', Some', Row_of-Spec, end_of-Spec, more_of-Spec, Row_of-Parameter, end_of-Parameter, more_of-Parameter, Row_of-Expr, end_of-Expr, more_of-Expr, Row_of-Declarator, end_of-Declarator, more_of-Declarator, Row_of-Member, end_of-Member, more_of-Member, Row_of-Enumerator, end_of-Enumerator, more_of-Enumerator}

abbrev mutual
  pub view : Expr → t.Expression
  view (e.Name at text) = t.Name text
  view (e.Number at text) = t.Number text
  view (e.Character at text) = t.Character text
  view (e.Text at first others) = t.Strings first others
  view (e.Paren' at p x) = t.Paren (view x)
  view (e.Index' at p x q y) = t.Index (view x) (view y)
  view (e.Call' at p x shape xs) = t.Call (view x) (views xs)
  view (e.Member' at p x op name) = t.Member (view x) op name
  view (e.Postfix' at p x op) = t.Postfix (view x) op
  view (e.Prefix' at op p x) = t.Prefix op (view x)
  view (e.Unary' at op p x) = t.Unary op (view x)
  view (e.SizeofValue' at p x) = t.SizeofValue (view x)
  view (e.SizeofType' at shape ss p d) = t.SizeofType (view_specs ss) (view_declarator d)
  view (e.Cast' at shape ss p d q x) = t.Cast (view_specs ss) (view_declarator d) (view x)
  view (e.Infix' at op p x q y) = t.Infix op (view x) (view y)
  view (e.Conditional' at p x q y r z) = t.Conditional (view x) (view y) (view z)
  view (e.Assign' at op p x q y) = t.Assign op (view x) (view y)
  view (e.Comma' at p x q y) = t.Comma (view x) (view y)

  pub views : {m : _} → Row_of-Expr m → t.Expressions
  views end_of-Expr = t.no_expression
  views (more_of-Expr x rest) = t.expression (view x) (views rest)

  pub view_optional : Held-Declarator-Array-2 → t.Optional
  view_optional None' = t.absent
  view_optional (Some' p x) = t.present (view x)

  pub view_specs : {m : _} → Row_of-Spec m → t.Specs
  view_specs end_of-Spec = t.no_spec
  view_specs (more_of-Spec x rest) = view_spec x (view_specs rest)

  pub view_spec : Spec → t.Specs → t.Specs
  view_spec (s.Word at word) rest = t.spec_word word rest
  view_spec (s.TypedefName at name) rest = t.typedef_name name rest
  view_spec (s.StructTag at tag) rest = t.struct_tag tag rest
  view_spec (s.StructList' at tag shape ms) rest = t.struct_list tag (view_members ms) rest
  view_spec (s.EnumTag at tag) rest = t.enum_tag tag rest
  view_spec (s.EnumList' at tag shape es comma) rest = t.enum_list tag (view_enumerators es) comma rest

  pub view_members : {m : _} → Row_of-Member m → t.Members
  view_members end_of-Member = t.no_member
  view_members (more_of-Member at shape ss other ds rest) = t.member (view_specs ss) (view_declarators ds) (view_members rest)

  pub view_enumerators : {m : _} → Row_of-Enumerator m → t.Enumerators
  view_enumerators end_of-Enumerator = t.no_enumerator
  view_enumerators (more_of-Enumerator at name value rest) = t.enumerator name (view_optional value) (view_enumerators rest)

  pub view_declarators : {m : _} → Row_of-Declarator m → t.Declarators
  view_declarators end_of-Declarator = t.no_declarator
  view_declarators (more_of-Declarator x rest) = t.declarator (view_declarator x) (view_declarators rest)

  pub view_declarator : Declarator → t.Declarator
  view_declarator d.Nameless = t.Nameless
  view_declarator (d.Name at name) = t.Called name
  view_declarator (d.Group' at p x) = t.Group (view_declarator x)
  view_declarator (d.Pointer' at qualifiers p x) = t.Pointer qualifiers (view_declarator x)
  view_declarator (d.Array' at p x size) = t.Array (view_declarator x) (view_optional size)
  view_declarator (d.Function' at p x form shape ps) = t.Function (view_declarator x) form (view_parameters ps)

  pub view_parameters : {m : _} → Row_of-Parameter m → t.Parameters
  view_parameters end_of-Parameter = t.no_parameter
  view_parameters (more_of-Parameter at shape ss d rest) = t.parameter (view_specs ss) (view_declarator d) (view_parameters rest)

-- lists of them that stand in no expression, specifier or declarator
abbrev pub expressions_of : List Expr → t.Expressions
expressions_of [] = t.no_expression
expressions_of (x ∷ xs) = t.expression (view x) (expressions_of xs)

abbrev pub specs_of : List Spec → t.Specs
specs_of [] = t.no_spec
specs_of (x ∷ xs) = view_spec x (specs_of xs)
