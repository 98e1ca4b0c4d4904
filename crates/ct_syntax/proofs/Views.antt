-- What is seen of a tree, where its parts are lists.
use Rattle.std.proofs.Common.{◌≡◌, Bool, Option, Some, None, refl, ap, ap₂, rules, Vec, Box, Global}
use Rattle.ct_base.specs.declared.lexical.Span.{Span}
use Rattle.ct_syntax.specs.Trees as t
use Rattle.ct_syntax.specs.Words.{Text}
use Rattle.ct_syntax.specs.Views.{view, views, view_optional, view_specs, view_spec, view_members, view_enumerators, view_declarators, view_declarator, view_parameters, expressions_of, specs_of}
use Rattle.ct_syntax.specs.declared.expressions.Expr.{Expr}
use Rattle.ct_syntax.specs.declared.expressions.Expr.TheVariants as e
use Rattle.ct_syntax.specs.declared.expressions.Spec.{Spec}
use Rattle.ct_syntax.specs.declared.expressions.Spec.TheVariants as s
use Rattle.ct_syntax.specs.declared.expressions.Member.{Member}
use Rattle.ct_syntax.specs.declared.expressions.Enumerator.{Enumerator}
use Rattle.ct_syntax.specs.declared.expressions.Parameter.{Parameter}
use Rattle.ct_syntax.specs.declared.expressions.ParameterForm.{ParameterForm}
use Rattle.ct_syntax.specs.declared.expressions.Declarator.{Declarator}
use Rattle.ct_syntax.specs.declared.expressions.Declarator.TheVariants as d
use Rattle.ct_syntax.specs.declared.expressions.Declarator.TheBlock as b
use Rattle.ct_syntax.specs.declared.expressions.Declarator.TheBlock.{Row_of-Expr, end_of-Expr, more_of-Expr, items-the_row-Expr, Row_of-Spec, end_of-Spec, more_of-Spec, items-the_row-Spec, Row_of-Declarator, end_of-Declarator, more_of-Declarator, items-the_row-Declarator, Row_of-Member, end_of-Member, more_of-Member, items-the_row-Member, Row_of-Enumerator, end_of-Enumerator, more_of-Enumerator, items-the_row-Enumerator, Row_of-Parameter, end_of-Parameter, more_of-Parameter, items-the_row-Parameter}
use Rattle.ct_syntax.specs.declared.expressions.Declarator.TheViews.{the_lemmas}
use Rattle.ct_syntax.specs.Lists.{optional_of, declarators_of, members_of, enumerators_of, parameters_of}

pub views_items : (n : _) (row : Row_of-Expr n) → views row ≡ expressions_of (items-the_row-Expr n row)
views_items n end_of-Expr = refl
views_items n (more_of-Expr x rest) = ap (t.expression (view x)) (views_items _ rest)

pub specs_items : (n : _) (row : Row_of-Spec n) → view_specs row ≡ specs_of (items-the_row-Spec n row)
specs_items n end_of-Spec = refl
specs_items n (more_of-Spec x rest) = ap (view_spec x) (specs_items _ rest)

pub declarators_items : (n : _) (row : Row_of-Declarator n) → view_declarators row ≡ declarators_of (items-the_row-Declarator n row)
declarators_items n end_of-Declarator = refl
declarators_items n (more_of-Declarator x rest) = ap (t.declarator (view_declarator x)) (declarators_items _ rest)

pub view_Call : (at : Span) (f : Box Expr Global) (xs : Vec Expr Global) → view (e.Call at f xs) ≡ t.Call (view f.value) (expressions_of xs.items)
view_Call at f xs = search (rules, views_items, the_lemmas)

pub view_SizeofType : (at : Span) (ss : Vec Spec Global) (d : Box Declarator Global) → view (e.SizeofType at ss d) ≡ t.SizeofType (specs_of ss.items) (view_declarator d.value)
view_SizeofType at ss d = search (rules, specs_items, the_lemmas)

pub view_Cast : (at : Span) (ss : Vec Spec Global) (d : Box Declarator Global) (x : Box Expr Global) → view (e.Cast at ss d x) ≡ t.Cast (specs_of ss.items) (view_declarator d.value) (view x.value)
view_Cast at ss d x = search (rules, specs_items, the_lemmas)

pub members_items : (n : _) (row : Row_of-Member n) → view_members row ≡ members_of (items-the_row-Member n row)
members_items n end_of-Member = refl
members_items n (more_of-Member at shape ss other ds rest) = search (rules, specs_items, declarators_items, members_items _ rest, the_lemmas)

pub optional_views : (value : b.Held-Declarator-Array-2) → view_optional value ≡ optional_of (b.view-Declarator-Array-2 value)
optional_views b.None' = refl
optional_views (b.Some' p x) = refl

pub enumerators_items : (n : _) (row : Row_of-Enumerator n) → view_enumerators row ≡ enumerators_of (items-the_row-Enumerator n row)
enumerators_items n end_of-Enumerator = refl
enumerators_items n (more_of-Enumerator at name value rest) = ap₂ (t.enumerator name) (optional_views value) (enumerators_items _ rest)

pub parameters_items : (n : _) (row : Row_of-Parameter n) → view_parameters row ≡ parameters_of (items-the_row-Parameter n row)
parameters_items n end_of-Parameter = refl
parameters_items n (more_of-Parameter at shape ss d rest) = search (rules, specs_items, parameters_items _ rest, the_lemmas)

pub view_StructList : (at : Span) (tag : Option Text) (ms : Vec Member Global) (rest : t.Specs) → view_spec (s.StructList at tag ms) rest ≡ t.struct_list tag (members_of ms.items) rest
view_StructList at tag ms rest = search (rules, members_items, the_lemmas)

pub view_EnumList : (at : Span) (tag : Option Text) (es : Vec Enumerator Global) (comma : Bool) (rest : t.Specs) → view_spec (s.EnumList at tag es comma) rest ≡ t.enum_list tag (enumerators_of es.items) comma rest
view_EnumList at tag es comma rest = search (rules, enumerators_items, the_lemmas)

pub view_Array : (at : Span) (i : Box Declarator Global) (size : Option (Box Expr Global)) → view_declarator (d.Array at i size) ≡ t.Array (view_declarator i.value) (optional_of size)
view_Array at i None = search (rules, the_lemmas)
view_Array at i (Some x) = search (rules, the_lemmas)

pub view_Function : (at : Span) (i : Box Declarator Global) (f : ParameterForm) (ps : Vec Parameter Global) → view_declarator (d.Function at i f ps) ≡ t.Function (view_declarator i.value) f (parameters_of ps.items)
view_Function at i f ps = search (rules, parameters_items, the_lemmas)
