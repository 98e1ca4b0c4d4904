-- The place of each node is that of its first token: the spans are those of the tokens from that one on.
use Rattle.std.specs.Prelude.{◌≡◌, List, [], ◌∷◌, length, drop}
use Rattle.ct_base.specs.declared.lexical.Span.{Span}
use Rattle.ct_syntax.specs.declared.expressions.Expr.{Expr}
use Rattle.ct_syntax.specs.declared.expressions.Expr.TheVariants as e
use Rattle.ct_syntax.specs.declared.expressions.Spec.{Spec}
use Rattle.ct_syntax.specs.declared.expressions.Spec.TheVariants as s
use Rattle.ct_syntax.specs.declared.expressions.Declarator.{Declarator}
use Rattle.ct_syntax.specs.declared.expressions.Declarator.TheVariants as d
use Rattle.ct_syntax.specs.declared.expressions.Declarator.TheBlock.{Held-Declarator-Array-2, None', Some', Row_of-Spec, end_of-Spec, more_of-Spec, Row_of-Parameter, end_of-Parameter, more_of-Parameter, Row_of-Expr, end_of-Expr, more_of-Expr, Row_of-Declarator, end_of-Declarator, more_of-Declarator, Row_of-Member, end_of-Member, more_of-Member, Row_of-Enumerator, end_of-Enumerator, more_of-Enumerator}
use Rattle.ct_syntax.specs.Words.{Word}
use Rattle.ct_syntax.specs.Spelling.{spell_qualifiers, spell_tag, spell, spell_specs, spell_members, spell_declarator, spell_value}
use Rattle.ct_syntax.specs.Trees as t
use Rattle.ct_syntax.specs.Views.{view, view_optional, view_specs, view_spec, view_members, view_declarator}

-- a place is that of the first token
abbrev pub At : Span → List Span → Type 0
At at [] = ⊥
At at (first ∷ spans) = at ≡ first

-- the spans behind what is spelled so
abbrev pub past : (List Word → List Word) → List Span → List Span
past spelled spans = drop (length (spelled [])) spans

-- the spans behind one token
abbrev pub next : List Span → List Span
next spans = drop 1 spans

abbrev mutual
  pub IsPlaced : Expr → List Span → Type 0
  IsPlaced (e.Name at text) ss = At at ss
  IsPlaced (e.Number at text) ss = At at ss
  IsPlaced (e.Character at text) ss = At at ss
  IsPlaced (e.Text at first others) ss = At at ss
  IsPlaced (e.Paren' at p x) ss = At at ss × IsPlaced x (next ss)
  IsPlaced (e.Index' at p x q y) ss = At at ss × IsPlaced x ss × IsPlaced y (next (past (spell (view x)) ss))
  IsPlaced (e.Call' at p x shape xs) ss = At at ss × IsPlaced x ss × ArePlaced xs (next (past (spell (view x)) ss))
  IsPlaced (e.Member' at p x op name) ss = At at ss × IsPlaced x ss
  IsPlaced (e.Postfix' at p x op) ss = At at ss × IsPlaced x ss
  IsPlaced (e.Prefix' at op p x) ss = At at ss × IsPlaced x (next ss)
  IsPlaced (e.Unary' at op p x) ss = At at ss × IsPlaced x (next ss)
  IsPlaced (e.SizeofValue' at p x) ss = At at ss × IsPlaced x (next ss)
  IsPlaced (e.SizeofType' at shape us p x) ss = At at ss × AreSpecsPlaced us (drop 2 ss) × IsDeclaratorPlaced x (past (spell_specs (view_specs us)) (drop 2 ss))
  IsPlaced (e.Cast' at shape us p x q y) ss =
      At at ss × AreSpecsPlaced us (next ss) × IsDeclaratorPlaced x (past (spell_specs (view_specs us)) (next ss))
      × IsPlaced y (next (past (spell_declarator (view_declarator x)) (past (spell_specs (view_specs us)) (next ss))))
  IsPlaced (e.Infix' at op p x q y) ss = At at ss × IsPlaced x ss × IsPlaced y (next (past (spell (view x)) ss))
  IsPlaced (e.Conditional' at p x q y r z) ss =
      At at ss × IsPlaced x ss × IsPlaced y (next (past (spell (view x)) ss)) × IsPlaced z (next (past (spell (view y)) (next (past (spell (view x)) ss))))
  IsPlaced (e.Assign' at op p x q y) ss = At at ss × IsPlaced x ss × IsPlaced y (next (past (spell (view x)) ss))
  IsPlaced (e.Comma' at p x q y) ss = At at ss × IsPlaced x ss × IsPlaced y (next (past (spell (view x)) ss))

  -- with a comma between two
  pub ArePlaced : {m : _} → Row_of-Expr m → List Span → Type 0
  ArePlaced end_of-Expr ss = Unit {0}
  ArePlaced (more_of-Expr x rest) ss = IsPlaced x ss × ArePlaced rest (next (past (spell (view x)) ss))

  pub IsOptionalPlaced : Held-Declarator-Array-2 → List Span → Type 0
  IsOptionalPlaced None' ss = Unit {0}
  IsOptionalPlaced (Some' p x) ss = IsPlaced x ss

  pub AreSpecsPlaced : {m : _} → Row_of-Spec m → List Span → Type 0
  AreSpecsPlaced end_of-Spec ss = Unit {0}
  AreSpecsPlaced (more_of-Spec x rest) ss = IsSpecPlaced x ss × AreSpecsPlaced rest (past (spell_specs (view_spec x t.no_spec)) ss)

  pub IsSpecPlaced : Spec → List Span → Type 0
  IsSpecPlaced (s.Word at word) ss = At at ss
  IsSpecPlaced (s.TypedefName at name) ss = At at ss
  IsSpecPlaced (s.StructTag at tag) ss = At at ss
  IsSpecPlaced (s.StructList' at tag shape ms) ss = At at ss × AreMembersPlaced ms (next (past (spell_tag tag) (next ss)))
  IsSpecPlaced (s.EnumTag at tag) ss = At at ss
  IsSpecPlaced (s.EnumList' at tag shape es comma) ss = At at ss × AreEnumeratorsPlaced es (next (past (spell_tag tag) (next ss)))

  pub AreMembersPlaced : {m : _} → Row_of-Member m → List Span → Type 0
  AreMembersPlaced end_of-Member ss = Unit {0}
  AreMembersPlaced (more_of-Member at shape us other ds rest) ss =
      At at ss × AreSpecsPlaced us ss × AreDeclaratorsPlaced ds (past (spell_specs (view_specs us)) ss)
      × AreMembersPlaced rest (past (spell_members (view_members (more_of-Member at shape us other ds end_of-Member))) ss)

  pub AreEnumeratorsPlaced : {m : _} → Row_of-Enumerator m → List Span → Type 0
  AreEnumeratorsPlaced end_of-Enumerator ss = Unit {0}
  AreEnumeratorsPlaced (more_of-Enumerator at name value rest) ss =
      At at ss × IsOptionalPlaced value (drop 2 ss) × AreEnumeratorsPlaced rest (next (past (spell_value (view_optional value)) (next ss)))

  pub AreDeclaratorsPlaced : {m : _} → Row_of-Declarator m → List Span → Type 0
  AreDeclaratorsPlaced end_of-Declarator ss = Unit {0}
  AreDeclaratorsPlaced (more_of-Declarator x rest) ss = IsDeclaratorPlaced x ss × AreDeclaratorsPlaced rest (next (past (spell_declarator (view_declarator x)) ss))

  pub IsDeclaratorPlaced : Declarator → List Span → Type 0
  IsDeclaratorPlaced d.Nameless ss = Unit {0}
  IsDeclaratorPlaced (d.Name at name) ss = At at ss
  IsDeclaratorPlaced (d.Group' at p x) ss = At at ss × IsDeclaratorPlaced x (next ss)
  IsDeclaratorPlaced (d.Pointer' at qualifiers p x) ss = At at ss × IsDeclaratorPlaced x (past (spell_qualifiers qualifiers) (next ss))
  IsDeclaratorPlaced (d.Array' at p x size) ss = At at ss × IsDeclaratorPlaced x ss × IsOptionalPlaced size (next (past (spell_declarator (view_declarator x)) ss))
  IsDeclaratorPlaced (d.Function' at p x form shape ps) ss = At at ss × IsDeclaratorPlaced x ss × AreParametersPlaced ps (next (past (spell_declarator (view_declarator x)) ss))

  pub AreParametersPlaced : {m : _} → Row_of-Parameter m → List Span → Type 0
  AreParametersPlaced end_of-Parameter ss = Unit {0}
  AreParametersPlaced (more_of-Parameter at shape us x rest) ss =
      At at ss × AreSpecsPlaced us ss × IsDeclaratorPlaced x (past (spell_specs (view_specs us)) ss)
      × AreParametersPlaced rest (next (past (spell_declarator (view_declarator x)) (past (spell_specs (view_specs us)) ss)))
