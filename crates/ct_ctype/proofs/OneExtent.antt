-- A type has one extent at most, and none where it has no limited one.
use Rattle.std.proofs.Common.{◌≡◌, ℕ, ◌∷◌, List, Bool, Option, Some, None, refl, sym, ap, subst, ◌∙◌, option_map}
use mathlib.Core.Path.{ap₂}
use Rattle.ct_ctype.specs.declared.kinds.IntKind.{IntKind}
use Rattle.ct_ctype.specs.declared.types.CType.{CType, out-CType, roll-CType, map-CType, fold-roll-CType}
use Rattle.ct_ctype.specs.declared.types.CType.TheViews.{out-roll-CType}
use Rattle.ct_ctype.specs.declared.types.CType.TheOpen.{CType-F}
use Rattle.ct_ctype.specs.declared.types.CType.TheVariants as type
use Rattle.ct_ctype.specs.declared.types.FunctionType.{FunctionType}
use Rattle.ct_ctype.specs.declared.types.Member.{Member}
use Rattle.ct_ctype.specs.declared.types.Extent.{Extent}
use Rattle.ct_ctype.specs.declared.types.StructLayout.{StructLayout}
use Rattle.ct_ctype.specs.Ranges.{pointer_bytes}
use Rattle.ct_ctype.specs.Layout.{Table, scalar, bytes_of, repeated, layout_of, extent_step, extent_of}
use Rattle.ct_ctype.specs.Sizes.{HasExtent, HaveExtents, integer, pointer, array, struct, none, more, extent_times, extent_over}

-- ---- a type with an extent has a limited one

module _ (s : Table) where
  form_extent : (t : CType) (form : CType-F CType FunctionType) → roll-CType form ≡ t
      → extent_of s t ≡ extent_step s (map-CType CType FunctionType (Option Extent) (Unit {0}) (extent_of s) (λ f. tt) form)
  unfolding extent_of
  form_extent t form is = ap (extent_of s) (sym is) ∙ fold-roll-CType (Option Extent) (Unit {0}) (extent_step s) (λ f. tt) form

  integer_extent : (k : IntKind) → extent_of s (type.Int k) ≡ Some (scalar (bytes_of k))
  integer_extent k = form_extent _ (CType-F.Int k) (type.rolls-Int k)

  pointer_extent : (pointee : CType) (constant : Bool) → extent_of s (type.Pointer pointee constant) ≡ Some (scalar pointer_bytes)
  pointer_extent pointee constant = form_extent _ (CType-F.Pointer pointee constant) (type.rolls-Pointer pointee constant)

  array_extent : (element : CType) (count : ℕ) → extent_of s (type.Array element (Some count)) ≡ option_map (repeated count) (extent_of s element)
  array_extent element count = form_extent _ (CType-F.Array element (Some count)) (type.rolls-Array element (Some count))

  struct_extent : (which : ℕ) (layout : StructLayout) → layout_of s which ≡ Some layout → extent_of s (type.Struct which) ≡ Some layout.extent
  struct_extent which layout is =
      form_extent _ (CType-F.Struct which) (type.rolls-Struct which) ∙ ap (option_map (λ (layout : StructLayout). layout.extent)) is

none_before : {A B : Type 0} (f : A → B) (o : Option A) → option_map f o ≡ None → o ≡ None
none_before f None e = refl
none_before f (Some a) e = absurd (cc)

pub not_both : {A : Type 0} (o : Option A) (a : A) → o ≡ Some a → o ≡ None → ⊥
not_both o a e f = cc

pub no_extent : (s : Table) (t : CType) (x : Extent) → HasExtent s t x → extent_of s t ≡ None → ⊥
no_extent s t x (integer k) e = not_both _ _ (integer_extent s k) e
no_extent s t x (pointer pointee constant) e = not_both _ _ (pointer_extent s pointee constant) e
no_extent s t x (array {element = element} count {e = y} h) e =
    no_extent s element y h (none_before (repeated count) (extent_of s element) (sym (array_extent s element count) ∙ e))
no_extent s t x (struct {which = which} {layout = layout} is have) e = not_both _ _ (struct_extent s which layout is) e

-- ---- a type has one extent

-- what the extent of a type of this form is over
abbrev Shape : Table → CType-F CType FunctionType → Extent → Type 0
Shape s CType-F.Void x = ⊥
Shape s (CType-F.Int k) x = x ≡ scalar (bytes_of k)
Shape s (CType-F.Pointer pointee constant) x = x ≡ scalar pointer_bytes
Shape s (CType-F.Array element None) x = ⊥
Shape s (CType-F.Array element (Some count)) x = (y : Extent) × HasExtent s element y × (x ≡ extent_times count y)
Shape s (CType-F.Struct which) x =
    (layout : StructLayout) × (extents : List Extent) × (layout_of s which ≡ Some layout) × HaveExtents s layout.members extents × (x ≡ extent_over extents)
Shape s (CType-F.Function f) x = ⊥

form_of : (t : CType) (form : CType-F CType FunctionType) → roll-CType form ≡ t → out-CType t ≡ form
form_of t form is = ap out-CType (sym is) ∙ out-roll-CType form

from_form : (s : Table) (t : CType) (form : CType-F CType FunctionType) (x : Extent) → roll-CType form ≡ t → Shape s form x → Shape s (out-CType t) x
from_form s t form x is shape = subst (λ form. Shape s form x) (sym (form_of t form is)) shape

shape : (s : Table) (t : CType) (x : Extent) → HasExtent s t x → Shape s (out-CType t) x
shape s t x (integer k) = from_form s _ (CType-F.Int k) _ (type.rolls-Int k) refl
shape s t x (pointer pointee constant) = from_form s _ (CType-F.Pointer pointee constant) _ (type.rolls-Pointer pointee constant) refl
shape s t x (array {element = element} count {e = y} h) =
    from_form s _ (CType-F.Array element (Some count)) _ (type.rolls-Array element (Some count)) (y, h, refl)
shape s t x (struct {which = which} {layout = layout} {extents = extents} is have) =
    from_form s _ (CType-F.Struct which) _ (type.rolls-Struct which) (layout, extents, is, have, refl)

shape_at : (s : Table) (t : CType) (form : CType-F CType FunctionType) (x : Extent) → roll-CType form ≡ t → HasExtent s t x → Shape s form x
shape_at s t form x is h = subst (λ form. Shape s form x) (form_of t form is) (shape s t x h)

same_members : (s : Table) (which : ℕ) (one other : StructLayout) (extents : List Extent)
    → layout_of s which ≡ Some one → layout_of s which ≡ Some other → HaveExtents s other.members extents → HaveExtents s one.members extents
same_members s which one other extents is too have =
    let same : other ≡ one = cc in subst (λ (layout : StructLayout). HaveExtents s layout.members extents) same have

mutual
  pub one_extent : (s : Table) (t : CType) (x y : Extent) → HasExtent s t x → HasExtent s t y → x ≡ y
  one_extent s t x y (integer k) h = sym (shape_at s _ (CType-F.Int k) y (type.rolls-Int k) h)
  one_extent s t x y (pointer pointee constant) h = sym (shape_at s _ (CType-F.Pointer pointee constant) y (type.rolls-Pointer pointee constant) h)
  one_extent s t x y (array {element = element} count {e = z} g) h =
      let over = shape_at s _ (CType-F.Array element (Some count)) y (type.rolls-Array element (Some count)) h in
      ap (extent_times count) (one_extent s element z over.0 g over.1) ∙ sym over.2
  one_extent s t x y (struct {which = which} {layout = layout} {extents = extents} is have) h =
      let over = shape_at s _ (CType-F.Struct which) y (type.rolls-Struct which) h in
      let too = same_members s which layout over.0 over.1 is over.2 over.3 in
      ap extent_over (same_extents s layout.members extents over.1 have too) ∙ sym over.4

  same_extents : (s : Table) (members : List Member) (x y : List Extent) → HaveExtents s members x → HaveExtents s members y → x ≡ y
  same_extents s members x y none none = refl
  same_extents s members x y (more {member = member} {members = behind} {e = e} {extents = extents} first have) (more {e = f} {extents = others} second too) =
      ap₂ (λ e extents. e ∷ extents) (one_extent s member.kind e f first second) (same_extents s behind extents others have too)
