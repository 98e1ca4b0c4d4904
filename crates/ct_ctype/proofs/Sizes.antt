-- A type with a limited extent has an extent, which is that with its size limited.
use Rattle.std.proofs.Common.{◌≡◌, ℕ, zero, suc, ◌<◌, ◌∷◌, [], List, map, Option, Some, None, refl, sym, ap, subst, ◌∙◌, arith, slice_get}
use mathlib.Core.Path.{ap₂}
use Rattle.ct_ctype.specs.declared.types.CType.{CType, roll-CType, map-CType, fold-roll-CType, ind-CType}
use Rattle.ct_ctype.specs.declared.types.CType.TheOpen.{CType-F}
use Rattle.ct_ctype.specs.declared.types.CType.TheVariants as type
use Rattle.ct_ctype.specs.declared.types.FunctionType.{FunctionType}
use Rattle.ct_ctype.specs.declared.types.Member.{Member}
use Rattle.ct_ctype.specs.declared.types.Extent.{Extent}
use Rattle.ct_ctype.specs.declared.types.StructLayout.{StructLayout}
use Rattle.ct_ctype.specs.Ranges.{pointer_bytes}
use Rattle.ct_ctype.specs.Layout.{Table, IsSound, capped, scalar, bytes_of, repeated, layout_of, extent_step, extent_of, extents_of, struct_layout, held_step, held_struct}
use Rattle.ct_ctype.specs.Sizes.{HasExtent, HaveExtents, integer, pointer, array, struct, none, more, offsets, extent_times, extent_over, limited}
use Rattle.ct_ctype.proofs.Growing.{parts}
use Rattle.ct_ctype.proofs.Acyclic.{before}
use Rattle.ct_ctype.proofs.Limits.{scalar_limited, repeated_limited, struct_limited, offsets_limited}
use Rattle.ct_ctype.proofs.OneExtent.{not_both}

-- the extent of a type whose limited one this is
record Found (s : Table) (t : CType) (e : Extent) : Type 0 where
  pub exact : Extent
  pub has : HasExtent s t exact
  pub is : limited exact ≡ e

same_type : (s : Table) (t u : CType) (e : Extent) → u ≡ t → Found s t e → Found s u e
same_type s t u e is found = subst (λ (t : CType). Found s t e) (sym is) found

-- the extents of members whose limited ones these are
record AllFound (s : Table) (members : List Member) (extents : List Extent) : Type 0 where
  pub exact : List Extent
  pub have : HaveExtents s members exact
  pub are : map limited exact ≡ extents

-- the extents of the members of a struct, of which its layout has the limited ones
record IsLaid (s : Table) (layout : StructLayout) : Type 0 where
  pub exact : List Extent
  pub have : HaveExtents s layout.members exact
  pub is : struct_layout layout.members (map limited exact) ≡ layout

-- a type is found where the struct that it holds is low enough
record Exact (s : Table) (height : ℕ → ℕ) (n : ℕ) (t : CType) (o : Option Extent) (held : Option ℕ) : Type 0 where
  pub found : (e : Extent) → o ≡ Some e → ((inner : ℕ) → held ≡ Some inner → height inner < n) → Found s t e

-- ---- types, from the structs that are low enough

module _ (s : Table) (height : ℕ → ℕ) (n : ℕ) where
  abbrev LowLaid : Type 0
  LowLaid = (which : ℕ) (layout : StructLayout) → layout_of s which ≡ Some layout → height which < n → IsLaid s layout

  abbrev IsExact : CType → Type 0
  IsExact t = Exact s height n t (extent_of s t) (held_struct t)

  array_found : (element : CType) (count : ℕ) (e : Extent) → Found s element e → Found s (type.Array element (Some count)) (repeated count e)
  array_found element count e inside = record {
    exact = extent_times count inside.exact;
    has = array count inside.has;
    is = sym (repeated_limited count inside.exact) ∙ ap (repeated count) inside.is;
  }

  struct_found : LowLaid → (which : ℕ) (layout : StructLayout) → layout_of s which ≡ Some layout → height which < n → Found s (type.Struct which) layout.extent
  struct_found low which layout is below =
      let laid = low which layout is below in
      record {
        exact = extent_over laid.exact;
        has = struct is laid.have;
        is = sym (struct_limited layout.members laid.exact) ∙ ap (λ (l : StructLayout). l.extent) laid.is;
      }

  layer_exact : LowLaid → (g g' : FunctionType → Unit {0}) (y : CType-F ((t : CType) × IsExact t) ((f : FunctionType) × Unit {0}))
      → let form = map-CType ((t : CType) × IsExact t) ((f : FunctionType) × Unit {0}) CType FunctionType (λ p. p.0) (λ p. p.0) y in
      Exact s height n (roll-CType form)
      (extent_step s (map-CType CType FunctionType (Option Extent) (Unit {0}) (extent_of s) g form))
      (held_step (map-CType CType FunctionType (Option ℕ) (Unit {0}) held_struct g' form))
  layer_exact low g g' CType-F.Void = record { found = λ e o below. absurd (cc) }
  layer_exact low g g' (CType-F.Int k) = record {
    found = λ e o below.
        let same : scalar (bytes_of k) ≡ e = cc in
        same_type s _ _ e (type.rolls-Int k) (record { exact = scalar (bytes_of k); has = integer k; is = sym (scalar_limited k) ∙ same });
  }
  layer_exact low g g' (CType-F.Pointer p constant) = record {
    found = λ e o below.
        let same : scalar pointer_bytes ≡ e = cc in
        same_type s _ _ e (type.rolls-Pointer p.0 constant) (record { exact = scalar pointer_bytes; has = pointer p.0 constant; is = same });
  }
  layer_exact low g g' (CType-F.Array t None) = record { found = λ e o below. absurd (cc) }
  layer_exact low g g' (CType-F.Array t (Some count)) = record {
    found = λ e o below.
        let b = before (repeated count) (extent_of s t.0) e o in
        let whole = array_found t.0 count b.first (t.1.found b.first b.is below) in
        same_type s _ _ e (type.rolls-Array t.0 (Some count)) (subst (Found s (type.Array t.0 (Some count))) b.gives whole);
  }
  layer_exact low g g' (CType-F.Struct which) = record {
    found = λ e o below.
        let b = before (λ (l : StructLayout). l.extent) (layout_of s which) e o in
        let whole = struct_found low which b.first b.is (below which refl) in
        same_type s _ _ e (type.rolls-Struct which) (subst (Found s (type.Struct which)) b.gives whole);
  }
  layer_exact low g g' (CType-F.Function f) = record { found = λ e o below. absurd (cc) }

  type_exact : LowLaid → (t : CType) → IsExact t
  unfolding extent_of held_struct
  type_exact low = ind-CType IsExact (λ f. Unit {0}) (λ l y is.
      let nothing : FunctionType → Unit {0} = λ f. tt in
      let first : CType-F CType FunctionType → Option Extent = λ l. extent_step s (map-CType CType FunctionType (Option Extent) (Unit {0}) (extent_of s) nothing l) in
      let second : CType-F CType FunctionType → Option ℕ = λ l. held_step (map-CType CType FunctionType (Option ℕ) (Unit {0}) held_struct nothing l) in
      let P : CType-F CType FunctionType → Type 0 = λ l. Exact s height n (roll-CType l) (first l) (second l) in
      let Q : Option Extent → Type 0 = λ o. Exact s height n (roll-CType l) o (held_struct (roll-CType l)) in
      let R : Option ℕ → Type 0 = λ held. Exact s height n (roll-CType l) (first l) held in
      subst Q (sym (fold-roll-CType (Option Extent) (Unit {0}) (extent_step s) (λ f. tt) l))
      (subst R (sym (fold-roll-CType (Option ℕ) (Unit {0}) held_step (λ f. tt) l)) (subst P is (layer_exact low nothing nothing y)))) (λ l y is. tt)

  members_exact : LowLaid → (members : List Member)
      → ((k : ℕ) (member : Member) (inner : ℕ) → slice_get members k ≡ Some member → held_struct member.kind ≡ Some inner → height inner < n)
      → (extents : List Extent) → extents_of s members ≡ Some extents → AllFound s members extents
  members_exact low [] below extents e = record { exact = []; have = none; are = cc }
  members_exact low (member ∷ members) below extents e =
      let p = parts (extent_of s member.kind) (extents_of s members) extents e in
      let first = (type_exact low member.kind).found p.first p.first_is (λ inner h. below 0 member inner refl h) in
      let others = members_exact low members (λ k m inner g h. below (suc k) m inner g h) p.rest p.rest_is in
      record {
        exact = first.exact ∷ others.exact;
        have = more first.has others.have;
        are = ap₂ (λ e extents. e ∷ extents) first.is others.are ∙ sym p.all_is;
      }

-- ---- structs, by their heights up to a bound

low_laid : (s : Table) (sound : IsSound s) (n : ℕ) → LowLaid s sound.acyclic.height n
low_laid s sound zero which layout is below = absurd (omega arith)
low_laid s sound (suc n) which layout is below =
    let height = sound.acyclic.height in
    let b = before (struct_layout layout.members) (extents_of s layout.members) layout (sound.kept which layout is).laid in
    let lower : (k : ℕ) (member : Member) (inner : ℕ) → slice_get layout.members k ≡ Some member → held_struct member.kind ≡ Some inner → height inner < n =
    λ k member inner g h. let falls = sound.acyclic.falls which layout k member inner is g h in omega arith in
    let all = members_exact s height n (low_laid s sound n) layout.members lower b.first b.is in
    record { exact = all.exact; have = all.have; is = ap (struct_layout layout.members) all.are ∙ b.gives }

pub each_extent : (s : Table) → IsSound s → (t : CType) (e : Extent) → extent_of s t ≡ Some e → (x : Extent) × HasExtent s t x × (e ≡ limited x)
each_extent s sound t e is = go (held_struct t) refl
  where
    height : ℕ → ℕ
    height = sound.acyclic.height

    below : (n : ℕ) → ((inner : ℕ) → held_struct t ≡ Some inner → height inner < n) → (x : Extent) × HasExtent s t x × (e ≡ limited x)
    below n low = let found = (type_exact s height n (low_laid s sound n) t).found e is low in (found.exact, found.has, sym found.is)

    go : (held : Option ℕ) → held_struct t ≡ held → (x : Extent) × HasExtent s t x × (e ≡ limited x)
    go None held = below 0 (λ inner too. absurd (not_both _ _ too held))
    go (Some outer) held = below (suc (height outer)) (λ inner too.
        let same : inner ≡ outer = cc in
        let equal : height inner ≡ height outer = ap height same in
        omega arith)

pub each_offset : (s : Table) → IsSound s → (which : ℕ) (layout : StructLayout) → layout_of s which ≡ Some layout
    → (extents : List Extent) × HaveExtents s layout.members extents × (map (λ member. member.offset) layout.members ≡ map capped (offsets 0 extents))
each_offset s sound which layout is =
    let laid = low_laid s sound (suc (sound.acyclic.height which)) which layout is (omega arith) in
    (laid.exact, laid.have, ap (λ (l : StructLayout). map (λ member. member.offset) l.members) (sym laid.is) ∙ offsets_limited s layout.members laid.exact laid.have)
