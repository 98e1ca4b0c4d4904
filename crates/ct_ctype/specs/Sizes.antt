-- Sizes and offsets without a limit: by recursion on the type, and on the members of its structs.
use Rattle.std.specs.Prelude.{◌≡◌, ℕ, ◌+◌, ◌*◌, Bool, List, [], ◌∷◌, Some}
use Rattle.std.specs.Int.{next_multiple_of}
use Rattle.ct_ctype.specs.declared.kinds.IntKind.{IntKind}
use Rattle.ct_ctype.specs.declared.types.CType.{CType}
use Rattle.ct_ctype.specs.declared.types.CType.TheVariants as type
use Rattle.ct_ctype.specs.declared.types.Member.{Member}
use Rattle.ct_ctype.specs.declared.types.Extent.{Extent}
use Rattle.ct_ctype.specs.declared.types.StructLayout.{StructLayout}
use Rattle.ct_ctype.specs.Ranges.{pointer_bytes}
use Rattle.ct_ctype.specs.Layout.{Table, capped, scalar, bytes_of, layout_of, end_of, largest}

-- each member at the next multiple of its alignment (6.7.2.1p14 and 6.7.2.1p15)
abbrev pub offsets : ℕ → List Extent → List ℕ
offsets from [] = []
offsets from (e ∷ extents) = let at = next_multiple_of from e.alignment in at ∷ offsets (at + e.size) extents

-- an array: its elements follow one another (6.2.5p20)
abbrev pub extent_times : ℕ → Extent → Extent
extent_times count element = record { size = count * element.size; alignment = element.alignment }

-- the extent of a struct over those of its members (6.7.2.1p17)
abbrev pub extent_over : List Extent → Extent
extent_over extents = let alignment = largest 1 extents in record { size = next_multiple_of (end_of 0 extents) alignment; alignment = alignment }

mutual
  -- the extent of a type; a type that is incomplete, `void` and a function have none
  pub data HasExtent (s : Table) : CType → Extent → Type 0 where
    integer : (k : IntKind) → HasExtent s (type.Int k) (scalar (bytes_of k))
    pointer : (pointee : CType) (constant : Bool) → HasExtent s (type.Pointer pointee constant) (scalar pointer_bytes)
    array : {element : CType} (count : ℕ) {e : Extent} → HasExtent s element e → HasExtent s (type.Array element (Some count)) (extent_times count e)
    struct : {which : ℕ} {layout : StructLayout} {extents : List Extent}
        → layout_of s which ≡ Some layout → HaveExtents s layout.members extents → HasExtent s (type.Struct which) (extent_over extents)

  -- the extents of members, in order
  pub data HaveExtents (s : Table) : List Member → List Extent → Type 0 where
    none : HaveExtents s [] []
    more : {member : Member} {members : List Member} {e : Extent} {extents : List Extent}
        → HasExtent s member.kind e → HaveExtents s members extents → HaveExtents s (member ∷ members) (e ∷ extents)

-- an extent with its size limited
abbrev pub limited : Extent → Extent
limited e = record e { size = capped e.size }
