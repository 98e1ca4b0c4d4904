-- The layout of types. A size or an offset past 1 MiB is given as one more than that, at each step. The law `exact_sizes`
-- says that this is the same as at the end.
use Rattle.std.specs.Prelude.{ℕ, ◌+◌, ◌*◌, ◌/◌, ◌≡◌, ◌<◌, ◌≤◌, if◌then◌else◌, Bool, true, false, List, [], ◌∷◌, map, min, max, fold, find, bytes_eq, Option, Some, None, option_map, option_and_then, slice_get, slice_set}
use Rattle.std.specs.Int.{next_multiple_of}
use Rattle.ct_ctype.specs.declared.kinds.IntKind.{IntKind}
use Rattle.ct_ctype.specs.declared.types.CType.{CType, fold-CType}
use Rattle.ct_ctype.specs.declared.types.CType.TheOpen.{CType-F}
use Rattle.ct_ctype.specs.declared.types.Member.{Member}
use Rattle.ct_ctype.specs.declared.types.Extent.{Extent}
use Rattle.ct_ctype.specs.declared.types.StructLayout.{StructLayout}
use Rattle.ct_ctype.specs.Ranges.{width, pointer_bytes, largest_alignment}

-- the structs by their numbers, of which some are complete
abbrev pub Table : Type 0
Table = List (Option StructLayout)

-- at most one more than 1 MiB
abbrev pub capped : ℕ → ℕ
capped bytes = min bytes 1048577

-- the target: a scalar aligns at its size (6.2.8)
abbrev pub scalar : ℕ → Extent
scalar bytes = record { size = bytes; alignment = bytes }

-- the bytes of 8 bits that a kind's width takes
abbrev pub bytes_of : IntKind → ℕ
bytes_of kind = (width kind + 7) / 8

-- an array: its elements follow one another (6.2.5p20)
abbrev pub repeated : ℕ → Extent → Extent
repeated count element = record { size = capped (count * element.size); alignment = element.alignment }

-- the layout of a struct that is complete
abbrev pub layout_of : Table → ℕ → Option StructLayout
layout_of structs which = option_and_then (λ (layout : Option StructLayout). layout) (slice_get structs which)

-- one level of a type, with the extents of its parts
abbrev pub extent_step : Table → CType-F (Option Extent) (Unit {0}) → Option Extent
extent_step structs CType-F.Void = None
extent_step structs (CType-F.Int kind) = Some (scalar (bytes_of kind))
extent_step structs (CType-F.Pointer pointee constant) = Some (scalar pointer_bytes)
extent_step structs (CType-F.Array element None) = None
extent_step structs (CType-F.Array element (Some count)) = option_map (repeated count) element
extent_step structs (CType-F.Struct which) = option_map (λ layout. layout.extent) (layout_of structs which)
extent_step structs (CType-F.Function f) = None

-- the extent of a type; a type that is incomplete, `void` and a function have none
unfoldable pub extent_of : Table → CType → Option Extent
extent_of structs = fold-CType (Option Extent) (Unit {0}) (extent_step structs) (λ f. tt)

-- the extents of the members, where each has one
abbrev pub extents_of : Table → List Member → Option (List Extent)
extents_of structs [] = Some []
extents_of structs (member ∷ members) = option_and_then (λ extent. option_map (λ extents. extent ∷ extents) (extents_of structs members)) (extent_of structs member.kind)

-- the members in order, each at the next multiple of its alignment, the first from this place on (6.7.2.1p14 and 6.7.2.1p15)
abbrev pub placed : ℕ → List Member → List Extent → List Member
placed from [] extents = []
placed from (member ∷ members) [] = []
placed from (member ∷ members) (extent ∷ extents) =
    let at = next_multiple_of from extent.alignment in
    record member { offset = capped at } ∷ placed (at + extent.size) members extents

-- where the last of them ends
abbrev pub end_of : ℕ → List Extent → ℕ
end_of from [] = from
end_of from (extent ∷ extents) = end_of (next_multiple_of from extent.alignment + extent.size) extents

-- the largest alignment
abbrev pub largest : ℕ → List Extent → ℕ
largest so_far extents = fold max so_far (map (λ extent. extent.alignment) extents)

-- the size is rounded up to the largest alignment (6.7.2.1p17)
abbrev pub struct_layout : List Member → List Extent → StructLayout
struct_layout members extents =
    let alignment = largest 1 extents in
    record { members = placed 0 members extents; extent = record { size = capped (next_multiple_of (end_of 0 extents) alignment); alignment = alignment } }

-- the layout of a struct with these members, where each has a size
abbrev pub laid_out : Table → List Member → Option StructLayout
laid_out structs members = option_map (struct_layout members) (extents_of structs members)

-- a struct stands here, and has no members yet
abbrev pub is_open : Option (Option StructLayout) → Bool
is_open (Some None) = true
is_open (Some (Some layout)) = false
is_open None = false

-- the table with these members as those of the struct, where it is open and each of them has a size
abbrev pub completed : Table → ℕ → List Member → Option Table
completed structs which members =
    if is_open (slice_get structs which) then option_map (λ layout. slice_set structs which (Some layout)) (laid_out structs members) else None

-- what each extent keeps
pub record IsExtent (extent : Extent) : Type 0 where
  pub size : extent.size ≤ 1048577
  pub some : 0 < extent.alignment
  pub alignment : extent.alignment ≤ largest_alignment

-- what each complete struct keeps: its layout is that which its members have over the whole table
pub record IsKept (structs : Table) (layout : StructLayout) : Type 0 where
  pub laid : laid_out structs layout.members ≡ Some layout
  pub bounded : IsExtent layout.extent

abbrev pub AllKept : Table → Type 0
AllKept structs = (which : ℕ) (layout : StructLayout) → layout_of structs which ≡ Some layout → IsKept structs layout

-- the struct that an object of the type holds, alone or as an element of an array
abbrev pub held_step : CType-F (Option ℕ) (Unit {0}) → Option ℕ
held_step CType-F.Void = None
held_step (CType-F.Int kind) = None
held_step (CType-F.Pointer pointee constant) = None
held_step (CType-F.Array element count) = element
held_step (CType-F.Struct which) = Some which
held_step (CType-F.Function f) = None

unfoldable pub held_struct : CType → Option ℕ
held_struct = fold-CType (Option ℕ) (Unit {0}) held_step (λ f. tt)

-- no struct holds itself, also through others: each is higher than those that its members hold
pub record IsAcyclic (structs : Table) : Type 0 where
  pub height : ℕ → ℕ
  pub falls : (which : ℕ) (layout : StructLayout) (place : ℕ) (member : Member) (inner : ℕ) → layout_of structs which ≡ Some layout → slice_get layout.members place ≡ Some member → held_struct member.kind ≡ Some inner → height inner < height which

pub record IsSound (structs : Table) : Type 0 where
  pub kept : AllKept structs
  pub acyclic : IsAcyclic structs

-- the offset of the member of this name; of the first, if there are several
abbrev pub member_offset : List ℕ → List Member → Option ℕ
member_offset name members = option_map (λ (member : Member). member.offset) (find (λ (member : Member). bytes_eq member.name name) members)

abbrev pub offset_in : Table → ℕ → List ℕ → Option ℕ
offset_in structs which name = option_and_then (λ (layout : StructLayout). member_offset name layout.members) (layout_of structs which)
