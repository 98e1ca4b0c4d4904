-- Limited at each step or at the end alone, sizes and offsets come to the same.
use Rattle.std.proofs.Common.{◌≡◌, ℕ, zero, suc, ◌*◌, ◌<◌, ◌≤◌, inl, ⊎_elim, ◌∷◌, [], List, map, max, refl, ap, ◌∙◌, arith}
use mathlib.Core.Path.{ap₂}
use Rattle.std.proofs.lemmas.Bool.{cases_lt}
use Rattle.std.specs.Int.{next_multiple_of}
use Rattle.ct_ctype.specs.declared.kinds.IntKind.{IntKind}
use Rattle.ct_ctype.specs.declared.kinds.IntKind.TheVariants.{Bool as Boolean, Char, SignedChar, UnsignedChar, Short, UnsignedShort, Int, UnsignedInt, Long, UnsignedLong, LongLong, UnsignedLongLong}
use Rattle.ct_ctype.specs.declared.types.Member.{Member}
use Rattle.ct_ctype.specs.declared.types.Extent.{Extent}
use Rattle.ct_ctype.specs.Layout.{Table, capped, scalar, bytes_of, repeated, placed, end_of, largest, struct_layout}
use Rattle.ct_ctype.specs.Sizes.{HaveExtents, none, more, offsets, extent_times, extent_over, limited}
use Rattle.ct_ctype.proofs.Placing.{Alike, capped_alike, limit_alike, plus_alike, next_alike}

-- an integer is far below the limit
pub scalar_limited : (k : IntKind) → scalar (bytes_of k) ≡ limited (scalar (bytes_of k))
scalar_limited Boolean = refl
scalar_limited Char = refl
scalar_limited SignedChar = refl
scalar_limited UnsignedChar = refl
scalar_limited Short = refl
scalar_limited UnsignedShort = refl
scalar_limited Int = refl
scalar_limited UnsignedInt = refl
scalar_limited Long = refl
scalar_limited UnsignedLong = refl
scalar_limited LongLong = refl
scalar_limited UnsignedLongLong = refl

-- no times a size past the limit is 0, and once or more is past it
times_limited : (count size : ℕ) → capped (count * capped size) ≡ capped (count * size)
times_limited zero size = omega arith
times_limited (suc count) size = ⊎_elim (λ (h : size < 1048577). small h) (λ (h : 1048577 ≤ size). large h) (cases_lt size 1048577)
  where
    small : size < 1048577 → capped (suc count * capped size) ≡ capped (suc count * size)
    small h = let same : capped size ≡ size = omega arith in ap (λ n. capped (suc count * n)) same

    large : 1048577 ≤ size → capped (suc count * capped size) ≡ capped (suc count * size)
    large h =
        let most : capped size ≡ 1048577 = omega arith in
        let both : capped (suc count * 1048577) ≡ capped (suc count * size) = omega arith in
        ap (λ n. capped (suc count * n)) most ∙ both

pub repeated_limited : (count : ℕ) (element : Extent) → repeated count (limited element) ≡ limited (extent_times count element)
repeated_limited count element = ap (λ size. record { size = size; alignment = element.alignment }) (times_limited count element.size)

end_limited : (extents : List Extent) (x y : ℕ) → Alike x y → Alike (end_of x (map limited extents)) (end_of y extents)
end_limited [] x y h = h
end_limited (e ∷ extents) x y h = end_limited extents _ _ (plus_alike _ _ _ _ (next_alike x y e.alignment h) (limit_alike e.size))

largest_limited : (extents : List Extent) (so_far : ℕ) → largest so_far (map limited extents) ≡ largest so_far extents
largest_limited [] so_far = refl
largest_limited (e ∷ extents) so_far = largest_limited extents (max so_far e.alignment)

pub struct_limited : (members : List Member) (extents : List Extent) → (struct_layout members (map limited extents)).extent ≡ limited (extent_over extents)
struct_limited members extents =
    ap (λ alignment. record { size = capped (next_multiple_of (end_of 0 (map limited extents)) alignment); alignment = alignment }) (largest_limited extents 1)
    ∙ ap (λ size. record { size = size; alignment = largest 1 extents }) (capped_alike _ _ (next_alike _ _ (largest 1 extents) (end_limited extents 0 0 (inl refl))))

placed_limited : (s : Table) (members : List Member) (extents : List Extent) (x y : ℕ) → HaveExtents s members extents → Alike x y
    → map (λ member. member.offset) (placed x members (map limited extents)) ≡ map capped (offsets y extents)
placed_limited s members extents x y none h = refl
placed_limited s members extents x y (more {members = behind} {e = e} {extents = others} first have) h =
    let next = next_alike x y e.alignment h in
    ap₂ (λ offset rest. offset ∷ rest) (capped_alike _ _ next) (placed_limited s behind others _ _ have (plus_alike _ _ _ _ next (limit_alike e.size)))

pub offsets_limited : (s : Table) (members : List Member) (extents : List Extent) → HaveExtents s members extents
    → map (λ member. member.offset) (placed 0 members (map limited extents)) ≡ map capped (offsets 0 extents)
offsets_limited s members extents have = placed_limited s members extents 0 0 have (inl refl)
