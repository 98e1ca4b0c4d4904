-- The layout of a struct, member by member.
use Rattle.std.proofs.Common.{◌≡◌, ℕ, zero, suc, subst, ◌+◌, ◌<◌, ◌≤◌, ◌⊎◌, inl, inr, ◌++◌, ◌∷◌, [], List, length, take, drop, set, get_or, max, Option, Some, None, refl, sym, ap, ◌∙◌, arith, option_map, option_and_then, append_assoc, add-one, drop-cons, ⊎_elim}
use mathlib.Core.Path.{ap₂}
use Rattle.std.proofs.lemmas.Bool.{cases_lt}
use Rattle.std.proofs.lemmas.Grind.{take-set_at, common_steps}
use Rattle.std.proofs.lemmas.List.{length-set, take_all, drop_all, append-nil}
use Rattle.std.specs.Int.{next_multiple_of}
use Rattle.ct_ctype.specs.declared.types.Member.{Member}
use Rattle.ct_ctype.specs.declared.types.Extent.{Extent}
use Rattle.ct_ctype.specs.declared.types.StructLayout.{StructLayout}
use Rattle.ct_ctype.specs.Ranges.{largest_alignment}
use Rattle.ct_ctype.specs.Layout.{Table, capped, extent_of, extents_of, placed, end_of, largest, laid_out, IsExtent}

-- ---- numbers that are one, or are both past the limit

abbrev pub Alike : ℕ → ℕ → Type 0
Alike x y = (x ≡ y) ⊎ ((1048577 ≤ x) × (1048577 ≤ y))

pub capped_alike : (x y : ℕ) → Alike x y → capped x ≡ capped y
capped_alike x y (inl e) = ap capped e
capped_alike x y (inr h) = omega arith

pub alike_capped : (x n : ℕ) → Alike (x + n) (capped (capped x + n))
alike_capped x n = ⊎_elim (λ (h : x + n < 1048577). inl (omega arith)) (λ (h : 1048577 ≤ x + n). inr (h, omega arith)) (cases_lt (x + n) 1048577)

pub limit_alike : (x : ℕ) → Alike (capped x) x
limit_alike x = ⊎_elim (λ (h : x < 1048577). inl (omega arith)) (λ (h : 1048577 ≤ x). inr (omega arith, h)) (cases_lt x 1048577)

pub plus_alike : (x y m n : ℕ) → Alike x y → Alike m n → Alike (x + m) (y + n)
plus_alike x y m n (inl e) (inl f) = inl (ap₂ (λ z w. z + w) e f)
plus_alike x y m n (inl e) (inr k) = inr (omega (arith, k.0, k.1), omega (arith, k.0, k.1))
plus_alike x y m n (inr h) k = inr (omega (arith, h.0, h.1), omega (arith, h.0, h.1))

pub next_alike : (x y a : ℕ) → Alike x y → Alike (next_multiple_of x a) (next_multiple_of y a)
next_alike x y a (inl e) = inl (ap (λ z. next_multiple_of z a) e)
next_alike x y a (inr h) = inr (omega arith, omega arith)

after_alike : (x y : ℕ) (e : Extent) → Alike x y → Alike (next_multiple_of x e.alignment + e.size) (next_multiple_of y e.alignment + e.size)
after_alike x y e h = plus_alike _ _ e.size e.size (next_alike x y e.alignment h) (inl refl)

placed_alike : (ms : List Member) (es : List Extent) (x y : ℕ) → Alike x y → placed x ms es ≡ placed y ms es
placed_alike [] es x y h = refl
placed_alike (m ∷ ms) [] x y h = refl
placed_alike (m ∷ ms) (e ∷ es) x y h =
    ap₂ (λ offset rest. record m { offset = offset } ∷ rest) (capped_alike _ _ (next_alike x y e.alignment h)) (placed_alike ms es _ _ (after_alike x y e h))

end_alike : (es : List Extent) (x y : ℕ) → Alike x y → Alike (end_of x es) (end_of y es)
end_alike [] x y h = h
end_alike (e ∷ es) x y h = end_alike es _ _ (after_alike x y e h)

-- ---- what is done, and the rest from a place on

abbrev pub onto : List Member → ℕ → ℕ → List Member → List Extent → StructLayout
onto done end alignment ms es =
    record { members = done ++ placed end ms es; extent = record { size = capped (next_multiple_of (end_of end es) (largest alignment es)); alignment = largest alignment es } }

abbrev pub place_onto : Table → List Member → ℕ → ℕ → List Member → Option StructLayout
place_onto s done end alignment ms = option_map (onto done end alignment ms) (extents_of s ms)

pub place_start : (s : Table) (ms : List Member) → place_onto s [] 0 1 ms ≡ laid_out s ms
place_start s ms = refl

pub place_step : (s : Table) (done : List Member) (end alignment : ℕ) (m : Member) (ms : List Member) (e : Extent) (end' : ℕ) → extent_of s m.kind ≡ Some e → Alike (next_multiple_of end e.alignment + e.size) end'
    → place_onto s done end alignment (m ∷ ms) ≡ place_onto s (done ++ record m { offset = capped (next_multiple_of end e.alignment) } ∷ []) end' (max alignment e.alignment) ms
place_step s done end alignment m ms e end' is h =
    ap (λ o. option_map (onto done end alignment (m ∷ ms)) (option_and_then (λ e. option_map (λ es. e ∷ es) (extents_of s ms)) o)) is ∙ go (extents_of s ms)
  where
    go : (o : Option (List Extent)) → option_map (onto done end alignment (m ∷ ms)) (option_map (λ es. e ∷ es) o) ≡ option_map (onto (done ++ record m { offset = capped (next_multiple_of end e.alignment) } ∷ []) end' (max alignment e.alignment) ms) o
    go None = refl
    go (Some es) =
        let at : Member = record m { offset = capped (next_multiple_of end e.alignment) } in
        let a = largest (max alignment e.alignment) es in
        ap₂ (λ members size. Some (record { members = members; extent = record { size = size; alignment = a } }))
        (ap (λ rest. done ++ at ∷ rest) (placed_alike ms es _ _ h) ∙ sym (append_assoc done (at ∷ []) (placed end' ms es)))
        (capped_alike _ _ (next_alike _ _ a (end_alike es _ _ h)))

pub place_stop : (s : Table) (done : List Member) (end alignment : ℕ) (m : Member) (ms : List Member) → extent_of s m.kind ≡ None → place_onto s done end alignment (m ∷ ms) ≡ None
place_stop s done end alignment m ms is = ap (λ o. option_map (onto done end alignment (m ∷ ms)) (option_and_then (λ e. option_map (λ es. e ∷ es) (extents_of s ms)) o)) is

-- the members before this place have their offsets, and the others follow
pub record Placing (s : Table) (start now : List Member) (i end alignment : ℕ) : Type 0 where
  pub goes_on : place_onto s (take i now) end alignment (drop i now) ≡ laid_out s start
  pub same_length : length now ≡ length start
  pub end_bound : end ≤ 1048577
  pub some : 0 < alignment
  pub bound : alignment ≤ largest_alignment

cut : {A : Type 0} (xs : List A) (i : ℕ) (x : A) → i < length xs → x ≡ get_or xs i x → drop i xs ≡ x ∷ drop (i + 1) xs
cut xs i x lt at =
    let whole : drop i xs ≡ get_or xs i x ∷ drop (i + 1) xs = rw add-one (drop-cons xs i x lt) in
    whole ∙ ap (λ y. y ∷ drop (i + 1) xs) (sym at)

drop-set_past : {A : Type 0} (xs : List A) (i : ℕ) (y : A) → i < length xs → drop (i + 1) (set xs i y) ≡ drop (i + 1) xs
drop-set_past xs i y lt = grind (arith, common_steps)

pub placing_start : (s : Table) (ms : List Member) → Placing s ms ms 0 0 1
placing_start s ms = record { goes_on = place_start s ms; same_length = refl; end_bound = omega arith; some = omega arith; bound = omega arith }

pub placing_step : (s : Table) (start now : List Member) (i end alignment : ℕ) (m : Member) (e : Extent) → Placing s start now i end alignment → i < length now → m ≡ get_or now i m → extent_of s m.kind ≡ Some e → IsExtent e
    → Placing s start (set now i (record m { offset = capped (next_multiple_of end e.alignment) })) (i + 1) (capped (capped (next_multiple_of end e.alignment) + e.size)) (max alignment e.alignment)
placing_step s start now i end alignment m e h lt at is kept =
    let m' : Member = record m { offset = capped (next_multiple_of end e.alignment) } in
    let end' = capped (capped (next_multiple_of end e.alignment) + e.size) in
    let a' = max alignment e.alignment in
    record {
      goes_on = ap₂ (λ done rest. place_onto s done end' a' rest) (take-set_at now i (i + 1) m' refl lt) (drop-set_past now i m' lt)
          ∙ sym (place_step s (take i now) end alignment m (drop (i + 1) now) e end' is (alike_capped (next_multiple_of end e.alignment) e.size))
          ∙ ap (place_onto s (take i now) end alignment) (sym (cut now i m lt at)) ∙ h.goes_on;
      same_length = length-set now i m' ∙ h.same_length;
      end_bound = omega arith;
      some = omega (arith, h.some);
      bound = omega (arith, h.bound, kept.alignment);
    }

pub placing_stop : (s : Table) (start now : List Member) (i end alignment : ℕ) (m : Member) → Placing s start now i end alignment → i < length now → m ≡ get_or now i m → extent_of s m.kind ≡ None → laid_out s start ≡ None
placing_stop s start now i end alignment m h lt at is =
    sym h.goes_on ∙ ap (place_onto s (take i now) end alignment) (cut now i m lt at) ∙ place_stop s (take i now) end alignment m (drop (i + 1) now) is

pub placing_end : (s : Table) (start now : List Member) (i end alignment : ℕ) → Placing s start now i end alignment → length now ≤ i → laid_out s start ≡ Some (record { members = now; extent = record { size = capped (next_multiple_of end alignment); alignment = alignment } })
placing_end s start now i end alignment h le =
    sym h.goes_on ∙ ap₂ (λ done rest. place_onto s done end alignment rest) (take_all i now le) (drop_all i now le)
    ∙ ap (λ members. Some (record { members = members; extent = record { size = capped (next_multiple_of end alignment); alignment = alignment } })) (append-nil now)

same_item : {A : Type 0} (xs : List A) (i : ℕ) (x y : A) → i < length xs → x ≡ get_or xs i x → y ≡ get_or xs i y → x ≡ y
same_item [] i x y lt p q = absurd (omega arith)
same_item (z ∷ xs) zero x y lt p q = p ∙ sym q
same_item (z ∷ xs) (suc i) x y lt p q = same_item xs i x y (omega arith) p q

-- the step, with what the calls gave
pub placing_next : (s : Table) (start now : List Member) (i end alignment : ℕ) (m n : Member) (e : Extent) (offset end' alignment' : ℕ) → Placing s start now i end alignment → i < length now → m ≡ get_or now i m → n ≡ get_or now i n → extent_of s m.kind ≡ Some e → IsExtent e
    → offset ≡ capped (next_multiple_of end e.alignment) → end' ≡ capped (offset + e.size) → alignment' ≡ max alignment e.alignment
    → Placing s start (set now i (record n { offset = offset })) (i + 1) end' alignment'
placing_next s start now i end alignment m n e offset end' alignment' h lt at at' is kept o_is end_is a_is = go (same_item now i m n lt at at') o_is (end_is ∙ ap (λ z. capped (z + e.size)) o_is) a_is
  where
    go : m ≡ n → {o : ℕ} → o ≡ capped (next_multiple_of end e.alignment) → {f : ℕ} → f ≡ capped (capped (next_multiple_of end e.alignment) + e.size) → {b : ℕ} → b ≡ max alignment e.alignment → Placing s start (set now i (record n { offset = o })) (i + 1) f b
    go m_is {o} o_is {f} f_is {b} b_is =
        let P : Member → ℕ → ℕ → ℕ → Type 0 = λ m o f b. Placing s start (set now i (record m { offset = o })) (i + 1) f b in
        let step = placing_step s start now i end alignment m e h lt at is kept in
        subst (λ (m : Member). P m o f b) m_is (subst (λ (o : ℕ). P m o f b) (sym o_is) (subst (λ (f : ℕ). P m (capped (next_multiple_of end e.alignment)) f b) (sym f_is) (subst (λ (b : ℕ). P m (capped (next_multiple_of end e.alignment)) (capped (capped (next_multiple_of end e.alignment) + e.size)) b) (sym b_is) step)))
