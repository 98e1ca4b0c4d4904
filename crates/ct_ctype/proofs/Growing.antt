-- A struct that is added or completed leaves the other layouts as they are.
use Rattle.std.proofs.Common.{⊎_elim, ◌≡◌, ℕ, zero, suc, true, ◌⊎◌, inl, inr, ◌+◌, ◌++◌, ◌∷◌, [], List, Option, Some, None, refl, sym, ap, subst, ◌∙◌, option_map, option_and_then, slice_get, slice_set, option_copied, IfSome, Bor}
use Rattle.ct_ctype.specs.declared.types.CType.{CType, roll-CType, map-CType, fold-roll-CType, ind-CType}
use Rattle.ct_ctype.specs.declared.types.CType.TheOpen.{CType-F}
use Rattle.ct_ctype.specs.declared.types.FunctionType.{FunctionType}
use Rattle.ct_ctype.specs.declared.types.Member.{Member}
use Rattle.ct_ctype.specs.declared.types.Extent.{Extent}
use Rattle.ct_ctype.specs.declared.types.StructLayout.{StructLayout}
use Rattle.std.specs.Int.{next_multiple_of}
use Rattle.ct_ctype.specs.Layout.{Table, layout_of, is_open, capped, placed, extent_step, extent_of, extents_of, laid_out, AllKept, IsKept, IsExtent, struct_layout, repeated}

-- each complete struct of the first table stands in the second as it is
pub record Extends (s s' : Table) : Type 0 where
  pub kept : (which : ℕ) (layout : StructLayout) → layout_of s which ≡ Some layout → layout_of s' which ≡ Some layout

-- what one option has the other has too
pub record Within {A : Type 0} (o o' : Option A) : Type 0 where
  pub found : (a : A) → o ≡ Some a → o' ≡ Some a

mapped : {A B : Type 0} (f : A → B) (o o' : Option A) → Within o o' → Within (option_map f o) (option_map f o')
mapped f None o' h = record { found = λ b e. absurd (cc) }
mapped f (Some a) o' h = record { found = λ b e. ap (option_map f) (h.found a refl) ∙ e }

then_within : {A B : Type 0} (f f' : A → Option B) (o o' : Option A) → Within o o' → ((a : A) → Within (f a) (f' a)) → Within (option_and_then f o) (option_and_then f' o')
then_within f f' None o' h k = record { found = λ b e. absurd (cc) }
then_within f f' (Some a) o' h k = record { found = λ b e. ap (option_and_then f') (h.found a refl) ∙ (k a).found b e }

same_within : {A : Type 0} (o : Option A) → Within o o
same_within o = record { found = λ a e. e }

module _ (s s' : Table) (x : Extends s s') where
  abbrev Kept : CType → Type 0
  Kept t = Within (extent_of s t) (extent_of s' t)

  layer_kept : (g g' : FunctionType → Unit {0}) (y : CType-F ((t : CType) × Kept t) ((f : FunctionType) × Unit {0}))
      → Within (extent_step s (map-CType CType FunctionType (Option Extent) (Unit {0}) (extent_of s) g (map-CType ((t : CType) × Kept t) ((f : FunctionType) × Unit {0}) CType FunctionType (λ p. p.0) (λ p. p.0) y)))
      (extent_step s' (map-CType CType FunctionType (Option Extent) (Unit {0}) (extent_of s') g' (map-CType ((t : CType) × Kept t) ((f : FunctionType) × Unit {0}) CType FunctionType (λ p. p.0) (λ p. p.0) y)))
  layer_kept g g' CType-F.Void = same_within None
  layer_kept g g' (CType-F.Int k) = same_within _
  layer_kept g g' (CType-F.Pointer p constant) = same_within _
  layer_kept g g' (CType-F.Array t None) = same_within None
  layer_kept g g' (CType-F.Array t (Some n)) = mapped (repeated n) _ _ t.1
  layer_kept g g' (CType-F.Struct which) = mapped (λ (l : StructLayout). l.extent) _ _ (record { found = x.kept which })
  layer_kept g g' (CType-F.Function f) = same_within None

  pub extent_kept : (t : CType) → Within (extent_of s t) (extent_of s' t)
  unfolding extent_of
  extent_kept = ind-CType (λ t. Within (extent_of s t) (extent_of s' t)) (λ f. Unit {0}) (λ l y is.
      let none : FunctionType → Unit {0} = λ f. tt in
      let first : CType-F CType FunctionType → Option Extent = λ l. extent_step s (map-CType CType FunctionType (Option Extent) (Unit {0}) (extent_of s) none l) in
      let second : CType-F CType FunctionType → Option Extent = λ l. extent_step s' (map-CType CType FunctionType (Option Extent) (Unit {0}) (extent_of s') none l) in
      let P : CType-F CType FunctionType → Type 0 = λ l. Within (first l) (second l) in
      let Q : Option Extent → Type 0 = λ o. Within o (extent_of s' (roll-CType l)) in
      let R : Option Extent → Type 0 = λ o. Within (first l) o in
      subst Q (sym (fold-roll-CType (Option Extent) (Unit {0}) (extent_step s) (λ f. tt) l))
      (subst R (sym (fold-roll-CType (Option Extent) (Unit {0}) (extent_step s') (λ f. tt) l)) (subst P is (layer_kept none none y)))) (λ l y is. tt)

  pub extents_kept : (ms : List Member) → Within (extents_of s ms) (extents_of s' ms)
  extents_kept [] = same_within (Some [])
  extents_kept (m ∷ ms) = then_within _ _ _ _ (extent_kept m.kind) (λ e. mapped (λ es. e ∷ es) _ _ (extents_kept ms))

  pub laid_kept : (ms : List Member) → Within (laid_out s ms) (laid_out s' ms)
  laid_kept ms = mapped (struct_layout ms) _ _ (extents_kept ms)

  pub still_kept : (l : StructLayout) → IsKept s l → IsKept s' l
  still_kept l h = record { laid = (laid_kept l.members).found l h.laid; bounded = h.bounded }

-- ---- a struct more

pub layout_of-declared : (s : Table) (which : ℕ) → layout_of (s ++ None ∷ []) which ≡ layout_of s which
layout_of-declared [] zero = refl
layout_of-declared [] (suc which) = refl
layout_of-declared (o ∷ s) zero = refl
layout_of-declared (o ∷ s) (suc which) = layout_of-declared s which

pub declared_kept : (s : Table) → AllKept s → AllKept (s ++ None ∷ [])
declared_kept s h = λ which l e.
    still_kept s (s ++ None ∷ []) (record { kept = λ w k f. layout_of-declared s w ∙ f }) l (h which l (sym (layout_of-declared s which) ∙ e))

-- ---- a struct completed

layout_of-set_kept : (s : Table) (at : ℕ) (new : StructLayout) → is_open (slice_get s at) ≡ true → (which : ℕ) (l : StructLayout) → layout_of s which ≡ Some l → layout_of (slice_set s at (Some new)) which ≡ Some l
layout_of-set_kept [] at new is_so which l e = e
layout_of-set_kept (None ∷ s) zero new is_so zero l e = absurd (cc)
layout_of-set_kept (Some o ∷ s) zero new is_so zero l e = absurd (cc)
layout_of-set_kept (o ∷ s) zero new is_so (suc which) l e = e
layout_of-set_kept (o ∷ s) (suc at) new is_so zero l e = e
layout_of-set_kept (o ∷ s) (suc at) new is_so (suc which) l e = layout_of-set_kept s at new is_so which l e

pub layout_of-set_cases : (s : Table) (at : ℕ) (new : StructLayout) (which : ℕ) (l : StructLayout) → layout_of (slice_set s at (Some new)) which ≡ Some l → ((which ≡ at) × (l ≡ new)) ⊎ (layout_of s which ≡ Some l)
layout_of-set_cases [] at new which l e = inr e
layout_of-set_cases (o ∷ s) zero new zero l e = inl (refl, cc)
layout_of-set_cases (o ∷ s) zero new (suc which) l e = inr e
layout_of-set_cases (o ∷ s) (suc at) new zero l e = inr e
layout_of-set_cases (o ∷ s) (suc at) new (suc which) l e = ⊎_elim (λ (p : (which ≡ at) × (l ≡ new)). inl (ap (λ n. suc n) p.0, p.1)) (λ old. inr old) (layout_of-set_cases s at new which l e)

-- the extents of the members are that of the first and those of the others
pub record Parts (o : Option Extent) (p : Option (List Extent)) (es : List Extent) : Type 0 where
  pub first : Extent
  pub rest : List Extent
  pub first_is : o ≡ Some first
  pub rest_is : p ≡ Some rest
  pub all_is : es ≡ first ∷ rest

pub parts : (o : Option Extent) (p : Option (List Extent)) (es : List Extent) → option_and_then (λ e. option_map (λ es. e ∷ es) p) o ≡ Some es → Parts o p es
parts None p es h = absurd (cc)
parts (Some e) None es h = absurd (cc)
parts (Some e) (Some rest) es h = record { first = e; rest = rest; first_is = refl; rest_is = refl; all_is = cc }

extents_of-placed : (s : Table) (from : ℕ) (ms : List Member) (es : List Extent) → extents_of s ms ≡ Some es → extents_of s (placed from ms es) ≡ Some es
extents_of-placed s from [] es h = h
extents_of-placed s from (m ∷ ms) es h = go (parts (extent_of s m.kind) (extents_of s ms) es h) (λ from rest. extents_of-placed s from ms rest)
  where
    go : Parts (extent_of s m.kind) (extents_of s ms) es → ((from : ℕ) (rest : List Extent) → extents_of s ms ≡ Some rest → extents_of s (placed from ms rest) ≡ Some rest) → extents_of s (placed from (m ∷ ms) es) ≡ Some es
    go p others =
        let P : List Extent → Type 0 = λ l. extents_of s (placed from (m ∷ ms) l) ≡ Some l in
        let after = next_multiple_of from p.first.alignment + p.first.size in
        subst P (sym p.all_is) (ap (option_and_then (λ e. option_map (λ es. e ∷ es) (extents_of s (placed after ms p.rest)))) p.first_is ∙ ap (option_map (λ es. p.first ∷ es)) (others after p.rest p.rest_is))

placed-placed : (from : ℕ) (ms : List Member) (es : List Extent) → placed from (placed from ms es) es ≡ placed from ms es
placed-placed from [] es = refl
placed-placed from (m ∷ ms) [] = refl
placed-placed from (m ∷ ms) (e ∷ es) =
    let at = next_multiple_of from e.alignment in
    ap (λ l. record m { offset = capped at } ∷ l) (placed-placed (at + e.size) ms es)

-- the members with their offsets have the same layout
pub laid_again : (s : Table) (ms : List Member) (l : StructLayout) → laid_out s ms ≡ Some l → laid_out s l.members ≡ Some l
laid_again s ms l h = go (extents_of s ms) refl h
  where
    go : (o : Option (List Extent)) → extents_of s ms ≡ o → option_map (struct_layout ms) o ≡ Some l → laid_out s l.members ≡ Some l
    go None e h = absurd (cc)
    go (Some es) e h =
        let is : struct_layout ms es ≡ l = cc in
        let P : StructLayout → Type 0 = λ l. laid_out s l.members ≡ Some l in
        subst P is (ap (option_map (struct_layout (placed 0 ms es))) (extents_of-placed s 0 ms es e)
        ∙ ap (λ members. Some (record (struct_layout ms es) { members = members })) (placed-placed 0 ms es))

pub completed_kept : (s : Table) (at : ℕ) (ms : List Member) (new : StructLayout) → AllKept s → is_open (slice_get s at) ≡ true → laid_out s ms ≡ Some new → IsExtent new.extent → AllKept (slice_set s at (Some new))
completed_kept s at ms new h is_so e bounded which l f = go (layout_of-set_cases s at new which l f)
  where
    extends : Extends s (slice_set s at (Some new))
    extends = record { kept = layout_of-set_kept s at new is_so }

    go : ((which ≡ at) × (l ≡ new)) ⊎ (layout_of s which ≡ Some l) → IsKept (slice_set s at (Some new)) l
    go (inl is) = let P : StructLayout → Type 0 = λ l. IsKept (slice_set s at (Some new)) l in
        subst P (sym is.1) (record { laid = (laid_kept s _ extends new.members).found new (laid_again s ms new e); bounded = bounded })
    go (inr old) = still_kept s _ extends l (h which l old)

-- ---- a struct looked up

pub kept_at : (s : Table) → AllKept s → (which : ℕ) (r : Option (Bor StructLayout)) → option_copied r ≡ layout_of s which → IfSome r (λ l. IsKept s l.now)
kept_at s h which None e = tt
kept_at s h which (Some l) e = h which l.now (sym e)
