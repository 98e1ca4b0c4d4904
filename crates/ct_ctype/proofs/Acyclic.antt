-- No struct holds itself.
use Rattle.std.proofs.Common.{◌≡◌, ◌≢◌, ℕ, zero, suc, ◌+◌, ◌<◌, ◌⊎◌, ◌++◌, ◌∷◌, [], List, inl, inr, Bool, true, false, cond, eqb, Option, Some, None, refl, sym, ap, subst, ◌∙◌, arith, option_map, slice_get, slice_set}
use Rattle.std.proofs.lemmas.Bool.{eq-eqb, eqb-true}
use Rattle.ct_ctype.specs.declared.types.CType.{CType, roll-CType, map-CType, fold-roll-CType, ind-CType}
use Rattle.ct_ctype.specs.declared.types.CType.TheOpen.{CType-F}
use Rattle.ct_ctype.specs.declared.types.FunctionType.{FunctionType}
use Rattle.ct_ctype.specs.declared.types.Member.{Member}
use Rattle.ct_ctype.specs.declared.types.Extent.{Extent}
use Rattle.ct_ctype.specs.declared.types.StructLayout.{StructLayout}
use Rattle.ct_ctype.specs.Layout.{Table, layout_of, is_open, extent_step, extent_of, extents_of, laid_out, struct_layout, AllKept, repeated, held_step, held_struct, IsAcyclic}
use Rattle.ct_ctype.proofs.Growing.{layout_of-declared, layout_of-set_cases, parts}

-- the value that an option has before a function is applied
pub record Before {A B : Type 0} (f : A → B) (o : Option A) (b : B) : Type 0 where
  pub first : A
  pub is : o ≡ Some first
  pub gives : f first ≡ b

pub before : {A B : Type 0} (f : A → B) (o : Option A) (b : B) → option_map f o ≡ Some b → Before f o b
before f None b e = absurd (cc)
before f (Some a) b e = record { first = a; is = refl; gives = cc }

-- a type with a size holds a complete struct, if it holds one
record Holds (s : Table) (o : Option Extent) (h : Option ℕ) : Type 0 where
  pub found : (e : Extent) (inner : ℕ) → o ≡ Some e → h ≡ Some inner → (l : StructLayout) × (layout_of s inner ≡ Some l)

module _ (s : Table) where
  layer_holds : (g g' : FunctionType → Unit {0}) (y : CType-F ((t : CType) × Holds s (extent_of s t) (held_struct t)) ((f : FunctionType) × Unit {0}))
      → Holds s (extent_step s (map-CType CType FunctionType (Option Extent) (Unit {0}) (extent_of s) g (map-CType ((t : CType) × Holds s (extent_of s t) (held_struct t)) ((f : FunctionType) × Unit {0}) CType FunctionType (λ p. p.0) (λ p. p.0) y)))
      (held_step (map-CType CType FunctionType (Option ℕ) (Unit {0}) held_struct g' (map-CType ((t : CType) × Holds s (extent_of s t) (held_struct t)) ((f : FunctionType) × Unit {0}) CType FunctionType (λ p. p.0) (λ p. p.0) y)))
  layer_holds g g' CType-F.Void = record { found = λ e inner o h. absurd (cc) }
  layer_holds g g' (CType-F.Int k) = record { found = λ e inner o h. absurd (cc) }
  layer_holds g g' (CType-F.Pointer p constant) = record { found = λ e inner o h. absurd (cc) }
  layer_holds g g' (CType-F.Array t None) = record { found = λ e inner o h. absurd (cc) }
  layer_holds g g' (CType-F.Array t (Some n)) = record { found = λ e inner o h. let b = before (repeated n) (extent_of s t.0) e o in t.1.found b.first inner b.is h }
  layer_holds g g' (CType-F.Struct which) = record {
    found = λ e inner o h.
        let b = before (λ (l : StructLayout). l.extent) (layout_of s which) e o in
        let same : which ≡ inner = cc in
        (b.first, ap (layout_of s) (sym same) ∙ b.is);
  }
  layer_holds g g' (CType-F.Function f) = record { found = λ e inner o h. absurd (cc) }

  held_complete : (t : CType) → Holds s (extent_of s t) (held_struct t)
  unfolding extent_of held_struct
  held_complete = ind-CType (λ t. Holds s (extent_of s t) (held_struct t)) (λ f. Unit {0}) (λ l y is.
      let none : FunctionType → Unit {0} = λ f. tt in
      let first : CType-F CType FunctionType → Option Extent = λ l. extent_step s (map-CType CType FunctionType (Option Extent) (Unit {0}) (extent_of s) none l) in
      let second : CType-F CType FunctionType → Option ℕ = λ l. held_step (map-CType CType FunctionType (Option ℕ) (Unit {0}) held_struct none l) in
      let P : CType-F CType FunctionType → Type 0 = λ l. Holds s (first l) (second l) in
      let Q : Option Extent → Type 0 = λ o. Holds s o (held_struct (roll-CType l)) in
      let R : Option ℕ → Type 0 = λ o. Holds s (first l) o in
      subst Q (sym (fold-roll-CType (Option Extent) (Unit {0}) (extent_step s) (λ f. tt) l))
      (subst R (sym (fold-roll-CType (Option ℕ) (Unit {0}) held_step (λ f. tt) l)) (subst P is (layer_holds none none y)))) (λ l y is. tt)

  -- each of the members has an extent
  member_extent : (ms : List Member) (es : List Extent) (k : ℕ) (m : Member) → extents_of s ms ≡ Some es → slice_get ms k ≡ Some m → (e : Extent) × (extent_of s m.kind ≡ Some e)
  member_extent [] es k m e g = absurd (cc)
  member_extent (n ∷ ms) es zero m e g =
      let p = parts (extent_of s n.kind) (extents_of s ms) es e in
      let same : n ≡ m = cc in
      (p.first, ap (λ (x : Member). extent_of s x.kind) (sym same) ∙ p.first_is)
  member_extent (n ∷ ms) es (suc k) m e g = let p = parts (extent_of s n.kind) (extents_of s ms) es e in member_extent ms p.rest k m p.rest_is g

  member_complete : (l : StructLayout) → laid_out s l.members ≡ Some l → (k : ℕ) (m : Member) (inner : ℕ) → slice_get l.members k ≡ Some m → held_struct m.kind ≡ Some inner → (l : StructLayout) × (layout_of s inner ≡ Some l)
  member_complete l laid k m inner g h =
      let b = before (struct_layout l.members) (extents_of s l.members) l laid in
      let e = member_extent l.members b.first k m b.is g in
      (held_complete m.kind).found e.0 inner e.1 h

-- one more than the height of each struct that the members hold
above : (ℕ → ℕ) → Option ℕ → ℕ
above height None = 0
above height (Some inner) = suc (height inner)

top : (ℕ → ℕ) → List Member → ℕ
top height [] = 0
top height (m ∷ ms) = above height (held_struct m.kind) + top height ms

below_top : (height : ℕ → ℕ) (ms : List Member) (k : ℕ) (m : Member) (inner : ℕ) → slice_get ms k ≡ Some m → held_struct m.kind ≡ Some inner → height inner < top height ms
unfolding top above
below_top height [] k m inner g h = absurd (cc)
below_top height (n ∷ ms) zero m inner g h =
    let same : n ≡ m = cc in
    let is : above height (held_struct n.kind) ≡ suc (height inner) = ap (above height) (ap (λ (x : Member). held_struct x.kind) same ∙ h) in
    omega arith
below_top height (n ∷ ms) (suc k) m inner g h = let rest = below_top height ms k m inner g h in omega arith

raised : (ℕ → ℕ) → ℕ → ℕ → ℕ → ℕ
raised height at n which = cond (eqb which at) n (height which)

raised_at : (height : ℕ → ℕ) (at n which : ℕ) → which ≡ at → raised height at n which ≡ n
unfolding raised
raised_at height at n which e = ap (λ b. cond b n (height which)) (eq-eqb which at e)

raised_else : (height : ℕ → ℕ) (at n which : ℕ) → which ≢ at → raised height at n which ≡ height which
unfolding raised
raised_else height at n which e = go (eqb which at) refl
  where
    go : (b : Bool) → eqb which at ≡ b → cond b n (height which) ≡ height which
    go true h = absurd (e (eqb-true which at h))
    go false h = refl

-- an open struct is not complete
not_open : (s : Table) (at which : ℕ) (l : StructLayout) → is_open (slice_get s at) ≡ true → layout_of s which ≡ Some l → which ≢ at
not_open [] at which l so e same = absurd (cc)
not_open (None ∷ s) zero zero l so e same = absurd (cc)
not_open (Some o ∷ s) zero zero l so e same = absurd (cc)
not_open (o ∷ s) zero (suc which) l so e same = absurd (omega arith)
not_open (o ∷ s) (suc at) zero l so e same = absurd (omega arith)
not_open (o ∷ s) (suc at) (suc which) l so e same = not_open s at which l so e (omega arith)

pub declared_acyclic : (s : Table) → IsAcyclic s → IsAcyclic (s ++ None ∷ [])
declared_acyclic s a = record { height = a.height; falls = λ which l k m inner e. a.falls which l k m inner (sym (layout_of-declared s which) ∙ e) }

pub completed_acyclic : (s : Table) (at : ℕ) (new : StructLayout) → IsAcyclic s → AllKept s → is_open (slice_get s at) ≡ true → laid_out s new.members ≡ Some new → IsAcyclic (slice_set s at (Some new))
completed_acyclic s at new a kept so laid = record { height = raised a.height at (top a.height new.members); falls = falls }
  where
    same_height : (l : StructLayout) → laid_out s l.members ≡ Some l → (k : ℕ) (m : Member) (inner : ℕ) → slice_get l.members k ≡ Some m → held_struct m.kind ≡ Some inner → raised a.height at (top a.height new.members) inner ≡ a.height inner
    same_height l is k m inner g h = let c = member_complete s l is k m inner g h in raised_else a.height at (top a.height new.members) inner (not_open s at inner c.0 so c.1)

    falls : (which : ℕ) (l : StructLayout) (k : ℕ) (m : Member) (inner : ℕ) → layout_of (slice_set s at (Some new)) which ≡ Some l → slice_get l.members k ≡ Some m → held_struct m.kind ≡ Some inner → raised a.height at (top a.height new.members) inner < raised a.height at (top a.height new.members) which
    falls which l k m inner e g h = go (layout_of-set_cases s at new which l e)
      where
        go : ((which ≡ at) × (l ≡ new)) ⊎ (layout_of s which ≡ Some l) → raised a.height at (top a.height new.members) inner < raised a.height at (top a.height new.members) which
        go (inl p) =
            let g' : slice_get new.members k ≡ Some m = ap (λ (x : StructLayout). slice_get x.members k) (sym p.1) ∙ g in
            let low = below_top a.height new.members k m inner g' h in
            let one = same_height new laid k m inner g' h in
            let two = raised_at a.height at (top a.height new.members) which p.0 in
            omega arith
        go (inr old) =
            let low = a.falls which l k m inner old g h in
            let one = same_height l (kept which l old).laid k m inner g h in
            let two = raised_else a.height at (top a.height new.members) which (not_open s at which l so old) in
            omega arith

pub none_acyclic : (s : Table) → s ≡ [] → IsAcyclic s
none_acyclic s e = record { height = λ w. w; falls = λ which l k m inner f. absurd (let g : layout_of [] which ≡ Some l = ap (λ (t : Table). layout_of t which) (sym e) ∙ f in cc) }

pub none_kept : (s : Table) → s ≡ [] → AllKept s
none_kept s e = λ which l f. absurd (let g : layout_of [] which ≡ Some l = ap (λ (t : Table). layout_of t which) (sym e) ∙ f in cc)
