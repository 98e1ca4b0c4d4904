-- The places of the folders that were listed, as one more is.
use Rattle.std.proofs.Common.{◌≡◌, ℕ, zero, suc, ◌+◌, ◌-◌, inl, inr, List, [], ◌∷◌, ◌++◌, Bool, true, false, cond, Option, Some, None, MatchOption, length, take, refl, sym, ap, subst, ◌∙◌, arith, length-append}
use Rattle.std.specs.Prelude.{String, string_bytes, slice_get}
use Rattle.std.specs.declared.alloc.Global.{Global}
use Rattle.std.specs.BTreeMap.{BTreeMap, get_by_text, is_at}
use Rattle.std.specs.Cmp.Lexicographic.{slice_cmp}
use Rattle.std.specs.Map.{lookup, update}
use Rattle.std.specs.Ordering.{nat_cmp}
use Rattle.std.specs.Str.{bytes_eq}
use Rattle.std.proofs.lemmas.Bool.{false≢true}
use Rattle.std.proofs.lemmas.List.{take_at}
use Rattle.std.proofs.lemmas.Slice.Eq.{bytes_eq-Decides}
use Rattle.ct_find.specs.declared.rows.Row.{Row}
use Rattle.ct_find.specs.Places.{HavePlaces, IsFresh, StandsAt}
use Rattle.ct_find.proofs.Members.{contains_append, contains_cases, contains_none}
use Rattle.ct_find.proofs.WalkLemmas.{got_last}

got_front : {A : Type 0} (xs ys : List A) (i : ℕ) (x : A) → slice_get xs i ≡ Some x → slice_get (xs ++ ys) i ≡ Some x
got_front [] ys i x e = absurd (cc)
got_front (y ∷ xs) ys zero x e = e
got_front (y ∷ xs) ys (suc i) x e = got_front xs ys i x e

-- what is known of another folder stays
still_known : (rows : List Row) (row : Row) (folder : List ℕ) → (row.folder ≡ folder → ⊥) → (o : Option ℕ) → MatchOption o (IsFresh rows folder) (StandsAt rows folder)
    → MatchOption o (IsFresh (rows ++ row ∷ []) folder) (StandsAt (rows ++ row ∷ []) folder)
still_known rows row folder other None fresh = λ r m e. elim (contains_append rows (row ∷ []) r m) [
  | inl n ↦ fresh r n e
  | inr n ↦ elim (contains_cases row [] r n) [
    | inl same ↦ other (ap (λ (x : Row). x.folder) same ∙ e)
    | inr k ↦ absurd (contains_none r k)
  ]
]
still_known rows row folder other (Some place) at = (at.0, got_front rows (row ∷ []) place at.0 at.1, at.2)

known_at : (rows : List Row) (row : Row) (folder : List ℕ) (place : ℕ) (o : Option ℕ) → place ≡ length rows → MatchOption o (IsFresh rows folder) (StandsAt rows folder)
    → (b : Bool) → bytes_eq row.folder folder ≡ b → MatchOption (cond b (Some place) o) (IsFresh (rows ++ row ∷ []) folder) (StandsAt (rows ++ row ∷ []) folder)
known_at rows row folder place o last known true e = (row, got_last rows (rows ++ row ∷ []) row place refl last, (bytes_eq-Decides row.folder folder).0 e)
known_at rows row folder place o last known false e = still_known rows row folder (λ same. false≢true (sym e ∙ (bytes_eq-Decides row.folder folder).1 same)) o known

-- one more folder, and its place
pub more_places : (rows new : List Row) (row : Row) (old after : BTreeMap (String Global) ℕ) (place : ℕ) (key : List ℕ) → new ≡ rows ++ row ∷ [] → key ≡ row.folder → place ≡ length rows → HavePlaces rows old
    → ((folder : List ℕ) → get_by_text after folder ≡ update bytes_eq (get_by_text old) key (Some place) folder) → HavePlaces new after
more_places rows new row old after place key is same last known sets =
    subst (λ (rs : List Row). HavePlaces rs after) (sym is) (λ folder.
    subst (λ (o : Option ℕ). MatchOption o (IsFresh (rows ++ row ∷ []) folder) (StandsAt (rows ++ row ∷ []) folder)) (sym (sets folder))
    (known_at rows row folder place (get_by_text old folder) last (known folder) (bytes_eq key folder) (ap (λ (k : List ℕ). bytes_eq k folder) (sym same))))

-- the folder that was appended last is taken away
pub same_places : (rows more less : List Row) (row : Row) (old after : BTreeMap (String Global) ℕ) (count : ℕ) → more ≡ rows ++ row ∷ [] → count ≡ length more → less ≡ take (count - 1) more
    → after.entries ≡ old.entries → HavePlaces rows old → HavePlaces less after
same_places rows more less row old after count added all taken same known =
    let whole : length more ≡ length rows + length (row ∷ []) = ap length added ∙ length-append rows (row ∷ []) in
    let front : less ≡ rows = taken ∙ ap (λ (rs : List Row). take (count - 1) rs) added ∙ take_at rows (row ∷ []) (count - 1) (omega arith) in
    subst (λ (rs : List Row). HavePlaces rs after) (sym front) (λ folder.
    subst (λ es. MatchOption (lookup (is_at (λ k. slice_cmp nat_cmp folder (string_bytes k))) es) (IsFresh rows folder) (StandsAt rows folder)) (sym same) (known folder))
