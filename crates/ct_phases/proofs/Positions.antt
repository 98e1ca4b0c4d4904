-- Where an element stands in a list.
use Rattle.std.proofs.Common.{◌≡◌, ℕ, zero, suc, ◌<◌, ◌≤◌, List, [], ◌∷◌, ◌++◌, Bool, true, false, cond, Option, Some, None, refl, sym, subst, ◌∙◌, arith, length, lt-ltb, le-ltb}
use Rattle.std.specs.Prelude.{slice_get, position, find, All}
use Rattle.std.specs.List.{position_or_len}
use Rattle.std.proofs.lemmas.Option.{none-some, same_Some, slice_get_within, slice_get-get_or}
use Rattle.std.proofs.lemmas.List.Folds.{find_at}

-- the first element that passes stands at the position, or none passes
pub data Placed {X : Type 0} (p : X → Bool) (xs : List X) : Option ℕ → Type 0 where
  Found : (k : ℕ) (x : X) → slice_get xs k ≡ Some x → p x ≡ true → Placed p xs (Some k)
  Nowhere : ((k : ℕ) (x : X) → slice_get xs k ≡ Some x → p x ≡ false) → Placed p xs None

pub found_passes : {X : Type 0} (p : X → Bool) (xs : List X) (x : X) → find p xs ≡ Some x → p x ≡ true
found_passes {X} p [] x e = absurd (none-some x e)
found_passes {X} p (y ∷ xs) x e = at (p y) refl (found_passes p xs x) e
  where
    at : (b : Bool) → p y ≡ b → (find p xs ≡ Some x → p x ≡ true) → cond b (Some y) (find p xs) ≡ Some x → p x ≡ true
    at true is further e = let P : X → Type 0 = λ z. p z ≡ true in subst P (same_Some y x e) is
    at false is further e = further e

none_passes : {X : Type 0} (p : X → Bool) (xs : List X) → find p xs ≡ None → (k : ℕ) (x : X) → slice_get xs k ≡ Some x → p x ≡ false
none_passes {X} p [] e k x at = absurd (none-some x at)
none_passes {X} p (y ∷ xs) e k x at = here (p y) refl (none_passes p xs) e k at
  where
    here : (b : Bool) → p y ≡ b → (find p xs ≡ None → (k : ℕ) (x : X) → slice_get xs k ≡ Some x → p x ≡ false)
        → cond b (Some y) (find p xs) ≡ None → (k : ℕ) → slice_get (y ∷ xs) k ≡ Some x → p x ≡ false
    here true is further e k at = absurd (none-some y (sym e))
    here false is further e zero at = let P : X → Type 0 = λ z. p z ≡ false in subst P (same_Some y x at) is
    here false is further e (suc k) at = further e k x at

none_past : {X : Type 0} (xs : List X) (k : ℕ) → slice_get xs k ≡ None → length xs ≤ k
none_past {X} [] k e = omega arith
none_past {X} (x ∷ xs) zero e = absurd (none-some x (sym e))
none_past {X} (x ∷ xs) (suc k) e = let le = none_past xs k e in omega arith

pub placed : {X : Type 0} (p : X → Bool) (xs : List X) → Placed p xs (position p xs)
placed {X} p xs = by (find p xs) refl
  where
    by : (o : Option X) → find p xs ≡ o → Placed p xs (position p xs)
    by (Some x) e =
        let at : slice_get xs (position_or_len p xs) ≡ Some x = sym (find_at p xs) ∙ e in
        let P : Bool → Type 0 = λ b. Placed p xs (cond b (Some (position_or_len p xs)) None) in
        subst P (sym (lt-ltb _ _ (slice_get_within xs (position_or_len p xs) x at))) (Found (position_or_len p xs) x at (found_passes p xs x e))
    by None e =
        let P : Bool → Type 0 = λ b. Placed p xs (cond b (Some (position_or_len p xs)) None) in
        subst P (sym (le-ltb _ _ (none_past xs (position_or_len p xs) (sym (find_at p xs) ∙ e)))) (Nowhere (none_passes p xs e))

-- ---- lists put together

pub get_left : {X : Type 0} (xs ys : List X) (k : ℕ) → k < length xs → slice_get (xs ++ ys) k ≡ slice_get xs k
get_left {X} [] ys k h = absurd (omega arith)
get_left {X} (x ∷ xs) ys zero h = refl
get_left {X} (x ∷ xs) ys (suc k) h = get_left xs ys k (omega arith)

pub get_end : {X : Type 0} (xs : List X) (x : X) → slice_get (xs ++ x ∷ []) (length xs) ≡ Some x
get_end {X} [] x = refl
get_end {X} (y ∷ xs) x = get_end xs x

pub get_past : {X : Type 0} (xs : List X) (x : X) (k : ℕ) → length xs < k → slice_get (xs ++ x ∷ []) k ≡ None
get_past {X} [] x zero h = absurd (omega arith)
get_past {X} [] x (suc k) h = refl
get_past {X} (y ∷ xs) x zero h = absurd (omega arith)
get_past {X} (y ∷ xs) x (suc k) h = get_past xs x k (omega arith)

-- P holds of each element that stands somewhere
pub all_at : {X : Type 0} (P : X → Type 0) (xs : List X) (k : ℕ) (x : X) → All P xs → slice_get xs k ≡ Some x → P x
all_at {X} P xs k x all at =
    let within = slice_get_within xs k x at in
    subst P (same_Some _ x (sym (slice_get-get_or xs k x within) ∙ at)) (all k x within)
