-- Lists alone.
use Rattle.std.proofs.Common.{◌≡◌, ℕ, suc, ◌+◌, ◌-◌, ◌<◌, Bool, true, false, List, [], ◌∷◌, ◌++◌, length, get_or, take, drop, refl, sym, ap, ◌∙◌, subst, arith, length-drop}
use Rattle.std.specs.List.{AllByRecursion, All, prefix_len}
use Rattle.std.proofs.lemmas.List.{get_or-drop, get_or-take, length-take}
use Rattle.std.proofs.lemmas.List.Elements.{All-from_get_or}
use Rattle.std.proofs.lemmas.List.Sums.{prefix_len_passes, prefix_len_stops}

-- what is joined to nothing is nothing
pub none_behind : {A : Type 0} (xs ys : List A) → xs ++ ys ≡ [] → ys ≡ []
none_behind [] ys e = e
none_behind (x ∷ xs) ys e = cc

pub none_before : {A : Type 0} (xs ys : List A) → xs ++ ys ≡ [] → xs ≡ []
none_before [] ys e = refl
none_before (x ∷ xs) ys e = cc

-- the first element that is not P stands at one place
pub first_unlike : (P : ℕ → Type 0) (p q : List ℕ) (x y : ℕ) (u v : List ℕ) → AllByRecursion P p → AllByRecursion P q → (P x → ⊥) → (P y → ⊥) → p ++ x ∷ u ≡ q ++ y ∷ v → (p ≡ q) × (x ≡ y) × (u ≡ v)
first_unlike P [] [] x y u v hp hq nx ny e = (refl, cc, cc)
first_unlike P [] (b ∷ q) x y u v hp hq nx ny e =
    let same : b ≡ x = cc in absurd (nx (subst P same hq.0))
first_unlike P (a ∷ p) [] x y u v hp hq nx ny e =
    let same : a ≡ y = cc in absurd (ny (subst P same hp.0))
first_unlike P (a ∷ p) (b ∷ q) x y u v hp hq nx ny e =
    let head : a ≡ b = cc in
    let tail : p ++ x ∷ u ≡ q ++ y ∷ v = cc in
    let rest = first_unlike P p q x y u v hp.1 hq.1 nx ny tail in
    let same : p ≡ q = rest.0 in
    ((λ i. head i ∷ same i), rest.1, rest.2)

-- what stands at the cut
pub at_cut : (xs : List ℕ) (n c : ℕ) (cs : List ℕ) → drop n xs ≡ c ∷ cs → (n < length xs) × (get_or xs n 0 ≡ c)
at_cut xs n c cs e =
    let longer : length xs - n ≡ suc (length cs) = sym (length-drop n xs) ∙ ap length e in
    let read : get_or (drop n xs) 0 0 ≡ c = ap (λ l. get_or l 0 0) e in
    let moved : get_or (drop n xs) 0 0 ≡ get_or xs (n + 0) 0 = get_or-drop n xs 0 0 in
    let none : n + 0 ≡ n = omega arith in
    (omega arith, ap (λ k. get_or xs k 0) (sym none) ∙ sym moved ∙ read)

-- the front that passes ends before an element that does not
pub prefix_stops : (p : ℕ → Bool) (xs : List ℕ) (c : ℕ) (cs : List ℕ) → drop (prefix_len p xs) xs ≡ c ∷ cs → p c ≡ false
prefix_stops p xs c cs e =
    let cut = at_cut xs (prefix_len p xs) c cs e in
    ap p (sym cut.1) ∙ prefix_len_stops p xs 0 cut.0

-- each element of that front passes
pub prefix_passes : (p : ℕ → Bool) (xs : List ℕ) → All (λ x. p x ≡ true) (take (prefix_len p xs) xs)
prefix_passes p xs =
    All-from_get_or (λ x. p x ≡ true) (take (prefix_len p xs) xs) 0
    (λ i lt. let within : i < prefix_len p xs = omega (arith, length-take (prefix_len p xs) xs) in
    ap p (get_or-take (prefix_len p xs) xs i 0 within) ∙ prefix_len_passes p xs i 0 within)

-- an element of a list of which all are P
pub all_at : (P : ℕ → Type 0) (xs : List ℕ) (c : ℕ) (cs : List ℕ) → AllByRecursion P (xs ++ c ∷ cs) → P c
all_at P [] c cs h = h.0
all_at P (x ∷ xs) c cs h = all_at P xs c cs h.1
