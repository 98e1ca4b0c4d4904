-- Members of lists.
use Rattle.std.proofs.Common.{◌≡◌, ℕ, zero, suc, ◌+◌, ◌<◌, ◌⊎◌, inl, inr, List, [], ◌∷◌, ◌++◌, length, get_or, take, map, refl, sym, ap, subst, ◌∙◌, arith}
use Rattle.std.specs.List.{Contains}
use Rattle.std.proofs.lemmas.List.{take_more}
use Rattle.std.proofs.Math.Seq.{take-length}

pub contains_first : {A : Type 0} (x : A) (xs : List A) → Contains (x ∷ xs) x
contains_first x xs = (0, omega arith, refl)

pub contains_more : {A : Type 0} (y : A) (xs : List A) (x : A) → Contains xs x → Contains (y ∷ xs) x
contains_more y xs x (k, within, is) = (suc k, omega arith, is)

pub contains_cases : {A : Type 0} (y : A) (xs : List A) (x : A) → Contains (y ∷ xs) x → (y ≡ x) ⊎ Contains xs x
contains_cases y xs x (zero, within, is) = inl is
contains_cases y xs x (suc k, within, is) = inr (k, omega arith, is)

pub contains_none : {A : Type 0} (x : A) → Contains [] x → ⊥
contains_none x (k, within, is) = omega arith

pub contains_map : {A B : Type 0} (f : A → B) (xs : List A) (x : A) → Contains xs x → Contains (map f xs) (f x)
contains_map f [] x h = absurd (contains_none x h)
contains_map f (y ∷ ys) x h = elim (contains_cases y ys x h) [
  | inl e ↦ subst (λ z. Contains (map f (y ∷ ys)) (f z)) e (contains_first (f y) (map f ys))
  | inr m ↦ contains_more (f y) (map f ys) (f x) (contains_map f ys x m)
]

pub map_contains : {A B : Type 0} (f : A → B) (xs : List A) (z : B) → Contains (map f xs) z → (x : A) × Contains xs x × (f x ≡ z)
map_contains f [] z h = absurd (contains_none z h)
map_contains f (y ∷ ys) z h = elim (contains_cases (f y) (map f ys) z h) [
  | inl e ↦ (y, contains_first y ys, e)
  | inr m ↦ let r = map_contains f ys z m in (r.0, contains_more y ys r.0 r.1, r.2)
]

pub contains_append : {A : Type 0} (xs ys : List A) (x : A) → Contains (xs ++ ys) x → Contains xs x ⊎ Contains ys x
contains_append [] ys x h = inr h
contains_append (y ∷ xs) ys x h = elim (contains_cases y (xs ++ ys) x h) [
  | inl e ↦ inl (subst (λ z. Contains (y ∷ xs) z) e (contains_first y xs))
  | inr m ↦ elim (contains_append xs ys x m) [ inl n ↦ inl (contains_more y xs x n) | inr n ↦ inr n ]
]

pub contains_left : {A : Type 0} (xs ys : List A) (x : A) → Contains xs x → Contains (xs ++ ys) x
contains_left [] ys x h = absurd (contains_none x h)
contains_left (y ∷ xs) ys x h = elim (contains_cases y xs x h) [
  | inl e ↦ subst (λ z. Contains (y ∷ xs ++ ys) z) e (contains_first y (xs ++ ys))
  | inr m ↦ contains_more y (xs ++ ys) x (contains_left xs ys x m)
]

pub contains_right : {A : Type 0} (xs ys : List A) (x : A) → Contains ys x → Contains (xs ++ ys) x
contains_right [] ys x h = h
contains_right (y ∷ xs) ys x h = contains_more y (xs ++ ys) x (contains_right xs ys x h)

-- one more element, as at a step of a loop
pub contains_taken : {A : Type 0} (xs : List A) (i : ℕ) (e x : A) → i < length xs → e ≡ get_or xs i e → Contains (take (i + 1) xs) x → Contains (take i xs) x ⊎ (e ≡ x)
contains_taken xs i e x within read h =
    elim (contains_append (take i xs) (e ∷ []) x (subst (λ zs. Contains zs x) (take_more xs i e within ∙ ap (λ z. take i xs ++ z ∷ []) (sym read)) h)) [
      | inl m ↦ inl m
      | inr m ↦ elim (contains_cases e [] x m) [ inl same ↦ inr same | inr n ↦ absurd (contains_none x n) ]
    ]

pub taken_contains : {A : Type 0} (xs : List A) (i : ℕ) (e x : A) → i < length xs → e ≡ get_or xs i e → Contains (take i xs) x ⊎ (e ≡ x) → Contains (take (i + 1) xs) x
taken_contains xs i e x within read h =
    subst (λ zs. Contains zs x) (sym (take_more xs i e within ∙ ap (λ z. take i xs ++ z ∷ []) (sym read))) (elim h [
      | inl m ↦ contains_left (take i xs) (e ∷ []) x m
      | inr same ↦ contains_right (take i xs) (e ∷ []) x (subst (λ z. Contains (e ∷ []) z) same (contains_first e []))
    ])

pub all_taken : {A : Type 0} (xs : List A) (i : ℕ) → i ≡ length xs → take i xs ≡ xs
all_taken xs i e = ap (λ n. take n xs) e ∙ take-length xs
