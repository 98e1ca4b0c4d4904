-- What of a list of bytes holds or does not, and where a list is cut.
use Rattle.std.proofs.Common.{◌≡◌, ℕ, Bool, List, [], ◌∷◌, ◌++◌, refl, sym, ap, ◌∙◌, subst, ◌⊎◌, inl, inr}
use Rattle.std.specs.Prelude.{All, IsTrue}
use Rattle.std.specs.Str.{bytes_eq}
use Rattle.std.proofs.lemmas.Slice.Eq.{bytes_eq-Decides}
use Rattle.std.specs.List.{AllByRecursion}
use Rattle.std.proofs.lemmas.List.Elements.{All-nil, All-cons, All-from_recursion, recursion_from_All}
use Rattle.std.proofs.lemmas.Bool.{cases_Bool, false≢true}

abbrev pub Decided : Type 0 → Type 0
Decided P = P ⊎ (P → ⊥)

pub test_decided : (test : Bool) → Decided (IsTrue test)
test_decided test = elim (cases_Bool test) [ inl holds ↦ inl holds | inr fails ↦ inr (λ holds. false≢true (sym fails ∙ holds)) ]

pub same_decided : (xs ys : List ℕ) → Decided (xs ≡ ys)
same_decided xs ys =
    elim (cases_Bool (bytes_eq xs ys)) [
      | inl holds ↦ inl ((bytes_eq-Decides xs ys).0 holds)
      | inr fails ↦ inr (λ same. false≢true (sym fails ∙ (bytes_eq-Decides xs ys).1 same))
    ]

pub both_decided : (P Q : Type 0) → Decided P → Decided Q → Decided (P × Q)
both_decided P Q (inr fails) q = inr (λ both. fails both.0)
both_decided P Q (inl p) (inr fails) = inr (λ both. fails both.1)
both_decided P Q (inl p) (inl q) = inl (p, q)

pub all_decided : (test : ℕ → Bool) (xs : List ℕ) → Decided (All (λ x. IsTrue (test x)) xs)
all_decided test [] = inl (All-nil (λ x. IsTrue (test x)))
all_decided test (x ∷ xs) = by_first (test_decided (test x)) (all_decided test xs)
  where
    by_first : Decided (IsTrue (test x)) → Decided (All (λ x. IsTrue (test x)) xs) → Decided (All (λ x. IsTrue (test x)) (x ∷ xs))
    by_first (inr fails) rest = inr (λ all. fails (recursion_from_All (λ x. IsTrue (test x)) (x ∷ xs) all).0)
    by_first (inl holds) (inr fails) = inr (λ all. fails (tail (recursion_from_All (λ x. IsTrue (test x)) (x ∷ xs) all).1))
      where
        tail : AllByRecursion (λ x. IsTrue (test x)) xs → All (λ x. IsTrue (test x)) xs
        tail rest = All-from_recursion (λ x. IsTrue (test x)) xs rest
    by_first (inl holds) (inl rest) = inl (All-cons (λ x. IsTrue (test x)) x xs holds rest)

-- ---- cuts

-- a list is cut into two of which this holds
abbrev pub Cuts : (List ℕ → List ℕ → Type 0) → List ℕ → Type 0
Cuts P text = (front : List ℕ) × (back : List ℕ) × (text ≡ front ++ back) × P front back

pub cut_decided : (P : List ℕ → List ℕ → Type 0) → ((front back : List ℕ) → Decided (P front back)) → (text : List ℕ) → Decided (Cuts P text)
cut_decided P tells [] = elim (tells [] []) [ inl is ↦ inl ([], [], refl, is) | inr fails ↦ inr (λ cut. uncut fails cut.0 cut.1 cut.2 cut.3) ]
  where
    uncut : (P [] [] → ⊥) → (front back : List ℕ) → [] ≡ front ++ back → P front back → ⊥
    uncut fails [] back e is = fails (subst (λ (b : List ℕ). P [] b) (sym e) is)
    uncut fails (f ∷ front) back e is = absurd (cc)
cut_decided P tells (x ∷ xs) =
    by_first (tells [] (x ∷ xs)) (cut_decided (λ front back. P (x ∷ front) back) (λ front back. tells (x ∷ front) back) xs)
  where
    uncut : (P [] (x ∷ xs) → ⊥) → (Cuts (λ front back. P (x ∷ front) back) xs → ⊥) → (front back : List ℕ) → x ∷ xs ≡ front ++ back → P front back → ⊥
    uncut fails none [] back e is = fails (subst (λ (b : List ℕ). P [] b) (sym e) is)
    uncut fails none (f ∷ front) back e is =
        let head : f ≡ x = cc in
        let tail : xs ≡ front ++ back = cc in
        none (front, back, tail, subst (λ (h : ℕ). P (h ∷ front) back) head is)

    by_first : Decided (P [] (x ∷ xs)) → Decided (Cuts (λ front back. P (x ∷ front) back) xs) → Decided (Cuts P (x ∷ xs))
    by_first (inl is) behind = inl ([], x ∷ xs, refl, is)
    by_first (inr fails) (inl cut) = inl (x ∷ cut.0, cut.1, ap (λ l. x ∷ l) cut.2, cut.3)
    by_first (inr fails) (inr none) = inr (λ cut. uncut fails none cut.0 cut.1 cut.2 cut.3)

-- the longest front of which this holds
pub record Longest (P : List ℕ → Type 0) (text : List ℕ) : Type 0 where
  pub front : List ℕ
  pub back : List ℕ
  pub split : text ≡ front ++ back
  pub is : P front
  pub longest : (more rest : List ℕ) → back ≡ more ++ rest → P (front ++ more) → more ≡ []

abbrev pub NoFront : (List ℕ → Type 0) → List ℕ → Type 0
NoFront P text = (front back : List ℕ) → text ≡ front ++ back → P front → ⊥

pub longest_front : (P : List ℕ → Type 0) → ((front : List ℕ) → Decided (P front)) → (text : List ℕ) → Longest P text ⊎ NoFront P text
longest_front P tells [] = by_none (tells [])
  where
    nothing : (more rest : List ℕ) → [] ≡ more ++ rest → more ≡ []
    nothing [] rest e = refl
    nothing (m ∷ more) rest e = absurd (cc)

    by_none : Decided (P []) → Longest P [] ⊎ NoFront P []
    by_none (inl is) = inl record { front = []; back = []; split = refl; is = is; longest = λ more rest e other. nothing more rest e }
    by_none (inr fails) = inr (λ front back e is. fails (subst P (nothing front back e) is))
longest_front P tells (x ∷ xs) = by_first (longest_front (λ front. P (x ∷ front)) (λ front. tells (x ∷ front)) xs) (tells [])
  where
    only : NoFront (λ front. P (x ∷ front)) xs → (more rest : List ℕ) → x ∷ xs ≡ more ++ rest → P more → more ≡ []
    only none [] rest e is = refl
    only none (m ∷ more) rest e is =
        let head : m ≡ x = cc in
        let tail : xs ≡ more ++ rest = cc in
        absurd (none more rest tail (subst (λ (h : ℕ). P (h ∷ more)) head is))

    by_first : (Longest (λ front. P (x ∷ front)) xs ⊎ NoFront (λ front. P (x ∷ front)) xs) → Decided (P []) → Longest P (x ∷ xs) ⊎ NoFront P (x ∷ xs)
    by_first (inl found) at_none =
        inl record { front = x ∷ found.front; back = found.back; split = ap (λ l. x ∷ l) found.split; is = found.is; longest = found.longest }
    by_first (inr none) (inl is) = inl record { front = []; back = x ∷ xs; split = refl; is = is; longest = only none }
    by_first (inr none) (inr fails) = inr (λ front back e is. fails (subst P (only none front back e is) is))
