-- Lists with the same members, each once: they are of one length, and equal where both are sorted.
use Rattle.std.proofs.Common.{◌≡◌, ℕ, suc, ◌+◌, ◌≤◌, ◌⊎◌, inl, inr, List, [], ◌∷◌, false, length, get_or, refl, sym, ap, subst, ◌∙◌, arith}
use Rattle.std.specs.declared.cmp.Ordering.{Ordering}
use Rattle.std.specs.declared.cmp.Ordering.TheVariants.{Less, Equal, Greater}
use Rattle.std.specs.Ordering.{nat_cmp, is_lt, is_gt, ordering_reverse}
use Rattle.std.specs.Cmp.{IsTotalOrder}
use Rattle.std.specs.Cmp.Lexicographic.{slice_cmp}
use Rattle.std.specs.FinMap.{IsAntisymmetric, nat_cmp-IsAntisymmetric, slice_cmp-IsAntisymmetric}
use Rattle.std.specs.List.{Contains}
use Rattle.std.specs.List.Sorted.{IsSorted}
use Rattle.std.proofs.lemmas.Bool.{false≢true}
use Rattle.std.proofs.lemmas.Cmp.{nat_list_cmp_total, upto}
use Rattle.ct_outside.specs.Files.{EachOnce}
use Rattle.ct_find.specs.Sets.{AreSorted}
use Rattle.ct_find.proofs.Members.{contains_first, contains_more, contains_cases, contains_none}

-- a list without one of its members
without : {A : Type 0} (ys : List A) (x : A) → Contains ys x
    → (zs : List A) × (length ys ≡ suc (length zs)) × ((y : A) → Contains ys y → (x ≡ y) ⊎ Contains zs y)
without [] x h = absurd (contains_none x h)
without (y ∷ ys) x h = elim (contains_cases y ys x h) [
  | inl e ↦ (ys, refl, λ z m. elim (contains_cases y ys z m) [ inl f ↦ inl (sym e ∙ f) | inr n ↦ inr n ])
  | inr m ↦
      let r = without ys x m in (
        y ∷ r.0,
        ap suc r.1,
        λ z n. elim (contains_cases y ys z n) [
          | inl f ↦ inr (subst (λ k. Contains (y ∷ r.0) k) f (contains_first y r.0))
          | inr k ↦ elim (r.2 z k) [ inl e ↦ inl e | inr l ↦ inr (contains_more y r.0 z l) ]
        ],
      )
]

-- members that stand once each are no more than those of a list that has them all
once_length : {A : Type 0} (xs ys : List A) → EachOnce xs → ((x : A) → Contains xs x → Contains ys x) → length xs ≤ length ys
once_length [] ys once within = omega arith
once_length (x ∷ xs) ys once within =
    let r = without ys x (within x (contains_first x xs)) in
    let others : length xs ≤ length r.0 = once_length xs r.0 once.1 (λ z m. elim (r.2 z (within z (contains_more x xs z m))) [
      | inl e ↦ absurd (once.0 (subst (λ k. Contains xs k) (sym e) m))
      | inr n ↦ n
    ]) in
    let one_more : length ys ≡ suc (length r.0) = r.1 in
    omega arith

pub same_length : {A : Type 0} (xs ys : List A) → EachOnce xs → EachOnce ys
    → ((x : A) → Contains xs x → Contains ys x) → ((y : A) → Contains ys y → Contains xs y) → length xs ≡ length ys
same_length xs ys once other there back =
    let h : length xs ≤ length ys = once_length xs ys once there in
    let k : length ys ≤ length xs = once_length ys xs other back in
    omega arith

turned : (r : Ordering) → is_lt r ≡ false → is_gt (ordering_reverse r) ≡ false
turned Less e = absurd (false≢true (sym e))
turned Equal e = refl
turned Greater e = refl

level : (r : Ordering) → is_gt r ≡ false → is_gt (ordering_reverse r) ≡ false → r ≡ Equal
level Less e f = absurd (false≢true (sym f))
level Equal e f = refl
level Greater e f = absurd (false≢true (sym e))

module _ {A : Type 0} (R : A → A → Ordering) (total : IsTotalOrder R) (same : IsAntisymmetric R) where
  sorted_tail : (x : A) (xs : List A) → IsSorted R (x ∷ xs) → IsSorted R xs
  sorted_tail x xs h k d low within =
      let next : suc k + 1 ≡ suc (k + 1) = omega arith in
      subst (λ i. is_lt (R (get_or (x ∷ xs) i d) (get_or xs k d)) ≡ false) next (h (suc k) d (omega arith) (omega arith))

  head_first : (x : A) (xs : List A) → IsSorted R (x ∷ xs) → (y : A) → Contains xs y → is_gt (R x y) ≡ false
  head_first x [] h y m = absurd (contains_none y m)
  head_first x (z ∷ zs) h y m =
      let next : is_gt (R x z) ≡ false = ap is_gt (total.antisymm x z) ∙ turned (R z x) (h 0 x (omega arith) (omega arith)) in
      elim (contains_cases z zs y m) [
        | inl e ↦ subst (λ k. is_gt (R x k) ≡ false) e next
        | inr n ↦ upto total x z y next (head_first z zs (sorted_tail x (z ∷ zs) h) y n)
      ]

  both_first : (x y : A) → is_gt (R x y) ≡ false → is_gt (R y x) ≡ false → x ≡ y
  both_first x y h k = same x y (level (R x y) h (sym (ap is_gt (total.antisymm y x)) ∙ k))

  same_head : (x y : A) (xs ys : List A) → IsSorted R (x ∷ xs) → IsSorted R (y ∷ ys) → Contains (y ∷ ys) x → Contains (x ∷ xs) y → x ≡ y
  same_head x y xs ys h k there back = elim (contains_cases y ys x there) [
    | inl e ↦ sym e
    | inr m ↦ elim (contains_cases x xs y back) [
      | inl e ↦ e
      | inr n ↦ both_first x y (head_first x xs h y n) (head_first y ys k x m)
    ]
  ]

  in_tail : (x y : A) (xs ys : List A) → x ≡ y → EachOnce (x ∷ xs) → ((z : A) → Contains (x ∷ xs) z → Contains (y ∷ ys) z)
      → (z : A) → Contains xs z → Contains ys z
  in_tail x y xs ys e once there z m = elim (contains_cases y ys z (there z (contains_more x xs z m))) [
    | inl f ↦ absurd (once.0 (subst (λ k. Contains xs k) (sym (e ∙ f)) m))
    | inr n ↦ n
  ]

  -- one list is sorted and has these members, each once
  sorted-unique : (xs ys : List A) → IsSorted R xs → IsSorted R ys → EachOnce xs → EachOnce ys
      → ((z : A) → Contains xs z → Contains ys z) → ((z : A) → Contains ys z → Contains xs z) → xs ≡ ys
  sorted-unique [] [] h k once other there back = refl
  sorted-unique [] (y ∷ ys) h k once other there back = absurd (contains_none y (back y (contains_first y ys)))
  sorted-unique (x ∷ xs) [] h k once other there back = absurd (contains_none x (there x (contains_first x xs)))
  sorted-unique (x ∷ xs) (y ∷ ys) h k once other there back =
      let e : x ≡ y = same_head x y xs ys h k (there x (contains_first x xs)) (back y (contains_first y ys)) in
      let tails : xs ≡ ys = sorted-unique xs ys (sorted_tail x xs h) (sorted_tail y ys k) once.1 other.1
      (in_tail x y xs ys e once there) (in_tail y x ys xs (sym e) other back) in
      cc

sorted_paths-unique : (xs ys : List (List ℕ)) → IsSorted (slice_cmp nat_cmp) xs → IsSorted (slice_cmp nat_cmp) ys → EachOnce xs → EachOnce ys
    → ((z : List ℕ) → Contains xs z → Contains ys z) → ((z : List ℕ) → Contains ys z → Contains xs z) → xs ≡ ys
sorted_paths-unique = sorted-unique (slice_cmp nat_cmp) nat_list_cmp_total (slice_cmp-IsAntisymmetric nat_cmp-IsAntisymmetric)

pub one_set : (P : List ℕ → Type 0) (ps qs : List (List ℕ)) → AreSorted P ps → AreSorted P qs → ps ≡ qs
one_set P ps qs f g = sorted_paths-unique ps qs f.sorted g.sorted f.once g.once (λ p m. (g.each p).1 ((f.each p).0 m)) (λ p m. (f.each p).1 ((g.each p).0 m))
