-- The order of listing, a start at a time.
use Rattle.std.proofs.Common.{◌≡◌, ℕ, ◌⊎◌, inl, inr, List, [], ◌∷◌, ◌++◌, Bool, true, false, refl, sym, ap, subst, ◌∙◌, append_assoc}
use Rattle.std.specs.Prelude.{if◌then◌else◌, ◌||◌}
use Rattle.std.specs.List.{Contains, list_any}
use Rattle.std.specs.Str.{bytes_eq}
use Rattle.std.proofs.lemmas.Bool.{false≢true}
use Rattle.std.proofs.lemmas.Slice.Eq.{bytes_eq-Decides}
use Rattle.ct_outside.specs.Files.{Files}
use Rattle.ct_find.specs.declared.starts.Start.{Start}
use Rattle.ct_find.specs.Order.{first_places, places_after}
use Rattle.ct_find.proofs.Members.{contains_cases, contains_first, contains_more, contains_none}
use Rattle.ct_find.specs.Rows.{Lists, alone, hidden, nothing, with_all_below}

-- what is listed for some starts and then for those that are left
pub lists_then : (files : Files) (build : List ℕ) (starts mid left : List Start) (front more : List (List ℕ)) → Lists files build starts front mid → Lists files build mid more left
    → Lists files build starts (front ++ more) left
lists_then files build starts mid left front more nothing b = b
lists_then files build starts mid left front more (hidden {starts = ss} h a) b = hidden h (lists_then files build ss mid left front more a b)
lists_then files build starts mid left front more (alone {starts = ss} {folders = fs} o d a) b = alone o d (lists_then files build ss mid left fs more a b)
lists_then files build starts mid left front more (with_all_below {folders = fs} children o d c a) b = with_all_below children o d c (lists_then files build _ mid left fs more a b)

pub seen_member : (x : List ℕ) (seen : List (List ℕ)) → list_any (bytes_eq x) seen ≡ true → Contains seen x
seen_member x [] e = absurd (false≢true e)
seen_member x (y ∷ ys) e =
    elim (bytes_eq x y) as (λ b. bytes_eq x y ≡ b → (b || list_any (bytes_eq x) ys) ≡ true → Contains (y ∷ ys) x) [
      | true ↦ λ i h. subst (λ z. Contains (y ∷ ys) z) (sym ((bytes_eq-Decides x y).0 i)) (contains_first y ys)
      | false ↦ λ i h. contains_more y ys x (seen_member x ys h)
    ] refl e

pub member_seen : (x : List ℕ) (seen : List (List ℕ)) → Contains seen x → list_any (bytes_eq x) seen ≡ true
member_seen x [] h = absurd (contains_none x h)
member_seen x (y ∷ ys) h =
    elim (bytes_eq x y) as (λ b. bytes_eq x y ≡ b → (b || list_any (bytes_eq x) ys) ≡ true) [
      | true ↦ λ i. refl
      | false ↦ λ i. elim (contains_cases y ys x h) [
        | inl e ↦ absurd (false≢true (sym i ∙ (bytes_eq-Decides x y).1 (sym e)))
        | inr m ↦ member_seen x ys m
      ]
    ] refl

not_seen : (x : List ℕ) (seen : List (List ℕ)) → (Contains seen x → ⊥) → list_any (bytes_eq x) seen ≡ false
not_seen x seen n = elim (list_any (bytes_eq x) seen) as (λ b. list_any (bytes_eq x) seen ≡ b → b ≡ false) [
  | true ↦ λ e. absurd (n (seen_member x seen e))
  | false ↦ λ e. refl
] refl

-- one more folder that stands there already
pub places_old : (seen xs : List (List ℕ)) (p : List ℕ) → Contains seen p ⊎ Contains xs p → places_after seen (xs ++ p ∷ []) ≡ places_after seen xs
places_old seen [] p h =
    let there : Contains seen p = elim h [ inl m ↦ m | inr m ↦ absurd (contains_none p m) ] in
    ap (λ (b : Bool). if b then [] else p ∷ []) (member_seen p seen there)
places_old seen (x ∷ xs) p h =
    elim (list_any (bytes_eq x) seen) as (λ b. list_any (bytes_eq x) seen ≡ b
    → (if b then places_after seen (xs ++ p ∷ []) else x ∷ places_after (x ∷ seen) (xs ++ p ∷ [])) ≡ (if b then places_after seen xs else x ∷ places_after (x ∷ seen) xs)) [
      | true ↦ λ e. places_old seen xs p (elim h [
        | inl m ↦ inl m
        | inr m ↦ elim (contains_cases x xs p m) [ inl same ↦ inl (subst (λ z. Contains seen z) same (seen_member x seen e)) | inr n ↦ inr n ]
      ])
      | false ↦ λ e. ap (λ zs. x ∷ zs) (places_old (x ∷ seen) xs p (elim h [
        | inl m ↦ inl (contains_more x seen p m)
        | inr m ↦ elim (contains_cases x xs p m) [ inl same ↦ inl (subst (λ z. Contains (x ∷ seen) z) same (contains_first x seen)) | inr n ↦ inr n ]
      ]))
    ] refl

-- one more folder that is new
pub places_new : (seen xs : List (List ℕ)) (p : List ℕ) → (Contains seen p → ⊥) → (Contains xs p → ⊥) → places_after seen (xs ++ p ∷ []) ≡ places_after seen xs ++ p ∷ []
places_new seen [] p n m = ap (λ (b : Bool). if b then [] else p ∷ []) (not_seen p seen n)
places_new seen (x ∷ xs) p n m =
    elim (list_any (bytes_eq x) seen) as (λ b. (if b then places_after seen (xs ++ p ∷ []) else x ∷ places_after (x ∷ seen) (xs ++ p ∷ [])) ≡ (if b then places_after seen xs else x ∷ places_after (x ∷ seen) xs) ++ p ∷ []) [
      | true ↦ places_new seen xs p n (λ h. m (contains_more x xs p h))
      | false ↦ ap (λ zs. x ∷ zs) (places_new (x ∷ seen) xs p
          (λ h. elim (contains_cases x seen p h) [ inl same ↦ m (subst (λ z. Contains (x ∷ xs) z) same (contains_first x xs)) | inr k ↦ n k ])
          (λ h. m (contains_more x xs p h)))
    ]

-- the first places have the same members
pub places_from : (seen xs : List (List ℕ)) (p : List ℕ) → Contains (places_after seen xs) p → Contains xs p
places_from seen [] p h = h
places_from seen (x ∷ xs) p h =
    elim (list_any (bytes_eq x) seen) as (λ b. Contains (if b then places_after seen xs else x ∷ places_after (x ∷ seen) xs) p → Contains (x ∷ xs) p) [
      | true ↦ λ m. contains_more x xs p (places_from seen xs p m)
      | false ↦ λ m. elim (contains_cases x (places_after (x ∷ seen) xs) p m) [
        | inl e ↦ subst (λ z. Contains (x ∷ xs) z) e (contains_first x xs)
        | inr k ↦ contains_more x xs p (places_from (x ∷ seen) xs p k)
      ]
    ] h

pub places_have : (seen xs : List (List ℕ)) (p : List ℕ) → Contains xs p → (Contains seen p → ⊥) → Contains (places_after seen xs) p
places_have seen [] p h n = h
places_have seen (x ∷ xs) p h n =
    elim (list_any (bytes_eq x) seen) as (λ b. list_any (bytes_eq x) seen ≡ b → Contains (if b then places_after seen xs else x ∷ places_after (x ∷ seen) xs) p) [
      | true ↦ λ e. places_have seen xs p (elim (contains_cases x xs p h) [
        | inl same ↦ absurd (n (subst (λ z. Contains seen z) same (seen_member x seen e)))
        | inr m ↦ m
      ]) n
      | false ↦ λ e. elim (bytes_eq x p) as (λ b. bytes_eq x p ≡ b → Contains (x ∷ places_after (x ∷ seen) xs) p) [
        | true ↦ λ i. subst (λ z. Contains (x ∷ places_after (x ∷ seen) xs) z) ((bytes_eq-Decides x p).0 i) (contains_first x (places_after (x ∷ seen) xs))
        | false ↦ λ i.
            let other : x ≡ p → ⊥ = λ same. false≢true (sym i ∙ (bytes_eq-Decides x p).1 same) in
            contains_more x (places_after (x ∷ seen) xs) p (places_have (x ∷ seen) xs p
            (elim (contains_cases x xs p h) [ inl same ↦ absurd (other same) | inr m ↦ m ])
            (λ k. elim (contains_cases x seen p k) [ inl same ↦ other same | inr m ↦ n m ]))
      ] refl
    ] refl

-- the first places of a list begin with those of its front
front_places : (xs ys seen : List (List ℕ)) → (rest : List (List ℕ)) × (places_after seen (xs ++ ys) ≡ places_after seen xs ++ rest)
front_places [] ys seen = (places_after seen ys, refl)
front_places (x ∷ xs) ys seen = elim (list_any (bytes_eq x) seen) as (λ b. (rest : List (List ℕ))
    × ((if b then places_after seen (xs ++ ys) else x ∷ places_after (x ∷ seen) (xs ++ ys)) ≡ (if b then places_after seen xs else x ∷ places_after (x ∷ seen) xs) ++ rest)) [
      | true ↦ front_places xs ys seen
      | false ↦ let r = front_places xs ys (x ∷ seen) in (r.0, ap (λ zs. x ∷ zs) r.1)
    ]

-- a folder that is new stands behind the first places of what comes before it
pub places_split : (before : List (List ℕ)) (folder : List ℕ) (rest : List (List ℕ)) → (Contains before folder → ⊥)
    → (behind : List (List ℕ)) × (first_places before ++ folder ∷ behind ≡ first_places (before ++ folder ∷ rest))
places_split before folder rest fresh =
    let r = front_places (before ++ folder ∷ []) rest [] in
    let whole : first_places (before ++ folder ∷ rest) ≡ first_places (before ++ folder ∷ []) ++ r.0 = ap first_places (sym (append_assoc before (folder ∷ []) rest)) ∙ r.1 in
    let next : first_places (before ++ folder ∷ []) ≡ first_places before ++ folder ∷ [] = places_new [] before folder (λ h. contains_none folder h) fresh in
    (r.0, sym (whole ∙ ap (λ zs. zs ++ r.0) next ∙ append_assoc (first_places before) (folder ∷ []) r.0))
