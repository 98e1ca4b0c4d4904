-- Each folder has a sorted list of the folders in it.
use Rattle.std.proofs.Common.{◌≡◌, ℕ, ◌+◌, ◌<◌, ◌≤◌, ◌⊎◌, inl, inr, ◌↔◌, List, [], ◌∷◌, ◌++◌, Bool, true, false, Option, Some, None, IsSome, length, min, refl, sym, ap, subst, ◌∙◌, arith, length-append}
use Rattle.std.specs.declared.cmp.Ordering.TheVariants.{Less, Equal, Greater}
use Rattle.std.specs.Ordering.{nat_cmp, is_eq, is_lt, match_ordering, ordering_reverse}
use Rattle.std.specs.Cmp.{tied_itself}
use Rattle.std.specs.Cmp.Lexicographic.{slice_cmp}
use Rattle.std.specs.FinMap.{contains_key-keys, get, keys, nat_cmp-IsAntisymmetric, slice_cmp-IsAntisymmetric}
use Rattle.std.specs.List.{Contains, before_first, list_any, position_or_len}
use Rattle.std.specs.List.Sorted.{IsSorted}
use Rattle.std.specs.Option.{option_map}
use Rattle.std.specs.Str.{bytes_eq}
use Rattle.std.proofs.lemmas.Bool.{false≢true}
use Rattle.std.proofs.lemmas.Cmp.{nat_list_cmp_total}
use Rattle.std.proofs.lemmas.List.{length-take}
use Rattle.std.proofs.lemmas.Map.Text.{is_eq-slice_cmp}
use Rattle.ct_outside.specs.Files.{EachOnce, Files, entry_at, is_slash, rest_below}
use Rattle.ct_outside.specs.declared.tree.Entry.{Entry}
use Rattle.ct_find.specs.Order.{AreChildren, IsChild, inside}
use Rattle.ct_find.specs.Sets.{AreSorted}
use Rattle.ct_find.proofs.Members.{contains_append, contains_cases, contains_first, contains_left, contains_more, contains_none, contains_right}
use Rattle.ct_find.proofs.OrderLemmas.{member_seen, seen_member}
use Rattle.ct_find.proofs.ReachLemmas.{below_is}
use Rattle.ct_find.proofs.NameLemmas.{some_length}
use Rattle.ct_find.proofs.SetLemmas.{sorted_as, sorted_cons, sorted_one}
use Rattle.ct_find.proofs.WalkedLemmas.{same_entry}

-- ---- any paths make a sorted set

-- each path is before all that stand behind it
abbrev Rising : List (List ℕ) → Type 0
Rising [] = Unit {0}
Rising (x ∷ xs) = ((y : List ℕ) → Contains xs y → slice_cmp nat_cmp x y ≡ Less) × Rising xs

-- one more path, at its place
abbrev put : List ℕ → List (List ℕ) → List (List ℕ)
put x [] = x ∷ []
put x (y ∷ ys) = match_ordering (slice_cmp nat_cmp x y) (x ∷ y ∷ ys) (y ∷ ys) (y ∷ put x ys)

same_path : (x y : List ℕ) → slice_cmp nat_cmp x y ≡ Equal → x ≡ y
same_path = slice_cmp-IsAntisymmetric nat_cmp-IsAntisymmetric

turned : (x y : List ℕ) → slice_cmp nat_cmp x y ≡ Greater → slice_cmp nat_cmp y x ≡ Less
turned x y e = nat_list_cmp_total.antisymm y x ∙ ap ordering_reverse e

not_below : (x y : List ℕ) → slice_cmp nat_cmp x y ≡ Less → is_lt (slice_cmp nat_cmp y x) ≡ false
not_below x y e = ap is_lt (nat_list_cmp_total.antisymm y x ∙ ap ordering_reverse e)

put_member : (x : List ℕ) (ys : List (List ℕ)) (z : List ℕ) → Contains (put x ys) z → (x ≡ z) ⊎ Contains ys z
put_member x [] z h = contains_cases x [] z h
put_member x (y ∷ ys) z h =
    elim (slice_cmp nat_cmp x y) as (λ o. Contains (match_ordering o (x ∷ y ∷ ys) (y ∷ ys) (y ∷ put x ys)) z → (x ≡ z) ⊎ Contains (y ∷ ys) z) [
      | Less ↦ λ m. contains_cases x (y ∷ ys) z m
      | Equal ↦ λ m. inr m
      | Greater ↦ λ m. elim (contains_cases y (put x ys) z m) [
        | inl e ↦ inr (subst (λ w. Contains (y ∷ ys) w) e (contains_first y ys))
        | inr n ↦ elim (put_member x ys z n) [ inl e ↦ inl e | inr k ↦ inr (contains_more y ys z k) ]
      ]
    ] h

put_has : (x : List ℕ) (ys : List (List ℕ)) (z : List ℕ) → (x ≡ z) ⊎ Contains ys z → Contains (put x ys) z
put_has x [] z h = elim h [ inl e ↦ subst (λ w. Contains (x ∷ []) w) e (contains_first x []) | inr m ↦ absurd (contains_none z m) ]
put_has x (y ∷ ys) z h =
    elim (slice_cmp nat_cmp x y) as (λ o. slice_cmp nat_cmp x y ≡ o → Contains (match_ordering o (x ∷ y ∷ ys) (y ∷ ys) (y ∷ put x ys)) z) [
      | Less ↦ λ c. elim h [ inl e ↦ subst (λ w. Contains (x ∷ y ∷ ys) w) e (contains_first x (y ∷ ys)) | inr m ↦ contains_more x (y ∷ ys) z m ]
      | Equal ↦ λ c. elim h [ inl e ↦ subst (λ w. Contains (y ∷ ys) w) (sym (same_path x y c) ∙ e) (contains_first y ys) | inr m ↦ m ]
      | Greater ↦ λ c. elim h [
        | inl e ↦ contains_more y (put x ys) z (put_has x ys z (inl e))
        | inr m ↦ elim (contains_cases y ys z m) [
          | inl e ↦ subst (λ w. Contains (y ∷ put x ys) w) e (contains_first y (put x ys))
          | inr n ↦ contains_more y (put x ys) z (put_has x ys z (inr n))
        ]
      ]
    ] refl

put_rising : (x : List ℕ) (ys : List (List ℕ)) → Rising ys → Rising (put x ys)
put_rising x [] h = ((λ y m. absurd (contains_none y m)), tt)
put_rising x (y ∷ ys) h =
    elim (slice_cmp nat_cmp x y) as (λ o. slice_cmp nat_cmp x y ≡ o → Rising (match_ordering o (x ∷ y ∷ ys) (y ∷ ys) (y ∷ put x ys))) [
      | Less ↦ λ c. (
        (λ z m. elim (contains_cases y ys z m) [
          | inl e ↦ subst (λ w. slice_cmp nat_cmp x w ≡ Less) e c
          | inr n ↦ nat_list_cmp_total.trans x y z c (h.0 z n)
        ]),
        h,
      )
      | Equal ↦ λ c. h
      | Greater ↦ λ c. (
        (λ z m. elim (put_member x ys z m) [
          | inl e ↦ subst (λ w. slice_cmp nat_cmp y w ≡ Less) e (turned x y c)
          | inr n ↦ h.0 z n
        ]),
        put_rising x ys h.1,
      )
    ] refl

not_before_itself : (x : List ℕ) → slice_cmp nat_cmp x x ≡ Less → ⊥
not_before_itself x e = false≢true (sym (ap is_lt (tied_itself nat_list_cmp_total x)) ∙ ap is_lt e)

rising_once : (xs : List (List ℕ)) → Rising xs → EachOnce xs
rising_once [] h = tt
rising_once (x ∷ xs) h = ((λ m. not_before_itself x (h.0 x m)), rising_once xs h.1)

rising_sorted : (xs : List (List ℕ)) → Rising xs → IsSorted (slice_cmp nat_cmp) xs
rising_sorted [] h = λ k d low within. absurd (omega arith)
rising_sorted (x ∷ []) h = sorted_one x
rising_sorted (x ∷ y ∷ ys) h = sorted_cons x y ys (not_below x y (h.0 y (contains_first y ys))) (rising_sorted (y ∷ ys) h.1)

rising_of : (xs : List (List ℕ)) → (ys : List (List ℕ)) × Rising ys × ((z : List ℕ) → Contains ys z ↔ Contains xs z)
rising_of [] = ([], tt, λ z. ((λ m. m), (λ m. m)))
rising_of (x ∷ xs) =
    let r = rising_of xs in (
      put x r.0,
      put_rising x r.0 r.1,
      λ z. (
        (λ m. elim (put_member x r.0 z m) [
          | inl e ↦ subst (λ w. Contains (x ∷ xs) w) e (contains_first x xs)
          | inr n ↦ contains_more x xs z ((r.2 z).0 n)
        ]),
        (λ m. put_has x r.0 z (elim (contains_cases x xs z m) [ inl e ↦ inl e | inr n ↦ inr ((r.2 z).1 n) ])),
      ),
    )

pub sorted_of : (xs : List (List ℕ)) → (ys : List (List ℕ)) × AreSorted (Contains xs) ys
sorted_of xs = let r = rising_of xs in (r.0, record { each = r.2; once = rising_once r.0 r.1; sorted = rising_sorted r.0 r.1 })

-- ---- the folders in a folder, from the paths of all files

-- a folder with a name
abbrev named : List ℕ → List ℕ → Bool → List (List ℕ)
named folder [] b = []
named folder (c ∷ cs) false = []
named folder (c ∷ cs) true = inside folder (c ∷ cs) ∷ []

abbrev child_of : List ℕ → Option Entry → List (List ℕ)
child_of folder None = []
child_of folder (Some entry) = named folder entry.name entry.folder

abbrev children_of : List ℕ → List (List ℕ) → List (List ℕ)
children_of folder [] = []
children_of folder (path ∷ paths) = child_of folder (entry_at folder path) ++ children_of folder paths

-- what makes a path a child
abbrev MakesChild : List ℕ → Option Entry → List ℕ → Type 0
MakesChild folder o p = (name : List ℕ) × (p ≡ inside folder name) × (name ≡ [] → ⊥) × (o ≡ Some (record { name = name; folder = true }))

named_in : (folder name : List ℕ) (b : Bool) (p : List ℕ) → Contains (named folder name b) p → (p ≡ inside folder name) × (name ≡ [] → ⊥) × (b ≡ true)
named_in folder [] b p m = absurd (contains_none p m)
named_in folder (c ∷ cs) false p m = absurd (contains_none p m)
named_in folder (c ∷ cs) true p m = elim (contains_cases (inside folder (c ∷ cs)) [] p m) [
  | inl e ↦ (sym e, (λ h. let k : c ∷ cs ≡ [] = h in cc), refl)
  | inr n ↦ absurd (contains_none p n)
]

named_has : (folder name : List ℕ) → (name ≡ [] → ⊥) → Contains (named folder name true) (inside folder name)
named_has folder [] some = absurd (some refl)
named_has folder (c ∷ cs) some = contains_first (inside folder (c ∷ cs)) []

child_in : (folder : List ℕ) (o : Option Entry) (p : List ℕ) → Contains (child_of folder o) p → MakesChild folder o p
child_in folder None p m = absurd (contains_none p m)
child_in folder (Some entry) p m =
    let r = named_in folder entry.name entry.folder p m in
    (entry.name, r.0, r.1, ap Some (same_entry entry (record { name = entry.name; folder = true }) refl r.2))

child_has : (folder : List ℕ) (o : Option Entry) (p : List ℕ) → MakesChild folder o p → Contains (child_of folder o) p
child_has folder o p h =
    subst (λ (q : List ℕ). Contains (child_of folder o) q) (sym h.1)
    (subst (λ (a : Option Entry). Contains (child_of folder a) (inside folder h.0)) (sym h.3) (named_has folder h.0 h.2))

children_in : (folder : List ℕ) (paths : List (List ℕ)) (p : List ℕ) → Contains (children_of folder paths) p → (k : List ℕ) × Contains paths k × MakesChild folder (entry_at folder k) p
children_in folder [] p m = absurd (contains_none p m)
children_in folder (path ∷ paths) p m = elim (contains_append (child_of folder (entry_at folder path)) (children_of folder paths) p m) [
  | inl n ↦ (path, contains_first path paths, child_in folder (entry_at folder path) p n)
  | inr n ↦ let r = children_in folder paths p n in (r.0, contains_more path paths r.0 r.1, r.2)
]

children_has : (folder : List ℕ) (paths : List (List ℕ)) (k p : List ℕ) → Contains paths k → MakesChild folder (entry_at folder k) p → Contains (children_of folder paths) p
children_has folder [] k p m h = absurd (contains_none k m)
children_has folder (path ∷ paths) k p m h = elim (contains_cases path paths k m) [
  | inl e ↦ contains_left (child_of folder (entry_at folder path)) (children_of folder paths) p
      (child_has folder (entry_at folder path) p (subst (λ (q : List ℕ). MakesChild folder (entry_at folder q) p) (sym e) h))
  | inr n ↦ contains_right (child_of folder (entry_at folder path)) (children_of folder paths) p (children_has folder paths k p n h)
]

-- the paths of all files
by_bytes : (files : Files) (k : List ℕ) → IsSome (get files k) ↔ (list_any (bytes_eq k) (keys files) ≡ true)
by_bytes files k =
    let same : list_any (λ y. is_eq (slice_cmp nat_cmp k y)) (keys files) ≡ list_any (bytes_eq k) (keys files) = λ i. list_any (λ y. is_eq-slice_cmp k y i) (keys files) in
    ((λ h. sym same ∙ sym (contains_key-keys files k) ∙ h), (λ h. contains_key-keys files k ∙ same ∙ h))

pub path_in : (files : Files) (k : List ℕ) → IsSome (get files k) → Contains (keys files) k
path_in files k h = seen_member k (keys files) ((by_bytes files k).0 h)

in_paths : (files : Files) (k : List ℕ) → Contains (keys files) k → IsSome (get files k)
in_paths files k m = (by_bytes files k).1 (member_seen k (keys files) m)

pub children_exist : (files : Files) (folder : List ℕ) → (children : List (List ℕ)) × AreChildren files folder children
children_exist files folder =
    let set = sorted_of (children_of folder (keys files)) in (
      set.0,
      sorted_as (Contains (children_of folder (keys files))) (IsChild files folder) set.0
          (λ p. (
            (λ m. let c = children_in folder (keys files) p m in (c.2.0, c.2.1, c.2.2, (c.0, in_paths files c.0 c.1, c.2.3))),
            (λ h. children_has folder (keys files) h.3.0 p (path_in files h.3.0 h.3.1) (h.0, h.1, h.2, h.3.2)),
          )) set.1,
    )

-- ---- a folder in a folder has a longer path, and none is longer than the paths of all files

abbrev pub total_length : List (List ℕ) → ℕ
total_length [] = 0
total_length (path ∷ paths) = length path + total_length paths

path_short : (paths : List (List ℕ)) (k : List ℕ) → Contains paths k → length k ≤ total_length paths
path_short [] k m = absurd (contains_none k m)
path_short (path ∷ paths) k m = elim (contains_cases path paths k m) [
  | inl e ↦ let same : length path ≡ length k = ap length e in omega arith
  | inr n ↦ let shorter : length k ≤ total_length paths = path_short paths k n in omega arith
]

inside_longer : (folder name : List ℕ) → (name ≡ [] → ⊥) → length folder < length (inside folder name)
inside_longer [] name some = some_length name some
inside_longer (b ∷ bs) name some =
    let whole : length ((b ∷ bs) ++ 47 ∷ name) ≡ length (b ∷ bs) + length (47 ∷ name) = length-append (b ∷ bs) (47 ∷ name) in
    omega arith

inside_shorter : (folder name rest : List ℕ) → length name ≤ length rest → length (inside folder name) ≤ length (inside folder rest)
inside_shorter [] name rest h = h
inside_shorter (b ∷ bs) name rest h =
    let one : length ((b ∷ bs) ++ 47 ∷ name) ≡ length (b ∷ bs) + length (47 ∷ name) = length-append (b ∷ bs) (47 ∷ name) in
    let other : length ((b ∷ bs) ++ 47 ∷ rest) ≡ length (b ∷ bs) + length (47 ∷ rest) = length-append (b ∷ bs) (47 ∷ rest) in
    omega arith

front_shorter : (rest : List ℕ) → length (before_first is_slash rest) ≤ length rest
front_shorter rest = let is : length (before_first is_slash rest) ≡ min (position_or_len is_slash rest) (length rest) = length-take (position_or_len is_slash rest) rest in omega arith

entry_rest : (o : Option (List ℕ)) (e : Entry) → option_map (λ r. record { name = before_first is_slash r; folder = list_any is_slash r }) o ≡ Some e
    → (r : List ℕ) × (o ≡ Some r) × (e.name ≡ before_first is_slash r)
entry_rest None e h = absurd (cc)
entry_rest (Some r) e h =
    let same : record { name = before_first is_slash r; folder = list_any is_slash r } ≡ e = cc in (r, refl, sym (ap (λ (x : Entry). x.name) same))

pub child_longer : (files : Files) (folder p : List ℕ) → IsChild files folder p → length folder < length p
child_longer files folder p h = subst (λ (q : List ℕ). length folder < length q) (sym h.1) (inside_longer folder h.0 h.2)

pub child_short : (files : Files) (folder p : List ℕ) → IsChild files folder p → length p ≤ total_length (keys files)
child_short files folder p h =
    let r = entry_rest (rest_below folder h.3.0) (record { name = h.0; folder = true }) h.3.2 in
    let shorter : length h.0 ≤ length r.0 = subst (λ (n : List ℕ). length n ≤ length r.0) (sym r.2) (front_shorter r.0) in
    let path : length p ≡ length (inside folder h.0) = ap length h.1 in
    let file : length h.3.0 ≡ length (inside folder r.0) = ap length (below_is folder h.3.0 r.0 r.1) in
    let inner : length (inside folder h.0) ≤ length (inside folder r.0) = inside_shorter folder h.0 r.0 shorter in
    let outer : length h.3.0 ≤ total_length (keys files) = path_short (keys files) h.3.0 (path_in files h.3.0 h.3.1) in
    omega arith
