-- Components of paths, and folders by their components.
use Rattle.std.proofs.Common.{◌≡◌, ℕ, zero, suc, ◌<◌, inl, inr, List, [], ◌∷◌, ◌++◌, Bool, true, false, cond, not, ◌||◌, length, take, refl, sym, ap, subst, ◌∙◌, arith, rules, append_assoc, nat_lt, filter}
use Rattle.std.specs.Prelude.{take_while, All}
use Rattle.std.specs.List.{Contains, list_any, prefix_len, slice_split, onto_first}
use Rattle.std.proofs.lemmas.Bool.{false≢true, or_parts}
use Rattle.std.proofs.lemmas.List.Elements.{All-cons}
use Rattle.std.proofs.lemmas.List.Splits.{slice_split_at, slice_split_none}
use Rattle.ct_outside.specs.Files.{Files, is_slash}
use Rattle.ct_outside.specs.Paths.{components_of, path_of}
use Rattle.ct_outside.proofs.ComponentLemmas.{components_keep, path_of-push}
use Rattle.ct_find.specs.Folders.{IsPath}
use Rattle.ct_find.specs.Order.{IsChild, has_wildcard, inside, start_of}
use Rattle.ct_find.proofs.Members.{contains_append, contains_cases, contains_first, contains_more, contains_none}
use Rattle.ct_find.proofs.WalkedLemmas.{plain_name}

-- a name: it is not empty and has no slash
pub record IsName (name : List ℕ) : Type 0 where
  pub some : name ≡ [] → ⊥
  pub plain : list_any is_slash name ≡ false

filter_cons : {A : Type 0} (p : A → Bool) (y : A) (ys : List A) (b : Bool) → p y ≡ b → filter p (y ∷ ys) ≡ cond b (y ∷ filter p ys) (filter p ys)
filter_cons p y ys b e = rw e refl

kept : {A : Type 0} (p : A → Bool) (y : A) (ys : List A) (x : A) (b : Bool) → p y ≡ b → Contains (filter p ys) x → Contains (filter p (y ∷ ys)) x
kept p y ys x true e m = rw (filter_cons p y ys true e) (contains_more y (filter p ys) x m)
kept p y ys x false e m = rw (filter_cons p y ys false e) m

pub contains_filter : {A : Type 0} (p : A → Bool) (xs : List A) (x : A) → Contains xs x → p x ≡ true → Contains (filter p xs) x
contains_filter p [] x h passes = absurd (contains_none x h)
contains_filter p (y ∷ ys) x h passes = elim (contains_cases y ys x h) [
  | inl e ↦ rw (filter_cons p y ys true (ap p e ∙ passes)) (subst (λ z. Contains (y ∷ filter p ys) z) e (contains_first y (filter p ys)))
  | inr m ↦ kept p y ys x (p y) refl (contains_filter p ys x m passes)
]

in_filter : {A : Type 0} (p : A → Bool) (y : A) (ys : List A) (x : A) (b : Bool) → p y ≡ b
    → (Contains (filter p ys) x → Contains ys x × (p x ≡ true)) → Contains (filter p (y ∷ ys)) x → Contains (y ∷ ys) x × (p x ≡ true)
in_filter p y ys x false e below h =
    let r = below (subst (λ zs. Contains zs x) (filter_cons p y ys false e) h) in (contains_more y ys x r.0, r.1)
in_filter p y ys x true e below h = elim (contains_cases y (filter p ys) x (subst (λ zs. Contains zs x) (filter_cons p y ys true e) h)) [
  | inl same ↦ (subst (λ z. Contains (y ∷ ys) z) same (contains_first y ys), sym (ap p same) ∙ e)
  | inr m ↦ let r = below m in (contains_more y ys x r.0, r.1)
]

pub filter_contains : {A : Type 0} (p : A → Bool) (xs : List A) (x : A) → Contains (filter p xs) x → Contains xs x × (p x ≡ true)
filter_contains p [] x h = absurd (contains_none x h)
filter_contains p (y ∷ ys) x h = in_filter p y ys x (p y) refl (filter_contains p ys x) h

onto_plain : (b : ℕ) (parts : List (List ℕ)) → is_slash b ≡ false → ((p : List ℕ) → Contains parts p → list_any is_slash p ≡ false) → (p : List ℕ) → Contains (onto_first b parts) p → list_any is_slash p ≡ false
onto_plain b [] e h p m = elim (contains_cases (b ∷ []) [] p m) [
  | inl same ↦ subst (λ (q : List ℕ). list_any is_slash q ≡ false) same (ap (λ (t : Bool). t || false) e)
  | inr n ↦ absurd (contains_none p n)
]
onto_plain b (part ∷ parts) e h p m = elim (contains_cases (b ∷ part) parts p m) [
  | inl same ↦ subst (λ (q : List ℕ). list_any is_slash q ≡ false) same (ap (λ (t : Bool). t || list_any is_slash part) e ∙ h part (contains_first part parts))
  | inr n ↦ h p (contains_more part parts p n)
]

parts_at : (b : ℕ) (bs : List ℕ) (t : Bool) → is_slash b ≡ t → ((p : List ℕ) → Contains (slice_split is_slash bs) p → list_any is_slash p ≡ false)
    → (p : List ℕ) → Contains (cond t ([] ∷ slice_split is_slash bs) (onto_first b (slice_split is_slash bs))) p → list_any is_slash p ≡ false
parts_at b bs true e h p m = elim (contains_cases [] (slice_split is_slash bs) p m) [
  | inl same ↦ subst (λ (q : List ℕ). list_any is_slash q ≡ false) same refl
  | inr n ↦ h p n
]
parts_at b bs false e h p m = onto_plain b (slice_split is_slash bs) e h p m

parts_plain : (bs : List ℕ) (p : List ℕ) → Contains (slice_split is_slash bs) p → list_any is_slash p ≡ false
parts_plain [] p m = elim (contains_cases [] [] p m) [
  | inl same ↦ subst (λ (q : List ℕ). list_any is_slash q ≡ false) same refl
  | inr n ↦ absurd (contains_none p n)
]
parts_plain (b ∷ bs) p m = parts_at b bs (is_slash b) refl (parts_plain bs) p m

not_empty : (p : List ℕ) → nat_lt 0 (length p) ≡ true → p ≡ [] → ⊥
not_empty p e h = false≢true (ap (λ (q : List ℕ). nat_lt 0 (length q)) (sym h) ∙ e)

pub component_name : (path n : List ℕ) → Contains (components_of path) n → IsName n
component_name path n m =
    let r = filter_contains (λ (piece : List ℕ). nat_lt 0 (length piece)) (slice_split is_slash path) n m in
    record { some = not_empty n r.1; plain = parts_plain path n r.0 }

all_plain : (bs : List ℕ) → list_any is_slash bs ≡ false → All (λ x. is_slash x ≡ false) bs
all_plain [] e = search rules
all_plain (b ∷ bs) e = let r = or_parts (is_slash b) (list_any is_slash bs) e in All-cons (λ x. is_slash x ≡ false) b bs r.0 (all_plain bs r.1)

pub some_length : (name : List ℕ) → (name ≡ [] → ⊥) → 0 < length name
some_length [] some = absurd (some refl)
some_length (b ∷ bs) some = omega arith

-- a path of names has these components
pub components_of-path_of : (names : List (List ℕ)) → ((n : List ℕ) → Contains names n → IsName n) → components_of (path_of names) ≡ names
components_of-path_of [] h = refl
components_of-path_of (n ∷ []) h =
    let own = h n (contains_first n []) in
    ap (λ (ps : List (List ℕ)). filter (λ piece. nat_lt 0 (length piece)) ps) (slice_split_none is_slash n (all_plain n own.plain)) ∙ components_keep n [] (some_length n own.some)
components_of-path_of (n ∷ m ∷ names) h =
    let own = h n (contains_first n (m ∷ names)) in
    ap (λ (ps : List (List ℕ)). filter (λ piece. nat_lt 0 (length piece)) ps) (slice_split_at is_slash n 47 (path_of (m ∷ names)) (all_plain n own.plain) refl)
    ∙ components_keep n (slice_split is_slash (path_of (m ∷ names))) (some_length n own.some) ∙ ap (λ (ns : List (List ℕ)). n ∷ ns) (components_of-path_of (m ∷ names) (λ k i. h k (contains_more n (m ∷ names) k i)))

pub names_path : (names : List (List ℕ)) → ((n : List ℕ) → Contains names n → IsName n) → IsPath (path_of names)
names_path names h = ap path_of (components_of-path_of names h)

pub inside_some : (f n : List ℕ) → (f ≡ [] → ⊥) → inside f n ≡ f ++ 47 ∷ n
inside_some [] n some = absurd (some refl)
inside_some (b ∷ bs) n some = refl

path_some : (c : List ℕ) (cs : List (List ℕ)) → (c ≡ [] → ⊥) → path_of (c ∷ cs) ≡ [] → ⊥
path_some [] cs some e = some refl
path_some (b ∷ bs) [] some e = absurd (cc)
path_some (b ∷ bs) (d ∷ ds) some e = absurd (cc)

pub inside_names : (names : List (List ℕ)) (n : List ℕ) → ((k : List ℕ) → Contains names k → IsName k) → inside (path_of names) n ≡ path_of (names ++ n ∷ [])
inside_names [] n h = refl
inside_names (c ∷ cs) n h = inside_some (path_of (c ∷ cs)) n (path_some c cs (h c (contains_first c cs)).some) ∙ sym (path_of-push cs c n)

-- what has a name in a folder is a path with one component more
pub inside_path : (f n : List ℕ) → IsPath f → inside f n ≡ path_of (components_of f ++ n ∷ [])
inside_path f n is = ap (λ (g : List ℕ). inside g n) (sym is) ∙ inside_names (components_of f) n (component_name f)

more_names : (f n : List ℕ) → IsName n → (k : List ℕ) → Contains (components_of f ++ n ∷ []) k → IsName k
more_names f n own k m = elim (contains_append (components_of f) (n ∷ []) k m) [
  | inl i ↦ component_name f k i
  | inr i ↦ elim (contains_cases n [] k i) [ inl same ↦ subst IsName same own | inr j ↦ absurd (contains_none k j) ]
]

pub inside_is_path : (f n : List ℕ) → IsPath f → IsName n → IsPath (inside f n)
inside_is_path f n is own = subst IsPath (sym (inside_path f n is)) (names_path (components_of f ++ n ∷ []) (more_names f n own))

pub components_inside : (f n : List ℕ) → IsPath f → IsName n → components_of (inside f n) ≡ components_of f ++ n ∷ []
components_inside f n is own = ap components_of (inside_path f n is) ∙ components_of-path_of (components_of f ++ n ∷ []) (more_names f n own)

pub child_name : (files : Files) (folder path : List ℕ) (h : IsChild files folder path) → IsName h.0
child_name files folder path h = record { some = h.2; plain = plain_name folder h.3.0 (record { name = h.0; folder = true }) h.3.2 }

take_in : (k : ℕ) (xs : List (List ℕ)) (x : List ℕ) → Contains (take k xs) x → Contains xs x
take_in zero xs x m = absurd (contains_none x m)
take_in (suc k) [] x m = m
take_in (suc k) (y ∷ ys) x m = elim (contains_cases y (take k ys) x m) [
  | inl same ↦ subst (λ (z : List ℕ). Contains (y ∷ ys) z) same (contains_first y ys)
  | inr n ↦ contains_more y ys x (take_in k ys x n)
]

pub while_in : (p : List ℕ → Bool) (xs : List (List ℕ)) (x : List ℕ) → Contains (take_while p xs) x → Contains xs x
while_in p xs x m = take_in (prefix_len p xs) xs x m

-- a start is a path
pub start_path : (pattern : List ℕ) → IsPath (start_of pattern)
start_path pattern =
    names_path (take_while (λ component. not (has_wildcard component)) (components_of pattern))
    (λ n m. component_name pattern n (while_in (λ component. not (has_wildcard component)) (components_of pattern) n m))
