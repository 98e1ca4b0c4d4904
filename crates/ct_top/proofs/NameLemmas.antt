-- Base names.
use Rattle.std.proofs.Common.{◌≡◌, not, Bor, Ordering, ◌||◌, ℕ, ◌+◌, ◌<◌, Bool, true, false, cond, List, [], ◌∷◌, ◌++◌, map, length, take, drop, get_or, refl, sym, ap, subst, ◌∙◌, ⊎_elim}
use Rattle.std.specs.List.{Contains, list_any}
use Rattle.std.specs.Ordering.{nat_cmp}
use Rattle.std.specs.Cmp.Lexicographic.{slice_cmp}
use Rattle.std.specs.BTreeSet.{BTreeSet, contains, Updates}
use Rattle.std.proofs.lemmas.Map.Text.{is_eq-slice_cmp}
use Rattle.std.specs.Str.{bytes_eq}
use Rattle.std.proofs.lemmas.Bool.{or_cases, or_left, or_right, false≢true}
use Rattle.std.proofs.lemmas.List.{take_more, take-append-drop}
use Rattle.std.proofs.lemmas.Slice.Eq.{bytes_eq-Decides}
use Rattle.ct_outside.specs.Files.{is_slash, EachOnce}
use Rattle.ct_top.specs.Project.{base_name, IsSameTest}
use Rattle.ct_top.proofs.Members.{contains_first, contains_more, contains_cases, contains_none}

twice : {A : Type 0} (b : Bool) (x y : A) → cond b (cond b x y) y ≡ cond b x y
twice true x y = refl
twice false x y = refl

-- a text without a slash is its own base name
pub own_name : (path : List ℕ) → cond (list_any is_slash path) (base_name path) path ≡ base_name path
own_name [] = refl
own_name (byte ∷ bytes) = twice (list_any is_slash (byte ∷ bytes)) (base_name bytes) (byte ∷ bytes)

-- ---- names that stand before

either_end : (b : Bool) → b || false ≡ cond b true false
either_end true = refl
either_end false = refl

moved : (a b c : Bool) → a || cond b true c ≡ cond b true (a || c)
moved true true c = refl
moved true false c = refl
moved false true c = refl
moved false false c = refl

-- the order of names in a set
abbrev pub name_cmp : Bor (List ℕ) → Bor (List ℕ) → Ordering
name_cmp x y = slice_cmp nat_cmp x.now y.now

abbrev pub has_name : List ℕ → List (List ℕ) → Bool
has_name name paths = list_any (λ path. bytes_eq (base_name path) name) paths

pub name_stands : (name : List ℕ) (paths : List (List ℕ)) → has_name name paths ≡ true → Contains (map base_name paths) name
name_stands name [] h = absurd (false≢true h)
name_stands name (path ∷ paths) h = ⊎_elim
    (λ here. let same : base_name path ≡ name = (bytes_eq-Decides (base_name path) name).0 here in
    subst (Contains (base_name path ∷ map base_name paths)) same (contains_first (base_name path) (map base_name paths)))
    (λ later. contains_more (base_name path) (map base_name paths) name (name_stands name paths later))
    (or_cases (bytes_eq (base_name path) name) (has_name name paths) h)

name_found : (name : List ℕ) (paths : List (List ℕ)) → Contains (map base_name paths) name → has_name name paths ≡ true
name_found name [] h = absurd (contains_none name h)
name_found name (path ∷ paths) h = ⊎_elim
    (λ same. or_left (bytes_eq (base_name path) name) (has_name name paths) ((bytes_eq-Decides (base_name path) name).1 same))
    (λ later. or_right (bytes_eq (base_name path) name) (has_name name paths) (name_found name paths later))
    (contains_cases (base_name path) (map base_name paths) name h)

pub once_push : {A : Type 0} (xs : List A) (x : A) → (Contains xs x → ⊥) → EachOnce xs → EachOnce (xs ++ x ∷ [])
once_push [] x new once = ((λ h. contains_none x h), tt)
once_push {A} (y ∷ ys) x new once =
    ((λ h. once.0 (before ys h)), once_push ys x (λ h. new (contains_more y ys x h)) once.1)
  where
    before : (zs : List A) → Contains (zs ++ x ∷ []) y → Contains zs y
    before [] h = ⊎_elim (λ same. absurd (new (subst (Contains (y ∷ ys)) (sym same) (contains_first y ys)))) (λ m. m) (contains_cases x [] y h)
    before (z ∷ zs) h = ⊎_elim
        (λ same. subst (Contains (z ∷ zs)) same (contains_first z zs))
        (λ m. contains_more z zs y (before zs m))
        (contains_cases z (zs ++ x ∷ []) y h)

map_append : (xs ys : List (List ℕ)) → map base_name (xs ++ ys) ≡ map base_name xs ++ map base_name ys
map_append [] ys = refl
map_append (x ∷ xs) ys = ap (λ zs. base_name x ∷ zs) (map_append xs ys)

-- ---- a set of names

pub not_of_false : (b : Bool) → not b ≡ false → b ≡ true
not_of_false true e = refl
not_of_false false e = absurd (false≢true (sym e))

pub not_of_true : (b : Bool) → not b ≡ true → b ≡ false
not_of_true true e = absurd (false≢true e)
not_of_true false e = refl

-- the set has the names of these paths
abbrev pub HasNames : BTreeSet (Bor (List ℕ)) → List (List ℕ) → Type 0
HasNames names paths = (q : Bor (List ℕ)) → contains name_cmp names q ≡ has_name q.now paths

has_name_more : (q : List ℕ) (xs : List (List ℕ)) (p : List ℕ) → has_name q (xs ++ p ∷ []) ≡ cond (bytes_eq (base_name p) q) true (has_name q xs)
has_name_more q [] p = either_end (bytes_eq (base_name p) q)
has_name_more q (x ∷ xs) p =
    ap (λ (b : Bool). bytes_eq (base_name x) q || b) (has_name_more q xs p) ∙ moved (bytes_eq (base_name x) q) (bytes_eq (base_name p) q) (has_name q xs)

-- one more name
pub names_more : (old new : BTreeSet (Bor (List ℕ))) (name : Bor (List ℕ)) (xs : List (List ℕ)) (path : List ℕ) → name.now ≡ base_name path
    → Updates name_cmp old new name true → HasNames old xs → HasNames new (xs ++ path ∷ [])
names_more old new name xs path is updates has q =
    updates.0 q ∙ ap (λ (b : Bool). cond b true (contains name_cmp old q)) (is_eq-slice_cmp name.now q.now ∙ ap (λ n. bytes_eq n q.now) is)
    ∙ ap (cond (bytes_eq (base_name path) q.now) true) (has q) ∙ sym (has_name_more q.now xs path)

-- one more path has a name of its own
pub apart_more : (paths : List (List ℕ)) (i : ℕ) (path : List ℕ) → i < length paths → path ≡ get_or paths i path
    → has_name (base_name path) (take i paths) ≡ false → EachOnce (map base_name (take i paths)) → EachOnce (map base_name (take (i + 1) paths))
apart_more paths i path within is new once =
    let more : take (i + 1) paths ≡ take i paths ++ path ∷ [] = take_more paths i path within ∙ ap (λ p. take i paths ++ p ∷ []) (sym is) in
    let fresh : Contains (map base_name (take i paths)) (base_name path) → ⊥ =
    λ h. false≢true (sym new ∙ name_found (base_name path) (take i paths) h) in
    subst EachOnce (sym (ap (map base_name) more ∙ map_append (take i paths) (path ∷ []))) (once_push (map base_name (take i paths)) (base_name path) fresh once)

-- an earlier path has the name
pub same_here : (paths : List (List ℕ)) (i : ℕ) (path : List ℕ) → drop i paths ≡ path ∷ drop (i + 1) paths
    → has_name (base_name path) (take i paths) ≡ true → EachOnce (map base_name (take i paths)) → IsSameTest paths path
same_here paths i path here stands once = record {
  before = take i paths;
  after = drop (i + 1) paths;
  split = sym (take-append-drop i paths) ∙ ap (λ rest. take i paths ++ rest) here;
  apart = once;
  again = name_stands (base_name path) (take i paths) stands;
}
