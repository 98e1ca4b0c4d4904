-- The starts of a group.
use Rattle.std.proofs.Common.{◌≡◌, ℕ, suc, ◌+◌, ◌<◌, ◌⊎◌, inl, inr, ◌↔◌, List, [], ◌∷◌, ◌++◌, Bool, true, false, IsTrue, length, get_or, take, map, refl, sym, ap, subst, ◌∙◌, arith}
use Rattle.std.specs.Prelude.{String, string_bytes}
use Rattle.std.specs.declared.alloc.Global.{Global}
use Rattle.std.specs.List.{Contains}
use Rattle.std.proofs.lemmas.Bool.{false≢true}
use Rattle.std.proofs.lemmas.List.{take_more}
use Rattle.ct_settings.specs.declared.record.Pattern.{Pattern}
use Rattle.ct_find.specs.declared.starts.Start.{Start}
use Rattle.ct_find.specs.Order.{IsDeep, IsDeepStart, IsStart, StartsAt, start_of}
use Rattle.ct_find.specs.Rows.{texts_of}
use Rattle.ct_find.specs.Sets.{AreSorted}
use Rattle.ct_find.proofs.Members.{all_taken, contains_append, contains_cases, contains_none, contains_taken, taken_contains}
use Rattle.ct_find.proofs.SetLemmas.{sorted_as}

-- some element of the first so many, and one more
pub some_taken : {A : Type 0} (P : A → Type 0) (xs : List A) (i : ℕ) (e : A) → i < length xs → e ≡ get_or xs i e
    → ((x : A) × Contains (take (i + 1) xs) x × P x) → ((x : A) × Contains (take i xs) x × P x) ⊎ P e
some_taken P xs i e within read (x, member, holds) = elim (contains_taken xs i e x within read member) [
  | inl m ↦ inl (x, m, holds)
  | inr same ↦ inr (subst P (sym same) holds)
]

pub taken_some : {A : Type 0} (P : A → Type 0) (xs : List A) (i : ℕ) (e : A) → i < length xs → e ≡ get_or xs i e
    → ((x : A) × Contains (take i xs) x × P x) ⊎ P e → (x : A) × Contains (take (i + 1) xs) x × P x
taken_some P xs i e within read h = elim h [
  | inl (x, m, holds) ↦ (x, taken_contains xs i e x within read (inl m), holds)
  | inr holds ↦ (e, taken_contains xs i e e within read (inr refl), holds)
]

-- the last text
text_push : (old : List (String Global)) (s : String Global) (p : List ℕ) → Contains (texts_of (old ++ s ∷ [])) p → Contains (texts_of old) p ⊎ (string_bytes s ≡ p)
text_push [] s p h = elim (contains_cases (string_bytes s) [] p h) [ inl e ↦ inr e | inr m ↦ absurd (contains_none p m) ]
text_push (x ∷ old) s p h = elim (contains_cases (string_bytes x) (texts_of (old ++ s ∷ [])) p h) [
  | inl e ↦ inl (0, omega arith, e)
  | inr m ↦ elim (text_push old s p m) [ inl n ↦ inl (suc n.0, omega (arith, n.1), n.2) | inr e ↦ inr e ]
]

push_text : (old : List (String Global)) (s : String Global) (p : List ℕ) → Contains (texts_of old) p ⊎ (string_bytes s ≡ p) → Contains (texts_of (old ++ s ∷ [])) p
push_text [] s p h = elim h [ inl m ↦ absurd (contains_none p m) | inr e ↦ (0, omega arith, e) ]
push_text (x ∷ old) s p h = elim h [
  | inl m ↦ elim (contains_cases (string_bytes x) (texts_of old) p m) [
    | inl e ↦ (0, omega arith, e)
    | inr n ↦ let r = push_text old s p (inl n) in (suc r.0, omega (arith, r.1), r.2)
  ]
  | inr e ↦ let r = push_text old s p (inr e) in (suc r.0, omega (arith, r.1), r.2)
]

-- the texts of a list are the members of a set, and so is one more: a step of a loop that collects them
pub collected : (P Q R : List ℕ → Type 0) (old new : List (String Global)) → ((p : List ℕ) → Contains (texts_of old) p ↔ P p)
    → ((p : List ℕ) → Q p → P p ⊎ R p) → ((p : List ℕ) → P p ⊎ R p → Q p)
    → (s : String Global) → new ≡ old ++ s ∷ [] → ((p : List ℕ) → R p ↔ (string_bytes s ≡ p)) → (p : List ℕ) → Contains (texts_of new) p ↔ Q p
collected P Q R old new was down up s pushed own p = (
  λ h. up p (elim (text_push old s p (subst (λ zs. Contains (texts_of zs) p) pushed h)) [ inl m ↦ inl ((was p).0 m) | inr e ↦ inr ((own p).1 e) ]),
  λ q. subst (λ zs. Contains (texts_of zs) p) (sym pushed) (push_text old s p (elim (down p q) [ inl m ↦ inl ((was p).1 m) | inr r ↦ inr ((own p).0 r) ])),
)

pub collected_none : (P Q R : List ℕ → Type 0) (old new : List (String Global)) → ((p : List ℕ) → Contains (texts_of old) p ↔ P p)
    → ((p : List ℕ) → Q p → P p ⊎ R p) → ((p : List ℕ) → P p ⊎ R p → Q p)
    → new ≡ old → ((p : List ℕ) → R p → ⊥) → (p : List ℕ) → Contains (texts_of new) p ↔ Q p
collected_none P Q R old new was down up same none p = (
  λ h. up p (inl ((was p).0 (subst (λ zs. Contains (texts_of zs) p) same h))),
  λ q. subst (λ zs. Contains (texts_of zs) p) (sym same) (elim (down p q) [ inl m ↦ (was p).1 m | inr r ↦ absurd (none p r) ]),
)

-- one more start of a group
pub start_pushed : (patterns : List Pattern) (i : ℕ) (pattern : Pattern) (old new : List (String Global)) (s : String Global) → i < length patterns → pattern ≡ get_or patterns i pattern
    → ((p : List ℕ) → Contains (texts_of old) p ↔ IsStart (take i patterns) p) → pattern.add ≡ true → string_bytes s ≡ start_of pattern.path → new ≡ old ++ s ∷ []
    → (p : List ℕ) → Contains (texts_of new) p ↔ IsStart (take (i + 1) patterns) p
start_pushed patterns i pattern old new s within read was adds start pushed =
    collected (IsStart (take i patterns)) (IsStart (take (i + 1) patterns)) (StartsAt pattern) old new was
    (λ p. some_taken (λ x. StartsAt x p) patterns i pattern within read) (λ p. taken_some (λ x. StartsAt x p) patterns i pattern within read)
    s pushed (λ p. ((λ h. start ∙ sym h.1), (λ e. (adds, sym e ∙ start))))

pub start_passed : (patterns : List Pattern) (i : ℕ) (pattern : Pattern) (old new : List (String Global)) → i < length patterns → pattern ≡ get_or patterns i pattern
    → ((p : List ℕ) → Contains (texts_of old) p ↔ IsStart (take i patterns) p) → pattern.add ≡ false → new ≡ old
    → (p : List ℕ) → Contains (texts_of new) p ↔ IsStart (take (i + 1) patterns) p
start_passed patterns i pattern old new within read was removes same =
    collected_none (IsStart (take i patterns)) (IsStart (take (i + 1) patterns)) (StartsAt pattern) old new was
    (λ p. some_taken (λ x. StartsAt x p) patterns i pattern within read) (λ p. taken_some (λ x. StartsAt x p) patterns i pattern within read)
    same (λ p h. false≢true (sym removes ∙ h.0))

-- all starts of the group
pub all_starts : (patterns : List Pattern) (i : ℕ) (texts : List (String Global)) (paths : List (List ℕ)) → i ≡ length patterns
    → ((p : List ℕ) → Contains (texts_of texts) p ↔ IsStart (take i patterns) p) → AreSorted (Contains (texts_of texts)) paths → AreSorted (IsStart patterns) paths
all_starts patterns i texts paths all was set =
    sorted_as (Contains (texts_of texts)) (IsStart patterns) paths (λ p. subst (λ ps. Contains (texts_of texts) p ↔ IsStart ps p) (all_taken patterns i all) (was p)) set

-- one more start of a list
pub deep_push : (patterns : List Pattern) (group : List Start) (start : Start) → ((s : Start) → Contains group s → IsDeep patterns s) → IsDeep patterns start
    → (s : Start) → Contains (group ++ start ∷ []) s → IsDeep patterns s
deep_push patterns group start was own s h = elim (contains_append group (start ∷ []) s h) [
  | inl m ↦ was s m
  | inr m ↦ elim (contains_cases start [] s m) [ inl e ↦ subst (λ (z : Start). IsDeep patterns z) e own | inr n ↦ absurd (contains_none s n) ]
]

pub paths_push : (group : List Start) (start : Start) (paths : List (List ℕ)) (i : ℕ) (path : List ℕ) → i < length paths → path ≡ get_or paths i path → start.path ≡ path
    → map (λ s. s.path) group ≡ take i paths → map (λ (s : Start). s.path) (group ++ start ∷ []) ≡ take (i + 1) paths
paths_push group start paths i path within read is was =
    map_push group start ∙ ap (λ ps. ps ++ start.path ∷ []) was ∙ ap (λ p. take i paths ++ p ∷ []) (is ∙ read) ∙ sym (take_more paths i path within)
  where
    map_push : (group : List Start) (start : Start) → map (λ (s : Start). s.path) (group ++ start ∷ []) ≡ map (λ (s : Start). s.path) group ++ start.path ∷ []
    map_push [] start = refl
    map_push (s ∷ group) start = ap (λ ps. s.path ∷ ps) (map_push group start)

pub deep_as : (patterns : List Pattern) (p q : List ℕ) (d : Bool) → p ≡ q → (IsTrue d ↔ IsDeepStart patterns q) → IsDeep patterns (record { path = p; deep = d })
deep_as patterns p q d e both = record {
  deep = λ h. subst (λ r. IsDeepStart patterns r) (sym e) (both.0 h);
  shallow = λ h. both.1 (subst (λ r. IsDeepStart patterns r) e h);
}
