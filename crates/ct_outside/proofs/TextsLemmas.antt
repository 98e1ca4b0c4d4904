-- How a map of texts answers, as one of them is set.
use Rattle.std.proofs.Common.{◌≡◌, ℕ, Bool, true, false, cond, List, [], ◌∷◌, refl, sym, ap, ◌∙◌, Option, Some, None}
use Rattle.std.specs.Prelude.{String, string_bytes}
use Rattle.std.specs.declared.alloc.Global.{Global}
use Rattle.std.specs.Ordering.{nat_cmp, is_eq}
use Rattle.std.specs.Cmp.Lexicographic.{slice_cmp}
use Rattle.std.specs.Str.{bytes_eq}
use Rattle.std.specs.Bool.{nat_eq}
use Rattle.std.specs.String.{string_cmp}
use Rattle.std.specs.Map.{lookup}
use Rattle.std.specs.BTreeMap.{BTreeMap, Updates, get_by_text, is_at}
use Rattle.std.proofs.lemmas.Cmp.{nat_list_cmp_total}
use Rattle.std.proofs.lemmas.Map.Text.{btree_map_updates_text, is_eq-slice_cmp}
use Rattle.std.specs.FinMap.{get, get-empty, insert, same_map, slice_cmp-IsAntisymmetric, nat_cmp-IsAntisymmetric}
use Rattle.ct_outside.specs.Stored.{texts_of}
use Rattle.ct_outside.proofs.StoredLemmas.{get_insert, same_path, equal_paths, path_itself}

-- the text at a path is that of the map's key
pub get_texts : (es : List (String Global × List ℕ)) (q : List ℕ) → get (texts_of es) q ≡ lookup (λ (k : String Global). is_eq (slice_cmp nat_cmp q (string_bytes k))) es
get_texts [] q = get-empty (slice_cmp nat_cmp) q
get_texts (e ∷ es) q =
    get_insert (texts_of es) (string_bytes e.0) e.1 q ∙ ap (cond (same_path q (string_bytes e.0)) (Some e.1)) (get_texts es q)

flip_true : (p q : List ℕ) → same_path p q ≡ true → same_path q p ≡ true
flip_true p q e = ap (λ x. same_path x p) (sym (equal_paths p q e)) ∙ path_itself p

both : (a b : Bool) → (a ≡ true → b ≡ true) → (b ≡ true → a ≡ true) → a ≡ b
both true true f g = refl
both false false f g = refl
both true false f g = sym (f refl)
both false true f g = g refl

turned : (p q : List ℕ) → bytes_eq p q ≡ same_path q p
turned p q = sym (is_eq-slice_cmp p q) ∙ both (same_path p q) (same_path q p) (flip_true p q) (flip_true q p)

-- what `insert` of a map of texts does to the files that it stands for
pub put_texts : (m n : BTreeMap (String Global) (List ℕ)) (k : String Global) (v : List ℕ)
    → Updates string_cmp m n k (Some v)
    → texts_of n.entries ≡ insert (texts_of m.entries) (string_bytes k) v
put_texts m n k v updates =
    same_map nat_list_cmp_total (slice_cmp-IsAntisymmetric nat_cmp-IsAntisymmetric) _ _ (λ q.
    get_texts n.entries q ∙ btree_map_updates_text (string_bytes k) m n (Some v) updates q
    ∙ ap (λ (b : Bool). cond b (Some v) (get_by_text m q)) (turned (string_bytes k) q)
    ∙ ap (cond (same_path q (string_bytes k)) (Some v)) (sym (get_texts m.entries q))
    ∙ sym (get_insert (texts_of m.entries) (string_bytes k) v q))
