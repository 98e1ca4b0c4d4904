-- Defines without those whose name stands again behind them, from the last define on.
use Rattle.std.proofs.Common.{◌≡◌, ℕ, Bool, true, false, cond, List, [], ◌∷◌, ◌++◌, reverse, refl, sym, ap, ◌∙◌, append_assoc, ◌||◌}
use Rattle.std.proofs.lemmas.List.{reverse-append, append-nil}
use Rattle.std.proofs.lemmas.Cmp.{nat_list_eq_equiv}
use Rattle.std.proofs.lemmas.Map.Lookups.{exact_bytes}
use Rattle.std.proofs.lemmas.Map.Text.{is_eq-slice_cmp}
use Rattle.std.proofs.lemmas.Bool.{false≢true}
use Rattle.std.specs.List.{list_any}
use Rattle.std.specs.Str.{bytes_eq}
use Rattle.std.specs.Ordering.{is_eq, nat_cmp, match_ordering}
use Rattle.std.specs.Cmp.Lexicographic.{slice_cmp}
use Rattle.std.specs.declared.cmp.Ordering.TheVariants.{Less, Equal, Greater}
use Rattle.std.specs.BTreeSet.{BTreeSet, insert_key}
use Rattle.std.specs.declared.vec.Vec.{Vec}
use Rattle.std.specs.declared.alloc.Global.{Global}
use Rattle.ct_settings.specs.declared.record.Define.{Define}
use Rattle.ct_settings.specs.Names.{is_defined, last_defines}
use Rattle.ct_settings.specs.Seen.{has_name}

-- what was seen of all defines: those behind what is left, which of them are kept, the last first, and their names
pub record Seen (all left kept : List Define) (names : BTreeSet (Vec ℕ Global)) : Type 0 where
  pub behind : List Define
  pub split : all ≡ left ++ behind
  pub told : reverse kept ≡ last_defines behind
  pub named : (name : List ℕ) → has_name names name ≡ is_defined name behind

pub seen_first : (all : List Define) (names : BTreeSet (Vec ℕ Global)) → ((name : List ℕ) → has_name names name ≡ false) → Seen all all [] names
seen_first all names none = record { behind = []; split = sym (append-nil all); told = refl; named = none }

pub seen_all : (all kept : List Define) (names : BTreeSet (Vec ℕ Global)) → Seen all [] kept names → reverse kept ≡ last_defines all
seen_all all kept names s = s.told ∙ ap last_defines (sym s.split)

-- the names with one more
abbrev pub IsMore : List ℕ → BTreeSet (Vec ℕ Global) → BTreeSet (Vec ℕ Global) → Type 0
IsMore name old new = (other : List ℕ) → has_name new other ≡ (bytes_eq name other || has_name old other)

split_more : (all before left : List Define) (x : Define) (behind : List Define) → all ≡ before ++ behind → before ≡ left ++ x ∷ [] → all ≡ left ++ x ∷ behind
split_more all before left x behind e f = e ∙ ap (λ xs. xs ++ behind) f ∙ append_assoc left (x ∷ []) behind

pub seen_kept : (all before left kept : List Define) (x : Define) (old new : BTreeSet (Vec ℕ Global)) → Seen all before kept old → before ≡ left ++ x ∷ []
    → has_name old x.name ≡ false → IsMore x.name old new → Seen all left (kept ++ x ∷ []) new
seen_kept all before left kept x old new s e fresh more = record {
  behind = x ∷ s.behind;
  split = split_more all before left x s.behind s.split e;
  told = reverse-append kept (x ∷ []) ∙ ap (λ xs. x ∷ xs) s.told
      ∙ ap (λ b. cond b (last_defines s.behind) (x ∷ last_defines s.behind)) (sym fresh ∙ s.named x.name);
  named = λ name. more name ∙ ap (λ b. bytes_eq x.name name || b) (s.named name);
}

pub seen_passed : (all before left kept : List Define) (x : Define) (old new : BTreeSet (Vec ℕ Global)) → Seen all before kept old → before ≡ left ++ x ∷ []
    → has_name old x.name ≡ true → IsMore x.name old new → Seen all left kept new
seen_passed all before left kept x old new s e again more = record {
  behind = x ∷ s.behind;
  split = split_more all before left x s.behind s.split e;
  told = s.told ∙ ap (λ b. cond b (last_defines s.behind) (x ∷ last_defines s.behind)) (sym again ∙ s.named x.name);
  named = λ name. more name ∙ ap (λ b. bytes_eq x.name name || b) (s.named name);
}

-- ---- a set of names with one more

abbrev pub Name : Type 0
Name = Vec ℕ Global

bytes_turned : (xs ys : List ℕ) → bytes_eq xs ys ≡ bytes_eq ys xs
bytes_turned xs ys = nat_list_eq_equiv.symm xs ys

pub contains_name : (ks : List Name) (k : Name) → list_any (λ other. is_eq (slice_cmp nat_cmp k.items other.items)) ks ≡ list_any (λ other. bytes_eq other.items k.items) ks
contains_name [] k = refl
contains_name (x ∷ ks) k =
    ap (λ b. b || list_any (λ other. is_eq (slice_cmp nat_cmp k.items other.items)) ks) (is_eq-slice_cmp k.items x.items ∙ bytes_turned k.items x.items)
    ∙ ap (λ b. bytes_eq x.items k.items || b) (contains_name ks k)

absorbed : (p q r : Bool) → p ≡ q → (q || r) ≡ (p || (q || r))
absorbed true true r e = refl
absorbed false q r e = refl
absorbed true false r e = absurd (false≢true (sym e))

turned : (p q r : Bool) → (q || (p || r)) ≡ (p || (q || r))
turned true true r = refl
turned true false r = refl
turned false q r = refl

pub inserted_name : (ks : List Name) (k : Name) (name : List ℕ)
    → list_any (λ other. bytes_eq other.items name) (insert_key (λ x y. slice_cmp nat_cmp x.items y.items) ks k) ≡ (bytes_eq k.items name || list_any (λ other. bytes_eq other.items name) ks)
inserted_name [] k name = refl
inserted_name (x ∷ ks) k name =
    elim (slice_cmp nat_cmp k.items x.items) as (λ o. slice_cmp nat_cmp k.items x.items ≡ o
    → list_any (λ other. bytes_eq other.items name) (match_ordering o (k ∷ x ∷ ks) (x ∷ ks) (x ∷ insert_key (λ y z. slice_cmp nat_cmp y.items z.items) ks k))
    ≡ (bytes_eq k.items name || (bytes_eq x.items name || list_any (λ other. bytes_eq other.items name) ks))) [
      | Less ↦ λ e. refl
      | Equal ↦ λ e. absorbed (bytes_eq k.items name) (bytes_eq x.items name) (list_any (λ other. bytes_eq other.items name) ks) (ap (λ bs. bytes_eq bs name) (exact_bytes k.items x.items e))
      | Greater ↦ λ e. ap (λ b. bytes_eq x.items name || b) (inserted_name ks k name) ∙ turned (bytes_eq k.items name) (bytes_eq x.items name) (list_any (λ other. bytes_eq other.items name) ks)
    ] refl
