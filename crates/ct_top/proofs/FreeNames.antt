-- What holds of a name that a test file may declare.
use Rattle.std.proofs.Common.{◌≡◌, ◌≢◌, ℕ, ◌+◌, Bool, true, false, List, [], ◌∷◌, ◌++◌, refl, sym, ap, ◌∙◌, nat_eq, length}
use Rattle.std.specs.Prelude.{◌||◌, All, bytes_eq, codes, not, take}
use Rattle.std.specs.List.{starts_with, list_any}
use Rattle.std.specs.Cmp.Lexicographic.{pointwise}
use Rattle.std.proofs.lemmas.Bool.{and_parts, and_from, not-true, not-false, true≢false}
use Rattle.std.proofs.lemmas.List.Elements.{All-cons, All-nil}
use Rattle.ct_base.specs.Bytes.{is_name_byte}
use Rattle.ct_form.specs.Words.{begins_with, begins_with_letter, c_words, is_free_name, is_other_byte}

-- what each part of the definition says
pub free_parts : (text : List ℕ) → is_free_name text ≡ true
    → (list_any is_other_byte text ≡ false) × (starts_with nat_eq text (codes "ceedling_") ≡ false) × (bytes_eq text (codes "main") ≡ false)
free_parts text e =
    let last = and_parts _ _ e in
    let tool = and_parts _ _ last.0 in
    let unity = and_parts _ _ tool.0 in
    let bytes = (and_parts _ _ unity.0).0 in
    (not-true _ (and_parts _ _ bytes).1, not-true _ tool.1, not-true _ last.1)

not_zero : (byte : ℕ) → is_name_byte byte ≡ true → byte ≢ 0
not_zero byte e zero = true≢false (sym e ∙ ap is_name_byte zero)

neither : (x y : Bool) → (x || y) ≡ false → (x ≡ false) × (y ≡ false)
neither true y e = absurd (true≢false e)
neither false y e = (refl, e)

pub whole_name : (text : List ℕ) → list_any is_other_byte text ≡ false → All (λ (byte : ℕ). byte ≢ 0) text
whole_name [] e = All-nil (λ (byte : ℕ). byte ≢ 0)
whole_name (byte ∷ bytes) e =
    let parts = neither (is_other_byte byte) (list_any is_other_byte bytes) e in
    All-cons (λ (b : ℕ). b ≢ 0) byte bytes (not_zero byte (not-false (is_name_byte byte) parts.0)) (whole_name bytes parts.1)

-- what begins with more begins with its front
begins_less : (xs ys text : List ℕ) → starts_with nat_eq text (xs ++ ys) ≡ true → starts_with nat_eq text xs ≡ true
begins_less [] ys text e = refl
begins_less (x ∷ xs) ys [] e = absurd (true≢false (sym e))
begins_less (x ∷ xs) ys (byte ∷ text) e =
    let parts = and_parts (nat_eq x byte) (pointwise nat_eq (xs ++ ys) (take (length (xs ++ ys)) text)) e in
    and_from (nat_eq x byte) (pointwise nat_eq xs (take (length xs) text)) parts.0 (begins_less xs ys text parts.1)

longer : (b : Bool) → (b ≡ true → ⊥) → b ≡ false
longer true n = absurd (n refl)
longer false n = refl

pub not_reserved : (text : List ℕ) → starts_with nat_eq text (codes "ceedling_") ≡ false → starts_with nat_eq text (codes "ceedling_run_") ≡ false
not_reserved text e = longer _ (λ h. true≢false (sym (begins_less (codes "ceedling_") (codes "run_") text h) ∙ e))
