-- Bytes that are UTF-8, and those that are not.
use Rattle.std.proofs.Common.{◌≡◌, ℕ, Bool, true, false, ◌||◌, List, [], ◌∷◌, map, refl, sym, ap, Bor}
use Rattle.std.specs.List.{list_any}
use Rattle.std.specs.Str.{IsUtf8, is_utf8}
use Rattle.std.proofs.lemmas.Str.{IsUtf8-from_is_utf8, is_utf8-from_IsUtf8}
use Rattle.std.proofs.lemmas.Bool.{false_from_ne_true}

pub utf8_yes : (bytes : List ℕ) → IsUtf8 bytes → true ≡ is_utf8 bytes
utf8_yes bytes h = sym (is_utf8-from_IsUtf8 bytes h)

pub utf8_no : (bytes : List ℕ) → (IsUtf8 bytes → ⊥) → false ≡ is_utf8 bytes
utf8_no bytes h = sym (false_from_ne_true (is_utf8 bytes) (λ e. h (IsUtf8-from_is_utf8 bytes e)))

pub ruleset utf8_rules = (utf8_yes, utf8_no)

-- ---- lists of references

pub list_any-now : {A : Type 0} (test : A → Bool) (xs : List (Bor A)) → list_any (λ x. test x.now) xs ≡ list_any test (map (λ x. x.now) xs)
list_any-now test [] = refl
list_any-now test (x ∷ xs) = ap (λ rest. test x.now || rest) (list_any-now test xs)
