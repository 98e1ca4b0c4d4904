-- Lists of one word.
use Rattle.std.proofs.Common.{◌≡◌, ◌<◌, ◌≤◌, List, [], ◌∷◌, length, get_or, ap, sym, arith}

-- a list of length 1 is its first element
pub only_element : {A : Type 0} (xs : List A) (x : A) → 1 ≤ length xs → length xs < 2 → x ≡ get_or xs 0 x → xs ≡ x ∷ []
only_element [] x least most e = absurd (omega arith)
only_element (y ∷ []) x least most e = ap (λ z. z ∷ []) (sym e)
only_element (y ∷ z ∷ xs) x least most e = absurd (omega arith)
