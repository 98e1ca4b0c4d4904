-- Lists of places and objects, one after another.
use Rattle.std.proofs.Common.{◌≡◌, ℕ, zero, suc, ◌+◌, List, [], ◌∷◌, ◌++◌, sym, ap, ◌∙◌, arith, add-one}
use Rattle.ct_meaning.specs.Meaning.{places_from}

places_last : (start n : ℕ) → places_from start (suc n) ≡ places_from start n ++ (start + n) ∷ []
places_last start zero = let e : start + 0 ≡ start = omega arith in ap (λ (k : ℕ). k ∷ []) (sym e)
places_last start (suc n) =
    let e : suc start + n ≡ start + suc n = omega arith in
    ap (λ (ks : List ℕ). start ∷ ks) (places_last (suc start) n) ∙ ap (λ (k : ℕ). start ∷ places_from (suc start) n ++ k ∷ []) e

-- one place more
pub places_more : (start n : ℕ) → places_from start (n + 1) ≡ places_from start n ++ (start + n) ∷ []
places_more start n = rw add-one (places_last start n)
