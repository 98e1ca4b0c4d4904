-- The longest punctuator at a place, looked for by its length.
use Rattle.std.proofs.Common.{◌≡◌, ℕ, suc, ◌+◌, ◌<◌, ◌≤◌, Bool, true, false, List, [], ◌∷◌, ◌++◌, length, take, drop, min, refl, sym, ap, ◌∙◌, ⊎_elim, Option, None, Some, arith, length-append}
use Rattle.std.specs.Prelude.{IfSome, IfNone, IsTrue}
use Rattle.std.proofs.lemmas.List.{append_assoc, take-append-drop, length-take-le}
use Rattle.std.proofs.lemmas.Bool.{false≢true, false_from_ne_true, cases_eq}
use Rattle.std.proofs.Math.Seq.{take-append_seam}
use Rattle.ct_token.specs.Lexing.{is_punctuator}
use Rattle.ct_token.proofs.Punctuators.{at_most_four}

-- a byte and so many more
abbrev pub marks : ℕ → List ℕ → ℕ → Bool
marks first rest count = is_punctuator (first ∷ take count rest)

-- of the fronts with fewer bytes than so many behind the first, this is the longest punctuator
abbrev pub IsBest : ℕ → List ℕ → ℕ → Option ℕ → Type 0
IsBest first rest count None = (k : ℕ) → k < count → marks first rest k ≡ false
IsBest first rest count (Some best) =
    (best < count) × (marks first rest best ≡ true) × ((k : ℕ) → best < k → k < count → marks first rest k ≡ false)

-- one more that is no punctuator
pub no_better : (first : ℕ) (rest : List ℕ) (count : ℕ) (best : Option ℕ) → IsBest first rest count best → marks first rest count ≡ false → IsBest first rest (count + 1) best
no_better first rest count None best none =
    λ k lt. ⊎_elim (λ e. ap (marks first rest) e ∙ none) (λ e. best k (omega (arith, e))) (cases_eq k count)
no_better first rest count (Some n) best none =
    (omega (arith, best.0), best.1, λ k above lt. ⊎_elim (λ e. ap (marks first rest) e ∙ none) (λ e. best.2 k above (omega (arith, e))) (cases_eq k count))

-- one more that is
pub better : (first : ℕ) (rest : List ℕ) (count : ℕ) → marks first rest count ≡ true → IsBest first rest (count + 1) (Some count)
better first rest count is = (omega arith, is, λ k above lt. absurd (omega (arith, above, lt)))

front_of_rest : (best : ℕ) (rest more after : List ℕ) → drop best rest ≡ more ++ after → rest ≡ (take best rest ++ more) ++ after
front_of_rest best rest more after e =
    sym (take-append-drop best rest) ∙ ap (λ l. take best rest ++ l) e ∙ sym (append_assoc (take best rest) more after)

-- a punctuator that is a front has at most three bytes behind its first
pub none_best : (first : ℕ) (rest : List ℕ) (count : ℕ) → IsBest first rest count None → count ≡ min (length rest) 3 + 1 → (more after : List ℕ) → rest ≡ more ++ after → is_punctuator (first ∷ more) ≡ false
none_best first rest count best all more after e =
    false_from_ne_true (is_punctuator (first ∷ more)) (λ is.
    let short = at_most_four first more is in
    let parts : length rest ≡ length more + length after = ap length e ∙ length-append more after in
    let front : take (length more) rest ≡ more = ap (take (length more)) e ∙ take-append_seam more after in
    false≢true (sym (best (length more) (omega arith)) ∙ ap (λ l. is_punctuator (first ∷ l)) front ∙ is))

pub some_best : (first : ℕ) (rest : List ℕ) (count best : ℕ) → IsBest first rest count (Some best) → count ≡ min (length rest) 3 + 1 → (best ≤ length rest) × (marks first rest best ≡ true) × ((more after : List ℕ) → drop best rest ≡ more ++ after → is_punctuator (first ∷ (take best rest ++ more)) ≡ true → more ≡ [])
some_best first rest count best is all = (within, is.1, λ more after e. longer more after e)
  where
    within : best ≤ length rest
    within = omega (arith, is.0, all)

    longer : (more after : List ℕ) → drop best rest ≡ more ++ after → is_punctuator (first ∷ (take best rest ++ more)) ≡ true → more ≡ []
    longer [] after e h = refl
    longer (c ∷ cs) after e h =
        let whole = take best rest ++ c ∷ cs in
        let split = front_of_rest best rest (c ∷ cs) after e in
        let size : length whole ≡ best + suc (length cs) = length-append (take best rest) (c ∷ cs) ∙ ap (λ n. n + suc (length cs)) (length-take-le best rest within) in
        let short : length whole ≤ 3 = at_most_four first whole h in
        let parts : length rest ≡ length whole + length after = ap length split ∙ length-append whole after in
        let front : take (length whole) rest ≡ whole = ap (take (length whole)) split ∙ take-append_seam whole after in
        absurd (false≢true (sym (is.2 (length whole) (omega arith) (omega (arith, all))) ∙ ap (λ l. is_punctuator (first ∷ l)) front ∙ h))

-- what the search has found where it ends
pub best_some : (first : ℕ) (rest : List ℕ) (count : ℕ) (best : Option ℕ) → IsBest first rest count best → count ≡ min (length rest) 3 + 1 → IfSome best (λ count. (count ≤ length rest) × IsTrue (is_punctuator (first ∷ take count rest)) × ((more after : List ℕ) → drop count rest ≡ more ++ after → IsTrue (is_punctuator (first ∷ (take count rest ++ more))) → more ≡ []))
best_some first rest count None is all = tt
best_some first rest count (Some best) is all = some_best first rest count best is all

pub best_none : (first : ℕ) (rest : List ℕ) (count : ℕ) (best : Option ℕ) → IsBest first rest count best → count ≡ min (length rest) 3 + 1 → IfNone best ((more after : List ℕ) → rest ≡ more ++ after → is_punctuator (first ∷ more) ≡ false)
best_none first rest count None is all = none_best first rest count is all
best_none first rest count (Some best) is all = tt
