-- Paths: what lies below a folder, and the first component.
use Rattle.std.proofs.Common.{◌≡◌, ◌≢◌, ℕ, ◌+◌, ◌<◌, Bool, true, false, cond, not, ◌||◌, nat_eq, List, [], ◌∷◌, ◌++◌, length, drop, refl, sym, ap, ◌∙◌, arith, Option, Some, None, MatchOption, Bor, append_assoc, length-append}
use Rattle.std.specs.List.{position_or_len, list_any, starts_with}
use Rattle.std.specs.Option.{option_copied}
use Rattle.std.proofs.lemmas.Bool.{false_from_ne_true}
use Rattle.std.proofs.lemmas.Bool.Decides.{Decides-eqb}
use Rattle.std.proofs.lemmas.List.{append_cancel_left}
use Rattle.std.proofs.lemmas.List.Prefix.{front_rest}
use Rattle.std.proofs.lemmas.Slice.Eq.{starts_is}
use Rattle.ct_outside.specs.Files.{is_slash, rest_below}

-- where no first slash is found there is none
pub no_slash : (path : List ℕ) → position_or_len is_slash path ≡ length path → list_any is_slash path ≡ false
no_slash [] e = refl
no_slash (b ∷ bs) e =
    elim (is_slash b) as (λ t. cond (not t) (1 + position_or_len is_slash bs) 0 ≡ length (b ∷ bs) → (t || list_any is_slash bs) ≡ false) [
      | true ↦ λ h. absurd (omega arith)
      | false ↦ λ h. no_slash bs (omega arith)
    ] e

starts : (folder : List ℕ) (path : List ℕ) → (starts_with nat_eq path (folder ++ 47 ∷ []) ≡ true → path ≡ (folder ++ 47 ∷ []) ++ drop (length (folder ++ 47 ∷ [])) path) × ((rest : List ℕ) → path ≡ (folder ++ 47 ∷ []) ++ rest → starts_with nat_eq path (folder ++ 47 ∷ []) ≡ true)
starts folder path = starts_is Decides-eqb path (folder ++ 47 ∷ []) _ refl

-- a path that goes on after the folder and a slash
pub rest_there : (folder path rest : List ℕ) → 0 < length folder → path ≡ folder ++ 47 ∷ rest → rest_below folder path ≡ Some rest
rest_there [] path rest h e = absurd (omega arith)
rest_there (c ∷ cs) path rest h e =
    let whole : path ≡ ((c ∷ cs) ++ 47 ∷ []) ++ rest = e ∙ sym (append_assoc (c ∷ cs) (47 ∷ []) rest) in
    let test : starts_with nat_eq path ((c ∷ cs) ++ 47 ∷ []) ≡ true = (starts (c ∷ cs) path).1 rest whole in
    let len : length ((c ∷ cs) ++ 47 ∷ []) ≡ length cs + 2 = omega (arith, length-append (c ∷ cs) (47 ∷ [])) in
    ap (λ (t : Bool). cond t (Some (drop (length cs + 2) path)) None) test
    ∙ ap Some (ap (λ (n : ℕ). drop n path) (sym len) ∙ front_rest path ((c ∷ cs) ++ 47 ∷ []) rest whole)

-- a path that does not
pub rest_none : (folder path : List ℕ) → 0 < length folder → ((rest : List ℕ) → path ≢ folder ++ 47 ∷ rest) → rest_below folder path ≡ None
rest_none [] path h n = absurd (omega arith)
rest_none (c ∷ cs) path h n =
    ap (λ (t : Bool). cond t (Some (drop (length cs + 2) path)) None)
    (false_from_ne_true _ (λ t. n _ ((starts (c ∷ cs) path).0 t ∙ append_assoc (c ∷ cs) (47 ∷ []) _)))

-- the folder and then the slash are taken off
pub rest_from_strips : (folder path behind : List ℕ) (rest : Option (Bor (List ℕ))) → 0 < length folder → path ≡ folder ++ behind → MatchOption rest ((more : List ℕ) → behind ≢ 47 ∷ more) (λ more. behind ≡ 47 ∷ more.now) → option_copied rest ≡ rest_below folder path
rest_from_strips folder path behind None h e n =
    sym (rest_none folder path h (λ more f. n more (append_cancel_left folder behind (47 ∷ more) (sym e ∙ f))))
rest_from_strips folder path behind (Some more) h e s =
    sym (rest_there folder path more.now h (e ∙ ap (λ (tail : List ℕ). folder ++ tail) s))
