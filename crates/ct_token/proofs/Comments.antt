-- Where a comment ends.
use Rattle.std.proofs.Common.{◌≡◌, ℕ, suc, ◌+◌, ◌<◌, ◌≤◌, Bool, true, false, cond, ◌&&◌, List, [], ◌∷◌, ◌++◌, length, get_or, take, drop, refl, sym, ap, ◌∙◌, subst, ⊎_elim, Option, None, Some, arith}
use Rattle.std.specs.Prelude.{◌==◌, option_map}
use Rattle.std.proofs.lemmas.List.{drop_more}
use Rattle.std.proofs.lemmas.Bool.{cases_Bool, and_parts, false≢true, eqb-true, cond-true, cond-false}
use Rattle.ct_token.specs.Lexing.{HasNoClose}

-- how many bytes a text has up to the first `*/` and with it, behind this byte
abbrev pub closing_behind : ℕ → List ℕ → Option ℕ
closing_behind before [] = None
closing_behind before (byte ∷ bytes) =
    cond ((before == 42) && (byte == 47)) (Some 1) (option_map suc (closing_behind byte bytes))

pub no_close_in_one : (byte : ℕ) → HasNoClose (byte ∷ [])
no_close_in_one byte [] back e = absurd cc
no_close_in_one byte (b ∷ []) back e = absurd cc
no_close_in_one byte (b ∷ c ∷ front) back e = absurd cc

-- one more byte before a text that does not begin with the second of the two
pub no_close_behind : (byte next : ℕ) (text : List ℕ) → ((byte == 42) && (next == 47)) ≡ false → HasNoClose (next ∷ text) → HasNoClose (byte ∷ next ∷ text)
no_close_behind byte next text apart none [] back e =
    let star : byte ≡ 42 = cc in
    let slash : next ≡ 47 = cc in
    false≢true (sym apart ∙ ap (λ b. (b == 42) && (next == 47)) star ∙ ap (λ b. b == 47) slash)
no_close_behind byte next text apart none (b ∷ front) back e =
    let tail : next ∷ text ≡ front ++ 42 ∷ 47 ∷ back = cc in none front back tail

pub no_close_in_tail : (byte : ℕ) (text : List ℕ) → HasNoClose (byte ∷ text) → HasNoClose text
no_close_in_tail byte text none front back e = none (byte ∷ front) back (ap (λ l. byte ∷ l) e)

-- what is found, or that nothing is, with the byte before the text
abbrev pub IsClosedBehind : ℕ → List ℕ → Option ℕ → Type 0
IsClosedBehind before text None = HasNoClose (before ∷ text)
IsClosedBehind before text (Some count) =
    (count ≤ length text) × ((inside : List ℕ) × (before ∷ take count text ≡ inside ++ 42 ∷ 47 ∷ []) × HasNoClose (inside ++ 42 ∷ []))

longer : (before byte : ℕ) (bytes : List ℕ) (found : Option ℕ) → ((before == 42) && (byte == 47)) ≡ false → IsClosedBehind byte bytes found → IsClosedBehind before (byte ∷ bytes) (option_map suc found)
longer before byte bytes None apart h = no_close_behind before byte bytes apart h
longer before byte bytes (Some count) apart h =
    (omega (arith, h.0), (before ∷ h.1.0, ap (λ l. before ∷ l) h.1.1, inside h.1.0 h.1.1 h.1.2))
  where
    inside : (inside : List ℕ) → byte ∷ take count bytes ≡ inside ++ 42 ∷ 47 ∷ [] → HasNoClose (inside ++ 42 ∷ []) → HasNoClose (before ∷ inside ++ 42 ∷ [])
    inside [] e none = no_close_behind before 42 [] (star (before == 42)) none
      where
        star : (b : Bool) → (b && false) ≡ false
        star true = refl
        star false = refl
    inside (b ∷ bs) e none =
        let same : byte ≡ b = cc in
        no_close_behind before b (bs ++ 42 ∷ []) (ap (λ n. (before == 42) && (n == 47)) (sym same) ∙ apart) none

pub closing_is : (before : ℕ) (text : List ℕ) → IsClosedBehind before text (closing_behind before text)
closing_is before [] = no_close_in_one before
closing_is before (byte ∷ bytes) =
    ⊎_elim
    (λ e. let both = and_parts (before == 42) (byte == 47) e in
    let star = eqb-true before 42 both.0 in
    let slash = eqb-true byte 47 both.1 in
    subst (IsClosedBehind before (byte ∷ bytes)) (sym (cond-true ((before == 42) && (byte == 47)) (Some 1) (option_map suc (closing_behind byte bytes)) e))
    (omega arith, ([], (λ i. star i ∷ slash i ∷ []), no_close_in_one 42)))
    (λ e. subst (IsClosedBehind before (byte ∷ bytes)) (sym (cond-false ((before == 42) && (byte == 47)) (Some 1) (option_map suc (closing_behind byte bytes)) e))
    (longer before byte bytes (closing_behind byte bytes) e (closing_is byte bytes)))
    (cases_Bool ((before == 42) && (byte == 47)))

-- the same, where no byte stands before
abbrev pub IsClosedAt : List ℕ → ℕ → Type 0
IsClosedAt text count =
    (count ≤ length text) × ((inside : List ℕ) × (take count text ≡ inside ++ 42 ∷ 47 ∷ []) × HasNoClose (inside ++ 42 ∷ []))

pub closed_at : (text : List ℕ) (count : ℕ) → closing_behind 0 text ≡ Some count → IsClosedAt text count
closed_at text count e = first (subst (IsClosedBehind 0 text) e (closing_is 0 text))
  where
    first : IsClosedBehind 0 text (Some count) → IsClosedAt text count
    first h = (h.0, split h.1.0 h.1.1 h.1.2)
      where
        split : (inside : List ℕ) → 0 ∷ take count text ≡ inside ++ 42 ∷ 47 ∷ [] → HasNoClose (inside ++ 42 ∷ []) → (inside : List ℕ) × (take count text ≡ inside ++ 42 ∷ 47 ∷ []) × HasNoClose (inside ++ 42 ∷ [])
        split [] e none = absurd cc
        split (b ∷ inside) e none = (inside, cc, no_close_in_tail b (inside ++ 42 ∷ []) none)

pub not_closed : (text : List ℕ) → closing_behind 0 text ≡ None → HasNoClose text
not_closed text e = no_close_in_tail 0 text (subst (IsClosedBehind 0 text) e (closing_is 0 text))

-- a loop that looks for the end has come so far
abbrev pub so_much_further : ℕ → Option ℕ → Option ℕ
so_much_further index found = option_map (λ n. n + index) found

further : (index : ℕ) (found : Option ℕ) → so_much_further index (option_map suc found) ≡ so_much_further (index + 1) found
further index None = refl
further index (Some n) = ap Some (omega arith)

pub looked_at : (before : ℕ) (text : List ℕ) (index : ℕ) → index < length text → closing_behind 0 text ≡ so_much_further index (closing_behind before (drop index text)) → closing_behind 0 text ≡ so_much_further index (closing_behind before (get_or text index 0 ∷ drop (index + 1) text))
looked_at before text index lt so_far =
    so_far ∙ ap (λ l. so_much_further index (closing_behind before l)) (drop_more text index 0 lt)

pub closes_here : (before : ℕ) (text : List ℕ) (index : ℕ) → index < length text → closing_behind 0 text ≡ so_much_further index (closing_behind before (drop index text)) → before ≡ 42 → get_or text index 0 ≡ 47 → closing_behind 0 text ≡ Some (index + 1)
closes_here before text index lt so_far star slash =
    looked_at before text index lt so_far
    ∙ (λ i. so_much_further index (closing_behind (star i) (slash i ∷ drop (index + 1) text)))
    ∙ ap Some (omega arith)

pub closes_further : (before : ℕ) (text : List ℕ) (index : ℕ) → index < length text → closing_behind 0 text ≡ so_much_further index (closing_behind before (drop index text)) → ((before == 42) && (get_or text index 0 == 47)) ≡ false → closing_behind 0 text ≡ so_much_further (index + 1) (closing_behind (get_or text index 0) (drop (index + 1) text))
closes_further before text index lt so_far apart =
    let byte = get_or text index 0 in
    let rest = closing_behind byte (drop (index + 1) text) in
    looked_at before text index lt so_far
    ∙ ap (so_much_further index) (cond-false ((before == 42) && (byte == 47)) (Some 1) (option_map suc rest) apart)
    ∙ further index rest
