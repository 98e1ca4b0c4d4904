-- What stands between quotes, and where it ends.
use Rattle.std.proofs.Common.{◌≡◌, ℕ, suc, ◌+◌, ◌<◌, Bool, true, false, not, cond, ◌&&◌, List, [], ◌∷◌, ◌++◌, length, get_or, take, refl, sym, ap, ◌∙◌, subst, ⊎_elim, Option, None, Some, arith}
use Rattle.std.specs.Prelude.{◌==◌, option_map}
use Rattle.std.proofs.lemmas.Bool.Decides.{nat_tests}
use Rattle.std.proofs.lemmas.Bool.{cases_Bool, and_parts, and_from, not-true, false≢true, eqb-true, eq-eqb, cond-true, cond-false}
use Rattle.ct_token.specs.Bytes.{is_newline, is_quote}
use Rattle.ct_token.specs.Constants.{is_plain}
use Rattle.ct_token.specs.Lexing.{is_inside}

-- what stands inside, behind a backslash or not
abbrev pub is_inside_after : Bool → ℕ → List ℕ → Bool
is_inside_after false quote bytes = is_inside quote bytes
is_inside_after true quote [] = false
is_inside_after true quote (byte ∷ bytes) = not (is_newline byte) && is_inside quote bytes

-- how many bytes stand before the quote that closes a text, behind a backslash or not
abbrev pub closing : Bool → ℕ → List ℕ → Option ℕ
closing escaped quote [] = None
closing true quote (byte ∷ bytes) = cond (byte == 10) None (option_map suc (closing false quote bytes))
closing false quote (byte ∷ bytes) =
    cond (byte == quote) (Some 0) (cond (byte == 10) None (option_map suc (closing (byte == 92) quote bytes)))

quote_apart : (quote byte : ℕ) → is_quote quote ≡ true → (byte == 92) ≡ true → (byte == quote) ≡ false
quote_apart quote byte h k = grind (arith, nat_tests)

escape_apart : (byte : ℕ) → (byte == 92) ≡ true → (byte == 10) ≡ false
escape_apart byte k = grind (arith, nat_tests)

plain_parts : (quote byte : ℕ) → is_plain quote byte ≡ true → ((byte == quote) ≡ false) × ((byte == 92) ≡ false) × ((byte == 10) ≡ false)
plain_parts quote byte h = (grind (arith, nat_tests), grind (arith, nat_tests), grind (arith, nat_tests))

plain_from : (quote byte : ℕ) → (byte == quote) ≡ false → (byte == 92) ≡ false → (byte == 10) ≡ false → is_plain quote byte ≡ true
plain_from quote byte h k l = grind (arith, nat_tests)

-- the first byte inside stands for itself, or is a backslash
escape_inside : (quote byte : ℕ) (bytes : List ℕ) → (byte == 92) ≡ true → is_inside quote (byte ∷ bytes) ≡ is_inside_after true quote bytes
escape_inside quote byte [] e = grind (arith, nat_tests)
escape_inside quote byte (next ∷ bytes) e = cond-true (byte == 92) (not (is_newline next) && is_inside quote bytes) (is_plain quote byte && is_inside quote (next ∷ bytes)) e

plain_inside : (quote byte : ℕ) (bytes : List ℕ) → (byte == 92) ≡ false → is_inside quote (byte ∷ bytes) ≡ (is_plain quote byte && is_inside quote bytes)
plain_inside quote byte [] e = grind (arith, nat_tests)
plain_inside quote byte (next ∷ bytes) e = cond-false (byte == 92) (not (is_newline next) && is_inside quote bytes) (is_plain quote byte && is_inside quote (next ∷ bytes)) e

-- a step past a byte that is no new-line
passed : (newline : Bool) (rest : Option ℕ) (count : ℕ) → cond newline None (option_map suc rest) ≡ Some count → (newline ≡ false) × ((m : ℕ) × (rest ≡ Some m) × (count ≡ suc m))
passed true rest count h = absurd cc
passed false None count h = absurd cc
passed false (Some m) count h = (refl, (m, refl, cc))

-- what is inside a text, up to its quote
abbrev pub IsFoundAt : Bool → ℕ → List ℕ → ℕ → Type 0
IsFoundAt escaped quote text count =
    (count < length text) × (get_or text count 0 ≡ quote) × (is_inside_after escaped quote (take count text) ≡ true)

inside_from : (quote byte : ℕ) (bytes : List ℕ) → (byte == quote) ≡ false → (byte == 10) ≡ false → is_inside_after (byte == 92) quote bytes ≡ true → is_inside quote (byte ∷ bytes) ≡ true
inside_from quote byte bytes apart same h =
    ⊎_elim
    (λ e. escape_inside quote byte bytes e ∙ ap (λ b. is_inside_after b quote bytes) (sym e) ∙ h)
    (λ e. plain_inside quote byte bytes e ∙ and_from (is_plain quote byte) (is_inside quote bytes) (plain_from quote byte apart e same) (ap (λ b. is_inside_after b quote bytes) (sym e) ∙ h))
    (cases_Bool (byte == 92))

pub closing_found : (escaped : Bool) (quote : ℕ) (text : List ℕ) (count : ℕ) → closing escaped quote text ≡ Some count → IsFoundAt escaped quote text count
closing_found true quote [] count h = absurd cc
closing_found false quote [] count h = absurd cc
closing_found true quote (byte ∷ bytes) count h =
    let step = passed (byte == 10) (closing false quote bytes) count h in
    let found = closing_found false quote bytes step.1.0 step.1.1 in
    subst (IsFoundAt true quote (byte ∷ bytes)) (sym step.1.2)
    (omega (arith, found.0), found.1, and_from (not (is_newline byte)) (is_inside quote (take step.1.0 bytes)) (ap not step.0) found.2)
closing_found false quote (byte ∷ bytes) count h =
    ⊎_elim
    (λ e. let zero_is : 0 ≡ count = let k = sym (cond-true (byte == quote) (Some 0) (cond (byte == 10) None (option_map suc (closing (byte == 92) quote bytes))) e) ∙ h in cc in
    subst (IsFoundAt false quote (byte ∷ bytes)) zero_is (omega arith, eqb-true byte quote e, refl))
    (λ e. let step = passed (byte == 10) (closing (byte == 92) quote bytes) count (sym (cond-false (byte == quote) (Some 0) (cond (byte == 10) None (option_map suc (closing (byte == 92) quote bytes))) e) ∙ h) in
    let found = closing_found (byte == 92) quote bytes step.1.0 step.1.1 in
    subst (IsFoundAt false quote (byte ∷ bytes)) (sym step.1.2)
    (omega (arith, found.0), found.1, inside_from quote byte (take step.1.0 bytes) e step.0 found.2))
    (cases_Bool (byte == quote))

-- what stands inside closes at its end
pub closing_there : (escaped : Bool) (quote : ℕ) (inside after : List ℕ) → is_quote quote ≡ true → is_inside_after escaped quote inside ≡ true → closing escaped quote (inside ++ quote ∷ after) ≡ Some (length inside)
closing_there true quote [] after is h = absurd (false≢true h)
closing_there false quote [] after is h =
    cond-true (quote == quote) (Some 0) (cond (quote == 10) None (option_map suc (closing (quote == 92) quote after))) (eq-eqb quote quote refl)
closing_there true quote (byte ∷ bytes) after is h =
    let parts = and_parts (not (is_newline byte)) (is_inside quote bytes) h in
    let rest = closing false quote (bytes ++ quote ∷ after) in
    cond-false (byte == 10) None (option_map suc rest) (not-true (byte == 10) parts.0)
    ∙ ap (option_map suc) (closing_there false quote bytes after is parts.1)
closing_there false quote (byte ∷ bytes) after is h =
    let rest = closing (byte == 92) quote (bytes ++ quote ∷ after) in
    let there : (byte == quote) ≡ false → (byte == 10) ≡ false → rest ≡ Some (length bytes) → closing false quote (byte ∷ bytes ++ quote ∷ after) ≡ Some (suc (length bytes)) =
    λ apart same e. cond-false (byte == quote) (Some 0) (cond (byte == 10) None (option_map suc rest)) apart
    ∙ cond-false (byte == 10) None (option_map suc rest) same ∙ ap (option_map suc) e in
    ⊎_elim
    (λ e. there (quote_apart quote byte is e) (escape_apart byte e)
    (ap (λ b. closing b quote (bytes ++ quote ∷ after)) e ∙ closing_there true quote bytes after is (sym (escape_inside quote byte bytes e) ∙ h)))
    (λ e. let parts = and_parts (is_plain quote byte) (is_inside quote bytes) (sym (plain_inside quote byte bytes e) ∙ h) in
    let plain = plain_parts quote byte parts.0 in
    there plain.0 plain.2
    (ap (λ b. closing b quote (bytes ++ quote ∷ after)) e ∙ closing_there false quote bytes after is parts.1))
    (cases_Bool (byte == 92))

pub never_closed : (quote : ℕ) (text : List ℕ) → is_quote quote ≡ true → closing false quote text ≡ None → (inside after : List ℕ) → text ≡ inside ++ quote ∷ after → is_inside quote inside ≡ true → ⊥
never_closed quote text is none inside after e h =
    let there = closing_there false quote inside after is h in
    let here : closing false quote text ≡ Some (length inside) = ap (closing false quote) e ∙ there in
    let wrong : None ≡ Some (length inside) = sym none ∙ here in
    absurd cc

-- so the first of two closing quotes is one
pub same_inside : (quote : ℕ) (p q u v : List ℕ) → is_quote quote ≡ true → is_inside quote p ≡ true → is_inside quote q ≡ true → p ++ quote ∷ u ≡ q ++ quote ∷ v → (p ≡ q) × (u ≡ v)
same_inside quote p q u v is hp hq e =
    let one = closing_there false quote p u is hp in
    let other = closing_there false quote q v is hq in
    let lengths : Some (length p) ≡ Some (length q) = sym one ∙ ap (closing false quote) e ∙ other in
    same_front p q u v (cc) e
  where
    same_front : (p q u v : List ℕ) → length p ≡ length q → p ++ quote ∷ u ≡ q ++ quote ∷ v → (p ≡ q) × (u ≡ v)
    same_front [] [] u v l e = (refl, cc)
    same_front [] (y ∷ q) u v l e = absurd (omega (arith, l))
    same_front (x ∷ p) [] u v l e = absurd (omega (arith, l))
    same_front (x ∷ p) (y ∷ q) u v l e =
        let head : x ≡ y = cc in
        let tail : p ++ quote ∷ u ≡ q ++ quote ∷ v = cc in
        let fewer : length p ≡ length q = omega (arith, l) in
        let rest = same_front p q u v fewer tail in
        ((λ i. head i ∷ rest.0 i), rest.1)

-- The loop that looks for the quote: what is found from here is found so much further.
abbrev pub shifted : ℕ → Option ℕ → Option ℕ
shifted index found = option_map (λ n. n + index) found
