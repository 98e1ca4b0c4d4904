-- What a loop over the bytes of a token has found where it stops.
use Rattle.std.proofs.Common.{◌≡◌, ℕ, suc, ◌+◌, ◌<◌, Bool, true, false, not, cond, ◌&&◌, List, [], ◌∷◌, ◌++◌, length, get_or, take, drop, refl, sym, ap, ◌∙◌, Option, None, Some, arith}
use Rattle.std.specs.Prelude.{◌==◌, option_map}
use Rattle.std.proofs.lemmas.List.{append-nil, drop_all, drop_more}
use Rattle.std.proofs.lemmas.Bool.Decides.{nat_tests}
use Rattle.std.proofs.lemmas.Bool.{and_parts, and_right, false≢true, eq-eqb, cond-true, cond-false}
use Rattle.ct_token.specs.Bytes.{is_quote}
use Rattle.ct_token.specs.Lexing.{continues_number, all_continue}
use Rattle.ct_token.proofs.Lists.{at_cut, none_before}
use Rattle.ct_token.proofs.Inside.{closing, shifted}

-- a number's bytes so far: what goes on after them goes on after the last of them
abbrev pub GoesOn : ℕ → ℕ → List ℕ → Type 0
GoesOn first before bytes = (more : List ℕ) → all_continue first (bytes ++ more) ≡ all_continue before more

pub number_continues : (first before : ℕ) (bytes : List ℕ) → GoesOn first before bytes → all_continue first bytes ≡ true
number_continues first before bytes h = ap (all_continue first) (sym (append-nil bytes)) ∙ h []

-- the next byte does not go on, so no longer front does
pub number_stops : (first before : ℕ) (text : List ℕ) (i : ℕ) → GoesOn first before (take i text) → continues_number before (get_or text i 0) ≡ false → (more after : List ℕ) → drop i text ≡ more ++ after → all_continue first (take i text ++ more) ≡ true → more ≡ []
number_stops first before text i h stop [] after e k = refl
number_stops first before text i h stop (c ∷ cs) after e k =
    let cut = at_cut text i c (cs ++ after) e in
    let goes : (continues_number before c && all_continue c cs) ≡ true = sym (h (c ∷ cs)) ∙ k in
    let stops : continues_number before c ≡ false = ap (continues_number before) (sym cut.1) ∙ stop in
    absurd (false≢true (sym stops ∙ (and_parts _ _ goes).0))

pub nothing_left : (text more after : List ℕ) → drop (length text) text ≡ more ++ after → more ≡ []
nothing_left text more after e = none_before more after (sym e ∙ drop_all (length text) text (omega arith))

newline_apart : (quote : ℕ) → is_quote quote ≡ true → (10 == quote) ≡ false
newline_apart quote h = grind (arith, nat_tests)

and_true : (b : Bool) → (b && true) ≡ b
and_true true = refl
and_true false = refl

-- a text in which the quote is looked for is read up to this place
pub looked_at : (escaped : Bool) (quote : ℕ) (text : List ℕ) (index : ℕ) → index < length text → closing false quote text ≡ shifted index (closing escaped quote (drop index text)) → closing false quote text ≡ shifted index (closing escaped quote (get_or text index 0 ∷ drop (index + 1) text))
looked_at escaped quote text index lt so_far =
    so_far ∙ ap (λ l. shifted index (closing escaped quote l)) (drop_more text index 0 lt)

shifted_more : (index : ℕ) (found : Option ℕ) → shifted index (option_map suc found) ≡ shifted (index + 1) found
shifted_more index None = refl
shifted_more index (Some n) = ap Some (omega arith)

-- the quote stands here
pub closed_here : (quote : ℕ) (text : List ℕ) (index : ℕ) → index < length text → closing false quote text ≡ shifted index (closing false quote (drop index text)) → get_or text index 0 ≡ quote → closing false quote text ≡ Some index
closed_here quote text index lt so_far here =
    looked_at false quote text index lt so_far
    ∙ ap (shifted index) (cond-true (get_or text index 0 == quote) (Some 0) (cond (get_or text index 0 == 10) None (option_map suc (closing (get_or text index 0 == 92) quote (drop (index + 1) text)))) (eq-eqb (get_or text index 0) quote here))
    ∙ ap Some (omega arith)

-- a new-line stands here
pub stopped_here : (escaped : Bool) (quote : ℕ) (text : List ℕ) (index : ℕ) → is_quote quote ≡ true → index < length text → closing false quote text ≡ shifted index (closing escaped quote (drop index text)) → get_or text index 0 ≡ 10 → closing false quote text ≡ None
stopped_here escaped quote text index is lt so_far here =
    looked_at escaped quote text index lt so_far
    ∙ ap (λ b. shifted index (closing escaped quote (b ∷ drop (index + 1) text))) here
    ∙ none escaped (drop (index + 1) text)
  where
    apart : (10 == quote) ≡ false
    apart = newline_apart quote is

    none : (escaped : Bool) (rest : List ℕ) → shifted index (closing escaped quote (10 ∷ rest)) ≡ None
    none true rest = refl
    none false rest = ap (shifted index) (cond-false (10 == quote) (Some 0) None apart)

-- neither stands here
pub goes_on_true : (quote : ℕ) (text : List ℕ) (index : ℕ) → index < length text → closing false quote text ≡ shifted index (closing true quote (drop index text)) → (get_or text index 0 == 10) ≡ false → closing false quote text ≡ shifted (index + 1) (closing false quote (drop (index + 1) text))
goes_on_true quote text index lt so_far other =
    let rest = closing false quote (drop (index + 1) text) in
    looked_at true quote text index lt so_far
    ∙ ap (shifted index) (cond-false (get_or text index 0 == 10) None (option_map suc rest) other)
    ∙ shifted_more index rest

pub goes_on_false : (quote : ℕ) (text : List ℕ) (index : ℕ) → index < length text → closing false quote text ≡ shifted index (closing false quote (drop index text)) → (get_or text index 0 == quote) ≡ false → (get_or text index 0 == 10) ≡ false → closing false quote text ≡ shifted (index + 1) (closing (get_or text index 0 == 92) quote (drop (index + 1) text))
goes_on_false quote text index lt so_far apart other =
    let byte = get_or text index 0 in
    let rest = closing (byte == 92) quote (drop (index + 1) text) in
    looked_at false quote text index lt so_far
    ∙ ap (shifted index) (cond-false (byte == quote) (Some 0) (cond (byte == 10) None (option_map suc rest)) apart ∙ cond-false (byte == 10) None (option_map suc rest) other)
    ∙ shifted_more index rest

-- one step of the search
pub goes_on : (escaped : Bool) (quote : ℕ) (text : List ℕ) (index : ℕ) → index < length text → closing false quote text ≡ shifted index (closing escaped quote (drop index text)) → ((get_or text index 0 == quote) && not escaped) ≡ false → (get_or text index 0 == 10) ≡ false → closing false quote text ≡ shifted (index + 1) (closing ((get_or text index 0 == 92) && not escaped) quote (drop (index + 1) text))
goes_on true quote text index lt so_far apart other =
    goes_on_true quote text index lt so_far other
    ∙ ap (λ b. shifted (index + 1) (closing b quote (drop (index + 1) text))) (sym (and_right (get_or text index 0 == 92) false refl))
goes_on false quote text index lt so_far apart other =
    goes_on_false quote text index lt so_far (sym (and_true (get_or text index 0 == quote)) ∙ apart) other
    ∙ ap (λ b. shifted (index + 1) (closing b quote (drop (index + 1) text))) (sym (and_true (get_or text index 0 == 92)))

-- nothing is closed by nothing
pub nothing_closes : (escaped : Bool) (quote index : ℕ) → shifted index (closing escaped quote []) ≡ None
nothing_closes true quote index = refl
nothing_closes false quote index = refl
