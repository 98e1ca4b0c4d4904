-- Each text is a character constant or a string literal that spells bytes, or it spells none.
use Rattle.std.proofs.Common.{◌≡◌, ℕ, zero, suc, ◌+◌, ◌<◌, ◌≤◌, Bool, true, false, if◌then◌else◌, List, [], ◌∷◌, ◌++◌, length, take, drop, refl, sym, ap, ◌∙◌, subst, arith, length-drop, ◌⊎◌, inl, inr, Option, None, Some}
use Rattle.std.specs.Prelude.{◌==◌, IsTrue, min, option_and_then}
use Rattle.std.specs.List.{prefix_len}
use Rattle.std.proofs.lemmas.Bool.{cases_Bool, false≢true, eqb-true}
use Rattle.ct_token.specs.Bytes.{is_octal_digit, is_quote}
use Rattle.ct_token.specs.declared.constants.Base.{Base}
use Rattle.ct_token.specs.declared.constants.Base.TheVariants.{Octal, Hexadecimal}
use Rattle.ct_token.specs.declared.constants.Element.{Element}
use Rattle.ct_token.specs.Constants.{Decodes, SpellsBytes, digits_in, element, element_of, escape_of, is_plain, number_in, numeric_escape, simple_escape}
use Rattle.ct_token.proofs.Decided.{Cuts, Decided, cut_decided, same_decided}
use Rattle.ct_token.proofs.Decoding.{decodes_from, empty_constant, first_of_rest}

-- ---- an element has bytes

abbrev HasBytes : Option Element → Type 0
HasBytes None = Unit {0}
HasBytes (Some found) = 1 ≤ found.count

by_choice : (test : Bool) (one other : Option Element) → HasBytes one → HasBytes other → HasBytes (if test then one else other)
by_choice true one other h k = h
by_choice false one other h k = k

numeric_bytes : (base : Base) (digits : List ℕ) (before : ℕ) → 1 ≤ before → HasBytes (numeric_escape base digits before)
numeric_bytes base digits before some =
    by_choice _ (Some (element (number_in base digits) (before + length digits))) None (omega (arith, some)) tt

simple_bytes : (byte : Option ℕ) → HasBytes (option_and_then (λ byte. Some (element byte 2)) byte)
simple_bytes None = tt
simple_bytes (Some byte) = omega arith

escape_bytes : (text : List ℕ) → HasBytes (escape_of text)
escape_bytes [] = tt
escape_bytes (first ∷ rest) =
    by_choice (is_octal_digit first) (numeric_escape Octal (take (min 3 (prefix_len is_octal_digit (first ∷ rest))) (first ∷ rest)) 1) _
    (numeric_bytes Octal (take (min 3 (prefix_len is_octal_digit (first ∷ rest))) (first ∷ rest)) 1 (omega arith))
    (by_choice (first == 120) (numeric_escape Hexadecimal (digits_in Hexadecimal rest) 2) _
    (numeric_bytes Hexadecimal (digits_in Hexadecimal rest) 2 (omega arith)) (simple_bytes (simple_escape first)))

element_bytes : (quote : ℕ) (text : List ℕ) → HasBytes (element_of quote text)
element_bytes quote [] = tt
element_bytes quote (first ∷ rest) =
    by_choice (first == 92) (escape_of rest) _ (escape_bytes rest) (by_choice (is_plain quote first) (Some (element first 1)) None (omega arith) tt)

-- ---- what stands between quotes

abbrev Spelled : ℕ → List ℕ → Type 0
Spelled quote inside = ((bytes : List ℕ) × SpellsBytes quote inside bytes) ⊎ ((bytes : List ℕ) → SpellsBytes quote inside bytes → ⊥)

none_spelled : (quote first : ℕ) (rest : List ℕ) → element_of quote (first ∷ rest) ≡ None → (bytes : List ℕ) → SpellsBytes quote (first ∷ rest) bytes → ⊥
none_spelled quote first rest e [] h = absurd cc
none_spelled quote first rest e (b ∷ bytes) h =
    let wrong : None ≡ Some (element b h.0) = sym e ∙ h.1 in absurd cc

spelled_within : (quote fuel : ℕ) (inside : List ℕ) → length inside < fuel → Spelled quote inside
spelled_within quote zero inside less = absurd (omega arith)
spelled_within quote (suc fuel) [] less = inl ([], refl)
spelled_within quote (suc fuel) (first ∷ rest) less = by_element (element_of quote (first ∷ rest)) refl (λ inside less. spelled_within quote fuel inside less)
  where
    by_rest : (one : Element) → element_of quote (first ∷ rest) ≡ Some one → Spelled quote (drop one.count (first ∷ rest)) → Spelled quote (first ∷ rest)
    by_rest one e (inl h) = inl (one.byte ∷ h.0, (one.count, e, h.1))
    by_rest one e (inr fails) =
        inr (λ bytes h. let behind = first_of_rest quote (first ∷ rest) one.byte one.count bytes e h in fails behind.0 behind.2)

    by_element : (found : Option Element) → element_of quote (first ∷ rest) ≡ found → ((inside : List ℕ) → length inside < fuel → Spelled quote inside) → Spelled quote (first ∷ rest)
    by_element None e behind = inr (none_spelled quote first rest e)
    by_element (Some one) e behind =
        let some : 1 ≤ one.count = subst HasBytes e (element_bytes quote (first ∷ rest)) in
        by_rest one e (behind (drop one.count (first ∷ rest)) (omega (arith, less, some, length-drop one.count (first ∷ rest))))

-- ---- the whole text

abbrev pub Decoded : List ℕ → Type 0
Decoded text = ((bytes : List ℕ) × Decodes text bytes) ⊎ ((bytes : List ℕ) → Decodes text bytes → ⊥)

same_front : (q r : ℕ) (xs ys : List ℕ) → q ∷ xs ≡ r ∷ ys → (q ≡ r) × (xs ≡ ys)
same_front q r xs ys e = (cc, cc)

no_text : (bytes : List ℕ) → Decodes [] bytes → ⊥
no_text bytes h = let wrong : [] ≡ h.quote ∷ h.inside ++ h.quote ∷ [] = h.quotes in absurd cc

module _ (quote : ℕ) (rest : List ℕ) where
  no_quote : is_quote quote ≡ false → (bytes : List ℕ) → Decodes (quote ∷ rest) bytes → ⊥
  no_quote none bytes h =
      let same = same_front quote h.quote rest (h.inside ++ h.quote ∷ []) h.quotes in
      false≢true (sym none ∙ ap is_quote same.0 ∙ h.one_of)

  not_closed : (Cuts (λ front back. back ≡ quote ∷ []) rest → ⊥) → (bytes : List ℕ) → Decodes (quote ∷ rest) bytes → ⊥
  not_closed none bytes h =
      let same = same_front quote h.quote rest (h.inside ++ h.quote ∷ []) h.quotes in
      none (h.inside, h.quote ∷ [], same.1, ap (λ (q : ℕ). q ∷ []) (sym same.0))

  module _ (is : is_quote quote ≡ true) (inside : List ℕ) (quotes : quote ∷ rest ≡ quote ∷ inside ++ quote ∷ []) where
    decoded_as : (bytes : List ℕ) → SpellsBytes quote inside bytes → (quote ≡ 39 → bytes ≡ [] → ⊥) → Decodes (quote ∷ rest) bytes
    decoded_as bytes spells some = record { quote = quote; inside = inside; quotes = quotes; one_of = is; spells = spells; some = some }

    by_bytes : (bytes : List ℕ) → SpellsBytes quote inside bytes → ((quote == 39) ≡ true) ⊎ ((quote == 39) ≡ false) → Decoded (quote ∷ rest)
    by_bytes (b ∷ bytes) spells kind = inl (b ∷ bytes, decoded_as (b ∷ bytes) spells (λ e none. cc))
    by_bytes [] spells (inl constant) =
        inr (λ bytes h. empty_constant (quote ∷ rest) quote inside [] quotes spells (eqb-true quote 39 constant) refl bytes h)
    by_bytes [] spells (inr literal) =
        inl ([], decoded_as [] spells (λ e none. false≢true (sym literal ∙ ap (λ (q : ℕ). q == 39) e)))

    by_spelled : Spelled quote inside → Decoded (quote ∷ rest)
    by_spelled (inl h) = by_bytes h.0 h.1 (cases_Bool (quote == 39))
    by_spelled (inr fails) = inr (λ bytes h. fails bytes (decodes_from (quote ∷ rest) quote inside bytes quotes h))

  by_cut : is_quote quote ≡ true → Decided (Cuts (λ front back. back ≡ quote ∷ []) rest) → Decoded (quote ∷ rest)
  by_cut is (inr none) = inr (not_closed none)
  by_cut is (inl cut) =
      by_spelled is cut.0 (ap (λ (l : List ℕ). quote ∷ l) (cut.2 ∙ ap (λ (l : List ℕ). cut.0 ++ l) cut.3))
      (spelled_within quote (suc (length cut.0)) cut.0 (omega arith))

  by_quote : ((is_quote quote ≡ true) ⊎ (is_quote quote ≡ false)) → Decoded (quote ∷ rest)
  by_quote (inl is) = by_cut is (cut_decided (λ front back. back ≡ quote ∷ []) (λ front back. same_decided back (quote ∷ [])) rest)
  by_quote (inr none) = inr (no_quote none)

pub decodes_or_not : (text : List ℕ) → Decoded text
decodes_or_not [] = inr no_text
decodes_or_not (quote ∷ rest) = by_quote quote rest (cases_Bool (is_quote quote))
