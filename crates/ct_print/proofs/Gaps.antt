-- A token with a space or a new-line behind it.
use Rattle.std.proofs.Common.{◌≡◌, ◌≢◌, ℕ, ◌+◌, Bool, true, false, not, ◌&&◌, ◌||◌, List, [], ◌∷◌, ◌++◌, length, refl, sym, ap, ◌∙◌, subst, ◌⊎◌, inl, inr, ⊎_elim, append_assoc, length-append, arith}
use Rattle.std.specs.Prelude.{◌==◌, codes}
use Rattle.std.proofs.lemmas.List.Elements.{recursion_from_All}
use Rattle.std.proofs.lemmas.Bool.Decides.{nat_tests}
use Rattle.std.proofs.lemmas.Bool.{and_parts, and_left, and_right, or_from, or_cases, or_left, or_right, false≢true}
use Rattle.ct_base.specs.declared.lexical.TokenKind.{TokenKind}
use Rattle.ct_base.specs.declared.lexical.TokenKind.TheVariants.{Name, Number, Char, Text, Punct, Other, Line}
use Rattle.ct_base.specs.Bytes.{is_digit, is_nondigit, is_name_byte}
use Rattle.ct_token.specs.Bytes.{is_newline, is_blank, is_quote}
use Rattle.ct_token.specs.Lexing.{is_one_of, is_punctuator, is_exponent, is_sign, continues_number, all_continue, is_number, is_inside, is_prefix, IsQuoted, IsToken, IsLongest, begins_comment}
use Rattle.ct_token.proofs.Lists.{all_at}
use Rattle.ct_token.proofs.Bytes.{is_digit_or_dot, nondigit_no_number}
use Rattle.ct_token.proofs.Prefixes.{NameByte, Leads, prefix_leads, same_prefix, no_quote_in_name, quoted_first, quoted_behind}
use Rattle.ct_token.proofs.Inside.{same_inside}
use Rattle.ct_token.proofs.Punctuators.{unmarked, nondigit_no_mark, quote_no_mark}

-- what stands behind a word
abbrev pub IsGap : ℕ → Type 0
IsGap gap = (gap ≡ 32) ⊎ (gap ≡ 10)

-- whether a kind is one of those that words are spelled with
abbrev pub is_wordly : TokenKind → Bool
is_wordly Other = false
is_wordly Line = false
is_wordly _ = true

gap_no_name_byte : (gap : ℕ) → IsGap gap → is_name_byte gap ≡ false
gap_no_name_byte gap (inl e) = ap is_name_byte e
gap_no_name_byte gap (inr e) = ap is_name_byte e

-- no name holds it
no_name : (gap : ℕ) (text more : List ℕ) → IsGap gap → IsToken Name (text ++ gap ∷ more) → ⊥
no_name gap text more is h =
    no_quote_in_name (h.0 ∷ h.1) text gap more (h.3, recursion_from_All NameByte h.1 h.4) (gap_no_name_byte gap is) (sym h.2)

gap_stops : (before gap : ℕ) → IsGap gap → continues_number before gap ≡ false
gap_stops before gap (inl e) = ap (continues_number before) e ∙ and_right (is_exponent before) false refl
gap_stops before gap (inr e) = ap (continues_number before) e ∙ and_right (is_exponent before) false refl

all_stop : (before gap : ℕ) (bytes more : List ℕ) → IsGap gap → all_continue before (bytes ++ gap ∷ more) ≡ false
all_stop before gap [] more is = and_left (continues_number before gap) (all_continue gap more) (gap_stops before gap is)
all_stop before gap (byte ∷ bytes) more is = and_right (continues_number before byte) (all_continue byte (bytes ++ gap ∷ more)) (all_stop byte gap bytes more is)

gap_no_digit : (gap : ℕ) → IsGap gap → is_digit gap ≡ false
gap_no_digit gap (inl e) = ap is_digit e
gap_no_digit gap (inr e) = ap is_digit e

-- nor a number
no_number : (gap first : ℕ) (bytes more : List ℕ) → IsGap gap → is_number (first ∷ bytes ++ gap ∷ more) ≡ false
no_number gap first [] more is =
    or_from (is_digit first && all_continue first (gap ∷ more)) ((first == 46) && is_digit gap && all_continue gap more)
    (and_right (is_digit first) (all_continue first (gap ∷ more)) (all_stop first gap [] more is))
    (and_left ((first == 46) && is_digit gap) (all_continue gap more) (and_right (first == 46) (is_digit gap) (gap_no_digit gap is)))
no_number gap first (second ∷ bytes) more is =
    or_from (is_digit first && all_continue first (second ∷ bytes ++ gap ∷ more)) ((first == 46) && is_digit second && all_continue second (bytes ++ gap ∷ more))
    (and_right (is_digit first) (all_continue first (second ∷ bytes ++ gap ∷ more)) (all_stop first gap (second ∷ bytes) more is))
    (and_right ((first == 46) && is_digit second) (all_continue second (bytes ++ gap ∷ more)) (all_stop second gap bytes more is))

two_marks : (a gap : ℕ) → IsGap gap → is_punctuator (a ∷ gap ∷ []) ≡ false
two_marks a gap (inl e) = ap (λ b. is_punctuator (a ∷ b ∷ [])) e ∙ grind (arith, nat_tests)
two_marks a gap (inr e) = ap (λ b. is_punctuator (a ∷ b ∷ [])) e ∙ grind (arith, nat_tests)

three_marks : (a gap c : ℕ) → IsGap gap → is_punctuator (a ∷ gap ∷ c ∷ []) ≡ false
three_marks a gap c (inl e) = ap (λ b. is_punctuator (a ∷ b ∷ c ∷ [])) e ∙ grind (arith, nat_tests)
three_marks a gap c (inr e) = ap (λ b. is_punctuator (a ∷ b ∷ c ∷ [])) e ∙ grind (arith, nat_tests)

three_marks_last : (a b gap : ℕ) → IsGap gap → is_punctuator (a ∷ b ∷ gap ∷ []) ≡ false
three_marks_last a b gap (inl e) = ap (λ c. is_punctuator (a ∷ b ∷ c ∷ [])) e ∙ grind (arith, nat_tests)
three_marks_last a b gap (inr e) = ap (λ c. is_punctuator (a ∷ b ∷ c ∷ [])) e ∙ grind (arith, nat_tests)

four_marks : (a gap c d : ℕ) → IsGap gap → is_punctuator (a ∷ gap ∷ c ∷ d ∷ []) ≡ false
four_marks a gap c d (inl e) = ap (λ b. is_punctuator (a ∷ b ∷ c ∷ d ∷ [])) e ∙ grind (arith, nat_tests)
four_marks a gap c d (inr e) = ap (λ b. is_punctuator (a ∷ b ∷ c ∷ d ∷ [])) e ∙ grind (arith, nat_tests)

four_marks_third : (a b gap d : ℕ) → IsGap gap → is_punctuator (a ∷ b ∷ gap ∷ d ∷ []) ≡ false
four_marks_third a b gap d (inl e) = ap (λ c. is_punctuator (a ∷ b ∷ c ∷ d ∷ [])) e ∙ grind (arith, nat_tests)
four_marks_third a b gap d (inr e) = ap (λ c. is_punctuator (a ∷ b ∷ c ∷ d ∷ [])) e ∙ grind (arith, nat_tests)

four_marks_last : (a b c gap : ℕ) → IsGap gap → is_punctuator (a ∷ b ∷ c ∷ gap ∷ []) ≡ false
four_marks_last a b c gap (inl e) = ap (λ d. is_punctuator (a ∷ b ∷ c ∷ d ∷ [])) e ∙ grind (arith, nat_tests)
four_marks_last a b c gap (inr e) = ap (λ d. is_punctuator (a ∷ b ∷ c ∷ d ∷ [])) e ∙ grind (arith, nat_tests)

-- nor a punctuator
no_mark : (gap first : ℕ) (bytes more : List ℕ) → IsGap gap → is_punctuator (first ∷ bytes ++ gap ∷ more) ≡ false
no_mark gap a [] [] is = two_marks a gap is
no_mark gap a [] (c ∷ []) is = three_marks a gap c is
no_mark gap a [] (c ∷ d ∷ []) is = four_marks a gap c d is
no_mark gap a [] (c ∷ d ∷ e ∷ more) is = refl
no_mark gap a (b ∷ []) [] is = three_marks_last a b gap is
no_mark gap a (b ∷ []) (d ∷ []) is = four_marks_third a b gap d is
no_mark gap a (b ∷ []) (d ∷ e ∷ more) is = refl
no_mark gap a (b ∷ c ∷ []) [] is = four_marks_last a b c gap is
no_mark gap a (b ∷ c ∷ []) (e ∷ more) is = refl
no_mark gap a (b ∷ c ∷ d ∷ []) more is = refl
no_mark gap a (b ∷ c ∷ d ∷ e ∷ bytes) more is = refl

gap_no_quote : (gap quote : ℕ) → IsGap gap → is_quote quote ≡ true → gap ≡ quote → ⊥
gap_no_quote gap quote (inl e) is same = let h : is_quote 32 ≡ true = ap is_quote (sym e ∙ same) ∙ is in false≢true h
gap_no_quote gap quote (inr e) is same = let h : is_quote 10 ≡ true = ap is_quote (sym e ∙ same) ∙ is in false≢true h

quote_no_name_byte : (quote : ℕ) → is_quote quote ≡ true → is_name_byte quote ≡ false
quote_no_name_byte quote is = grind (arith, nat_tests)

quote_no_number : (quote : ℕ) → is_quote quote ≡ true → is_digit_or_dot quote ≡ false
quote_no_number quote is = grind (arith, nat_tests)

-- what a number begins with
number_first : (first : ℕ) (more : List ℕ) → is_number (first ∷ more) ≡ true → is_digit_or_dot first ≡ true
number_first first [] h = or_left (is_digit first) (first == 46) h
number_first first (second ∷ bytes) h =
    ⊎_elim
    (λ e. or_left (is_digit first) (first == 46) (and_parts (is_digit first) (all_continue first (second ∷ bytes)) e).0)
    (λ e. or_right (is_digit first) (first == 46) (and_parts (first == 46) (is_digit second) (and_parts ((first == 46) && is_digit second) (all_continue second bytes) e).0).0)
    (or_cases (is_digit first && all_continue first (second ∷ bytes)) ((first == 46) && is_digit second && all_continue second bytes) h)

-- a name, a number or a punctuator and more is nothing quoted
name_unquoted : (gap quote : ℕ) (text more inside : List ℕ) → IsGap gap → is_quote quote ≡ true → IsToken Name text → IsQuoted quote inside (text ++ gap ∷ more) → ⊥
name_unquoted gap quote text more inside is q h k =
    let leads = subst Leads (sym h.2) (h.3, recursion_from_All NameByte h.1 h.4) in
    let same = same_prefix text k.0 gap quote more (inside ++ quote ∷ []) leads (prefix_leads quote k.0 k.1) (gap_no_name_byte gap is) (quote_no_name_byte quote q) k.2 in
    gap_no_quote gap quote is q same.1

number_unquoted : (quote first : ℕ) (bytes more inside : List ℕ) → is_quote quote ≡ true → is_number (first ∷ bytes) ≡ true → IsQuoted quote inside (first ∷ more) → ⊥
number_unquoted quote first bytes more inside q h k =
    ⊎_elim
    (λ same. false≢true (sym (quote_no_number quote q) ∙ ap is_digit_or_dot (sym same) ∙ number_first first bytes h))
    (λ letter. false≢true (sym (nondigit_no_number first letter) ∙ number_first first bytes h))
    (quoted_first quote inside first more k)

mark_unquoted : (quote first : ℕ) (bytes more inside : List ℕ) → is_quote quote ≡ true → is_punctuator (first ∷ bytes) ≡ true → IsQuoted quote inside (first ∷ more) → ⊥
mark_unquoted quote first bytes more inside q h k =
    ⊎_elim
    (λ same. false≢true (sym (ap (λ b. is_punctuator (b ∷ bytes)) same ∙ unmarked quote bytes (quote_no_mark quote q)) ∙ h))
    (λ letter. false≢true (sym (unmarked first bytes (nondigit_no_mark first letter)) ∙ h))
    (quoted_first quote inside first more k)

regroup : (quote : ℕ) (prefix plain more : List ℕ) → prefix ++ (quote ∷ plain ++ quote ∷ []) ++ more ≡ prefix ++ quote ∷ (plain ++ quote ∷ more)
regroup quote prefix plain more =
    append_assoc prefix (quote ∷ plain ++ quote ∷ []) more ∙ ap (λ l. prefix ++ quote ∷ l) (append_assoc plain (quote ∷ []) more)

-- and what is quoted goes on in nothing quoted
quoted_unquoted : (first quote gap : ℕ) (text more inside inside' : List ℕ) → is_quote first ≡ true → is_quote quote ≡ true → IsQuoted first inside text → IsQuoted quote inside' (text ++ gap ∷ more) → ⊥
quoted_unquoted first quote gap text more inside inside' p q h k =
    let whole = subst (IsQuoted quote inside') (ap (λ t. t ++ gap ∷ more) h.2 ∙ regroup first h.0 inside (gap ∷ more)) k in
    let behind = quoted_behind first quote h.0 inside' (inside ++ first ∷ gap ∷ more) (quote_no_name_byte first p) (quote_no_name_byte quote q) (prefix_leads first h.0 h.1) whole in
    let again : inside ++ first ∷ gap ∷ more ≡ inside' ++ first ∷ [] = behind.2 ∙ ap (λ b. inside' ++ b ∷ []) (sym behind.1) in
    let inside'' = ap (λ b. is_inside b inside') behind.1 ∙ whole.3 in
    let same = same_inside first inside inside' (gap ∷ more) [] p h.3 inside'' again in
    let none : gap ∷ more ≡ [] = same.1 in cc

word_unquoted : (kind : TokenKind) (gap quote : ℕ) (text more inside : List ℕ) → is_wordly kind ≡ true → IsGap gap → is_quote quote ≡ true → IsToken kind text → IsQuoted quote inside (text ++ gap ∷ more) → ⊥
word_unquoted Name gap quote text more inside w is q h k = name_unquoted gap quote text more inside is q h k
word_unquoted Number gap quote [] more inside w is q h k = false≢true h
word_unquoted Number gap quote (first ∷ bytes) more inside w is q h k = number_unquoted quote first bytes (bytes ++ gap ∷ more) inside q h k
word_unquoted Char gap quote text more inside w is q h k = quoted_unquoted 39 quote gap text more h.0 inside refl q h.2 k
word_unquoted Text gap quote text more inside w is q h k = quoted_unquoted 34 quote gap text more h.0 inside refl q h.1 k
word_unquoted Punct gap quote [] more inside w is q h k = false≢true h
word_unquoted Punct gap quote (first ∷ bytes) more inside w is q h k = mark_unquoted quote first bytes (bytes ++ gap ∷ more) inside q h k
word_unquoted Other gap quote text more inside w is q h k = false≢true w
word_unquoted Line gap quote text more inside w is q h k = false≢true w

single : (byte gap first : ℕ) (bytes more : List ℕ) → first ∷ bytes ++ gap ∷ more ≡ byte ∷ [] → ⊥
single byte gap first [] more e = let h : gap ∷ more ≡ [] = cc in cc
single byte gap first (b ∷ bytes) more e = let h : b ∷ bytes ++ gap ∷ more ≡ [] = cc in cc

-- no token goes on over a gap
no_token_over : (kind other : TokenKind) (gap first : ℕ) (bytes more : List ℕ) → is_wordly kind ≡ true → IsGap gap → IsToken kind (first ∷ bytes) → IsToken other (first ∷ bytes ++ gap ∷ more) → ⊥
no_token_over kind Name gap first bytes more w is h k = no_name gap (first ∷ bytes) more is k
no_token_over kind Number gap first bytes more w is h k = false≢true (sym (no_number gap first bytes more is) ∙ k)
no_token_over kind Char gap first bytes more w is h k = word_unquoted kind gap 39 (first ∷ bytes) more k.0 w is refl h k.2
no_token_over kind Text gap first bytes more w is h k = word_unquoted kind gap 34 (first ∷ bytes) more k.0 w is refl h k.1
no_token_over kind Punct gap first bytes more w is h k = false≢true (sym (no_mark gap first bytes more is) ∙ k)
no_token_over kind Other gap first bytes more w is h k = single k.0 gap first bytes more k.1
no_token_over kind Line gap first bytes more w is h k = single 10 gap first bytes more k

-- so it is the longest before a gap
longest_here : (kind : TokenKind) (gap first : ℕ) (bytes after : List ℕ) → is_wordly kind ≡ true → IsGap gap → IsToken kind (first ∷ bytes) → (other : TokenKind) (more rest : List ℕ) → gap ∷ after ≡ more ++ rest → IsToken other (first ∷ bytes ++ more) → more ≡ []
longest_here kind gap first bytes after w is h longer [] rest e k = refl
longest_here kind gap first bytes after w is h longer (byte ∷ more) rest e k =
    let same : byte ≡ gap = cc in
    absurd (no_token_over kind longer gap first bytes more w is h (subst (λ b. IsToken longer (first ∷ bytes ++ b ∷ more)) same k))

-- no token is empty
no_empty : (kind : TokenKind) → IsToken kind [] → ⊥
no_empty Name h = let e = h.2 in cc
no_empty Number h = false≢true h
no_empty Char h = let e = ap (length {A = ℕ}) h.2.2 in omega (arith, e, length-append h.2.0 (39 ∷ h.0 ++ 39 ∷ []), length-append h.0 (39 ∷ []))
no_empty Text h = let e = ap (length {A = ℕ}) h.1.2 in omega (arith, e, length-append h.1.0 (34 ∷ h.0 ++ 34 ∷ []), length-append h.0 (34 ∷ []))
no_empty Punct h = false≢true h
no_empty Other h = let e = h.1 in cc
no_empty Line h = cc

pub longest_before_gap : (kind : TokenKind) (gap : ℕ) (text after : List ℕ) → is_wordly kind ≡ true → IsGap gap → IsToken kind text → IsLongest kind text (gap ∷ after)
longest_before_gap kind gap [] after w is h = absurd (no_empty kind h)
longest_before_gap kind gap (first ∷ bytes) after w is h = record { token = h; longest = longest_here kind gap first bytes after w is h }

newline_unquoted : (quote : ℕ) (more inside : List ℕ) → (10 ≡ quote → ⊥) → IsQuoted quote inside (10 ∷ more) → ⊥
newline_unquoted quote more inside apart h =
    ⊎_elim apart (λ letter. false≢true letter) (quoted_first quote inside 10 more h)

-- a new-line is a token by itself
newline_here : (longer : TokenKind) (more : List ℕ) → IsToken longer (10 ∷ more) → more ≡ []
newline_here Name more h = let same : h.0 ≡ 10 = cc in absurd (false≢true (ap is_nondigit (sym same) ∙ h.3))
newline_here Number [] h = refl
newline_here Number (byte ∷ more) h = absurd (false≢true h)
newline_here Char more h = absurd (newline_unquoted 39 more h.0 (λ e. omega (arith, e)) h.2)
newline_here Text more h = absurd (newline_unquoted 34 more h.0 (λ e. omega (arith, e)) h.1)
newline_here Punct more h = absurd (false≢true (sym (unmarked 10 more refl) ∙ h))
newline_here Other more h = let e = h.1 in cc
newline_here Line more h = cc

pub newline_longest : (after : List ℕ) → IsLongest Line (10 ∷ []) after
newline_longest after = record { token = refl; longest = λ longer more rest e h. newline_here longer more h }

-- and no comment begins with it
comment_apart : (first gap : ℕ) (after : List ℕ) → IsGap gap → begins_comment (first ∷ gap ∷ after) ≡ false
comment_apart first gap after (inl e) = ap (λ b. begins_comment (first ∷ b ∷ after)) e ∙ and_right (first == 47) false refl
comment_apart first gap after (inr e) = ap (λ b. begins_comment (first ∷ b ∷ after)) e ∙ and_right (first == 47) false refl

-- a text that begins with another byte than `/`
pub no_comment_in : (byte : ℕ) (after : List ℕ) → (byte == 47) ≡ false → begins_comment (byte ∷ after) ≡ false
no_comment_in byte [] apart = refl
no_comment_in byte (second ∷ bytes) apart = and_left (byte == 47) ((second == 42) || (second == 47)) apart

pub no_comment_before_gap : (gap : ℕ) (text after : List ℕ) → IsGap gap → begins_comment text ≡ false → begins_comment (text ++ gap ∷ after) ≡ false
no_comment_before_gap gap [] after (inl e) h = ap (λ b. begins_comment (b ∷ after)) e ∙ no_comment_in 32 after refl
no_comment_before_gap gap [] after (inr e) h = ap (λ b. begins_comment (b ∷ after)) e ∙ no_comment_in 10 after refl
no_comment_before_gap gap (first ∷ []) after is h = comment_apart first gap after is
no_comment_before_gap gap (first ∷ second ∷ text) after is h = h
