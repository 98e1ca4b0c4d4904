-- The longest token of each kind.
use Rattle.std.proofs.Common.{◌≡◌, ℕ, zero, suc, Bool, true, false, ◌&&◌, ◌||◌, List, [], ◌∷◌, ◌++◌, get_or, take, drop, refl, sym, ap, ◌∙◌, subst, ◌⊎◌, inl, inr, ⊎_elim}
use Rattle.std.specs.Prelude.{◌==◌}
use Rattle.std.specs.List.{AllByRecursion, prefix_len}
use Rattle.std.proofs.lemmas.List.{append_assoc, take-append-drop}
use Rattle.std.proofs.lemmas.List.Elements.{recursion_from_All}
use Rattle.std.proofs.lemmas.Bool.{and_parts, and_from, or_cases, or_left, or_right, or_parts, false≢true, eqb-true, ne_eqb}
use Rattle.ct_base.specs.declared.lexical.TokenKind.{TokenKind}
use Rattle.ct_base.specs.declared.lexical.TokenKind.TheVariants.{Name, Number, Char, Text, Punct, Other, Line}
use Rattle.ct_base.specs.Bytes.{is_digit, is_nondigit, is_name_byte}
use Rattle.ct_token.specs.Bytes.{is_blank}
use Rattle.ct_token.specs.Lexing.{is_punctuator, is_other, is_exponent, is_sign, continues_number, all_continue, is_number, IsToken, IsLongest}
use Rattle.ct_token.proofs.Prefixes.{quoted_first}
use Rattle.ct_token.proofs.Lists.{none_behind, prefix_stops, prefix_passes, all_at}
use Rattle.ct_token.proofs.Bytes.{is_digit_or_dot, nondigit_no_number, digit_is_name_byte, no_name_byte, other_from}
use Rattle.ct_token.proofs.Punctuators.{nondigit_no_mark, digit_no_mark, unmarked, dot_digit}

-- what each kind of several bytes begins with
pub name_first : (first : ℕ) (more : List ℕ) → IsToken Name (first ∷ more) → is_nondigit first ≡ true
name_first first more h = let same : h.0 ≡ first = cc in ap is_nondigit (sym same) ∙ h.3

-- a number begins with a digit, or with a dot and a digit
pub number_cases : (first second : ℕ) (bytes : List ℕ) → is_number (first ∷ second ∷ bytes) ≡ true → ((is_digit first ≡ true) × (all_continue first (second ∷ bytes) ≡ true)) ⊎ (((first == 46) ≡ true) × (is_digit second ≡ true) × (all_continue second bytes ≡ true))
number_cases first second bytes h =
    let dot = first == 46 in
    ⊎_elim
    (λ e. inl (and_parts (is_digit first) (all_continue first (second ∷ bytes)) e))
    (λ e. let p = and_parts (dot && is_digit second) (all_continue second bytes) e in
    let q = and_parts dot (is_digit second) p.0 in
    inr (q.0, q.1, p.1))
    (or_cases (is_digit first && all_continue first (second ∷ bytes)) (dot && is_digit second && all_continue second bytes) h)

pub number_first : (first : ℕ) (more : List ℕ) → is_number (first ∷ more) ≡ true → is_digit_or_dot first ≡ true
number_first first [] h = or_left (is_digit first) (first == 46) h
number_first first (second ∷ bytes) h =
    ⊎_elim
    (λ digit. or_left (is_digit first) (first == 46) digit.0)
    (λ dot. or_right (is_digit first) (first == 46) dot.0)
    (number_cases first second bytes h)

-- no longer token of one byte
one_byte : (first byte : ℕ) (bytes more : List ℕ) → first ∷ (bytes ++ more) ≡ byte ∷ [] → more ≡ []
one_byte first byte bytes more e = let rest : bytes ++ more ≡ [] = cc in none_behind bytes more rest

-- a token is the longest where no longer one of the five kinds of several bytes begins at its place
abbrev NoLonger : TokenKind → ℕ → List ℕ → List ℕ → Type 0
NoLonger kind first bytes after =
    (more rest : List ℕ) → after ≡ more ++ rest → IsToken kind (first ∷ (bytes ++ more)) → more ≡ []

longest_from : (kind : TokenKind) (first : ℕ) (bytes after : List ℕ) → IsToken kind (first ∷ bytes) → NoLonger Name first bytes after → NoLonger Number first bytes after → NoLonger Char first bytes after → NoLonger Text first bytes after → NoLonger Punct first bytes after → IsLongest kind (first ∷ bytes) after
longest_from kind first bytes after token name number char text mark =
    record {
      token = token;
      longest = λ other more rest e h.
          elim other as (λ k. IsToken k (first ∷ (bytes ++ more)) → more ≡ []) [
            | Name ↦ λ h. name more rest e h
            | Number ↦ λ h. number more rest e h
            | Char ↦ λ h. char more rest e h
            | Text ↦ λ h. text more rest e h
            | Punct ↦ λ h. mark more rest e h
            | Other ↦ λ h. one_byte first h.0 bytes more h.1
            | Line ↦ λ h. one_byte first 10 bytes more h
          ] h;
    }

-- a byte that is neither a letter nor `_` begins no name, and so for the other kinds
no_name : (first : ℕ) (bytes after : List ℕ) → is_nondigit first ≡ false → NoLonger Name first bytes after
no_name first bytes after not_so more rest e h = absurd (false≢true (sym not_so ∙ name_first first (bytes ++ more) h))

no_number : (first : ℕ) (bytes after : List ℕ) → is_digit_or_dot first ≡ false → NoLonger Number first bytes after
no_number first bytes after not_so more rest e h = absurd (false≢true (sym not_so ∙ number_first first (bytes ++ more) h))

no_char : (first : ℕ) (bytes after : List ℕ) → (first ≡ 39 → ⊥) → is_nondigit first ≡ false → NoLonger Char first bytes after
no_char first bytes after not_so apart more rest e h =
    ⊎_elim (λ quote. absurd (not_so quote)) (λ letter. absurd (false≢true (sym apart ∙ letter))) (quoted_first 39 h.0 first (bytes ++ more) h.2)

no_text : (first : ℕ) (bytes after : List ℕ) → (first ≡ 34 → ⊥) → is_nondigit first ≡ false → NoLonger Text first bytes after
no_text first bytes after not_so apart more rest e h =
    ⊎_elim (λ quote. absurd (not_so quote)) (λ letter. absurd (false≢true (sym apart ∙ letter))) (quoted_first 34 h.0 first (bytes ++ more) h.1)

no_mark : (first : ℕ) (bytes after : List ℕ) → ((more : List ℕ) → is_punctuator (first ∷ (bytes ++ more)) ≡ false) → NoLonger Punct first bytes after
no_mark first bytes after not_so more rest e h = absurd (false≢true (sym (not_so more) ∙ h))

-- a number is no punctuator
pub number_no_punctuator : (first : ℕ) (more : List ℕ) → is_number (first ∷ more) ≡ true → is_punctuator (first ∷ more) ≡ false
number_no_punctuator first [] h = unmarked first [] (digit_no_mark first h)
number_no_punctuator first (second ∷ bytes) h =
    ⊎_elim
    (λ digit. unmarked first (second ∷ bytes) (digit_no_mark first digit.0))
    (λ dot. ap (λ b. is_punctuator (b ∷ second ∷ bytes)) (eqb-true first 46 dot.0) ∙ dot_digit second bytes dot.1)
    (number_cases first second bytes h)

-- a name stops before a byte that is no part of one
longer_name : (first : ℕ) (rest : List ℕ) → NoLonger Name first (take (prefix_len is_name_byte rest) rest) (drop (prefix_len is_name_byte rest) rest)
longer_name first rest [] after e h = refl
longer_name first rest (c ∷ cs) after e h =
    let bytes = take (prefix_len is_name_byte rest) rest in
    let same : h.1 ≡ bytes ++ c ∷ cs = cc in
    let all = subst (AllByRecursion (λ byte. is_name_byte byte ≡ true)) same (recursion_from_All (λ byte. is_name_byte byte ≡ true) h.1 h.4) in
    absurd (false≢true (sym (prefix_stops is_name_byte rest c (cs ++ after) e) ∙ all_at (λ byte. is_name_byte byte ≡ true) bytes c cs all))

-- no front of the byte and the text behind it is a character constant or a string literal
abbrev pub IsUnquoted : ℕ → List ℕ → Type 0
IsUnquoted first rest =
    (more after : List ℕ) → rest ≡ more ++ after → (IsToken Char (first ∷ more) → ⊥) × (IsToken Text (first ∷ more) → ⊥)

pub longest_name : (first : ℕ) (rest : List ℕ) → is_nondigit first ≡ true → IsUnquoted first rest → IsLongest Name (first ∷ take (prefix_len is_name_byte rest) rest) (drop (prefix_len is_name_byte rest) rest)
longest_name first rest nondigit unquoted =
    let count = prefix_len is_name_byte rest in
    let bytes = take count rest in
    let after = drop count rest in
    let front : (more left : List ℕ) → after ≡ more ++ left → rest ≡ bytes ++ more ++ left =
    λ more left e. sym (take-append-drop count rest) ∙ ap (λ l. bytes ++ l) e ∙ sym (append_assoc bytes more left) in
    longest_from Name first bytes after
    (first, bytes, refl, nondigit, prefix_passes is_name_byte rest)
    (longer_name first rest)
    (no_number first bytes after (nondigit_no_number first nondigit))
    (λ more left e h. absurd ((unquoted (bytes ++ more) left (front more left e)).0 h))
    (λ more left e h. absurd ((unquoted (bytes ++ more) left (front more left e)).1 h))
    (no_mark first bytes after (λ more. unmarked first (bytes ++ more) (nondigit_no_mark first nondigit)))

digit_continues : (before byte : ℕ) → is_digit byte ≡ true → continues_number before byte ≡ true
digit_continues before byte h =
    let signed = is_exponent before && is_sign byte in
    or_left (is_name_byte byte || (byte == 46)) signed (or_left (is_name_byte byte) (byte == 46) (digit_is_name_byte byte h))

-- what is a number goes on from its first byte
pub number_goes_on : (first : ℕ) (more : List ℕ) → is_number (first ∷ more) ≡ true → all_continue first more ≡ true
number_goes_on first [] h = refl
number_goes_on first (second ∷ bytes) h =
    ⊎_elim
    (λ digit. digit.1)
    (λ dot. and_from (continues_number first second) (all_continue second bytes) (digit_continues first second dot.1) dot.2)
    (number_cases first second bytes h)

-- a digit, or a dot before a digit
abbrev pub begins : ℕ → ℕ → Bool
begins first second = is_digit first || ((first == 46) && is_digit second)

begins_cases : (first second : ℕ) → begins first second ≡ true → (is_digit first ≡ true) ⊎ (((first == 46) ≡ true) × (is_digit second ≡ true))
begins_cases first second h =
    ⊎_elim
    (λ e. inl e)
    (λ e. inr (and_parts (first == 46) (is_digit second) e))
    (or_cases (is_digit first) ((first == 46) && is_digit second) h)

-- no longer front of the rest goes on
abbrev pub GoesNoFurther : ℕ → List ℕ → ℕ → Type 0
GoesNoFurther first rest count =
    (more after : List ℕ) → drop count rest ≡ more ++ after → all_continue first (take count rest ++ more) ≡ true → more ≡ []

-- what goes on from a digit, or from a dot and a digit, is a number
number_from : (first : ℕ) (rest : List ℕ) (count : ℕ) → begins first (get_or rest 0 0) ≡ true → all_continue first (take count rest) ≡ true → GoesNoFurther first rest count → is_number (first ∷ take count rest) ≡ true
number_from first [] zero h goes longest =
    ⊎_elim (λ digit. digit) (λ dot. absurd (false≢true dot.1)) (begins_cases first 0 h)
number_from first [] (suc count) h goes longest =
    ⊎_elim (λ digit. digit) (λ dot. absurd (false≢true dot.1)) (begins_cases first 0 h)
number_from first (second ∷ bytes) zero h goes longest =
    ⊎_elim
    (λ digit. digit)
    (λ dot.
    let further : second ∷ [] ≡ [] = longest (second ∷ []) bytes refl (and_from (continues_number first second) true (digit_continues first second dot.1) refl) in
    absurd cc)
    (begins_cases first second h)
number_from first (second ∷ bytes) (suc count) h goes longest =
    let more = take count bytes in
    let digits = is_digit first && all_continue first (second ∷ more) in
    let dotted = (first == 46) && is_digit second && all_continue second more in
    ⊎_elim
    (λ digit. or_left digits dotted (and_from (is_digit first) (all_continue first (second ∷ more)) digit goes))
    (λ dot. or_right digits dotted (and_from ((first == 46) && is_digit second) (all_continue second more) (and_from (first == 46) (is_digit second) dot.0 dot.1) (and_parts (continues_number first second) (all_continue second more) goes).1))
    (begins_cases first second h)

-- what goes on from a digit, or a dot and a digit, is no punctuator
number_no_longer_mark : (first : ℕ) (rest : List ℕ) (count : ℕ) → begins first (get_or rest 0 0) ≡ true → all_continue first (take count rest) ≡ true → GoesNoFurther first rest count → NoLonger Punct first (take count rest) (drop count rest)
number_no_longer_mark first rest count h goes longest =
    no_mark first (take count rest) (drop count rest) (λ more. apart (take count rest) more (number_from first rest count h goes longest))
  where
    apart : (bytes more : List ℕ) → is_number (first ∷ bytes) ≡ true → is_punctuator (first ∷ (bytes ++ more)) ≡ false
    apart [] more h = unmarked first more (digit_no_mark first h)
    apart (second ∷ bytes) more h =
        ⊎_elim
        (λ digit. unmarked first (second ∷ (bytes ++ more)) (digit_no_mark first digit.0))
        (λ dot. ap (λ b. is_punctuator (b ∷ second ∷ (bytes ++ more))) (eqb-true first 46 dot.0) ∙ dot_digit second (bytes ++ more) dot.1)
        (number_cases first second bytes h)

pub longest_number : (first : ℕ) (rest : List ℕ) (count : ℕ) → is_nondigit first ≡ false → begins first (get_or rest 0 0) ≡ true → all_continue first (take count rest) ≡ true → GoesNoFurther first rest count → IsLongest Number (first ∷ take count rest) (drop count rest)
longest_number first rest count nondigit h goes longest =
    let bytes = take count rest in
    let after = drop count rest in
    let number = number_from first rest count h goes longest in
    let starts = number_first first bytes number in
    longest_from Number first bytes after number
    (no_name first bytes after nondigit)
    (λ more rest e h. longest more rest e (number_goes_on first (bytes ++ more) h))
    (no_char first bytes after (λ e. false≢true (ap is_digit_or_dot (sym e) ∙ starts)) nondigit)
    (no_text first bytes after (λ e. false≢true (ap is_digit_or_dot (sym e) ∙ starts)) nondigit)
    (number_no_longer_mark first rest count h goes longest)

-- a byte that begins none of these is a token of its own
pub other_byte : (first second : ℕ) → is_blank first ≡ false → is_nondigit first ≡ false → begins first second ≡ false → (first ≡ 10 → ⊥) → is_punctuator (first ∷ []) ≡ false → is_other first ≡ true
other_byte first second blank nondigit number line punctuator = other_from first blank (no_name_byte first nondigit (or_parts (is_digit first) ((first == 46) && is_digit second) number).0) (ne_eqb first 10 line) punctuator

no_number_begins : (first : ℕ) (bytes after : List ℕ) → begins first (get_or (bytes ++ after) 0 0) ≡ false → NoLonger Number first bytes after
no_number_begins first bytes after stop more rest e h = absurd (never (bytes ++ more) rest (append_assoc bytes more rest ∙ ap (λ l. bytes ++ l) (sym e)) h)
  where
    never : (text rest : List ℕ) → text ++ rest ≡ bytes ++ after → is_number (first ∷ text) ≡ true → ⊥
    never [] rest e h = false≢true (sym (or_parts (is_digit first) ((first == 46) && is_digit (get_or (bytes ++ after) 0 0)) stop).0 ∙ h)
    never (second ∷ text) rest e h =
        let here : get_or (bytes ++ after) 0 0 ≡ second = ap (λ l. get_or l 0 0) (sym e) in
        let stops : begins first second ≡ false = ap (begins first) (sym here) ∙ stop in
        false≢true (sym stops ∙ ⊎_elim
        (λ digit. or_left (is_digit first) ((first == 46) && is_digit second) digit.0)
        (λ dot. or_right (is_digit first) ((first == 46) && is_digit second) (and_from (first == 46) (is_digit second) dot.0 dot.1))
        (number_cases first second text h))

pub longest_other : (first : ℕ) (rest : List ℕ) → is_other first ≡ true → is_nondigit first ≡ false → begins first (get_or rest 0 0) ≡ false → IsUnquoted first rest → ((more after : List ℕ) → rest ≡ more ++ after → is_punctuator (first ∷ more) ≡ false) → IsLongest Other (first ∷ []) rest
longest_other first rest other nondigit number unquoted unmarked =
    longest_from Other first [] rest
    (first, refl, other)
    (no_name first [] rest nondigit)
    (no_number_begins first [] rest number)
    (λ more after e h. absurd ((unquoted more after e).0 h))
    (λ more after e h. absurd ((unquoted more after e).1 h))
    (λ more after e h. absurd (false≢true (sym (unmarked more after e) ∙ h)))

-- a punctuator that is the longest of its kind
pub longest_mark : (first : ℕ) (rest : List ℕ) (count : ℕ) → is_nondigit first ≡ false → begins first (get_or rest 0 0) ≡ false → IsUnquoted first rest → is_punctuator (first ∷ take count rest) ≡ true → NoLonger Punct first (take count rest) (drop count rest) → IsLongest Punct (first ∷ take count rest) (drop count rest)
longest_mark first rest count nondigit number unquoted token longest =
    let bytes = take count rest in
    let after = drop count rest in
    let front : (more left : List ℕ) → after ≡ more ++ left → rest ≡ bytes ++ more ++ left =
    λ more left e. sym (take-append-drop count rest) ∙ ap (λ l. bytes ++ l) e ∙ sym (append_assoc bytes more left) in
    longest_from Punct first bytes after token
    (no_name first bytes after nondigit)
    (no_number_begins first bytes after (ap (λ l. begins first (get_or l 0 0)) (take-append-drop count rest) ∙ number))
    (λ more left e h. absurd ((unquoted (bytes ++ more) left (front more left e)).0 h))
    (λ more left e h. absurd ((unquoted (bytes ++ more) left (front more left e)).1 h))
    longest
