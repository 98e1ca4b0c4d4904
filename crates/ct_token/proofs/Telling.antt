-- The bytes of a token tell its kind, and its first byte is no white space.
use Rattle.std.proofs.Common.{◌≡◌, ℕ, true, false, cond, ◌||◌, List, [], ◌∷◌, ◌++◌, refl, sym, ap, ◌∙◌, ⊎_elim, arith}
use Rattle.std.specs.Prelude.{◌==◌}
use Rattle.std.specs.List.{AllByRecursion}
use Rattle.std.proofs.lemmas.List.{append-nil}
use Rattle.std.proofs.lemmas.List.Elements.{recursion_from_All}
use Rattle.std.proofs.lemmas.Bool.{false≢true, eqb-true, cond-true, cond-false, or_parts, not-true}
use Rattle.std.proofs.lemmas.Bool.Decides.{nat_tests}
use Rattle.ct_base.specs.declared.lexical.TokenKind.{TokenKind}
use Rattle.ct_base.specs.declared.lexical.TokenKind.TheVariants.{Name, Number, Char, Text, Punct, Other, Line}
use Rattle.ct_base.specs.Bytes.{is_digit, is_nondigit, is_name_byte}
use Rattle.ct_token.specs.Bytes.{is_newline, is_blank, is_quote}
use Rattle.ct_token.specs.Lexing.{is_punctuator, is_other, is_number, IsToken}
use Rattle.ct_token.proofs.Bytes.{is_digit_or_dot}
use Rattle.ct_token.proofs.Punctuators.{is_mark, begins_with_mark, nondigit_no_mark, quote_no_mark, unmarked, dot_digit}
use Rattle.ct_token.proofs.Longest.{number_cases, number_first, name_first}
use Rattle.ct_token.proofs.Prefixes.{NameByte, Leads, prefix_leads, name_bytes, quoted_first}

-- each token has a first byte
quoted_starts : (quote : ℕ) (prefix bytes : List ℕ) → (first : ℕ) × (more : List ℕ) × (prefix ++ quote ∷ bytes ≡ first ∷ more)
quoted_starts quote [] bytes = (quote, bytes, refl)
quoted_starts quote (p ∷ ps) bytes = (p, ps ++ quote ∷ bytes, refl)

pub starts : (kind : TokenKind) (text : List ℕ) → IsToken kind text → (first : ℕ) × (more : List ℕ) × (text ≡ first ∷ more)
starts Name text h = (h.0, h.1, h.2)
starts Number [] h = absurd (false≢true h)
starts Number (first ∷ more) h = (first, more, refl)
starts Char text h =
    let start = quoted_starts 39 h.2.0 (h.0 ++ 39 ∷ []) in (start.0, start.1, h.2.2 ∙ start.2)
starts Text text h =
    let start = quoted_starts 34 h.1.0 (h.0 ++ 34 ∷ []) in (start.0, start.1, h.1.2 ∙ start.2)
starts Punct [] h = absurd (false≢true h)
starts Punct (first ∷ more) h = (first, more, refl)
starts Other text h = (h.0, [], h.1)
starts Line text h = (10, [], h)

nondigit_no_blank : (b : ℕ) → is_nondigit b ≡ true → is_blank b ≡ false
nondigit_no_blank b h = grind (arith, nat_tests)

digit_or_dot_no_blank : (b : ℕ) → is_digit_or_dot b ≡ true → is_blank b ≡ false
digit_or_dot_no_blank b h = grind (arith, nat_tests)

mark_no_blank : (b : ℕ) → is_mark b ≡ true → is_blank b ≡ false
mark_no_blank b h = grind (arith, nat_tests)

other_parts : (b : ℕ) → is_other b ≡ true → (is_name_byte b ≡ false) × (is_newline b ≡ false) × (is_blank b ≡ false) × (is_punctuator (b ∷ []) ≡ false)
other_parts b h =
    let all = or_parts (is_name_byte b || is_newline b || is_blank b) (is_punctuator (b ∷ [])) (not-true (is_name_byte b || is_newline b || is_blank b || is_punctuator (b ∷ [])) h) in
    let three = or_parts (is_name_byte b || is_newline b) (is_blank b) all.0 in
    let two = or_parts (is_name_byte b) (is_newline b) three.0 in
    (two.0, two.1, three.1, all.1)

single_first : (first byte : ℕ) (more : List ℕ) → first ∷ more ≡ byte ∷ [] → byte ≡ first
single_first first byte more e = cc

-- which is not white space
pub not_blank : (kind : TokenKind) (first : ℕ) (more : List ℕ) → IsToken kind (first ∷ more) → is_blank first ≡ false
not_blank Name first more h = nondigit_no_blank first (name_first first more h)
not_blank Number first more h = digit_or_dot_no_blank first (number_first first more h)
not_blank Char first more h =
    ⊎_elim (λ quote. ap is_blank quote) (λ letter. nondigit_no_blank first letter) (quoted_first 39 h.0 first more h.2)
not_blank Text first more h =
    ⊎_elim (λ quote. ap is_blank quote) (λ letter. nondigit_no_blank first letter) (quoted_first 34 h.0 first more h.1)
not_blank Punct first more h = mark_no_blank first (begins_with_mark first more h)
not_blank Other first more h = ap is_blank (sym (single_first first h.0 more h.1)) ∙ (other_parts h.0 h.2).2
not_blank Line first more h = ap is_blank (sym (single_first first 10 more h))

-- the kind of a name or of what is quoted, by the first of the quotes
abbrev kind_by_quote : List ℕ → TokenKind
kind_by_quote [] = Name
kind_by_quote (byte ∷ bytes) = cond (byte == 39) Char (cond (byte == 34) Text (kind_by_quote bytes))

-- the kind, by the first byte and what more follow it
abbrev kind_alone : ℕ → List ℕ → TokenKind
kind_alone first [] = cond (is_nondigit first) Name Other
kind_alone first (byte ∷ bytes) = cond (first == 46) Number (kind_by_quote (first ∷ byte ∷ bytes))

abbrev kind_at : ℕ → List ℕ → TokenKind
kind_at first more =
    cond (is_digit first) Number (cond (is_newline first) Line (cond (is_punctuator (first ∷ more)) Punct (kind_alone first more)))

digit_kind : (first : ℕ) (more : List ℕ) → is_digit first ≡ true → kind_at first more ≡ Number
digit_kind first more h =
    cond-true (is_digit first) Number (cond (is_newline first) Line (cond (is_punctuator (first ∷ more)) Punct (kind_alone first more))) h

no_digit_kind : (first : ℕ) (more : List ℕ) → is_digit first ≡ false → is_newline first ≡ false → kind_at first more ≡ cond (is_punctuator (first ∷ more)) Punct (kind_alone first more)
no_digit_kind first more digit line =
    let marks = cond (is_punctuator (first ∷ more)) Punct (kind_alone first more) in
    cond-false (is_digit first) Number (cond (is_newline first) Line marks) digit ∙ cond-false (is_newline first) Line marks line

unmarked_kind : (first : ℕ) (more : List ℕ) → is_digit first ≡ false → is_newline first ≡ false → is_punctuator (first ∷ more) ≡ false → kind_at first more ≡ kind_alone first more
unmarked_kind first more digit line mark =
    no_digit_kind first more digit line ∙ cond-false (is_punctuator (first ∷ more)) Punct (kind_alone first more) mark

mark_no_digit : (b : ℕ) → is_mark b ≡ true → is_digit b ≡ false
mark_no_digit b h = grind (arith, nat_tests)

mark_no_newline : (b : ℕ) → is_mark b ≡ true → is_newline b ≡ false
mark_no_newline b h = grind (arith, nat_tests)

punctuator_kind : (first : ℕ) (more : List ℕ) → is_punctuator (first ∷ more) ≡ true → kind_at first more ≡ Punct
punctuator_kind first more h =
    let mark = begins_with_mark first more h in
    no_digit_kind first more (mark_no_digit first mark) (mark_no_newline first mark)
    ∙ cond-true (is_punctuator (first ∷ more)) Punct (kind_alone first more) h

name_byte_false : (b : ℕ) → is_name_byte b ≡ false → (is_nondigit b ≡ false) × (is_digit b ≡ false)
name_byte_false b h = or_parts (is_nondigit b) (is_digit b) h

other_kind : (first : ℕ) → is_other first ≡ true → kind_at first [] ≡ Other
other_kind first h =
    let parts = other_parts first h in
    let name = name_byte_false first parts.0 in
    unmarked_kind first [] name.1 parts.1 parts.3 ∙ cond-false (is_nondigit first) Name Other name.0

nondigit_no_digit : (b : ℕ) → is_nondigit b ≡ true → is_digit b ≡ false
nondigit_no_digit b h = grind (arith, nat_tests)

nondigit_no_newline : (b : ℕ) → is_nondigit b ≡ true → is_newline b ≡ false
nondigit_no_newline b h = grind (arith, nat_tests)

nondigit_alone : (first : ℕ) (more : List ℕ) → is_nondigit first ≡ true → kind_alone first more ≡ kind_by_quote (first ∷ more)
nondigit_alone first [] h = grind (arith, nat_tests)
nondigit_alone first (byte ∷ bytes) h = grind (arith, nat_tests)

nondigit_kind : (first : ℕ) (more : List ℕ) → is_nondigit first ≡ true → kind_at first more ≡ kind_by_quote (first ∷ more)
nondigit_kind first more h =
    unmarked_kind first more (nondigit_no_digit first h) (nondigit_no_newline first h) (unmarked first more (nondigit_no_mark first h)) ∙ nondigit_alone first more h

name_byte_goes_on : (byte : ℕ) (bytes : List ℕ) → is_name_byte byte ≡ true → kind_by_quote (byte ∷ bytes) ≡ kind_by_quote bytes
name_byte_goes_on byte bytes h = grind (arith, nat_tests)

-- the bytes of a name hold no quote
goes_on : (name bytes : List ℕ) → AllByRecursion NameByte name → kind_by_quote (name ++ bytes) ≡ kind_by_quote bytes
goes_on [] bytes all = refl
goes_on (byte ∷ name) bytes all = name_byte_goes_on byte (name ++ bytes) all.0 ∙ goes_on name bytes all.1

name_kind : (first : ℕ) (more : List ℕ) → is_nondigit first ≡ true → AllByRecursion NameByte more → kind_at first more ≡ Name
name_kind first more h all =
    nondigit_kind first more h ∙ ap kind_by_quote (sym (append-nil (first ∷ more))) ∙ goes_on (first ∷ more) [] (name_bytes (first ∷ more) (h, all))

number_kind : (first : ℕ) (more : List ℕ) → is_number (first ∷ more) ≡ true → kind_at first more ≡ Number
number_kind first [] h = digit_kind first [] h
number_kind first (second ∷ bytes) h =
    ⊎_elim
    (λ digit. digit_kind first (second ∷ bytes) digit.0)
    (λ dot. ap (λ b. kind_at b (second ∷ bytes)) (eqb-true first 46 dot.0) ∙ unmarked_kind 46 (second ∷ bytes) refl refl (dot_digit second bytes dot.1))
    (number_cases first second bytes h)

-- the kind of a list that has a first byte
abbrev kind_of : List ℕ → TokenKind
kind_of [] = Other
kind_of (first ∷ more) = kind_at first more

quote_kind : (quote : ℕ) (bytes : List ℕ) → is_quote quote ≡ true → is_digit quote ≡ false → is_newline quote ≡ false → kind_at quote bytes ≡ kind_alone quote bytes
quote_kind quote bytes is digit line = unmarked_kind quote bytes digit line (unmarked quote bytes (quote_no_mark quote is))

char_kind : (inside : List ℕ) → kind_at 39 (inside ++ 39 ∷ []) ≡ Char
char_kind [] = refl
char_kind (byte ∷ bytes) = quote_kind 39 (byte ∷ bytes ++ 39 ∷ []) refl refl refl

text_kind : (inside : List ℕ) → kind_at 34 (inside ++ 34 ∷ []) ≡ Text
text_kind [] = refl
text_kind (byte ∷ bytes) = quote_kind 34 (byte ∷ bytes ++ 34 ∷ []) refl refl refl

-- a prefix leaves the kind as it is
prefixed_kind : (quote : ℕ) (prefix bytes : List ℕ) → Leads prefix → kind_at quote bytes ≡ kind_by_quote (quote ∷ bytes) → kind_of (prefix ++ quote ∷ bytes) ≡ kind_by_quote (quote ∷ bytes)
prefixed_kind quote [] bytes leads bare = bare
prefixed_kind quote (p ∷ ps) bytes leads bare =
    nondigit_kind p (ps ++ quote ∷ bytes) leads.0 ∙ goes_on (p ∷ ps) (quote ∷ bytes) (name_bytes (p ∷ ps) leads)

kind_is : (kind : TokenKind) (text : List ℕ) → IsToken kind text → kind_of text ≡ kind
kind_is Name text h = ap kind_of h.2 ∙ name_kind h.0 h.1 h.3 (recursion_from_All NameByte h.1 h.4)
kind_is Number [] h = absurd (false≢true h)
kind_is Number (first ∷ more) h = number_kind first more h
kind_is Char text h =
    ap kind_of h.2.2 ∙ prefixed_kind 39 h.2.0 (h.0 ++ 39 ∷ []) (prefix_leads 39 h.2.0 h.2.1) (char_kind h.0)
kind_is Text text h =
    ap kind_of h.1.2 ∙ prefixed_kind 34 h.1.0 (h.0 ++ 34 ∷ []) (prefix_leads 34 h.1.0 h.1.1) (text_kind h.0)
kind_is Punct [] h = absurd (false≢true h)
kind_is Punct (first ∷ more) h = punctuator_kind first more h
kind_is Other text h = ap kind_of h.1 ∙ other_kind h.0 h.2
kind_is Line text h = ap kind_of h

pub same_kind : (k l : TokenKind) (s t : List ℕ) → IsToken k s → IsToken l t → s ≡ t → k ≡ l
same_kind k l s t one other e = sym (kind_is k s one) ∙ ap kind_of e ∙ kind_is l t other
