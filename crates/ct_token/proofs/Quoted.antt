-- Character constants and string literals, with an encoding prefix or without one.
use Rattle.std.proofs.Common.{◌≡◌, ◌≢◌, ℕ, suc, ◌+◌, ◌<◌, true, false, List, [], ◌∷◌, ◌++◌, length, get_or, take, drop, refl, sym, ap, ◌∙◌, subst, arith, length-append}
use Rattle.std.specs.Prelude.{All}
use Rattle.std.specs.List.{prefix_len}
use Rattle.std.proofs.lemmas.List.{append-nil, append_assoc, length-take, take_more}
use Rattle.std.proofs.lemmas.List.Elements.{recursion_from_All}
use Rattle.std.proofs.lemmas.Bool.{false≢true}
use Rattle.std.proofs.Math.Seq.{take-append-add, drop-append-add}
use Rattle.ct_base.specs.declared.lexical.TokenKind.{TokenKind}
use Rattle.ct_base.specs.declared.lexical.TokenKind.TheVariants.{Name, Number, Char, Text, Punct, Other, Line}
use Rattle.ct_base.specs.Bytes.{is_nondigit, is_name_byte}
use Rattle.ct_token.specs.Bytes.{is_quote}
use Rattle.ct_token.specs.Lexing.{is_punctuator, is_number, is_prefix, is_inside, IsQuoted, IsToken, IsLongest}
use Rattle.ct_token.proofs.Lists.{prefix_stops, prefix_passes}
use Rattle.ct_token.proofs.Bytes.{is_digit_or_dot, nondigit_no_number}
use Rattle.ct_token.proofs.Prefixes.{NameByte, Leads, prefix_leads, same_prefix, no_quote_in_name, quoted_behind}
use Rattle.ct_token.proofs.Longest.{number_first, IsUnquoted}
use Rattle.ct_token.proofs.Punctuators.{nondigit_no_mark, quote_no_mark, unmarked}
use Rattle.ct_token.proofs.Inside.{same_inside}

-- what follows a quoted text, behind the first of its quotes
regroup : (quote : ℕ) (prefix plain more : List ℕ) → prefix ++ (quote ∷ plain ++ quote ∷ []) ++ more ≡ prefix ++ quote ∷ (plain ++ quote ∷ more)
regroup quote prefix plain more =
    append_assoc prefix (quote ∷ plain ++ quote ∷ []) more ∙ ap (λ l. prefix ++ quote ∷ l) (append_assoc plain (quote ∷ []) more)

-- it is no longer a name, a number or a single byte
no_name : (quote : ℕ) (prefix bytes : List ℕ) → is_name_byte quote ≡ false → IsToken Name (prefix ++ quote ∷ bytes) → ⊥
no_name quote prefix bytes apart h =
    no_quote_in_name (h.0 ∷ h.1) prefix quote bytes (h.3, recursion_from_All NameByte h.1 h.4) apart (sym h.2)

no_number : (quote : ℕ) (prefix bytes : List ℕ) → Leads prefix → is_digit_or_dot quote ≡ false → is_number (prefix ++ quote ∷ bytes) ≡ true → ⊥
no_number quote [] bytes leads apart h = false≢true (sym apart ∙ number_first quote bytes h)
no_number quote (p ∷ ps) bytes leads apart h =
    false≢true (sym (nondigit_no_number p leads.0) ∙ number_first p (ps ++ quote ∷ bytes) h)

no_mark : (quote : ℕ) (prefix bytes : List ℕ) → Leads prefix → is_quote quote ≡ true → is_punctuator (prefix ++ quote ∷ bytes) ≡ true → ⊥
no_mark quote [] bytes leads is h = false≢true (sym (unmarked quote bytes (quote_no_mark quote is)) ∙ h)
no_mark quote (p ∷ ps) bytes leads is h =
    false≢true (sym (unmarked p (ps ++ quote ∷ bytes) (nondigit_no_mark p leads.0)) ∙ h)

no_single : (quote byte : ℕ) (prefix plain more : List ℕ) → prefix ++ quote ∷ (plain ++ quote ∷ more) ≡ byte ∷ [] → ⊥
no_single quote byte prefix plain more h =
    let e : length (prefix ++ quote ∷ (plain ++ quote ∷ more)) ≡ 1 = ap length h in
    omega (arith, e, length-append prefix (quote ∷ (plain ++ quote ∷ more)), length-append plain (quote ∷ more))

-- and what has the same quotes ends at the same one
no_longer : (quote : ℕ) (prefix inside inside' more : List ℕ) → is_quote quote ≡ true → is_name_byte quote ≡ false → Leads prefix → is_inside quote inside ≡ true → IsQuoted quote inside' (prefix ++ quote ∷ (inside ++ quote ∷ more)) → more ≡ []
no_longer quote prefix inside inside' more is apart leads all h =
    let behind = quoted_behind quote quote prefix inside' (inside ++ quote ∷ more) apart apart leads h in
    let same = same_inside quote inside inside' more [] is all h.3 behind.2 in
    same.1

longest_quoted : (kind : TokenKind) (quote : ℕ) (prefix plain after : List ℕ) → is_quote quote ≡ true → is_name_byte quote ≡ false → is_digit_or_dot quote ≡ false → Leads prefix → IsToken kind (prefix ++ (quote ∷ plain ++ quote ∷ [])) → ((more : List ℕ) → IsToken Char (prefix ++ quote ∷ (plain ++ quote ∷ more)) → more ≡ []) → ((more : List ℕ) → IsToken Text (prefix ++ quote ∷ (plain ++ quote ∷ more)) → more ≡ []) → IsLongest kind (prefix ++ (quote ∷ plain ++ quote ∷ [])) after
longest_quoted kind quote prefix plain after is apart apart' leads token char text =
    record {
      token = token;
      longest = λ other more rest e h.
          elim other as (λ k. IsToken k (prefix ++ quote ∷ (plain ++ quote ∷ more)) → more ≡ []) [
            | Name ↦ λ h. absurd (no_name quote prefix (plain ++ quote ∷ more) apart h)
            | Number ↦ λ h. absurd (no_number quote prefix (plain ++ quote ∷ more) leads apart' h)
            | Char ↦ λ h. char more h
            | Text ↦ λ h. text more h
            | Punct ↦ λ h. absurd (no_mark quote prefix (plain ++ quote ∷ more) leads is h)
            | Other ↦ λ h. absurd (no_single quote h.0 prefix plain more h.1)
            | Line ↦ λ h. absurd (no_single quote 10 prefix plain more h)
          ] (subst (IsToken other) (regroup quote prefix plain more) h);
    }

quoted_char : (prefix plain after : List ℕ) → is_prefix 39 prefix ≡ true → plain ≢ [] → is_inside 39 plain ≡ true → IsLongest Char (prefix ++ (39 ∷ plain ++ 39 ∷ [])) after
quoted_char prefix plain after is some all =
    let leads = prefix_leads 39 prefix is in
    longest_quoted Char 39 prefix plain after refl refl refl leads
    (plain, some, (prefix, is, refl, all))
    (λ more h. no_longer 39 prefix plain h.0 more refl refl leads all h.2)
    (λ more h. let other = (quoted_behind 39 34 prefix h.0 (plain ++ 39 ∷ more) refl refl leads h.1).1 in absurd (omega (arith, other)))

quoted_text : (prefix plain after : List ℕ) → is_prefix 34 prefix ≡ true → is_inside 34 plain ≡ true → IsLongest Text (prefix ++ (34 ∷ plain ++ 34 ∷ [])) after
quoted_text prefix plain after is all =
    let leads = prefix_leads 34 prefix is in
    longest_quoted Text 34 prefix plain after refl refl refl leads
    (plain, (prefix, is, refl, all))
    (λ more h. let other = (quoted_behind 34 39 prefix h.0 (plain ++ 34 ∷ more) refl refl leads h.2).1 in absurd (omega (arith, other)))
    (λ more h. no_longer 34 prefix plain h.0 more refl refl leads all h.1)

-- what may stand inside, and then the quote
abbrev pub IsClosed : ℕ → List ℕ → ℕ → Type 0
IsClosed quote rest count =
    (count < length rest) × (get_or rest count 0 ≡ quote) × (is_inside quote (take count rest) ≡ true)

-- behind each encoding prefix, the quote and so many bytes are the longest token
abbrev pub IsLongestBehind : TokenKind → ℕ → List ℕ → ℕ → Type 0
IsLongestBehind kind quote rest count =
    (prefix : List ℕ) → is_prefix quote prefix ≡ true → IsLongest kind (prefix ++ (quote ∷ take count rest)) (drop count rest)

-- the bytes up to the quote, and the quote
up_to_quote : (quote : ℕ) (rest : List ℕ) (count : ℕ) → IsClosed quote rest count → quote ∷ take (count + 1) rest ≡ quote ∷ take count rest ++ quote ∷ []
up_to_quote quote rest count h =
    ap (λ l. quote ∷ l) (take_more rest count 0 h.0 ∙ ap (λ q. take count rest ++ q ∷ []) h.1)

text_at : (rest : List ℕ) (count : ℕ) → IsClosed 34 rest count → IsLongestBehind Text 34 rest (count + 1)
text_at rest count h prefix is =
    subst (λ text. IsLongest Text (prefix ++ text) (drop (count + 1) rest)) (sym (up_to_quote 34 rest count h)) (quoted_text prefix (take count rest) (drop (count + 1) rest) is h.2)

pub longest_text : (quote : ℕ) (rest : List ℕ) (count : ℕ) → 34 ≡ quote → IsClosed quote rest count → IsLongestBehind Text quote rest (count + 1)
longest_text quote rest count is =
    subst (λ q. IsClosed q rest count → IsLongestBehind Text q rest (count + 1)) is (text_at rest count)

char_at : (rest : List ℕ) (count : ℕ) → 0 < count → IsClosed 39 rest count → IsLongestBehind Char 39 rest (count + 1)
char_at rest count some h prefix is =
    let plain : take count rest ≢ [] = λ none. let e = ap length none in omega (arith, length-take count rest, h.0) in
    subst (λ text. IsLongest Char (prefix ++ text) (drop (count + 1) rest)) (sym (up_to_quote 39 rest count h)) (quoted_char prefix (take count rest) (drop (count + 1) rest) is plain h.2)

pub longest_char : (quote : ℕ) (rest : List ℕ) (count : ℕ) → 39 ≡ quote → 0 < count → IsClosed quote rest count → IsLongestBehind Char quote rest (count + 1)
longest_char quote rest count is some =
    subst (λ q. IsClosed q rest count → IsLongestBehind Char q rest (count + 1)) is (char_at rest count some)

-- behind no encoding prefix do the quote and the text begin a character constant or a string literal
abbrev pub IsUnquotedBehind : ℕ → List ℕ → Type 0
IsUnquotedBehind quote rest =
    (prefix more after : List ℕ) → is_prefix quote prefix ≡ true → rest ≡ more ++ after → (IsToken Char (prefix ++ (quote ∷ more)) → ⊥) × (IsToken Text (prefix ++ (quote ∷ more)) → ⊥)

-- where what stands behind the quote is closed for neither kind
unquoted_from : (quote : ℕ) (rest : List ℕ) → is_name_byte quote ≡ false → ((plain after : List ℕ) → quote ≡ 39 → plain ≢ [] → rest ≡ plain ++ 39 ∷ [] ++ after → is_inside 39 plain ≡ true → ⊥) → ((plain after : List ℕ) → quote ≡ 34 → rest ≡ plain ++ 34 ∷ [] ++ after → is_inside 34 plain ≡ true → ⊥) → IsUnquotedBehind quote rest
unquoted_from quote rest apart char text prefix more after is e = (
  λ h. let behind = quoted_behind quote 39 prefix h.0 more apart refl (prefix_leads quote prefix is) h.2 in
      char h.0 after behind.1 h.1 (e ∙ ap (λ l. l ++ after) behind.2) h.2.3,
  λ h. let behind = quoted_behind quote 34 prefix h.0 more apart refl (prefix_leads quote prefix is) h.1 in
      text h.0 after behind.1 (e ∙ ap (λ l. l ++ after) behind.2) h.1.3,
)

-- a byte that is no quote
pub other_unquoted : (quote : ℕ) (rest : List ℕ) → is_name_byte quote ≡ false → (quote ≡ 34 → ⊥) → (quote ≡ 39 → ⊥) → IsUnquotedBehind quote rest
other_unquoted quote rest apart text char =
    unquoted_from quote rest apart (λ plain after is some e all. char is) (λ plain after is e all. text is)

-- a quote that is not closed
pub open_unquoted : (quote : ℕ) (rest : List ℕ) → is_name_byte quote ≡ false → ((plain after : List ℕ) → rest ≡ plain ++ quote ∷ after → is_inside quote plain ≡ true → ⊥) → IsUnquotedBehind quote rest
open_unquoted quote rest apart unclosed =
    unquoted_from quote rest apart
    (λ plain after is some e all. never 39 is plain after e all)
    (λ plain after is e all. never 34 is plain after e all)
  where
    never : (other : ℕ) → quote ≡ other → (plain after : List ℕ) → rest ≡ plain ++ other ∷ [] ++ after → is_inside other plain ≡ true → ⊥
    never other is plain after e all =
        unclosed plain after (e ∙ append_assoc plain (other ∷ []) after ∙ ap (λ q. plain ++ q ∷ after) (sym is)) (ap (λ q. is_inside q plain) is ∙ all)

-- two of the quotes of a character constant with nothing between them
pub empty_unquoted : (quote : ℕ) (rest : List ℕ) (count : ℕ) → 39 ≡ quote → count ≡ 0 → IsClosed quote rest count → IsUnquotedBehind quote rest
empty_unquoted quote rest count is none h =
    unquoted_from quote rest (ap is_name_byte (sym is))
    (λ plain after same some e all. not_empty plain after some all (ap (λ l. get_or l 0 0) (sym e) ∙ ap (λ n. get_or rest n 0) (sym none) ∙ h.1 ∙ sym is))
    (λ plain after same e all. omega (arith, is, same))
  where
    no_quote : (ps : List ℕ) → is_inside 39 (39 ∷ ps) ≡ false
    no_quote [] = refl
    no_quote (p ∷ ps) = refl

    not_empty : (plain after : List ℕ) → plain ≢ [] → is_inside 39 plain ≡ true → get_or (plain ++ 39 ∷ [] ++ after) 0 0 ≡ 39 → ⊥
    not_empty [] after some all quote = some refl
    not_empty (p ∷ ps) after some all quote =
        false≢true (sym (no_quote ps) ∙ ap (λ b. is_inside 39 (b ∷ ps)) (sym quote) ∙ all)

-- the bytes of a name
name_leads : (first : ℕ) (rest name : List ℕ) → is_nondigit first ≡ true → name ≡ take (prefix_len is_name_byte rest) rest → Leads (first ∷ name)
name_leads first rest name nondigit front =
    (nondigit, recursion_from_All NameByte name (subst (All NameByte) (sym front) (prefix_passes is_name_byte rest)))

-- a name behind which nothing stands
pub alone_unquoted : (first : ℕ) (rest name behind : List ℕ) → is_nondigit first ≡ true → name ≡ take (prefix_len is_name_byte rest) rest → rest ≡ name ++ behind → behind ≡ [] → IsUnquoted first rest
alone_unquoted first rest name behind nondigit front parts none more after e = (
  λ h. never 39 h.0 refl h.2,
  λ h. never 34 h.0 refl h.1,
)
  where
    leads : Leads (first ∷ name)
    leads = name_leads first rest name nondigit front

    whole : (more ++ after) ≡ name
    whole = sym e ∙ parts ∙ ap (λ l. name ++ l) none ∙ append-nil name

    never : (quote : ℕ) (plain : List ℕ) → is_name_byte quote ≡ false → IsQuoted quote plain (first ∷ more) → ⊥
    never quote plain apart h =
        no_quote_in_name (first ∷ name) h.0 quote (plain ++ quote ∷ [] ++ after) leads apart
        (ap (λ l. first ∷ l) (sym whole) ∙ ap (λ l. l ++ after) h.2 ∙ append_assoc h.0 (quote ∷ plain ++ quote ∷ []) after)

-- a name that is no encoding prefix of what the byte behind it begins
pub name_unquoted : (first : ℕ) (rest name inside : List ℕ) (quote : ℕ) → is_nondigit first ≡ true → name ≡ take (prefix_len is_name_byte rest) rest → is_name_byte quote ≡ false → rest ≡ name ++ (quote ∷ inside) → is_prefix quote (first ∷ name) ≡ false → IsUnquoted first rest
name_unquoted first rest name inside quote nondigit front apart parts other more after e = (
  λ h. never 39 h.0 refl h.2,
  λ h. never 34 h.0 refl h.1,
)
  where
    leads : Leads (first ∷ name)
    leads = name_leads first rest name nondigit front

    never : (mark : ℕ) (plain : List ℕ) → is_name_byte mark ≡ false → IsQuoted mark plain (first ∷ more) → ⊥
    never mark plain apart' h =
        let whole : (first ∷ name) ++ quote ∷ inside ≡ h.0 ++ mark ∷ (plain ++ mark ∷ [] ++ after) =
        ap (λ l. first ∷ l) (sym parts ∙ e) ∙ ap (λ l. l ++ after) h.2 ∙ append_assoc h.0 (mark ∷ plain ++ mark ∷ []) after in
        let same = same_prefix (first ∷ name) h.0 quote mark inside (plain ++ mark ∷ [] ++ after) leads (prefix_leads mark h.0 h.1) apart apart' whole in
        let prefix : is_prefix mark h.0 ≡ is_prefix quote (first ∷ name) =
        λ i. is_prefix (sym same.1 i) (sym same.0 i) in
        false≢true (sym other ∙ sym prefix ∙ h.1)

-- an encoding prefix behind which nothing is quoted
pub prefix_unquoted : (first : ℕ) (rest name inside : List ℕ) (quote : ℕ) → is_nondigit first ≡ true → name ≡ take (prefix_len is_name_byte rest) rest → is_name_byte quote ≡ false → rest ≡ name ++ (quote ∷ inside) → is_prefix quote (first ∷ name) ≡ true → IsUnquotedBehind quote inside → IsUnquoted first rest
prefix_unquoted first rest name inside quote nondigit front apart parts is unquoted more after e = (
  λ h. let same = behind 39 h.0 refl h.2 in
      (unquoted (first ∷ name) same.0 after is same.2).0 (subst (IsToken Char) same.1 h),
  λ h. let same = behind 34 h.0 refl h.1 in
      (unquoted (first ∷ name) same.0 after is same.2).1 (subst (IsToken Text) same.1 h),
)
  where
    leads : Leads (first ∷ name)
    leads = name_leads first rest name nondigit front

    behind : (mark : ℕ) (plain : List ℕ) → is_name_byte mark ≡ false → IsQuoted mark plain (first ∷ more) → (inner : List ℕ) × (first ∷ more ≡ (first ∷ name) ++ (quote ∷ inner)) × (inside ≡ inner ++ after)
    behind mark plain apart' h =
        let whole : (first ∷ name) ++ quote ∷ inside ≡ h.0 ++ mark ∷ (plain ++ mark ∷ [] ++ after) =
        ap (λ l. first ∷ l) (sym parts ∙ e) ∙ ap (λ l. l ++ after) h.2 ∙ append_assoc h.0 (mark ∷ plain ++ mark ∷ []) after in
        let same = same_prefix (first ∷ name) h.0 quote mark inside (plain ++ mark ∷ [] ++ after) leads (prefix_leads mark h.0 h.1) apart apart' whole in
        (plain ++ mark ∷ [], h.2 ∙ (λ i. sym same.0 i ++ (sym same.1 i ∷ (plain ++ mark ∷ []))), same.2)

-- the token behind a prefix, counted from the prefix's first byte
pub longest_prefixed : (kind : TokenKind) (first : ℕ) (rest name inside : List ℕ) (quote count : ℕ) → rest ≡ name ++ (quote ∷ inside) → is_prefix quote (first ∷ name) ≡ true → IsLongestBehind kind quote inside count → IsLongest kind (first ∷ take (length name + 1 + count) rest) (drop (length name + 1 + count) rest)
longest_prefixed kind first rest name inside quote count parts is h =
    let total : length name + 1 + count ≡ length name + suc count = omega arith in
    let front : take (length name + 1 + count) rest ≡ name ++ (quote ∷ take count inside) =
    ap (λ n. take n rest) total ∙ ap (λ l. take (length name + suc count) l) parts ∙ take-append-add name (quote ∷ inside) (suc count) in
    let back : drop (length name + 1 + count) rest ≡ drop count inside =
    ap (λ n. drop n rest) total ∙ ap (λ l. drop (length name + suc count) l) parts ∙ drop-append-add name (quote ∷ inside) (suc count) in
    subst (λ l. IsLongest kind (first ∷ l) (drop (length name + 1 + count) rest)) (sym front)
    (subst (λ l. IsLongest kind ((first ∷ name) ++ (quote ∷ take count inside)) l) (sym back) (h (first ∷ name) is))

-- the byte behind a name is no part of it
pub behind_name : (rest behind inside : List ℕ) (quote : ℕ) → behind ≡ drop (prefix_len is_name_byte rest) rest → behind ≡ quote ∷ inside → is_name_byte quote ≡ false
behind_name rest behind inside quote back parts =
    prefix_stops is_name_byte rest quote inside (sym back ∙ parts)
