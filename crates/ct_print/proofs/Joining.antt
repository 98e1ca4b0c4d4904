-- A text in which no line is joined to the next, and which has no carriage return right before a new-line.
use Rattle.std.proofs.Common.{◌≡◌, ℕ, suc, ◌+◌, ◌≤◌, Bool, true, false, not, ◌&&◌, List, [], ◌∷◌, ◌++◌, length, map, refl, sym, ap, ◌∙◌, subst, ◌⊎◌, inl, inr, ⊎_elim, arith}
use Rattle.std.specs.Prelude.{◌==◌}
use Rattle.std.proofs.lemmas.Bool.{cases_Bool, and_parts, and_from, and_right, not_from_false, not-true, false≢true, cond-true, cond-false}
use Rattle.ct_token.specs.Bytes.{is_newline}
use Rattle.ct_token.specs.Lines.{newlines, Placed, placed, source_characters, joined, joined_bytes}

-- no such byte stands right before a new-line
abbrev pub no_pair : ℕ → List ℕ → Bool
no_pair mark [] = true
no_pair mark (byte ∷ []) = true
no_pair mark (byte ∷ next ∷ text) = not ((byte == mark) && is_newline next) && no_pair mark (next ∷ text)

-- where it is no backslash, the text is the one with joined lines
pub joined_same : (line : ℕ) (text : List ℕ) → no_pair 92 text ≡ true → map (λ (at : Placed). at.byte) (joined line text) ≡ text
joined_same line [] h = refl
joined_same line (byte ∷ []) h = refl
joined_same line (byte ∷ next ∷ text) h =
    let p = and_parts (not ((byte == 92) && is_newline next)) (no_pair 92 (next ∷ text)) h in
    ap (map (λ (at : Placed). at.byte))
    (cond-false ((byte == 92) && is_newline next) (joined (line + 1) text) (placed byte line ∷ joined (line + newlines (byte ∷ [])) (next ∷ text)) (not-true ((byte == 92) && is_newline next) p.0))
    ∙ ap (λ l. byte ∷ l) (joined_same (line + newlines (byte ∷ [])) (next ∷ text) p.1)

-- joined lines are no longer than the text
pub joined_length : (line : ℕ) (text : List ℕ) → length (joined line text) ≤ length text
joined_length line [] = omega arith
joined_length line (byte ∷ []) = omega arith
joined_length line (byte ∷ next ∷ text) =
    ⊎_elim
    (λ e. let a = joined_length (line + 1) text in
    let b = ap (length {A = Placed}) (cond-true ((byte == 92) && is_newline next) (joined (line + 1) text) (placed byte line ∷ joined (line + newlines (byte ∷ [])) (next ∷ text)) e) in
    omega (arith, a, b))
    (λ e. let a = joined_length (line + newlines (byte ∷ [])) (next ∷ text) in
    let b = ap (length {A = Placed}) (cond-false ((byte == 92) && is_newline next) (joined (line + 1) text) (placed byte line ∷ joined (line + newlines (byte ∷ [])) (next ∷ text)) e) in
    omega (arith, a, b))
    (cases_Bool ((byte == 92) && is_newline next))

-- and shorter where two are joined
pub length_tells : (line : ℕ) (text : List ℕ) → length text ≤ length (joined line text) → no_pair 92 text ≡ true
length_tells line [] h = refl
length_tells line (byte ∷ []) h = refl
length_tells line (byte ∷ next ∷ text) h =
    ⊎_elim
    (λ e. let a = joined_length (line + 1) text in
    let b = ap (length {A = Placed}) (cond-true ((byte == 92) && is_newline next) (joined (line + 1) text) (placed byte line ∷ joined (line + newlines (byte ∷ [])) (next ∷ text)) e) in
    absurd (omega (arith, a, b, h)))
    (λ e. let b = ap (length {A = Placed}) (cond-false ((byte == 92) && is_newline next) (joined (line + 1) text) (placed byte line ∷ joined (line + newlines (byte ∷ [])) (next ∷ text)) e) in
    and_from (not ((byte == 92) && is_newline next)) (no_pair 92 (next ∷ text)) (not_from_false ((byte == 92) && is_newline next) e)
    (length_tells (line + newlines (byte ∷ [])) (next ∷ text) (omega (arith, b, h))))
    (cases_Bool ((byte == 92) && is_newline next))

-- where it is no carriage return, the characters of the text are its bytes
pub source_same : (text : List ℕ) → no_pair 13 text ≡ true → source_characters text ≡ text
source_same [] h = refl
source_same (byte ∷ []) h = refl
source_same (byte ∷ next ∷ text) h =
    let p = and_parts (not ((byte == 13) && is_newline next)) (no_pair 13 (next ∷ text)) h in
    cond-false ((byte == 13) && is_newline next) (source_characters (next ∷ text)) (byte ∷ source_characters (next ∷ text)) (not-true ((byte == 13) && is_newline next) p.0)
    ∙ ap (λ l. byte ∷ l) (source_same (next ∷ text) p.1)

-- they are no longer than the text
pub source_length : (text : List ℕ) → length (source_characters text) ≤ length text
source_length [] = omega arith
source_length (byte ∷ []) = omega arith
source_length (byte ∷ next ∷ text) =
    let a = source_length (next ∷ text) in
    ⊎_elim
    (λ e. let b = ap (length {A = ℕ}) (cond-true ((byte == 13) && is_newline next) (source_characters (next ∷ text)) (byte ∷ source_characters (next ∷ text)) e) in
    omega (arith, a, b))
    (λ e. let b = ap (length {A = ℕ}) (cond-false ((byte == 13) && is_newline next) (source_characters (next ∷ text)) (byte ∷ source_characters (next ∷ text)) e) in
    omega (arith, a, b))
    (cases_Bool ((byte == 13) && is_newline next))

-- and fewer where there is one
pub source_tells : (text : List ℕ) → length text ≤ length (source_characters text) → no_pair 13 text ≡ true
source_tells [] h = refl
source_tells (byte ∷ []) h = refl
source_tells (byte ∷ next ∷ text) h =
    ⊎_elim
    (λ e. let a = source_length (next ∷ text) in
    let b = ap (length {A = ℕ}) (cond-true ((byte == 13) && is_newline next) (source_characters (next ∷ text)) (byte ∷ source_characters (next ∷ text)) e) in
    absurd (omega (arith, a, b, h)))
    (λ e. let b = ap (length {A = ℕ}) (cond-false ((byte == 13) && is_newline next) (source_characters (next ∷ text)) (byte ∷ source_characters (next ∷ text)) e) in
    and_from (not ((byte == 13) && is_newline next)) (no_pair 13 (next ∷ text)) (not_from_false ((byte == 13) && is_newline next) e)
    (source_tells (next ∷ text) (omega (arith, b, h))))
    (cases_Bool ((byte == 13) && is_newline next))

-- ---- texts with gaps

-- a byte that is none behind which a gap stands, and none of a gap
pub record IsApart (mark : ℕ) : Type 0 where
  pub newline : (10 == mark) ≡ false
  pub space : (32 == mark) ≡ false
  pub semicolon : (59 == mark) ≡ false
  pub open_brace : (123 == mark) ≡ false
  pub close_brace : (125 == mark) ≡ false

pub backslash_apart : IsApart 92
backslash_apart = record { newline = refl; space = refl; semicolon = refl; open_brace = refl; close_brace = refl }

pub return_apart : IsApart 13
return_apart = record { newline = refl; space = refl; semicolon = refl; open_brace = refl; close_brace = refl }

other_before : (mark byte : ℕ) (text : List ℕ) → (byte == mark) ≡ false → no_pair mark text ≡ true → no_pair mark (byte ∷ text) ≡ true
other_before mark byte [] apart h = refl
other_before mark byte (next ∷ text) apart h =
    and_from (not ((byte == mark) && is_newline next)) (no_pair mark (next ∷ text)) (not_from_false ((byte == mark) && is_newline next) (ap (λ b. b && is_newline next) apart)) h

-- a text, a space and a text
pub no_pair_space : (mark : ℕ) (front rest : List ℕ) → IsApart mark → no_pair mark front ≡ true → no_pair mark rest ≡ true → no_pair mark (front ++ 32 ∷ rest) ≡ true
no_pair_space mark [] rest apart h k = other_before mark 32 rest apart.space k
no_pair_space mark (byte ∷ []) rest apart h k =
    and_from (not ((byte == mark) && is_newline 32)) (no_pair mark (32 ∷ rest)) (not_from_false ((byte == mark) && is_newline 32) (and_right (byte == mark) (is_newline 32) refl))
    (other_before mark 32 rest apart.space k)
no_pair_space mark (byte ∷ next ∷ front) rest apart h k =
    let p = and_parts (not ((byte == mark) && is_newline next)) (no_pair mark (next ∷ front)) h in
    and_from (not ((byte == mark) && is_newline next)) (no_pair mark (next ∷ front ++ 32 ∷ rest)) p.0 (no_pair_space mark (next ∷ front) rest apart p.1 k)

-- a byte that is another one, a new-line and a text
pub no_pair_newline : (mark byte : ℕ) (rest : List ℕ) → IsApart mark → (byte == mark) ≡ false → no_pair mark rest ≡ true → no_pair mark (byte ∷ 10 ∷ rest) ≡ true
no_pair_newline mark byte rest apart other k =
    other_before mark byte (10 ∷ rest) other (other_before mark 10 rest apart.newline k)
