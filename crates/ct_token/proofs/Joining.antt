-- Lines that are joined one after another.
use Rattle.std.proofs.Common.{◌≡◌, ℕ, ◌+◌, ◌-◌, Bool, true, false, cond, ◌&&◌, List, [], ◌∷◌, ◌++◌, length, get_or, take, drop, map, refl, sym, ap, ◌∙◌, arith}
use Rattle.std.specs.Prelude.{◌==◌}
use Rattle.std.proofs.lemmas.List.{append_assoc, take_all}
use Rattle.std.proofs.lemmas.List.Sums.{sum_by-cons}
use Rattle.std.proofs.lemmas.Bool.Decides.{nat_tests}
use Rattle.std.proofs.lemmas.Bool.{and_parts, and_right, false≢true, cond-true, cond-false}
use Rattle.ct_token.specs.Bytes.{is_newline}
use Rattle.ct_token.specs.Lines.{newlines, Placed, placed, joined, joined_bytes, joined_lines}

-- a backslash right before a new-line
abbrev pub is_joint : ℕ → List ℕ → Bool
is_joint byte after = (byte == 92) && is_newline (get_or after 0 0)

pub joined_joint : (line byte : ℕ) (after more : List ℕ) (next : ℕ) → after ≡ next ∷ more → is_joint byte after ≡ true → joined line (byte ∷ after) ≡ joined (line + 1) more
joined_joint line byte after more next e h =
    ap (λ l. joined line (byte ∷ l)) e
    ∙ cond-true ((byte == 92) && is_newline next) (joined (line + 1) more) (placed byte line ∷ joined (line + newlines (byte ∷ [])) (next ∷ more)) (ap (is_joint byte) (sym e) ∙ h)

pub joined_plain : (line byte : ℕ) (after : List ℕ) → is_joint byte after ≡ false → joined line (byte ∷ after) ≡ placed byte line ∷ joined (line + newlines (byte ∷ [])) after
joined_plain line byte [] h = refl
joined_plain line byte (next ∷ more) h =
    cond-false ((byte == 92) && is_newline next) (joined (line + 1) more) (placed byte line ∷ joined (line + newlines (byte ∷ [])) (next ∷ more)) h

pub newlines_split : (byte : ℕ) (bytes : List ℕ) → newlines (byte ∷ bytes) ≡ newlines (byte ∷ []) + newlines bytes
newlines_split byte bytes =
    let one = sum_by-cons (λ b. cond (is_newline b) 1 0) byte bytes in
    let other = sum_by-cons (λ b. cond (is_newline b) 1 0) byte [] in
    omega (arith, one, other)

-- What is joined so far, and the rest, make the whole text; so many lines end before the rest.
pub record JoinedSoFar (text rest : List ℕ) (line : ℕ) (bytes lines : List ℕ) : Type 0 where
  pub same_bytes : bytes ++ map (λ at. at.byte) (joined line rest) ≡ joined_bytes text
  pub same_lines : lines ++ map (λ at. at.line) (joined line rest) ≡ joined_lines text
  pub counted : line + newlines rest ≡ 1 + newlines text

pub joined_from : (text rest : List ℕ) → text ≡ rest → JoinedSoFar text rest 1 [] []
joined_from text rest e =
    record {
      same_bytes = ap joined_bytes (sym e);
      same_lines = ap joined_lines (sym e);
      counted = ap (λ l. 1 + newlines l) (sym e);
    }

-- past a joint
pub past_joint : (text rest after more : List ℕ) (byte next line : ℕ) (bytes lines : List ℕ) → JoinedSoFar text rest line bytes lines → rest ≡ byte ∷ after → after ≡ next ∷ more → is_joint byte after ≡ true → JoinedSoFar text more (line + 1) bytes lines
past_joint text rest after more byte next line bytes lines so_far e f h =
    let both = and_parts (byte == 92) (is_newline (get_or after 0 0)) h in
    let ends : is_newline next ≡ true = ap is_newline (ap (λ l. get_or l 0 0) (sym f)) ∙ both.1 in
    let same : joined line rest ≡ joined (line + 1) more = ap (joined line) e ∙ joined_joint line byte after more next f h in
    let one : newlines (byte ∷ []) ≡ 0 = backslash byte both.0 in
    let two : newlines (next ∷ []) ≡ 1 = ap (λ b. 0 + cond b 1 0) ends in
    let count : newlines rest ≡ 1 + newlines more = ap newlines (e ∙ ap (λ l. byte ∷ l) f) ∙ newlines_split byte (next ∷ more) ∙ omega (arith, one, two, newlines_split next more) in
    record {
      same_bytes = ap (λ l. bytes ++ map (λ (at : Placed). at.byte) l) (sym same) ∙ so_far.same_bytes;
      same_lines = ap (λ l. lines ++ map (λ (at : Placed). at.line) l) (sym same) ∙ so_far.same_lines;
      counted = omega (arith, so_far.counted, count);
    }
  where
    backslash : (byte : ℕ) → (byte == 92) ≡ true → newlines (byte ∷ []) ≡ 0
    backslash byte h = grind (arith, nat_tests)

-- past another byte
pub past_byte : (text rest after : List ℕ) (byte line next : ℕ) (bytes lines bytes' lines' : List ℕ) → JoinedSoFar text rest line bytes lines → rest ≡ byte ∷ after → is_joint byte after ≡ false → bytes' ≡ bytes ++ byte ∷ [] → lines' ≡ lines ++ line ∷ [] → next ≡ line + newlines (byte ∷ []) → JoinedSoFar text after next bytes' lines'
past_byte text rest after byte line next bytes lines bytes' lines' so_far e h pushed pushed' is =
    let same : joined line rest ≡ placed byte line ∷ joined next after = ap (joined line) e ∙ joined_plain line byte after h ∙ ap (λ n. placed byte line ∷ joined n after) (sym is) in
    let count : newlines rest ≡ newlines (byte ∷ []) + newlines after = ap newlines e ∙ newlines_split byte after in
    record {
      same_bytes = ap (λ l. l ++ map (λ (at : Placed). at.byte) (joined next after)) pushed
          ∙ append_assoc bytes (byte ∷ []) (map (λ (at : Placed). at.byte) (joined next after))
          ∙ ap (λ l. bytes ++ map (λ (at : Placed). at.byte) l) (sym same) ∙ so_far.same_bytes;
      same_lines = ap (λ l. l ++ map (λ (at : Placed). at.line) (joined next after)) pushed'
          ∙ append_assoc lines (line ∷ []) (map (λ (at : Placed). at.line) (joined next after))
          ∙ ap (λ l. lines ++ map (λ (at : Placed). at.line) l) (sym same) ∙ so_far.same_lines;
      counted = omega (arith, so_far.counted, count, is);
    }

-- what stands behind the new-line of a joint
pub behind_joint : (byte : ℕ) (after : List ℕ) → is_joint byte after ≡ true → after ≡ get_or after 0 0 ∷ take (length after - 1) (drop 1 after)
behind_joint byte [] h = absurd (false≢true ((sym (and_right (byte == 92) false refl)) ∙ h))
behind_joint byte (next ∷ more) h =
    ap (λ l. next ∷ l) (sym (take_all (length (next ∷ more) - 1) more (omega arith)))
