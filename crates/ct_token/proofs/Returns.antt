-- The characters of a text, one after another.
use Rattle.std.proofs.Common.{◌≡◌, ℕ, ◌+◌, Bool, true, false, cond, ◌&&◌, List, [], ◌∷◌, get_or, refl, sym, ap, ◌∙◌, ◌⊎◌, inl, inr, arith}
use Rattle.std.specs.Prelude.{◌==◌}
use Rattle.std.proofs.lemmas.Bool.Decides.{nat_tests}
use Rattle.std.proofs.lemmas.Bool.{cases_Bool, and_parts, and_right, false≢true, cond-true, cond-false}
use Rattle.ct_token.specs.Bytes.{is_newline}
use Rattle.ct_token.specs.Lines.{newlines, source_characters}
use Rattle.ct_token.proofs.Joining.{newlines_split}

-- a carriage return right before a new-line
abbrev pub is_return : ℕ → List ℕ → Bool
is_return byte after = (byte == 13) && is_newline (get_or after 0 0)

pub return_left : (byte : ℕ) (after : List ℕ) → is_return byte after ≡ true → source_characters (byte ∷ after) ≡ source_characters after
return_left byte [] h = absurd (false≢true (sym (and_right (byte == 13) false refl) ∙ h))
return_left byte (next ∷ more) h =
    cond-true ((byte == 13) && is_newline next) (source_characters (next ∷ more)) (byte ∷ source_characters (next ∷ more)) h

pub byte_kept : (byte : ℕ) (after : List ℕ) → is_return byte after ≡ false → source_characters (byte ∷ after) ≡ byte ∷ source_characters after
byte_kept byte [] h = refl
byte_kept byte (next ∷ more) h =
    cond-false ((byte == 13) && is_newline next) (source_characters (next ∷ more)) (byte ∷ source_characters (next ∷ more)) h

-- a carriage return is no new-line
no_newline : (byte : ℕ) → (byte == 13) ≡ true → newlines (byte ∷ []) ≡ 0
no_newline byte h = grind (arith, nat_tests)

-- the characters have as many new-lines as the text
pub newlines_kept : (text : List ℕ) → newlines (source_characters text) ≡ newlines text
newlines_kept [] = refl
newlines_kept (byte ∷ after) = by_return (cases_Bool (is_return byte after)) (newlines_kept after)
  where
    by_return : ((is_return byte after ≡ true) ⊎ (is_return byte after ≡ false)) → newlines (source_characters after) ≡ newlines after
        → newlines (source_characters (byte ∷ after)) ≡ newlines (byte ∷ after)
    by_return (inl h) same =
        let none = no_newline byte (and_parts (byte == 13) (is_newline (get_or after 0 0)) h).0 in
        ap newlines (return_left byte after h) ∙ omega (arith, same, none, newlines_split byte after)
    by_return (inr h) same =
        ap newlines (byte_kept byte after h) ∙ omega (arith, same, newlines_split byte after, newlines_split byte (source_characters after))
