-- The words of tokens.
use Rattle.std.proofs.Common.{◌≡◌, ℕ, List, [], ◌∷◌, ◌++◌, refl, sym, ap, ◌∙◌, subst, ⊎_elim, Option, Some}
use Rattle.std.specs.Prelude.{MatchOption}
use Rattle.std.proofs.lemmas.List.{append-nil, append_assoc}
use Rattle.ct_base.specs.declared.lexical.Token.{Token}
use Rattle.ct_base.specs.declared.lexical.TokenKind.{TokenKind}
use Rattle.ct_base.specs.declared.lexical.TokenKind.TheVariants.{Name, Number, Char, Text, Punct, Other, Line}
use Rattle.ct_token.proofs.Decoding.{same_decoding}
use Rattle.ct_ppexpr.specs.Words.{bytes_word, IsCharacter, IsWordOf, AreWords}
use Rattle.ct_ppexpr.specs.declared.words.Word.{Word}

-- what is read so far, and what the rest gives
abbrev pub ReadSoFar : List Token → List Token → List Word → Type 0
ReadSoFar tokens rest found = (words : List Word) → AreWords rest words → AreWords tokens (found ++ words)

pub one_more : (tokens rest after : List Token) (found found' : List Word) (token : Token) (word : Word) → ReadSoFar tokens rest found → rest ≡ token ∷ after → IsWordOf token.kind token.text word → found' ≡ found ++ word ∷ [] → ReadSoFar tokens after found'
one_more tokens rest after found found' token word so_far e is pushed words h =
    subst (AreWords tokens) (sym (append_assoc found (word ∷ []) words) ∙ ap (λ l. l ++ words) (sym pushed))
    (so_far (word ∷ words) (subst (λ l. AreWords l (word ∷ words)) (sym e) (is, h)))

pub all_read : (tokens rest : List Token) (found : List Word) → ReadSoFar tokens rest found → rest ≡ [] → AreWords tokens found
all_read tokens rest found so_far none =
    subst (AreWords tokens) (append-nil found) (so_far [] (subst (λ l. AreWords l []) (sym none) refl))

same_character : (text : List ℕ) (a b : Word) → IsCharacter text a → IsCharacter text b → a ≡ b
same_character text a b one other =
    ⊎_elim
    (λ h. ⊎_elim
    (λ k. h.2 ∙ ap bytes_word (same_decoding text h.0 k.0 h.1 k.1) ∙ sym k.2)
    (λ k. absurd (k.0 h.0 h.1)) other)
    (λ h. ⊎_elim (λ k. absurd (h.0 k.0 k.1)) (λ k. h.1 ∙ sym k.1) other)
    one

same_word : (kind : TokenKind) (text : List ℕ) (a b : Word) → IsWordOf kind text a → IsWordOf kind text b → a ≡ b
same_word Name text a b one other = one ∙ sym other
same_word Number text a b one other = one ∙ sym other
same_word Char text a b one other = same_character text a b one other
same_word Text text a b one other = one ∙ sym other
same_word Punct text a b one other = one ∙ sym other
same_word Other text a b one other = one ∙ sym other
same_word Line text a b one other = one ∙ sym other

-- tokens have one list of words
pub same_words : (tokens : List Token) (a b : List Word) → AreWords tokens a → AreWords tokens b → a ≡ b
same_words [] a b one other = one ∙ sym other
same_words (token ∷ tokens) [] b one other = absurd one
same_words (token ∷ tokens) (x ∷ a) [] one other = absurd other
same_words (token ∷ tokens) (x ∷ a) (y ∷ b) one other =
    let first = same_word token.kind token.text x y one.0 other.0 in
    let rest = same_words tokens a b one.1 other.1 in
    λ i. first i ∷ rest i

-- what is said of an option that has a value, or has none
pub of_some : {T : Type 0} (o : Option T) (v : T) (P : Type 0) (Q : T → Type 0) → o ≡ Some v → MatchOption o P Q → Q v
of_some o v P Q e h = subst (λ o. MatchOption o P Q) e h
