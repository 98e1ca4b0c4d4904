-- Each list of tokens has an answer as a condition.
use Rattle.std.proofs.Common.{◌≡◌, ℕ, List, [], ◌∷◌, Option, None, Some, refl, ◌⊎◌, inl, inr}
use Rattle.std.specs.Prelude.{Bool, Result, Err}
use Rattle.ct_base.specs.declared.lexical.Token.{Token}
use Rattle.ct_base.specs.declared.lexical.TokenKind.{TokenKind}
use Rattle.ct_base.specs.declared.lexical.TokenKind.TheVariants.{Name, Number, Char, Text, Punct, Other, Line}
use Rattle.ct_token.specs.Constants.{integer_of, Decodes}
use Rattle.ct_ppexpr.specs.declared.CondFault.{CondFault}
use Rattle.ct_ppexpr.specs.declared.CondFault.TheVariants.{Grammar}
use Rattle.ct_ppexpr.specs.declared.values.Value.{Value}
use Rattle.ct_ppexpr.specs.declared.words.Word.{Word}
use Rattle.ct_ppexpr.specs.declared.words.Word.TheVariants as w
use Rattle.ct_ppexpr.specs.Conditions.{HasValue, answer_of}
use Rattle.ct_ppexpr.specs.Machine.{run_all, values}
use Rattle.ct_ppexpr.specs.Values.{name_value}
use Rattle.ct_ppexpr.specs.Words.{AreWords, IsCharacter, IsWordOf, bytes_word, mark_of, number_word}
use Rattle.ct_ppexpr.proofs.Answering.{refused, valued}

-- the text spells bytes, or none
abbrev Decoded : List ℕ → Type 0
Decoded text = ((bytes : List ℕ) × Decodes text bytes) ⊎ ((bytes : List ℕ) → Decodes text bytes → ⊥)

-- ---- words

character_word : (text : List ℕ) → Decoded text → (word : Word) × IsCharacter text word
character_word text (inl found) = (bytes_word found.0, inl (found.0, found.1, refl))
character_word text (inr fails) = (w.Stray, inr (fails, refl))

by_value : (tokens : List Token) (words : List Word) → AreWords tokens words → (value : Option Value) → value ≡ run_all values words
    → (answer : Result Bool CondFault) × HasValue tokens answer
by_value tokens words are (Some value) run = (answer_of value.outcome, valued tokens words value (answer_of value.outcome) are run refl)
by_value tokens words are None run = (Err Grammar, refused tokens words are run)

module _ (decoded : (text : List ℕ) → Decoded text) where
  each_word : (kind : TokenKind) (text : List ℕ) → (word : Word) × IsWordOf kind text word
  each_word Name text = (w.Constant name_value, refl)
  each_word Number text = (number_word (integer_of text), refl)
  each_word Char text = character_word text (decoded text)
  each_word Text text = (w.Stray, refl)
  each_word Punct text = (mark_of text, refl)
  each_word Other text = (w.Stray, refl)
  each_word Line text = (w.Stray, refl)

  each_words : (tokens : List Token) → (words : List Word) × AreWords tokens words
  each_words [] = ([], refl)
  each_words (token ∷ tokens) =
      let first = each_word token.kind token.text in
      let rest = each_words tokens in
      (first.0 ∷ rest.0, (first.1, rest.1))

  pub answered : (tokens : List Token) → (answer : Result Bool CondFault) × HasValue tokens answer
  answered tokens =
      let words = each_words tokens in by_value tokens words.0 words.1 (run_all values words.0) refl
