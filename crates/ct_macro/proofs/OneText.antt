-- Each text is one token of some kind or of none.
use Rattle.std.proofs.Common.{◌≡◌, ℕ, List, [], ◌∷◌, refl, ap, ◌∙◌, ◌⊎◌, inl, inr}
use Rattle.ct_base.specs.declared.lexical.Token.{Token}
use Rattle.ct_base.specs.declared.lexical.TokenKind.{TokenKind}
use Rattle.ct_token.specs.Lexing.{IsTokenization}
use Rattle.ct_token.proofs.Decided.{same_decided}
use Rattle.ct_token.proofs.Texts.{Answers}
use Rattle.ct_token.proofs.Unique.{same_tokens, open_or_closed}
use Rattle.ct_macro_call.specs.Spelled.{IsOneToken}
use Rattle.ct_macro.proofs.Puts.{SomeOrNone, EachIsOne}

-- each text has tokens or leaves a comment open
abbrev pub EachText : Type 0
EachText = (file : ℕ) (text : List ℕ) → Answers file text

pub text_is_one : EachText → EachIsOne
text_is_one each text = by_answer (each 0 text)
  where
    by_tokens : (tokens : List Token) → IsTokenization 0 text tokens → SomeOrNone TokenKind (IsOneToken text)
    by_tokens [] all = inr (λ kind one. absurd (let bad : [] ≡ one.0 ∷ [] = same_tokens 0 text [] (one.0 ∷ []) all one.1 in cc))
    by_tokens (token ∷ []) all =
        elim (same_decided token.text text) [
          | inl same ↦ inl (token.kind, (token, all, same, refl))
          | inr fails ↦ inr (λ kind one.
              let whole : token ∷ [] ≡ one.0 ∷ [] = same_tokens 0 text (token ∷ []) (one.0 ∷ []) all one.1 in
              let head : token ≡ one.0 = cc in
              fails (ap (λ (t : Token). t.text) head ∙ one.2))
        ]
    by_tokens (token ∷ next ∷ tokens) all =
        inr (λ kind one. absurd (
        let whole : token ∷ next ∷ tokens ≡ one.0 ∷ [] = same_tokens 0 text (token ∷ next ∷ tokens) (one.0 ∷ []) all one.1 in
        let tail : next ∷ tokens ≡ [] = cc in cc))

    by_answer : Answers 0 text → SomeOrNone TokenKind (IsOneToken text)
    by_answer (inl found) = by_tokens found.0 found.1
    by_answer (inr opened) = inr (λ kind one. open_or_closed 0 text (one.0 ∷ []) opened.0 one.1 opened.1)
