-- A character constant that is left out spells no bytes, or other than one; a string literal spells none.
use Rattle.std.proofs.Common.{◌≡◌, ℕ, Bool, true, false, List, Option, None, Some, length, eqb, Decides, refl, sym, ap, ◌∙◌, subst}
use Rattle.std.specs.Prelude.{not, MatchOption}
use Rattle.std.specs.Bool.{MatchBool}
use Rattle.std.specs.Option.{is_some, option_eq}
use Rattle.std.proofs.lemmas.Bool.{false≢true}
use Rattle.std.proofs.lemmas.Bool.Decides.{Decides-eqb}
use Rattle.ct_base.specs.declared.lexical.TokenKind.TheVariants as k
use Rattle.ct_base.specs.declared.lexical.TokenKind.{TokenKind}
use Rattle.ct_token.specs.Constants.{Decodes}
use Rattle.ct_token.proofs.Decoding.{same_decoding}
use Rattle.ct_parser.specs.Unsupported.{IsUnsupportedText}

-- how many bytes a text spells, where it spells any
abbrev pub Counts : List ℕ → Option ℕ → Type 0
Counts text found = MatchOption found ((bytes : List ℕ) → Decodes text bytes → ⊥) (λ count. (bytes : List ℕ) × Decodes text bytes × (length bytes ≡ count))

-- whether a text of this kind is left out
abbrev pub Tells : TokenKind → List ℕ → Bool → Type 0
Tells kind text left_out = MatchBool left_out (IsUnsupportedText kind text) (IsUnsupportedText kind text → ⊥)

-- by the bytes that the text spells, of which there are so many
by_length : (text bytes : List ℕ) (count : ℕ) → length bytes ≡ count → Decodes text bytes → Tells k.Char text (not (eqb count 1))
by_length text bytes count e h = told (eqb count 1) (Decides-eqb count 1)
  where
    told : (is_one : Bool) → Decides is_one (count ≡ 1) → Tells k.Char text (not is_one)
    told true d = λ none. none bytes h (e ∙ d.0 refl)
    told false d = λ other g is. false≢true (d.1 (sym e ∙ ap length (same_decoding text bytes other h g) ∙ is))

pub by_count : (text : List ℕ) (found : Option ℕ) → Counts text found → Tells k.Char text (not (option_eq eqb found (Some 1)))
by_count text None none = λ bytes h is. none bytes h
by_count text (Some count) told = by_length text told.0 count told.2 told.1

pub by_no_count : (text : List ℕ) (found : Option ℕ) (left_out : Bool) → Counts text found → is_some found ≡ not left_out → Tells k.Text text left_out
by_no_count text None true none e = none
by_no_count text None false none e = absurd (false≢true e)
by_no_count text (Some count) true told e = absurd (false≢true (sym e))
by_no_count text (Some count) false told e = λ none. none told.0 told.1

pub of_token : (kind kind' : TokenKind) (text text' : List ℕ) (left_out : Bool) → kind ≡ kind' → text' ≡ text → Tells kind' text' left_out → Tells kind text left_out
of_token kind kind' text text' left_out kinds texts h =
    subst (λ k. Tells k text left_out) (sym kinds) (subst (λ t. Tells kind' t left_out) texts h)
