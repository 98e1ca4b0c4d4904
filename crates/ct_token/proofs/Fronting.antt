-- What a text begins with.
use Rattle.std.proofs.Common.{◌≡◌, ℕ, ◌+◌, ◌≤◌, Bool, true, false, not, List, [], ◌∷◌, length, take, drop, refl, sym, ap, ◌∙◌, subst, arith, add-one}
use Rattle.std.specs.List.{prefix_len}
use Rattle.std.proofs.lemmas.List.{take-append-drop}
use Rattle.std.proofs.lemmas.List.Elements.{All-weaker}
use Rattle.std.proofs.lemmas.List.Sums.{prefix_len-le-length}
use Rattle.std.proofs.lemmas.Bool.{not-true, not-false}
use Rattle.ct_base.specs.declared.lexical.TokenKind.{TokenKind}
use Rattle.ct_token.specs.Bytes.{is_newline, is_blank}
use Rattle.ct_token.specs.Lexing.{Blank, BlockComment, LineComment, IsLongest, HasNoClose, begins_comment, ends_line}
use Rattle.ct_token.specs.Fronts.{IsFront}
use Rattle.ct_token.specs.declared.scan.Front.TheVariants.{Space, Open, Token}
use Rattle.ct_token.proofs.Lists.{prefix_stops, prefix_passes}
use Rattle.ct_token.proofs.Comments.{IsClosedAt}

pub blank_front : (first : ℕ) (rest : List ℕ) → is_blank first ≡ true → IsFront first rest (Space 0)
blank_front first rest blank = (omega arith, (Blank first, tt, refl, blank))

block_at : (inside : List ℕ) (count : ℕ) → IsClosedAt inside count → IsFront 47 (42 ∷ inside) (Space (count + 1))
block_at inside count h =
    let more = add-one count in (
      omega (arith, h.0),
      (
        BlockComment h.1.0,
        tt,
        (λ i. 47 ∷ 42 ∷ sym h.1.1 i) ∙ ap (λ n. 47 ∷ take n (42 ∷ inside)) (sym more),
        h.1.2,
      ),
    )

pub block_front : (first : ℕ) (rest inside : List ℕ) (count : ℕ) → 47 ≡ first → 42 ∷ inside ≡ rest → IsClosedAt inside count → IsFront first rest (Space (count + 1))
block_front first rest inside count slash star h =
    subst (λ f. IsFront f rest (Space (count + 1))) slash (subst (λ l. IsFront 47 l (Space (count + 1))) star (block_at inside count h))

pub open_front : (first : ℕ) (rest inside : List ℕ) → 47 ≡ first → 42 ∷ inside ≡ rest → HasNoClose inside → IsFront first rest Open
open_front first rest inside slash star none = (inside, (λ i. sym slash i ∷ sym star i), none)

abbrev pub goes_on_line : ℕ → Bool
goes_on_line byte = not (is_newline byte)

line_ends : (inside : List ℕ) (rest : List ℕ) → drop (prefix_len goes_on_line inside) inside ≡ rest → ends_line rest ≡ true
line_ends inside [] e = refl
line_ends inside (c ∷ cs) e = not-false (is_newline c) (prefix_stops goes_on_line inside c cs e)

line_at : (inside : List ℕ) → IsFront 47 (47 ∷ inside) (Space (prefix_len goes_on_line inside + 1))
line_at inside =
    let count = prefix_len goes_on_line inside in
    let more = add-one count in (
      omega (arith, prefix_len-le-length goes_on_line inside),
      (
        LineComment (take count inside),
        tt,
        ap (λ n. 47 ∷ take n (47 ∷ inside)) (sym more),
        (
          All-weaker (λ byte. goes_on_line byte ≡ true) (λ byte. is_newline byte ≡ false) (λ byte h. not-true (is_newline byte) h) (take count inside) (prefix_passes goes_on_line inside),
          ap (λ n. ends_line (drop n (47 ∷ inside))) more ∙ line_ends inside (drop count inside) refl,
        ),
      ),
    )

pub line_front : (first : ℕ) (rest inside : List ℕ) (count : ℕ) → 47 ≡ first → 47 ∷ inside ≡ rest → prefix_len goes_on_line inside ≡ count → IsFront first rest (Space (count + 1))
line_front first rest inside count slash second is =
    subst (λ f. IsFront f rest (Space (count + 1))) slash (subst (λ l. IsFront 47 l (Space (count + 1))) second
    (subst (λ n. IsFront 47 (47 ∷ inside) (Space (n + 1))) is (line_at inside)))

pub token_front : (first : ℕ) (rest : List ℕ) (kind : TokenKind) (count : ℕ) → count ≤ length rest → IsLongest kind (first ∷ take count rest) (drop count rest) → begins_comment (first ∷ rest) ≡ false → IsFront first rest (Token kind count)
token_front first rest kind count within longest apart =
    (within, (longest, ap (λ l. begins_comment (first ∷ l)) (take-append-drop count rest) ∙ apart))
