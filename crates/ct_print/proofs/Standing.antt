-- What a token is that is the one token of its text alone.
use Rattle.std.proofs.Common.{◌≡◌, ℕ, ◌+◌, ◌≤◌, Bool, true, false, List, [], ◌∷◌, ◌++◌, length, map, refl, sym, ap, ◌∙◌, subst, arith, length-append, append_assoc}
use Rattle.std.proofs.lemmas.List.{append-nil, length-map}
use Rattle.ct_base.specs.declared.lexical.Token.{Token}
use Rattle.ct_base.specs.declared.lexical.TokenKind.{TokenKind}
use Rattle.ct_token.specs.Lines.{Placed, source_characters, joined, joined_bytes, joined_lines}
use Rattle.ct_token.specs.Lexing.{IsToken, IsLongest, begins_comment, Piece, Blank, BlockComment, LineComment, Word as Piece_word, bytes_of, IsPiece, spelled, ArePieces, tokens_of, IsTokenization}
use Rattle.ct_print.specs.Printed.{StandsAlone}
use Rattle.ct_print.proofs.Joining.{no_pair, joined_length, length_tells, source_same, source_length, source_tells}

-- pieces with no token and no length are none
no_pieces : (file place : ℕ) (lines : List ℕ) (spaced : Bool) (pieces : List Piece) → [] ≡ tokens_of file lines place spaced pieces → length (spelled pieces []) ≤ 0 → pieces ≡ []
no_pieces file place lines spaced [] none short = refl
no_pieces file place lines spaced (Blank byte ∷ pieces) none short = absurd (omega arith)
no_pieces file place lines spaced (BlockComment inside ∷ pieces) none short = absurd (omega arith)
no_pieces file place lines spaced (LineComment inside ∷ pieces) none short = absurd (omega arith)
no_pieces file place lines spaced (Piece_word kind text ∷ pieces) none short = absurd cc

-- pieces with one token are as long as it is, at least
long_enough : (file place : ℕ) (lines : List ℕ) (spaced : Bool) (pieces : List Piece) (token : Token) → token ∷ [] ≡ tokens_of file lines place spaced pieces → length token.text ≤ length (spelled pieces [])
long_enough file place lines spaced [] token one = absurd cc
long_enough file place lines spaced (Blank byte ∷ pieces) token one =
    let h = long_enough file (place + 1) lines true pieces token one in omega (arith, h)
long_enough file place lines spaced (BlockComment inside ∷ pieces) token one =
    let h = long_enough file (place + length (bytes_of (BlockComment inside))) lines true pieces token one in
    omega (arith, h, length-append (bytes_of (BlockComment inside)) (spelled pieces []))
long_enough file place lines spaced (LineComment inside ∷ pieces) token one =
    let h = long_enough file (place + length (bytes_of (LineComment inside))) lines true pieces token one in
    omega (arith, h, length-append (bytes_of (LineComment inside)) (spelled pieces []))
long_enough file place lines spaced (Piece_word kind text ∷ pieces) token one =
    let same = ap (λ (tokens : List Token). elim tokens as (λ _. List ℕ) [ [] ↦ [] | t ∷ ts ↦ t.text ]) one in
    omega (arith, ap length same, length-append text (spelled pieces []))

-- and where they are no longer, they are that token
only_word : (file place : ℕ) (lines : List ℕ) (spaced : Bool) (pieces : List Piece) (token : Token) → token ∷ [] ≡ tokens_of file lines place spaced pieces → length (spelled pieces []) ≤ length token.text → pieces ≡ Piece_word token.kind token.text ∷ []
only_word file place lines spaced [] token one short = absurd cc
only_word file place lines spaced (Blank byte ∷ pieces) token one short =
    let h = long_enough file (place + 1) lines true pieces token one in absurd (omega (arith, h, short))
only_word file place lines spaced (BlockComment inside ∷ pieces) token one short =
    let h = long_enough file (place + length (bytes_of (BlockComment inside))) lines true pieces token one in
    absurd (omega (arith, h, short, length-append (bytes_of (BlockComment inside)) (spelled pieces [])))
only_word file place lines spaced (LineComment inside ∷ pieces) token one short =
    let h = long_enough file (place + length (bytes_of (LineComment inside))) lines true pieces token one in
    absurd (omega (arith, h, short, length-append (bytes_of (LineComment inside)) (spelled pieces [])))
only_word file place lines spaced (Piece_word kind text ∷ pieces) token one short =
    let same = ap (λ (tokens : List Token). elim tokens as (λ _. List ℕ) [ [] ↦ [] | t ∷ ts ↦ t.text ]) one in
    let like = ap (λ (tokens : List Token). elim tokens as (λ _. TokenKind) [ [] ↦ kind | t ∷ ts ↦ t.kind ]) one in
    let rest = ap (λ (tokens : List Token). elim tokens as (λ _. List Token) [ [] ↦ [] | t ∷ ts ↦ ts ]) one in
    let none = no_pieces file (place + length text) lines false pieces rest (omega (arith, short, ap length same, length-append text (spelled pieces []))) in
    cc

-- what is known of such a token
pub record IsAlone (kind : TokenKind) (text : List ℕ) : Type 0 where
  pub token : IsToken kind text
  pub no_comment : begins_comment text ≡ false
  pub joins_nothing : no_pair 92 text ≡ true
  pub returns_nothing : no_pair 13 text ≡ true

alone_from : (kind : TokenKind) (text : List ℕ) (pieces : List Piece) → joined_bytes (source_characters text) ≡ spelled pieces [] → ArePieces pieces [] → pieces ≡ Piece_word kind text ∷ [] → IsAlone kind text
alone_from kind text pieces bytes are only =
    let piece = subst (λ ps. ArePieces ps []) only are in
    let characters = source_characters text in
    let whole : joined_bytes characters ≡ text = bytes ∙ ap (λ ps. spelled ps []) only ∙ append-nil text in
    let long : length text ≤ length (joined 1 characters) = omega (arith, ap length whole, length-map (joined 1 characters) (λ (at : Placed). at.byte)) in
    let kept : no_pair 13 text ≡ true = source_tells text (omega (arith, long, joined_length 1 characters)) in
    record {
      token = piece.0.0.token;
      no_comment = ap begins_comment (sym (append-nil text)) ∙ piece.0.1;
      joins_nothing = length_tells 1 text (subst (λ l. length text ≤ length (joined 1 l)) (source_same text kept) long);
      returns_nothing = kept;
    }

pub stands_alone : (token : Token) → StandsAlone token → IsAlone token.kind token.text
stands_alone token h =
    let pieces = h.tokens.0 in
    let characters = source_characters token.text in
    let short : length (spelled pieces []) ≤ length h.alone.text =
    omega (arith, ap length h.same_text, ap length h.tokens.1, length-map (joined 1 characters) (λ (at : Placed). at.byte), joined_length 1 characters, source_length token.text) in
    let only = only_word 0 0 (joined_lines characters) false pieces h.alone h.tokens.3 short in
    alone_from token.kind token.text pieces h.tokens.1 h.tokens.2
    (only ∙ ap (λ k. Piece_word k h.alone.text ∷ []) h.same_kind ∙ ap (λ t. Piece_word token.kind t ∷ []) h.same_text)
