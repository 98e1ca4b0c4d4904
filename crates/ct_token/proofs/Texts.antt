-- Each text has tokens or leaves a comment open.
use Rattle.std.proofs.Common.{◌≡◌, ℕ, suc, zero, ◌+◌, ◌<◌, true, false, List, [], ◌∷◌, ◌++◌, length, drop, refl, sym, ap, ◌∙◌, subst, arith, ◌⊎◌, inl, inr, length-append, Option, Some, None}
use Rattle.std.specs.Prelude.{All, IsTrue, slice_index, ◌==◌, ◌||◌}
use Rattle.std.proofs.lemmas.List.{take-append-drop}
use Rattle.std.proofs.lemmas.List.Elements.{All-nil, All-cons}
use Rattle.std.proofs.lemmas.Bool.{cases_Bool, false≢true, eqb-true, and_parts, or_cases}
use Rattle.ct_base.specs.declared.lexical.Token.{Token}
use Rattle.ct_token.specs.Bytes.{is_newline, is_blank}
use Rattle.ct_token.specs.Lines.{source_characters, joined_bytes, joined_lines}
use Rattle.ct_token.specs.Lexing.{begins_comment, ends_line, Piece, Blank, BlockComment, LineComment, Word, bytes_of, IsPiece, spelled, ArePieces, tokens_of, IsTokenization, LeavesOpen}
use Rattle.ct_token.proofs.Comments.{closing_behind, closed_at, not_closed}
use Rattle.ct_token.proofs.Telling.{starts}
use Rattle.ct_token.proofs.Unique.{IsEnd}
use Rattle.ct_token.proofs.LongestToken.{longest_token}

-- ---- the piece at a place

pub record Stands (text : List ℕ) : Type 0 where
  pub piece : Piece
  pub after : List ℕ
  pub split : text ≡ bytes_of piece ++ after
  pub is : IsPiece piece after

block_at : (bytes : List ℕ) → Stands (47 ∷ 42 ∷ bytes) ⊎ IsEnd (47 ∷ 42 ∷ bytes)
block_at bytes = by_end (closing_behind 0 bytes) refl
  where
    by_end : (found : Option ℕ) → closing_behind 0 bytes ≡ found → Stands (47 ∷ 42 ∷ bytes) ⊎ IsEnd (47 ∷ 42 ∷ bytes)
    by_end None e = inr (inr (bytes, refl, not_closed bytes e))
    by_end (Some count) e =
        let closed = closed_at bytes count e in
        let inside = closed.1.0 in
        let split : bytes ≡ (inside ++ 42 ∷ 47 ∷ []) ++ drop count bytes = sym (take-append-drop count bytes) ∙ ap (λ l. l ++ drop count bytes) closed.1.1 in
        inl record { piece = BlockComment inside; after = drop count bytes; split = ap (λ l. 47 ∷ 42 ∷ l) split; is = closed.1.2 }

abbrev LineEnd : List ℕ → Type 0
LineEnd bytes = (front : List ℕ) × (back : List ℕ) × (bytes ≡ front ++ back) × All (λ byte. is_newline byte ≡ false) front × IsTrue (ends_line back)

line_end : (bytes : List ℕ) → LineEnd bytes
line_end [] = ([], [], refl, All-nil (λ byte. is_newline byte ≡ false), refl)
line_end (byte ∷ bytes) = by_first (cases_Bool (is_newline byte)) (line_end bytes)
  where
    by_first : ((is_newline byte ≡ true) ⊎ (is_newline byte ≡ false)) → LineEnd bytes → LineEnd (byte ∷ bytes)
    by_first (inl line) rest = ([], byte ∷ bytes, refl, All-nil (λ byte. is_newline byte ≡ false), line)
    by_first (inr line) rest = (byte ∷ rest.0, rest.1, ap (λ l. byte ∷ l) rest.2, All-cons (λ byte. is_newline byte ≡ false) byte rest.0 line rest.3, rest.4)

line_at : (bytes : List ℕ) → Stands (47 ∷ 47 ∷ bytes)
line_at bytes =
    let end = line_end bytes in
    record { piece = LineComment end.0; after = end.1; split = ap (λ l. 47 ∷ 47 ∷ l) end.2; is = (end.3, end.4) }

comment_at : (text : List ℕ) → begins_comment text ≡ true → Stands text ⊎ IsEnd text
comment_at [] e = absurd (false≢true e)
comment_at (first ∷ []) e = absurd (false≢true e)
comment_at (first ∷ second ∷ bytes) e = by_second (or_cases (second == 42) (second == 47) parts.1)
  where
    parts : ((first == 47) ≡ true) × (((second == 42) || (second == 47)) ≡ true)
    parts = and_parts (first == 47) ((second == 42) || (second == 47)) e

    begins : (byte : ℕ) → second ≡ byte → first ∷ second ∷ bytes ≡ 47 ∷ byte ∷ bytes
    begins byte same = ap (λ (b : ℕ). b ∷ second ∷ bytes) (eqb-true first 47 parts.0) ∙ ap (λ (b : ℕ). 47 ∷ b ∷ bytes) same

    by_second : (((second == 42) ≡ true) ⊎ ((second == 47) ≡ true)) → Stands (first ∷ second ∷ bytes) ⊎ IsEnd (first ∷ second ∷ bytes)
    by_second (inl star) =
        subst (λ (l : List ℕ). Stands l ⊎ IsEnd l) (sym (begins 42 (eqb-true second 42 star))) (block_at bytes)
    by_second (inr slash) =
        inl (subst (λ (l : List ℕ). Stands l) (sym (begins 47 (eqb-true second 47 slash))) (line_at bytes))

piece_at : (first : ℕ) (more : List ℕ) → Stands (first ∷ more) ⊎ IsEnd (first ∷ more)
piece_at first more = by_front (cases_Bool (begins_comment (first ∷ more))) (cases_Bool (is_blank first))
  where
    by_front : ((begins_comment (first ∷ more) ≡ true) ⊎ (begins_comment (first ∷ more) ≡ false)) → ((is_blank first ≡ true) ⊎ (is_blank first ≡ false))
        → Stands (first ∷ more) ⊎ IsEnd (first ∷ more)
    by_front (inl comment) blank = comment_at (first ∷ more) comment
    by_front (inr fails) (inl blank) = inl record { piece = Blank first; after = more; split = refl; is = blank }
    by_front (inr fails) (inr seen) =
        let found = longest_token first more seen in
        inl record { piece = Word found.kind found.front; after = found.back; split = found.split; is = (found.is, ap begins_comment (sym found.split) ∙ fails) }

-- ---- all pieces

pub record Pieces (text : List ℕ) : Type 0 where
  pub pieces : List Piece
  pub after : List ℕ
  pub split : text ≡ spelled pieces after
  pub stand : ArePieces pieces after
  pub end : IsEnd after

piece_has_bytes : (piece : Piece) (after : List ℕ) → IsPiece piece after → 0 < length (bytes_of piece)
piece_has_bytes (Blank byte) after is = omega arith
piece_has_bytes (BlockComment inside) after is = omega arith
piece_has_bytes (LineComment inside) after is = omega arith
piece_has_bytes (Word kind text) after is =
    let start = starts kind text is.0.token in
    let longer : length text ≡ suc (length start.1) = ap length start.2 in
    omega arith

pieces_within : (fuel : ℕ) (text : List ℕ) → length text < fuel → Pieces text
pieces_within zero text less = absurd (omega arith)
pieces_within (suc fuel) [] less = record { pieces = []; after = []; split = refl; stand = tt; end = inl refl }
pieces_within (suc fuel) (first ∷ more) less = by_piece (piece_at first more) (λ text less. pieces_within fuel text less)
  where
    by_piece : (Stands (first ∷ more) ⊎ IsEnd (first ∷ more)) → ((text : List ℕ) → length text < fuel → Pieces text) → Pieces (first ∷ more)
    by_piece (inr end) behind = record { pieces = []; after = first ∷ more; split = refl; stand = tt; end = end }
    by_piece (inl one) behind =
        let whole : length (first ∷ more) ≡ length (bytes_of one.piece) + length one.after = ap length one.split ∙ length-append (bytes_of one.piece) one.after in
        let some = piece_has_bytes one.piece one.after one.is in
        let rest = behind one.after (omega arith) in
        record {
          pieces = one.piece ∷ rest.pieces;
          after = rest.after;
          split = one.split ∙ ap (λ l. bytes_of one.piece ++ l) rest.split;
          stand = (subst (λ (l : List ℕ). IsPiece one.piece l) rest.split one.is, rest.stand);
          end = rest.end;
        }

-- ---- the text

abbrev pub Answers : ℕ → List ℕ → Type 0
Answers file text = ((tokens : List Token) × IsTokenization file text tokens) ⊎ ((line : ℕ) × LeavesOpen text line)

pub text_answers : (file : ℕ) (text : List ℕ) → Answers file text
text_answers file text = by_end (pieces_within (suc (length (joined_bytes (source_characters text)))) (joined_bytes (source_characters text)) (omega arith))
  where
    at_end : (found : Pieces (joined_bytes (source_characters text))) → IsEnd found.after → Answers file text
    at_end found (inl none) =
        inl (
          tokens_of file (joined_lines (source_characters text)) 0 false found.pieces,
          (found.pieces, found.split ∙ ap (spelled found.pieces) none, subst (ArePieces found.pieces) none found.stand, refl),
        )
    at_end found (inr opened) =
        inr (
          slice_index (joined_lines (source_characters text)) (length (spelled found.pieces [])),
          (found.pieces, opened.0, found.split ∙ ap (spelled found.pieces) opened.1, subst (ArePieces found.pieces) opened.1 found.stand, opened.2, refl),
        )

    by_end : Pieces (joined_bytes (source_characters text)) → Answers file text
    by_end found = at_end found found.end
