-- The pieces of a text, one after another.
use Rattle.std.proofs.Common.{◌≡◌, ℕ, ◌+◌, ◌-◌, ◌≤◌, Bool, true, false, List, [], ◌∷◌, ◌++◌, length, take, drop, refl, sym, ap, ◌∙◌, subst, arith, add-one, length-append}
use Rattle.std.specs.Prelude.{slice_index}
use Rattle.std.proofs.lemmas.List.{append-nil, take-append-drop}
use Rattle.ct_base.specs.declared.lexical.Token.{Token}
use Rattle.ct_base.specs.declared.lexical.TokenKind.{TokenKind}
use Rattle.ct_token.specs.Lexing.{Piece, Blank, BlockComment, LineComment, Word, bytes_of, IsPiece, spelled, ArePieces, tokens_of, AreTokens, IsOpenAt}
use Rattle.ct_token.specs.Fronts.{IsSpace, IsFront}
use Rattle.ct_token.specs.declared.scan.Front.TheVariants.{Space, Open, Token as FrontToken}

-- one more piece at the end
pub spelled_more : (pieces : List Piece) (piece : Piece) (after : List ℕ) → spelled (pieces ++ piece ∷ []) after ≡ spelled pieces (bytes_of piece ++ after)
spelled_more [] piece after = refl
spelled_more (first ∷ pieces) piece after = ap (λ l. bytes_of first ++ l) (spelled_more pieces piece after)

pub pieces_more : (pieces : List Piece) (piece : Piece) (after : List ℕ) → ArePieces pieces (bytes_of piece ++ after) → IsPiece piece after → ArePieces (pieces ++ piece ∷ []) after
pieces_more [] piece after before last = (last, tt)
pieces_more (first ∷ pieces) piece after before last =
    (subst (IsPiece first) (sym (spelled_more pieces piece after)) before.0, pieces_more pieces piece after before.1 last)

-- how many bytes pieces have
abbrev pub size : List Piece → ℕ
size [] = 0
size (piece ∷ pieces) = length (bytes_of piece) + size pieces

pub size_more : (pieces : List Piece) (piece : Piece) → size (pieces ++ piece ∷ []) ≡ size pieces + length (bytes_of piece)
size_more [] piece = omega arith
size_more (first ∷ pieces) piece = ap (λ n. length (bytes_of first) + n) (size_more pieces piece) ∙ omega arith

pub size_spelled : (pieces : List Piece) (after : List ℕ) → length (spelled pieces after) ≡ size pieces + length after
size_spelled [] after = omega arith
size_spelled (piece ∷ pieces) after =
    length-append (bytes_of piece) (spelled pieces after) ∙ ap (λ n. length (bytes_of piece) + n) (size_spelled pieces after) ∙ omega arith

-- whether white space stands before what follows pieces
abbrev pub spaced_behind : Bool → Piece → Bool
spaced_behind spaced (Blank byte) = true
spaced_behind spaced (BlockComment inside) = true
spaced_behind spaced (LineComment inside) = true
spaced_behind spaced (Word kind text) = false

abbrev pub spaced_after : Bool → List Piece → Bool
spaced_after spaced [] = spaced
spaced_after spaced (piece ∷ pieces) = spaced_after (spaced_behind spaced piece) pieces

pub spaced_more : (spaced : Bool) (pieces : List Piece) (piece : Piece) → spaced_after spaced (pieces ++ piece ∷ []) ≡ spaced_behind (spaced_after spaced pieces) piece
spaced_more spaced [] piece = refl
spaced_more spaced (first ∷ pieces) piece = spaced_more (spaced_behind spaced first) pieces piece

-- the tokens of one more piece come last
pub tokens_more : (file : ℕ) (lines : List ℕ) (place : ℕ) (spaced : Bool) (pieces : List Piece) (piece : Piece) → tokens_of file lines place spaced (pieces ++ piece ∷ []) ≡ tokens_of file lines place spaced pieces ++ tokens_of file lines (place + size pieces) (spaced_after spaced pieces) (piece ∷ [])
tokens_more file lines place spaced [] piece =
    ap (λ n. tokens_of file lines n spaced (piece ∷ [])) (omega arith)
tokens_more file lines place spaced (Word kind text ∷ pieces) piece =
    ap (λ l. record { kind = kind; text = text; span = record { file = file; line = slice_index lines place }; spaced = spaced } ∷ l)
    (tokens_more file lines (place + length text) false pieces piece
    ∙ ap (λ n. tokens_of file lines (place + length text) false pieces ++ tokens_of file lines n (spaced_after false pieces) (piece ∷ [])) (omega arith))
tokens_more file lines place spaced (Blank byte ∷ pieces) piece =
    tokens_more file lines (place + length (byte ∷ [])) true pieces piece
    ∙ ap (λ n. tokens_of file lines (place + length (byte ∷ [])) true pieces ++ tokens_of file lines n (spaced_after true pieces) (piece ∷ [])) (omega arith)
tokens_more file lines place spaced (BlockComment inside ∷ pieces) piece =
    let bytes = bytes_of (BlockComment inside) in
    tokens_more file lines (place + length bytes) true pieces piece
    ∙ ap (λ n. tokens_of file lines (place + length bytes) true pieces ++ tokens_of file lines n (spaced_after true pieces) (piece ∷ [])) (omega arith)
tokens_more file lines place spaced (LineComment inside ∷ pieces) piece =
    let bytes = bytes_of (LineComment inside) in
    tokens_more file lines (place + length bytes) true pieces piece
    ∙ ap (λ n. tokens_of file lines (place + length bytes) true pieces ++ tokens_of file lines n (spaced_after true pieces) (piece ∷ [])) (omega arith)

-- What is read so far: pieces, their tokens, and what is left of the text with joined lines.
pub record ReadSoFar (file : ℕ) (bytes lines rest : List ℕ) (found : List Token) (spaced : Bool) : Type 0 where
  pub pieces : List Piece
  pub split : bytes ≡ spelled pieces rest
  pub stand : ArePieces pieces rest
  pub tokens : found ≡ tokens_of file lines 0 false pieces
  pub behind : spaced ≡ spaced_after false pieces

pub nothing_read : (file : ℕ) (bytes lines rest : List ℕ) → bytes ≡ rest → ReadSoFar file bytes lines rest [] false
nothing_read file bytes lines rest e =
    record { pieces = []; split = e; stand = tt; tokens = refl; behind = refl }

-- past one more piece
pub read_piece : (file : ℕ) (bytes lines rest : List ℕ) (found : List Token) (spaced : Bool) (piece : Piece) (after : List ℕ) (found' : List Token) (spaced' : Bool) (so_far : ReadSoFar file bytes lines rest found spaced) → rest ≡ bytes_of piece ++ after → IsPiece piece after → found' ≡ found ++ tokens_of file lines (0 + size so_far.pieces) spaced (piece ∷ []) → spaced' ≡ spaced_behind spaced piece → ReadSoFar file bytes lines after found' spaced'
read_piece file bytes lines rest found spaced piece after found' spaced' so_far e is pushed next =
    record {
      pieces = so_far.pieces ++ piece ∷ [];
      split = so_far.split ∙ ap (spelled so_far.pieces) e ∙ sym (spelled_more so_far.pieces piece after);
      stand = pieces_more so_far.pieces piece after (subst (ArePieces so_far.pieces) e so_far.stand) is;
      tokens = pushed ∙ (λ i. so_far.tokens i ++ tokens_of file lines (0 + size so_far.pieces) (so_far.behind i) (piece ∷ []))
          ∙ sym (tokens_more file lines 0 false so_far.pieces piece);
      behind = next ∙ ap (λ b. spaced_behind b piece) so_far.behind ∙ sym (spaced_more false so_far.pieces piece);
    }

-- the place of what is left
pub place_of : (file : ℕ) (bytes lines rest : List ℕ) (found : List Token) (spaced : Bool) (so_far : ReadSoFar file bytes lines rest found spaced) → length bytes - length rest ≡ size so_far.pieces
place_of file bytes lines rest found spaced so_far =
    omega (arith, ap length so_far.split, size_spelled so_far.pieces rest)

space_has_none : (file : ℕ) (lines : List ℕ) (place : ℕ) (spaced : Bool) (piece : Piece) → IsSpace piece → tokens_of file lines place spaced (piece ∷ []) ≡ []
space_has_none file lines place spaced (Blank byte) is = refl
space_has_none file lines place spaced (BlockComment inside) is = refl
space_has_none file lines place spaced (LineComment inside) is = refl
space_has_none file lines place spaced (Word kind text) is = absurd is

space_behind : (spaced : Bool) (piece : Piece) → IsSpace piece → true ≡ spaced_behind spaced piece
space_behind spaced (Blank byte) is = refl
space_behind spaced (BlockComment inside) is = refl
space_behind spaced (LineComment inside) is = refl
space_behind spaced (Word kind text) is = absurd is

-- past white space or a comment
pub read_space : (file : ℕ) (bytes lines rest : List ℕ) (found : List Token) (spaced : Bool) (first count : ℕ) (more after : List ℕ) → ReadSoFar file bytes lines rest found spaced → rest ≡ first ∷ more → IsFront first more (Space count) → after ≡ drop count more → ReadSoFar file bytes lines after found true
read_space file bytes lines rest found spaced first count more after so_far e front cut =
    let piece = front.1.0 in
    let is = front.1.1 in
    let bytes_is : rest ≡ bytes_of piece ++ drop count more =
    e ∙ ap (λ l. first ∷ l) (sym (take-append-drop count more)) ∙ ap (λ l. l ++ drop count more) (sym front.1.2) in
    read_piece file bytes lines rest found spaced piece after found true so_far
    (bytes_is ∙ ap (λ l. bytes_of piece ++ l) (sym cut)) (subst (IsPiece piece) (sym cut) front.1.3)
    (sym (append-nil found) ∙ ap (λ l. found ++ l) (sym (space_has_none file lines (0 + size so_far.pieces) spaced piece is)))
    (space_behind spaced piece is)

-- past a token
pub read_token : (file : ℕ) (bytes lines rest : List ℕ) (found : List Token) (spaced : Bool) (kind : TokenKind) (text after : List ℕ) (line : ℕ) (found' : List Token) → (so_far : ReadSoFar file bytes lines rest found spaced) → rest ≡ text ++ after → IsPiece (Word kind text) after → line ≡ slice_index lines (length bytes - length rest) → found' ≡ found ++ record { kind = kind; text = text; span = record { file = file; line = line }; spaced = spaced } ∷ [] → ReadSoFar file bytes lines after found' false
read_token file bytes lines rest found spaced kind text after line found' so_far e is at pushed =
    let place : line ≡ slice_index lines (0 + size so_far.pieces) =
    at ∙ ap (slice_index lines) (place_of file bytes lines rest found spaced so_far ∙ omega arith) in
    read_piece file bytes lines rest found spaced (Word kind text) after found' false so_far e is
    (pushed ∙ ap (λ n. found ++ record { kind = kind; text = text; span = record { file = file; line = n }; spaced = spaced } ∷ []) place)
    refl

-- all is read
pub read_all : (file : ℕ) (bytes lines rest : List ℕ) (found : List Token) (spaced : Bool) → ReadSoFar file bytes lines rest found spaced → rest ≡ [] → AreTokens file bytes lines found
read_all file bytes lines rest found spaced so_far none =
    (so_far.pieces, so_far.split ∙ ap (spelled so_far.pieces) none, subst (ArePieces so_far.pieces) none so_far.stand, so_far.tokens)

-- a comment is not closed
pub read_open : (file : ℕ) (bytes lines rest : List ℕ) (found : List Token) (spaced : Bool) (first : ℕ) (more : List ℕ) (line : ℕ) → ReadSoFar file bytes lines rest found spaced → rest ≡ first ∷ more → IsFront first more Open → line ≡ slice_index lines (length bytes - length rest) → IsOpenAt bytes lines line
read_open file bytes lines rest found spaced first more line so_far e front at =
    let opens : rest ≡ 47 ∷ 42 ∷ front.0 = e ∙ front.1 in
    let place : length bytes - length rest ≡ length (spelled so_far.pieces []) =
    place_of file bytes lines rest found spaced so_far ∙ omega (arith, size_spelled so_far.pieces []) in (
      so_far.pieces,
      front.0,
      so_far.split ∙ ap (spelled so_far.pieces) opens,
      subst (ArePieces so_far.pieces) opens so_far.stand,
      front.2,
      at ∙ ap (slice_index lines) place,
    )

-- what is left is not more than the whole
pub not_more : (file : ℕ) (bytes lines rest : List ℕ) (found : List Token) (spaced : Bool) → ReadSoFar file bytes lines rest found spaced → length rest ≤ length bytes
not_more file bytes lines rest found spaced so_far = omega (arith, ap length so_far.split, size_spelled so_far.pieces rest)

-- the token at the front of what is left
pub word_at : (kind : TokenKind) (first count : ℕ) (more rest text after : List ℕ) → rest ≡ first ∷ more → text ≡ take (count + 1) rest → after ≡ drop (count + 1) rest → IsFront first more (FrontToken kind count) → IsPiece (Word kind text) after
word_at kind first count more rest text after e text_is after_is front =
    let same : first ∷ take count more ≡ text = sym (text_is ∙ ap (take (count + 1)) e ∙ ap (λ n. take n (first ∷ more)) (add-one count)) in
    let back : drop count more ≡ after = sym (after_is ∙ ap (drop (count + 1)) e ∙ ap (λ n. drop n (first ∷ more)) (add-one count)) in
    subst (λ t. IsPiece (Word kind t) after) same (subst (IsPiece (Word kind (first ∷ take count more))) back front.1)
