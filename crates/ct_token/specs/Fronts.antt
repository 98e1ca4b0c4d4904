-- What a text begins with, as a scan of its front answers.
use Rattle.std.specs.Prelude.{◌≡◌, ℕ, ◌≤◌, List, ◌∷◌, length, take, drop}
use Rattle.ct_token.specs.declared.scan.Front.{Front}
use Rattle.ct_token.specs.declared.scan.Front.TheVariants.{Space, Open, Token}
use Rattle.ct_token.specs.Lexing.{Piece, Blank, BlockComment, LineComment, Word, bytes_of, IsPiece, HasNoClose}

-- white space or a comment
abbrev pub IsSpace : Piece → Type 0
IsSpace (Blank byte) = Unit {0}
IsSpace (BlockComment inside) = Unit {0}
IsSpace (LineComment inside) = Unit {0}
IsSpace (Word kind text) = ⊥

-- what a byte and the text behind it begin with: a piece of that byte and so many more, or a comment without end
abbrev pub IsFront : ℕ → List ℕ → Front → Type 0
IsFront first rest (Space count) =
    (count ≤ length rest) × ((piece : Piece) × IsSpace piece × (bytes_of piece ≡ first ∷ take count rest) × IsPiece piece (drop count rest))
IsFront first rest (Token kind count) =
    (count ≤ length rest) × IsPiece (Word kind (first ∷ take count rest)) (drop count rest)
IsFront first rest Open = (inside : List ℕ) × (first ∷ rest ≡ 47 ∷ 42 ∷ inside) × HasNoClose inside
