-- A text has one list of pieces.
use Rattle.std.proofs.Common.{◌≡◌, ℕ, true, false, List, [], ◌∷◌, ◌++◌, length, refl, sym, ap, ◌∙◌, subst, ◌⊎◌, inl, inr, ⊎_elim, arith}
use Rattle.std.specs.Prelude.{slice_index, Result, Ok, Err, IfOk}
use Rattle.std.specs.List.{AllByRecursion}
use Rattle.std.proofs.lemmas.List.{append-nil, append_assoc, append_cancel_left}
use Rattle.std.proofs.lemmas.List.Elements.{recursion_from_All}
use Rattle.std.proofs.lemmas.Bool.{false≢true}
use Rattle.ct_base.specs.declared.lexical.Token.{Token}
use Rattle.ct_base.specs.declared.lexical.TokenKind.{TokenKind}
use Rattle.ct_token.specs.Bytes.{is_newline, is_blank}
use Rattle.ct_token.specs.Lines.{source_characters, joined_bytes, joined_lines}
use Rattle.ct_token.specs.Lexing.{IsToken, IsLongest, HasNoClose, begins_comment, ends_line, Piece, Blank, BlockComment, LineComment, Word, bytes_of, IsPiece, spelled, ArePieces, tokens_of, AreTokens, IsOpenAt, IsTokenization, LeavesOpen}
use Rattle.ct_token.proofs.Comments.{no_close_in_tail}
use Rattle.ct_token.proofs.Telling.{starts, not_blank, same_kind}

-- of two fronts of a list one is a front of the other
nested : (xs ys us vs : List ℕ) → xs ++ us ≡ ys ++ vs → ((more : List ℕ) × (ys ≡ xs ++ more) × (us ≡ more ++ vs)) ⊎ ((more : List ℕ) × (xs ≡ ys ++ more) × (vs ≡ more ++ us))
nested [] ys us vs e = inl (ys, refl, e)
nested (x ∷ xs) [] us vs e = inr (x ∷ xs, refl, sym e)
nested (x ∷ xs) (y ∷ ys) us vs e =
    let head : x ≡ y = cc in
    let tail : xs ++ us ≡ ys ++ vs = cc in
    ⊎_elim
    (λ h. inl (h.0, (λ i. sym head i ∷ h.1 i), h.2))
    (λ h. inr (h.0, (λ i. head i ∷ h.1 i), h.2))
    (nested xs ys us vs tail)

-- so two longest tokens at one place have the same bytes
same_text : (k l : TokenKind) (s t u v : List ℕ) → IsLongest k s u → IsLongest l t v → s ++ u ≡ t ++ v → s ≡ t
same_text k l s t u v one other e =
    ⊎_elim
    (λ h.
    let none = one.longest l h.0 v h.2 (subst (IsToken l) h.1 other.token) in
    sym (h.1 ∙ ap (λ m. s ++ m) none ∙ append-nil s))
    (λ h.
    let none = other.longest k h.0 u h.2 (subst (IsToken k) h.1 one.token) in
    h.1 ∙ ap (λ m. t ++ m) none ∙ append-nil t)
    (nested s t u v e)

slash_apart : ◌≡◌ {A = ℕ} 47 42 → ⊥
slash_apart e = omega (arith, e)

close_begins : (y z : ℕ) (q u : List ℕ) → HasNoClose (y ∷ z ∷ q) → y ≡ 42 → z ≡ 47 → ⊥
close_begins y z q u none star slash = none [] q (λ i. star i ∷ slash i ∷ q)

closes_first : (y : ℕ) (q u v : List ℕ) → HasNoClose (y ∷ q ++ 42 ∷ []) → 42 ∷ 47 ∷ u ≡ y ∷ q ++ 42 ∷ 47 ∷ v → ⊥
closes_first y [] u v none e =
    let wrong : ◌≡◌ {A = ℕ} 47 42 = cc in slash_apart wrong
closes_first y (z ∷ q) u v none e =
    let star : y ≡ 42 = cc in
    let slash : z ≡ 47 = cc in
    close_begins y z (q ++ 42 ∷ []) u none star slash

-- and two comments end at one place
same_block : (p q u v : List ℕ) → HasNoClose (p ++ 42 ∷ []) → HasNoClose (q ++ 42 ∷ []) → p ++ 42 ∷ 47 ∷ u ≡ q ++ 42 ∷ 47 ∷ v → (p ≡ q) × (u ≡ v)
same_block [] [] u v hp hq e = (refl, cc)
same_block [] (y ∷ q) u v hp hq e = absurd (closes_first y q u v hq e)
same_block (x ∷ p) [] u v hp hq e = absurd (closes_first x p v u hp (sym e))
same_block (x ∷ p) (y ∷ q) u v hp hq e =
    let head : x ≡ y = cc in
    let tail : p ++ 42 ∷ 47 ∷ u ≡ q ++ 42 ∷ 47 ∷ v = cc in
    let rest = same_block p q u v (no_close_in_tail x (p ++ 42 ∷ []) hp) (no_close_in_tail y (q ++ 42 ∷ []) hq) tail in
    ((λ i. head i ∷ rest.0 i), rest.1)

abbrev OnLine : ℕ → Type 0
OnLine byte = is_newline byte ≡ false

same_line : (p q u v : List ℕ) → AllByRecursion OnLine p → AllByRecursion OnLine q → ends_line u ≡ true → ends_line v ≡ true → p ++ u ≡ q ++ v → (p ≡ q) × (u ≡ v)
same_line [] [] u v hp hq hu hv e = (refl, e)
same_line [] (y ∷ q) u v hp hq hu hv e = absurd (false≢true (sym hq.0 ∙ ap ends_line (sym e) ∙ hu))
same_line (x ∷ p) [] u v hp hq hu hv e = absurd (false≢true (sym hp.0 ∙ ap ends_line e ∙ hv))
same_line (x ∷ p) (y ∷ q) u v hp hq hu hv e =
    let head : x ≡ y = cc in
    let tail : p ++ u ≡ q ++ v = cc in
    let rest = same_line p q u v hp.1 hq.1 hu hv tail in
    ((λ i. head i ∷ rest.0 i), rest.1)

-- a token's first byte
no_blank_word : (kind : TokenKind) (text u v : List ℕ) (byte : ℕ) → IsToken kind text → is_blank byte ≡ true → text ++ u ≡ byte ∷ v → ⊥
no_blank_word kind text u v byte token blank e =
    let start = starts kind text token in
    let same : byte ≡ start.0 = first start.0 start.1 (sym e ∙ ap (λ l. l ++ u) start.2) in
    false≢true (sym (not_blank kind start.0 start.1 (subst (IsToken kind) start.2 token)) ∙ ap is_blank (sym same) ∙ blank)
  where
    first : (f : ℕ) (m : List ℕ) → byte ∷ v ≡ f ∷ m ++ u → byte ≡ f
    first f m e = cc

no_comment_word : (text v : List ℕ) (second : ℕ) → begins_comment text ≡ false → text ≡ 47 ∷ second ∷ v → begins_comment (47 ∷ second ∷ v) ≡ true → ⊥
no_comment_word text v second apart e h = false≢true (sym apart ∙ ap begins_comment e ∙ h)

no_blank_comment : (byte : ℕ) (u v : List ℕ) → is_blank byte ≡ true → byte ∷ u ≡ 47 ∷ v → ⊥
no_blank_comment byte u v blank e =
    let same : byte ≡ 47 = cc in false≢true (sym (ap is_blank same) ∙ blank)

-- at one place stands one piece
pub same_piece : (p q : Piece) (u v : List ℕ) → IsPiece p u → IsPiece q v → bytes_of p ++ u ≡ bytes_of q ++ v → (p ≡ q) × (u ≡ v)
same_piece (Blank b) (Blank c) u v hp hq e =
    let same : b ≡ c = cc in (ap Blank same, cc)
same_piece (Blank b) (BlockComment q) u v hp hq e = absurd (no_blank_comment b u (42 ∷ q ++ 42 ∷ 47 ∷ [] ++ v) hp e)
same_piece (Blank b) (LineComment q) u v hp hq e = absurd (no_blank_comment b u (47 ∷ q ++ v) hp e)
same_piece (Blank b) (Word k t) u v hp hq e = absurd (no_blank_word k t v u b hq.0.token hp (sym e))
same_piece (BlockComment p) (Blank c) u v hp hq e = absurd (no_blank_comment c v (42 ∷ p ++ 42 ∷ 47 ∷ [] ++ u) hq (sym e))
same_piece (BlockComment p) (BlockComment q) u v hp hq e =
    let inner : p ++ 42 ∷ 47 ∷ u ≡ q ++ 42 ∷ 47 ∷ v =
    sym (append_assoc p (42 ∷ 47 ∷ []) u) ∙ behind (p ++ 42 ∷ 47 ∷ [] ++ u) (q ++ 42 ∷ 47 ∷ [] ++ v) e ∙ append_assoc q (42 ∷ 47 ∷ []) v in
    let same = same_block p q u v hp hq inner in
    (ap BlockComment same.0, same.1)
  where
    behind : (x y : List ℕ) → 47 ∷ 42 ∷ x ≡ 47 ∷ 42 ∷ y → x ≡ y
    behind x y e = cc
same_piece (BlockComment p) (LineComment q) u v hp hq e = absurd (second (p ++ 42 ∷ 47 ∷ [] ++ u) (q ++ v) e)
  where
    second : (x y : List ℕ) → 47 ∷ 42 ∷ x ≡ 47 ∷ 47 ∷ y → ⊥
    second x y e =
        let wrong : ◌≡◌ {A = ℕ} 42 47 = cc in slash_apart (sym wrong)
same_piece (BlockComment p) (Word k t) u v hp hq e = absurd (no_comment_word (t ++ v) (p ++ 42 ∷ 47 ∷ [] ++ u) 42 hq.1 (sym e) refl)
same_piece (LineComment p) (Blank c) u v hp hq e = absurd (no_blank_comment c v (47 ∷ p ++ u) hq (sym e))
same_piece (LineComment p) (BlockComment q) u v hp hq e = absurd (second (p ++ u) (q ++ 42 ∷ 47 ∷ [] ++ v) e)
  where
    second : (x y : List ℕ) → 47 ∷ 47 ∷ x ≡ 47 ∷ 42 ∷ y → ⊥
    second x y e =
        let wrong : ◌≡◌ {A = ℕ} 47 42 = cc in slash_apart wrong
same_piece (LineComment p) (LineComment q) u v hp hq e =
    let same = same_line p q u v (recursion_from_All OnLine p hp.0) (recursion_from_All OnLine q hq.0) hp.1 hq.1 (behind (p ++ u) (q ++ v) e) in
    (ap LineComment same.0, same.1)
  where
    behind : (x y : List ℕ) → 47 ∷ 47 ∷ x ≡ 47 ∷ 47 ∷ y → x ≡ y
    behind x y e = cc
same_piece (LineComment p) (Word k t) u v hp hq e = absurd (no_comment_word (t ++ v) (p ++ u) 47 hq.1 (sym e) refl)
same_piece (Word k t) (Blank c) u v hp hq e = absurd (no_blank_word k t u v c hp.0.token hq e)
same_piece (Word k t) (BlockComment q) u v hp hq e = absurd (no_comment_word (t ++ u) (q ++ 42 ∷ 47 ∷ [] ++ v) 42 hp.1 e refl)
same_piece (Word k t) (LineComment q) u v hp hq e = absurd (no_comment_word (t ++ u) (q ++ v) 47 hp.1 e refl)
same_piece (Word k s) (Word l t) u v hp hq e =
    let texts = same_text k l s t u v hp.0 hq.0 e in
    let kinds = same_kind k l s t hp.0.token hq.0.token texts in
    ((λ i. Word (kinds i) (texts i)), append_cancel_left s u v (e ∙ ap (λ w. w ++ v) (sym texts)))

-- the end of the text, or a comment that is not closed
abbrev pub IsEnd : List ℕ → Type 0
IsEnd rest = (rest ≡ []) ⊎ ((inside : List ℕ) × (rest ≡ 47 ∷ 42 ∷ inside) × HasNoClose inside)

-- where no piece stands
no_piece : (rest : List ℕ) (p : Piece) (u : List ℕ) → IsEnd rest → IsPiece p u → rest ≡ bytes_of p ++ u → ⊥
no_piece rest p u end is e = ⊎_elim (λ none. at_end p is (sym none ∙ e)) (λ opened. in_comment opened.0 opened.2 p is (sym opened.1 ∙ e)) end
  where
    at_end : (p : Piece) → IsPiece p u → [] ≡ bytes_of p ++ u → ⊥
    at_end (Blank byte) is e = absurd cc
    at_end (BlockComment inside) is e = absurd cc
    at_end (LineComment inside) is e = absurd cc
    at_end (Word kind text) is e =
        let start = starts kind text is.0.token in
        first start.0 start.1 (e ∙ ap (λ l. l ++ u) start.2)
      where
        first : (f : ℕ) (m : List ℕ) → [] ≡ f ∷ m ++ u → ⊥
        first f m e = absurd cc

    in_comment : (inside : List ℕ) → HasNoClose inside → (p : Piece) → IsPiece p u → 47 ∷ 42 ∷ inside ≡ bytes_of p ++ u → ⊥
    in_comment inside none (Blank byte) is e = no_blank_comment byte u (42 ∷ inside) is (sym e)
    in_comment inside none (BlockComment other) is e = none other u (behind inside (other ++ 42 ∷ 47 ∷ [] ++ u) e ∙ append_assoc other (42 ∷ 47 ∷ []) u)
      where
        behind : (x y : List ℕ) → 47 ∷ 42 ∷ x ≡ 47 ∷ 42 ∷ y → x ≡ y
        behind x y e = cc
    in_comment inside none (LineComment other) is e = second inside (other ++ u) e
      where
        second : (x y : List ℕ) → 47 ∷ 42 ∷ x ≡ 47 ∷ 47 ∷ y → ⊥
        second x y e =
            let wrong : ◌≡◌ {A = ℕ} 42 47 = cc in slash_apart (sym wrong)
    in_comment inside none (Word kind text) is e = no_comment_word (text ++ u) inside 42 is.1 (sym e) refl

pub same_pieces : (ps qs : List Piece) (r s : List ℕ) → IsEnd r → IsEnd s → ArePieces ps r → ArePieces qs s → spelled ps r ≡ spelled qs s → (ps ≡ qs) × (r ≡ s)
same_pieces [] [] r s er es hp hq e = (refl, e)
same_pieces [] (q ∷ qs) r s er es hp hq e = absurd (no_piece r q (spelled qs s) er hq.0 e)
same_pieces (p ∷ ps) [] r s er es hp hq e = absurd (no_piece s p (spelled ps r) es hp.0 (sym e))
same_pieces (p ∷ ps) (q ∷ qs) r s er es hp hq e =
    let first = same_piece p q (spelled ps r) (spelled qs s) hp.0 hq.0 e in
    let rest = same_pieces ps qs r s er es hp.1 hq.1 first.1 in
    ((λ i. first.0 i ∷ rest.0 i), rest.1)

-- so there is one list of tokens
pub same_tokens : (file : ℕ) (text : List ℕ) (a b : List Token) → IsTokenization file text a → IsTokenization file text b → a ≡ b
same_tokens file text a b one other =
    let same = same_pieces one.0 other.0 [] [] (inl refl) (inl refl) one.2 other.2 (sym one.1 ∙ other.1) in
    one.3 ∙ ap (tokens_of file (joined_lines (source_characters text)) 0 false) same.0 ∙ sym other.3

pub same_open : (text : List ℕ) (a b : ℕ) → LeavesOpen text a → LeavesOpen text b → a ≡ b
same_open text a b one other =
    let same = same_pieces one.0 other.0 (47 ∷ 42 ∷ one.1) (47 ∷ 42 ∷ other.1) (inr (one.1, refl, one.4)) (inr (other.1, refl, other.4)) one.3 other.3 (sym one.2 ∙ other.2) in
    one.5 ∙ ap (λ pieces. slice_index (joined_lines (source_characters text)) (length (spelled pieces []))) same.0 ∙ sym other.5

-- or one comment that is not closed
pub not_both : (file : ℕ) (bytes bytes' lines lines' : List ℕ) (tokens : List Token) (line : ℕ) → bytes ≡ bytes' → AreTokens file bytes lines tokens → IsOpenAt bytes' lines' line → ⊥
not_both file bytes bytes' lines lines' tokens line e closed opened =
    let same = same_pieces closed.0 opened.0 [] (47 ∷ 42 ∷ opened.1) (inl refl) (inr (opened.1, refl, opened.4)) closed.2 opened.3 (sym closed.1 ∙ e ∙ opened.2) in
    none (opened.1) same.1
  where
    none : (l : List ℕ) → [] ≡ 47 ∷ 42 ∷ l → ⊥
    none l e = absurd cc

pub open_or_closed : (file : ℕ) (text : List ℕ) (tokens : List Token) (line : ℕ) → IsTokenization file text tokens → LeavesOpen text line → ⊥
open_or_closed file text tokens line closed opened =
    let bytes = joined_bytes (source_characters text) in
    let lines = joined_lines (source_characters text) in
    not_both file bytes bytes lines lines tokens line refl closed opened

-- what follows for the value of a result
pub for_value : {T E : Type 0} (r : Result T E) (P Q : T → Type 0) → ((t : T) → P t → Q t) → IfOk r P → IfOk r Q
for_value (Ok t) P Q f h = f t h
for_value (Err e) P Q f h = tt
