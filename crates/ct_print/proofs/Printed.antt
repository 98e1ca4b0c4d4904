-- The tokens of a printed text.
use Rattle.std.proofs.Common.{◌≡◌, ℕ, ◌+◌, Bool, true, false, cond, List, [], ◌∷◌, ◌++◌, length, map, Option, Some, None, refl, sym, ap, ◌∙◌, subst, ◌⊎◌, inl, inr, ⊎_elim, arith}
use Rattle.std.specs.Prelude.{codes, find, filter, All, if◌then◌else◌}
use Rattle.std.specs.Str.{bytes_eq}
use Rattle.std.specs.List.{AllByRecursion}
use Rattle.std.proofs.lemmas.Slice.Eq.{bytes_eq-Decides}
use Rattle.std.proofs.lemmas.List.Elements.{recursion_from_All}
use Rattle.std.proofs.lemmas.Bool.{cases_Bool, cond-true, cond-false, false≢true}
use Rattle.ct_base.specs.declared.lexical.Token.{Token}
use Rattle.ct_base.specs.declared.lexical.TokenKind.{TokenKind}
use Rattle.ct_base.specs.declared.lexical.TokenKind.TheVariants.{Name, Number, Char, Text, Punct, Other, Line}
use Rattle.ct_syntax.specs.declared.words.Keyword.{Keyword}
use Rattle.ct_syntax.specs.declared.words.Mark.{Mark}
use Rattle.ct_syntax.specs.declared.words.Mark.TheVariants.{Semicolon, OpenBrace, CloseBrace}
use Rattle.ct_syntax.specs.Words.{Word, Named, Numbered, Quote, Literal, Sign, Key, Stray, mark_text, keyword_text, marks, keywords, is_left_out, mark_of, keyword_of, key_or, sign_or, word_by, word, words, is_text, text_tokens}
use Rattle.ct_syntax.specs.Trees.{Item}
use Rattle.ct_syntax.specs.Spelling.{spell_unit}
use Rattle.ct_base.specs.Bytes.{is_nondigit}
use Rattle.ct_syntax.specs.Scopes.{Scope}
use Rattle.ct_syntax.specs.Units.{SpellsItems}
use Rattle.ct_token.specs.Lines.{Placed, source_characters, joined, joined_bytes, joined_lines}
use Rattle.ct_token.specs.Lexing.{is_punctuator, IsToken, IsLongest, begins_comment, Piece, Blank, Word as Piece_word, bytes_of, IsPiece, spelled, ArePieces, tokens_of, IsTokenization}
use Rattle.ct_print.specs.Text.{word_text, gap_behind, text_of}
use Rattle.ct_print.specs.Printed.{StandsAlone, IsPrintable, IsTextOf}
use Rattle.ct_print.proofs.Joining.{no_pair, joined_same, source_same, IsApart, backslash_apart, return_apart, no_pair_space, no_pair_newline}
use Rattle.ct_print.proofs.Gaps.{IsGap, is_wordly, longest_before_gap, newline_longest, no_comment_before_gap, no_comment_in}
use Rattle.ct_print.proofs.Standing.{IsAlone, stands_alone}
use Rattle.ct_print.proofs.Unstray.{none_stray, none_stray_in}

find_passes : {A : Type 0} (p : A → Bool) (xs : List A) (x : A) → find p xs ≡ Some x → p x ≡ true
find_passes p [] x e = absurd cc
find_passes p (y ∷ ys) x e =
    ⊎_elim
    (λ h. let same : Some y ≡ Some x = sym (cond-true (p y) (Some y) (find p ys) h) ∙ e in let is : y ≡ x = cc in ap p (sym is) ∙ h)
    (λ h. find_passes p ys x (sym (cond-false (p y) (Some y) (find p ys) h) ∙ e))
    (cases_Bool (p y))

abbrev is_stray : Word → Bool
is_stray Stray = true
is_stray _ = false

-- a word that is not stray is spelled as its token
spelled_key : (text : List ℕ) (found : Option Keyword) → keyword_of text ≡ found → word_text (key_or found (Named text)) ≡ text
spelled_key text None e = refl
spelled_key text (Some keyword) e =
    sym ((bytes_eq-Decides text (keyword_text keyword)).0 (find_passes (λ k. bytes_eq text (keyword_text k)) keywords keyword e))

spelled_mark : (text : List ℕ) (found : Option Mark) → mark_of text ≡ found → is_stray (sign_or found Stray) ≡ false → word_text (sign_or found Stray) ≡ text
spelled_mark text None e h = absurd cc
spelled_mark text (Some mark) e h =
    sym ((bytes_eq-Decides text (mark_text mark)).0 (find_passes (λ m. bytes_eq text (mark_text m)) marks mark e))

spelled_name : (text : List ℕ) (out : Bool) → is_stray (if out then Stray else key_or (keyword_of text) (Named text)) ≡ false → word_text (if out then Stray else key_or (keyword_of text) (Named text)) ≡ text
spelled_name text true h = absurd cc
spelled_name text false h = spelled_key text (keyword_of text) refl

spelled_word : (kind : TokenKind) (text : List ℕ) → is_stray (word_by kind text) ≡ false → word_text (word_by kind text) ≡ text
spelled_word Name text h = spelled_name text (is_left_out text) h
spelled_word Number text h = refl
spelled_word Char text h = refl
spelled_word Text text h = refl
spelled_word Punct text h = spelled_mark text (mark_of text) refl h
spelled_word Other text h = absurd cc
spelled_word Line text h = absurd cc

wordly : (kind : TokenKind) (text : List ℕ) → is_stray (word_by kind text) ≡ false → is_wordly kind ≡ true
wordly Name text h = refl
wordly Number text h = refl
wordly Char text h = refl
wordly Text text h = refl
wordly Punct text h = refl
wordly Other text h = absurd cc
wordly Line text h = absurd cc

wordly_is_text : (kind : TokenKind) → is_wordly kind ≡ true → is_text kind ≡ true
wordly_is_text Name h = refl
wordly_is_text Number h = refl
wordly_is_text Char h = refl
wordly_is_text Text h = refl
wordly_is_text Punct h = refl
wordly_is_text Other h = absurd cc
wordly_is_text Line h = absurd cc

-- the piece behind a word
abbrev gap_piece : Word → Piece
gap_piece (Sign Semicolon) = Piece_word Line (10 ∷ [])
gap_piece (Sign OpenBrace) = Piece_word Line (10 ∷ [])
gap_piece (Sign CloseBrace) = Piece_word Line (10 ∷ [])
gap_piece _ = Blank 32

gap_bytes : (w : Word) → bytes_of (gap_piece w) ≡ gap_behind w ∷ []
gap_bytes (Sign Semicolon) = refl
gap_bytes (Sign OpenBrace) = refl
gap_bytes (Sign CloseBrace) = refl
gap_bytes _ = refl

gap_is : (w : Word) → IsGap (gap_behind w)
gap_is (Sign Semicolon) = inr refl
gap_is (Sign OpenBrace) = inr refl
gap_is (Sign CloseBrace) = inr refl
gap_is _ = inl refl

gap_pairs_nothing : (mark : ℕ) (w : Word) (rest : List ℕ) → IsApart mark → no_pair mark (word_text w) ≡ true → no_pair mark rest ≡ true → no_pair mark (word_text w ++ gap_behind w ∷ rest) ≡ true
gap_pairs_nothing mark (Sign Semicolon) rest apart h k = no_pair_newline mark 59 rest apart apart.semicolon k
gap_pairs_nothing mark (Sign OpenBrace) rest apart h k = no_pair_newline mark 123 rest apart apart.open_brace k
gap_pairs_nothing mark (Sign CloseBrace) rest apart h k = no_pair_newline mark 125 rest apart apart.close_brace k
gap_pairs_nothing mark w rest apart h k = no_pair_space mark (word_text w) rest apart h k

gap_is_piece : (w : Word) (after : List ℕ) → IsPiece (gap_piece w) after
gap_is_piece (Sign Semicolon) after = (newline_longest after, no_comment_in 10 after refl)
gap_is_piece (Sign OpenBrace) after = (newline_longest after, no_comment_in 10 after refl)
gap_is_piece (Sign CloseBrace) after = (newline_longest after, no_comment_in 10 after refl)
gap_is_piece _ after = refl

-- the pieces of the text of tokens
abbrev pieces_of : List Token → List Piece
pieces_of [] = []
pieces_of (t ∷ ts) = Piece_word t.kind t.text ∷ gap_piece (word t) ∷ pieces_of ts

-- a token of the grammar that is the one token of its text
record IsReady (t : Token) : Type 0 where
  known : is_stray (word t) ≡ false
  alone : IsAlone t.kind t.text

unstray_parts : (w : Word) (ws : List Word) → none_stray (w ∷ ws) ≡ true → (is_stray w ≡ false) × (none_stray ws ≡ true)
unstray_parts Stray ws h = absurd (false≢true h)
unstray_parts (Named t) ws h = (refl, h)
unstray_parts (Numbered t) ws h = (refl, h)
unstray_parts (Quote t) ws h = (refl, h)
unstray_parts (Literal t) ws h = (refl, h)
unstray_parts (Sign m) ws h = (refl, h)
unstray_parts (Key k) ws h = (refl, h)

ready : (ts : List Token) → none_stray (words ts) ≡ true → AllByRecursion StandsAlone ts → AllByRecursion IsReady ts
ready [] h k = tt
ready (t ∷ ts) h k =
    let parts = unstray_parts (word t) (words ts) h in
    (record { known = parts.0; alone = stands_alone t k.0 }, ready ts parts.1 k.1)

-- the text of the pieces is that of the words
spelled_pieces : (ts : List Token) → AllByRecursion IsReady ts → spelled (pieces_of ts) [] ≡ text_of (words ts)
spelled_pieces [] h = refl
spelled_pieces (t ∷ ts) h =
    ap (λ b. t.text ++ (b ++ spelled (pieces_of ts) [])) (gap_bytes (word t))
    ∙ ap (λ r. t.text ++ gap_behind (word t) ∷ r) (spelled_pieces ts h.1)
    ∙ ap (λ s. s ++ gap_behind (word t) ∷ text_of (words ts)) (sym (spelled_word t.kind t.text h.0.known))

word_is_piece : (t : Token) (after : List ℕ) → IsReady t → IsPiece (Piece_word t.kind t.text) (bytes_of (gap_piece (word t)) ++ after)
word_is_piece t after h =
    let w = word t in
    let here : IsPiece (Piece_word t.kind t.text) (gap_behind w ∷ after) =
    (longest_before_gap t.kind (gap_behind w) t.text after (wordly t.kind t.text h.known) (gap_is w) h.alone.token, no_comment_before_gap (gap_behind w) t.text after (gap_is w) h.alone.no_comment) in
    subst (λ b. IsPiece (Piece_word t.kind t.text) (b ++ after)) (sym (gap_bytes w)) here

are_pieces : (ts : List Token) → AllByRecursion IsReady ts → ArePieces (pieces_of ts) []
are_pieces [] h = tt
are_pieces (t ∷ ts) h =
    (word_is_piece t (spelled (pieces_of ts) []) h.0, (gap_is_piece (word t) (spelled (pieces_of ts) []), are_pieces ts h.1))

-- no line of it is joined to the next
joins_nothing : (ts : List Token) → AllByRecursion IsReady ts → no_pair 92 (text_of (words ts)) ≡ true
joins_nothing [] h = refl
joins_nothing (t ∷ ts) h =
    gap_pairs_nothing 92 (word t) (text_of (words ts)) backslash_apart (ap (no_pair 92) (spelled_word t.kind t.text h.0.known) ∙ h.0.alone.joins_nothing) (joins_nothing ts h.1)

-- and no carriage return belongs to the end of a line
returns_nothing : (ts : List Token) → AllByRecursion IsReady ts → no_pair 13 (text_of (words ts)) ≡ true
returns_nothing [] h = refl
returns_nothing (t ∷ ts) h =
    gap_pairs_nothing 13 (word t) (text_of (words ts)) return_apart (ap (no_pair 13) (spelled_word t.kind t.text h.0.known) ∙ h.0.alone.returns_nothing) (returns_nothing ts h.1)

-- the tokens behind a gap
behind_gap : (w : Word) (pieces : List Piece) (ws : List Word) (file : ℕ) (lines : List ℕ) → ((place : ℕ) (spaced : Bool) → words (text_tokens (tokens_of file lines place spaced pieces)) ≡ ws) → (place : ℕ) (spaced : Bool) → words (text_tokens (tokens_of file lines place spaced (gap_piece w ∷ pieces))) ≡ ws
behind_gap (Sign Semicolon) pieces ws file lines h place spaced = h (place + 1) false
behind_gap (Sign OpenBrace) pieces ws file lines h place spaced = h (place + 1) false
behind_gap (Sign CloseBrace) pieces ws file lines h place spaced = h (place + 1) false
behind_gap _ pieces ws file lines h place spaced = h (place + 1) true

words_kept : (t : Token) (ts : List Token) → is_text t.kind ≡ true → words (text_tokens (t ∷ ts)) ≡ word t ∷ words (text_tokens ts)
words_kept t ts h = ap words (cond-true (is_text t.kind) (t ∷ text_tokens ts) (text_tokens ts) h)

-- the words of the tokens of the pieces
words_of_pieces : (ts : List Token) → AllByRecursion IsReady ts → (file : ℕ) (lines : List ℕ) (place : ℕ) (spaced : Bool) → words (text_tokens (tokens_of file lines place spaced (pieces_of ts))) ≡ words ts
words_of_pieces [] h file lines place spaced = refl
words_of_pieces (t ∷ ts) h file lines place spaced =
    words_kept _ (tokens_of file lines (place + length t.text) false (gap_piece (word t) ∷ pieces_of ts)) (wordly_is_text t.kind (wordly t.kind t.text h.0.known))
    ∙ ap (λ ws. word t ∷ ws) (behind_gap (word t) (pieces_of ts) (words ts) file lines (words_of_pieces ts h.1 file lines) (place + length t.text) false)

printed : (scope : Scope) (items : List Item) (file : ℕ) (ts : List Token) → SpellsItems scope items (words ts) → AllByRecursion IsReady ts → IsTextOf scope items file (text_of (words ts))
printed scope items file ts spells h =
    let text = text_of (words ts) in
    let lines = joined_lines (source_characters text) in
    let bytes : joined_bytes (source_characters text) ≡ text = ap joined_bytes (source_same text (returns_nothing ts h)) ∙ joined_same 1 text (joins_nothing ts h) in
    record {
      tokens = tokens_of file lines 0 false (pieces_of ts);
      tokenization = (pieces_of ts, bytes ∙ sym (spelled_pieces ts h), are_pieces ts h, refl);
      spells = subst (SpellsItems scope items) (sym (words_of_pieces ts h file lines 0 false)) spells;
    }

-- A tree that spells some list of tokens that stand alone spells the tokens of its printed text.
pub printed_tokens : (scope : Scope) (items : List Item) (file : ℕ) → IsPrintable scope items → IsTextOf scope items file (text_of (spell_unit items []))
printed_tokens scope items file p =
    let known : none_stray (words p.tokens) ≡ true = ap none_stray (sym p.spells.spelled) ∙ none_stray_in items [] refl in
    subst (λ ws. IsTextOf scope items file (text_of ws)) (sym p.spells.spelled)
    (printed scope items file p.tokens p.spells (ready p.tokens known (recursion_from_All StandsAlone p.tokens p.alone)))
