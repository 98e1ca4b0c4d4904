-- The text in which a list of words is printed.
use Rattle.std.specs.Prelude.{◌≡◌, ℕ, List, [], ◌∷◌, ◌++◌}
use Rattle.ct_syntax.specs.declared.words.Mark.TheVariants.{Semicolon, OpenBrace, CloseBrace}
use Rattle.ct_syntax.specs.Words.{Text, Word, Named, Numbered, Quote, Literal, Sign, Key, Stray, mark_text, keyword_text}

-- how a word is spelled; no tree spells a stray one
abbrev pub word_text : Word → Text
word_text (Named text) = text
word_text (Numbered text) = text
word_text (Quote text) = text
word_text (Literal text) = text
word_text (Sign mark) = mark_text mark
word_text (Key keyword) = keyword_text keyword
word_text Stray = []

-- what stands behind a word: a new-line behind `;`, `{` and `}`, and else a space
abbrev pub gap_behind : Word → ℕ
gap_behind (Sign Semicolon) = 10
gap_behind (Sign OpenBrace) = 10
gap_behind (Sign CloseBrace) = 10
gap_behind _ = 32

-- each word, and what stands behind it
abbrev pub text_of : List Word → Text
text_of [] = []
text_of (word ∷ words) = word_text word ++ gap_behind word ∷ text_of words

-- The new text is the old one and the text of what f puts before any words: before the text of these words
-- stands the text of the words that f puts before them.
abbrev pub Appends : Text → Text → (List Word → List Word) → Type 0
Appends old new f = (rest : List Word) → new ++ text_of rest ≡ old ++ text_of (f rest)
