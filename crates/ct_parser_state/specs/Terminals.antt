-- What the grammar reads of a token, with its text.
use Rattle.ct_syntax.specs.Words.{Text, Word, Named, Numbered, Quote, Literal, Sign, Key, Stray}
use Rattle.ct_parser_state.specs.declared.words.Terminal.{Terminal}
use Rattle.ct_parser_state.specs.declared.words.Terminal.TheVariants as t

abbrev pub word_of : Terminal → Text → Word
word_of t.Name text = Named text
word_of t.Number text = Numbered text
word_of t.Character text = Quote text
word_of t.Text text = Literal text
word_of (t.Mark mark) text = Sign mark
word_of (t.Keyword keyword) text = Key keyword
word_of t.Stray text = Stray
