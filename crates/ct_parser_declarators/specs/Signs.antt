-- Which mark a word is, and which production waits for the operand of `sizeof`.
use Rattle.std.specs.Prelude.{Bool, true, false}
use Rattle.ct_syntax.specs.declared.words.Mark.{Mark}
use Rattle.ct_syntax.specs.declared.words.Mark.TheVariants as m
use Rattle.ct_syntax.specs.Words.{Word, Sign}
use Rattle.ct_parser_parts.specs.Parts.{Part}
use Rattle.ct_grammar_machine.specs.Frames.{Frame, InSizeof}

abbrev pub opens : Mark → Bool
opens m.Open = true
opens _ = false

abbrev pub is_close : Word → Bool
is_close (Sign m.Close) = true
is_close _ = false

abbrev pub is_close_bracket : Word → Bool
is_close_bracket (Sign m.CloseBracket) = true
is_close_bracket _ = false

abbrev pub is_open_brace : Word → Bool
is_open_brace (Sign m.OpenBrace) = true
is_open_brace _ = false

abbrev pub is_size : Frame Part → Bool
is_size InSizeof = true
is_size _ = false
