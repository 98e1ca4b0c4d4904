-- Which word it is.
use Rattle.std.specs.Prelude.{Bool, true, false}
use Rattle.ct_syntax.specs.declared.words.MemberOp.TheVariants as op
use Rattle.ct_syntax.specs.declared.words.Mark.TheVariants as m
use Rattle.ct_syntax.specs.declared.words.Keyword.TheVariants as w
use Rattle.ct_syntax.specs.Words.{Word, Sign, Key}

abbrev pub is_if : Word → Bool
is_if (Key w.If) = true
is_if _ = false

abbrev pub is_assertion : Word → Bool
is_assertion (Key w.StaticAssert) = true
is_assertion _ = false

abbrev pub is_semicolon : Word → Bool
is_semicolon (Sign m.Semicolon) = true
is_semicolon _ = false

abbrev pub is_close_brace : Word → Bool
is_close_brace (Sign m.CloseBrace) = true
is_close_brace _ = false

abbrev pub is_open_bracket : Word → Bool
is_open_bracket (Sign m.OpenBracket) = true
is_open_bracket _ = false

abbrev pub is_dot : Word → Bool
is_dot (Sign (m.Member op.Dot)) = true
is_dot _ = false
