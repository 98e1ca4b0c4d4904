-- Each mark reaches back to some production.
use Rattle.std.proofs.Common.{◌<◌, arith}
use Rattle.ct_base.specs.declared.operators.BinaryOp.TheVariants as b
use Rattle.ct_syntax.specs.declared.words.InfixOp.{InfixOp}
use Rattle.ct_syntax.specs.declared.words.InfixOp.TheVariants as i
use Rattle.ct_syntax.specs.declared.words.Mark.{Mark}
use Rattle.ct_syntax.specs.declared.words.Mark.TheVariants as m
use Rattle.ct_syntax.specs.Grammar.{infix_level}
use Rattle.ct_grammar_machine.specs.Frames.{mark_pull}

level_some : (op : InfixOp) → 0 < infix_level op
level_some i.LogicalOr = omega arith
level_some i.LogicalAnd = omega arith
level_some (i.Number b.Or) = omega arith
level_some (i.Number _) = omega arith

pub pull_some : (mark : Mark) → 0 < mark_pull mark
pull_some (m.Infix op) = level_some op
pull_some m.Open = omega arith
pull_some _ = omega arith
