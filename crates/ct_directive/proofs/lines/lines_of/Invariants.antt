use Rattle.std.proofs.Common.{◌≡◌, ◌++◌}
use Rattle.ct_directive.specs.Lines.{lines_of}
use Rattle.ct_directive.proofs.Cutting.{begun_with}
use Rattle.ct_directive.proofs.lines.lines_of.Given as goal

abbrev pub invariant-loop-token : goal.invariant-loop-token
invariant-loop-token l = lines_of l.fn.tokens.items ≡ l.lines.items ++ begun_with l.line (lines_of l.token-iterator.rest.items)
