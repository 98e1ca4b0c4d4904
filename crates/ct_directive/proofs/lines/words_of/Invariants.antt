use Rattle.std.proofs.Common.{◌≡◌, ◌++◌}
use Rattle.ct_directive.specs.Lines.{words_of}
use Rattle.ct_directive.proofs.lines.words_of.Given as goal

abbrev pub invariant-loop-token : goal.invariant-loop-token
invariant-loop-token l = words_of l.fn.tokens.items ≡ l.words ++ words_of l.token-iterator.rest.items
