use Rattle.std.proofs.Common.{All, ◌<◌, ◌^◌, take}
use Rattle.ct_top.proofs.translating.count_lines.Given as goal

abbrev pub invariant-loop-function : goal.invariant-loop-function
invariant-loop-function l = All (λ f. f.span.line < 2 ^ 32) (take l.function-index l.functions)
