use Rattle.std.proofs.Common.{◌≡◌, ℕ, List, ◌++◌, take}
use Rattle.ct_token.specs.Lexing.{all_continue}
use Rattle.ct_token.proofs.scan.number_len.Given as goal

-- what goes on after the bytes so far goes on after the last of them
abbrev pub invariant-loop-index : goal.invariant-loop-index
invariant-loop-index l =
    (more : List ℕ) → all_continue l.fn.first (take l.index l.text ++ more) ≡ all_continue l.before more
