use Rattle.std.proofs.Common.{◌≡◌, drop}
use Rattle.ct_token.proofs.Comments.{closing_behind, so_much_further}
use Rattle.ct_token.proofs.scan.closed_len.Given as goal

-- what closes the text is what closes the rest, so much further
abbrev pub invariant-loop-index : goal.invariant-loop-index
invariant-loop-index l =
    closing_behind 0 l.text ≡ so_much_further l.index (closing_behind l.before (drop l.index l.text))
