use Rattle.std.proofs.Common.{◌≡◌, false, drop}
use Rattle.ct_token.proofs.Inside.{closing, shifted}
use Rattle.ct_token.proofs.scan.quoted_len.Given as goal

-- what closes the text is what closes the rest, so much further
abbrev pub invariant-loop-index : goal.invariant-loop-index
invariant-loop-index l =
    closing false l.quote l.text ≡ shifted l.index (closing l.escaped l.quote (drop l.index l.text))
