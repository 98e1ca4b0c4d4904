use Rattle.std.proofs.Common.{drop, arith}
use Rattle.std.proofs.lemmas.List.{drop_all}
use Rattle.ct_ppexpr.proofs.Reading.{all_read}
use Rattle.ct_ppexpr.proofs.words.read_words.Goals as goal

pub returns : goal.returns
returns c =
    let tokens = c.args.tokens.now in
    let rest = drop c.loop-token.token-index tokens in
    all_read tokens rest c.loop-token.words.items c.loop-token.invariant (drop_all c.loop-token.token-index tokens (omega arith))
