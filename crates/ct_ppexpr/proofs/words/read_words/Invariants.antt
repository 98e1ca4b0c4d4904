use Rattle.std.proofs.Common.{drop}
use Rattle.ct_ppexpr.proofs.Reading.{ReadSoFar}
use Rattle.ct_ppexpr.proofs.words.read_words.Given as goal

abbrev pub invariant-loop-token : goal.invariant-loop-token
invariant-loop-token l = ReadSoFar l.tokens (drop l.token-index l.tokens) l.words.items
