use Rattle.ct_token.proofs.Decoding.{same_decoding}
use Rattle.ct_token.proofs.laws.one_decoding.Goals as goal

pub returns : goal.returns
returns c = same_decoding
