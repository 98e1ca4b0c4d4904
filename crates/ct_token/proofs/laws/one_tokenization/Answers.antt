use Rattle.ct_token.proofs.Unique.{same_tokens}
use Rattle.ct_token.proofs.laws.one_tokenization.Goals as goal

pub returns : goal.returns
returns c = same_tokens
