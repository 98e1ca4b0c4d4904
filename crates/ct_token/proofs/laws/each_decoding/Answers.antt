use Rattle.ct_token.proofs.Deciding.{decodes_or_not}
use Rattle.ct_token.proofs.laws.each_decoding.Goals as goal

pub returns : goal.returns
returns c = decodes_or_not
