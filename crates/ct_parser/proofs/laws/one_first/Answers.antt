use Rattle.ct_parser.proofs.OneUnsupported.{same_first}
use Rattle.ct_parser.proofs.laws.one_first.Goals as goal

pub returns : goal.returns
returns c = same_first
