use Rattle.ct_token.proofs.Unique.{same_open, open_or_closed}
use Rattle.ct_token.proofs.laws.one_open_comment.Goals as goal

pub returns-clause-one : goal.returns-clause-one
returns-clause-one c = same_open

pub returns-clause-apart : goal.returns-clause-apart
returns-clause-apart c = open_or_closed
