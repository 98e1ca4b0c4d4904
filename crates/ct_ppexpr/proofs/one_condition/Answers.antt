use Rattle.ct_ppexpr.proofs.Answering.{same_answer}
use Rattle.ct_ppexpr.proofs.one_condition.Goals as goal

pub returns : goal.returns
returns c = same_answer
