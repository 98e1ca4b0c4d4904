use Rattle.ct_ppexpr.proofs.Answered.{answered}
use Rattle.ct_ppexpr.proofs.laws.each_condition.Goals as goal

pub returns : goal.returns
returns c = answered c.each_decoding.ensures
