use Rattle.ct_find.proofs.OneFinding.{one_found, one_limit, stays_or_passes}
use Rattle.ct_find.proofs.laws.one_finding.Goals as goal

pub returns-clause-limit : goal.returns-clause-limit
returns-clause-limit c = λ settings files kind other path place p q. one_limit settings files kind other path place p q

pub returns-clause-apart : goal.returns-clause-apart
returns-clause-apart c = λ settings files kind path s p. stays_or_passes settings files kind path s p

pub returns-clause-found : goal.returns-clause-found
returns-clause-found c = λ settings files found other f g. one_found settings files found other f g
