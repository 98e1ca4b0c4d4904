use Rattle.ct_find.proofs.OneFinding.{one_order}
use Rattle.ct_find.proofs.OrderExists.{order_exists}
use Rattle.ct_find.proofs.laws.one_order.Goals as goal

pub returns-clause-some : goal.returns-clause-some
returns-clause-some c = λ settings files. order_exists settings files

pub returns-clause-one : goal.returns-clause-one
returns-clause-one c = λ settings files folders others f g. one_order settings files folders others f g
