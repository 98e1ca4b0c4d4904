use Rattle.ct_phases.proofs.TableInOrder.{linked}
use Rattle.ct_phases.proofs.runner_law.a_table_in_order_is_linked.Goals as goal

pub returns : goal.returns
returns c = linked
