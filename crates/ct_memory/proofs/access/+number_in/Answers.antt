use Rattle.std.proofs.Common.{◌<◌, ◌^◌, ◌≤◌, length, arith, drop}
use Rattle.ct_memory.proofs.Cells.{below_seven}
use Rattle.ct_memory.proofs.access.+number_in.Goals as goal

pub overflow_mul-result : goal.overflow_mul-result
overflow_mul-result t c = let b : c.number_in.result < 256 ^ 7 = below_seven c.number_in.result _ c.number_in.ensures.below (omega arith) in omega arith

pub overflow_add-result : goal.overflow_add-result
overflow_add-result t c = let b : c.number_in.result < 256 ^ 7 = below_seven c.number_in.result _ c.number_in.ensures.below (omega arith) in omega arith
