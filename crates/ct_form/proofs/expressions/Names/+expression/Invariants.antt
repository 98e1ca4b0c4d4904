use Rattle.std.proofs.Common.{◌+◌, ◌*◌, length}
use Rattle.ct_form.proofs.Sums.{SumReads, ListReads}
use Rattle.ct_form.proofs.expressions.Names.«+expression».Given as goal

abbrev pub decreases-arguments : goal.decreases-arguments
decreases-arguments l = 8 * l.room + 9

abbrev pub decreases-list : goal.decreases-list
decreases-list l = 8 * l.room + 8

abbrev pub decreases-expression : goal.decreases-expression
decreases-expression l = 8 * l.room + 7

abbrev pub decreases-sum : goal.decreases-sum
decreases-sum l = 8 * l.room + 6

abbrev pub decreases-unit : goal.decreases-unit
decreases-unit l = 8 * l.room + 5

abbrev pub decreases-group : goal.decreases-group
decreases-group l = 8 * l.room + 4

abbrev pub decreases-value_of_call : goal.decreases-value_of_call
decreases-value_of_call l = 8 * l.room + 4

abbrev pub decreases-call : goal.decreases-call
decreases-call l = 8 * l.room + 3

abbrev pub invariant-list-loop-cores : goal.invariant-list-loop-cores
invariant-list-loop-cores l = ListReads l.self.functions.now l.self.scope.now l.room l.fn.tokens l.cores l.rest

abbrev pub decreases-list-loop-cores : goal.decreases-list-loop-cores
decreases-list-loop-cores l = length l.rest

abbrev pub invariant-sum-loop-op : goal.invariant-sum-loop-op
invariant-sum-loop-op l = SumReads l.self.functions.now l.self.scope.now l.room l.fn.tokens l.sofar l.rest

abbrev pub decreases-sum-loop-op : goal.decreases-sum-loop-op
decreases-sum-loop-op l = length l.rest
