use Rattle.std.proofs.Common.{ℕ, max, ◌+◌, ◌*◌}
use denote.Param.Weighed.{most}
use Rattle.ct_syntax.proofs.expressions.Expr.TheLaws as expression
use Rattle.ct_syntax.proofs.expressions.Declarator.TheLaws as declarator
use Rattle.ct_show_trees.proofs.expressions.+expressions.Given as goal

-- The depth of the deepest part, and of functions that are passed the same parts the caller before the called.
abbrev ranked : ℕ → ℕ → ℕ
ranked depth rank = 4 * depth + rank

abbrev pub decreases-put_expression : goal.decreases-put_expression
decreases-put_expression l = ranked (goal.size-put_expression l) 0

abbrev pub decreases-put_one : goal.decreases-put_one
decreases-put_one l = ranked (goal.size-put_one l) 1

abbrev pub decreases-put_member : goal.decreases-put_member
decreases-put_member l = ranked (goal.size-put_member l) 1

abbrev pub decreases-put_specs : goal.decreases-put_specs
decreases-put_specs l = ranked (goal.size-put_specs l) 1

abbrev pub decreases-put_spec : goal.decreases-put_spec
decreases-put_spec l = ranked (goal.size-put_spec l) 0

abbrev pub decreases-put_struct : goal.decreases-put_struct
decreases-put_struct l = ranked (goal.size-put_struct l) 1

abbrev pub decreases-put_members : goal.decreases-put_members
decreases-put_members l = ranked (goal.size-put_members l) 0

abbrev pub decreases-put_enum : goal.decreases-put_enum
decreases-put_enum l = ranked (goal.size-put_enum l) 1

abbrev pub decreases-put_enumerator : goal.decreases-put_enumerator
decreases-put_enumerator l = ranked (goal.size-put_enumerator l) 0

abbrev pub decreases-put_declarator : goal.decreases-put_declarator
decreases-put_declarator l = ranked (goal.size-put_declarator l) 0

abbrev pub decreases-put_pointer : goal.decreases-put_pointer
decreases-put_pointer l = ranked (goal.size-put_pointer l) 1

abbrev pub decreases-put_size : goal.decreases-put_size
decreases-put_size l = ranked (goal.size-put_size l) 1

abbrev pub decreases-put_parameters : goal.decreases-put_parameters
decreases-put_parameters l = ranked (goal.size-put_parameters l) 1

abbrev pub decreases-put_parameter : goal.decreases-put_parameter
decreases-put_parameter l = ranked (goal.size-put_parameter l) 0

abbrev pub decreases-put_two : goal.decreases-put_two
decreases-put_two l = ranked (max (goal.size-put_two l) (expression.the_size l.y.now)) 1

abbrev pub decreases-put_three : goal.decreases-put_three
decreases-put_three l = ranked (max (goal.size-put_three l) (max (expression.the_size l.y.now) (expression.the_size l.z.now))) 1

abbrev pub decreases-put_call : goal.decreases-put_call
decreases-put_call l = ranked (max (goal.size-put_call l) (most expression.the_size l.arguments.now)) 2

abbrev pub decreases-put_type : goal.decreases-put_type
decreases-put_type l = ranked (max (goal.size-put_type l) (declarator.the_size l.declarator.now)) 2

abbrev pub decreases-put_cast : goal.decreases-put_cast
decreases-put_cast l = ranked (max (goal.size-put_cast l) (max (declarator.the_size l.declarator.now) (expression.the_size l.operand.now))) 3
