use Rattle.std.proofs.Common.{ℕ, drop, max, ◌+◌, ◌*◌}
use denote.Param.Weighed.{most}
use Rattle.ct_syntax.proofs.expressions.Expr.TheLaws as expression
use Rattle.ct_syntax.proofs.expressions.Declarator.TheLaws as declarator
use Rattle.ct_syntax.specs.Views.{expressions_of, specs_of}
use Rattle.ct_syntax.specs.Lists.{declarators_of, members_of, enumerators_of, parameters_of}
use Rattle.ct_syntax.specs.Spelling.{spell_list, spell_more, spell_specs, spell_members, spell_enumerators, spell_more_enumerators, spell_declarators, spell_more_declarators, spell_parameters, spell_more_parameters}
use Rattle.ct_print.proofs.Chain.{Continues}
use Rattle.ct_print.proofs.expressions.+expressions.Given as goal

abbrev pub invariant-put_list-loop-x : goal.invariant-put_list-loop-x
invariant-put_list-loop-x l =
    Continues l.fn.into.items l.into.items
    (spell_more (expressions_of (drop l.x-index l.others)))
    (spell_list (expressions_of l.fn.xs))

abbrev pub invariant-put_declarators-loop-declarator : goal.invariant-put_declarators-loop-declarator
invariant-put_declarators-loop-declarator l =
    Continues l.fn.into.items l.into.items
    (spell_more_declarators (declarators_of (drop l.declarator-index l.others)))
    (spell_declarators (declarators_of l.fn.declarators))

abbrev pub invariant-put_enumerators-loop-enumerator : goal.invariant-put_enumerators-loop-enumerator
invariant-put_enumerators-loop-enumerator l =
    Continues l.fn.into.items l.into.items
    (spell_more_enumerators (enumerators_of (drop l.enumerator-index l.others)))
    (spell_enumerators (enumerators_of l.fn.enumerators))

abbrev pub invariant-put_members-loop-member : goal.invariant-put_members-loop-member
invariant-put_members-loop-member l =
    Continues l.fn.into.items l.into.items
    (spell_members (members_of (drop l.member-index l.members)))
    (spell_members (members_of l.fn.members))

abbrev pub invariant-put_parameters-loop-parameter : goal.invariant-put_parameters-loop-parameter
invariant-put_parameters-loop-parameter l =
    Continues l.fn.into.items l.into.items
    (spell_more_parameters (parameters_of (drop l.parameter-index l.others)))
    (spell_parameters (parameters_of l.fn.parameters))

abbrev pub invariant-put_specs-loop-spec : goal.invariant-put_specs-loop-spec
invariant-put_specs-loop-spec l =
    Continues l.fn.into.items l.into.items
    (spell_specs (specs_of (drop l.spec-index l.specs)))
    (spell_specs (specs_of l.fn.specs))

-- The depth of the deepest part, and of functions that are passed the same parts the caller before the called.
abbrev ranked : ℕ → ℕ → ℕ
ranked depth rank = 4 * depth + rank

abbrev pub decreases-put_expression : goal.decreases-put_expression
decreases-put_expression l = ranked (goal.size-put_expression l) 0

abbrev pub decreases-put_index : goal.decreases-put_index
decreases-put_index l = ranked (max (goal.size-put_index l) (expression.the_size l.place.now)) 2

abbrev pub decreases-put_call : goal.decreases-put_call
decreases-put_call l = ranked (max (goal.size-put_call l) (most expression.the_size l.arguments.now)) 3

abbrev pub decreases-put_member : goal.decreases-put_member
decreases-put_member l = ranked (goal.size-put_member l) 1

abbrev pub decreases-put_sizeof_value : goal.decreases-put_sizeof_value
decreases-put_sizeof_value l = ranked (goal.size-put_sizeof_value l) 1

abbrev pub decreases-put_sizeof_type : goal.decreases-put_sizeof_type
decreases-put_sizeof_type l = ranked (max (goal.size-put_sizeof_type l) (declarator.the_size l.declarator.now)) 3

abbrev pub decreases-put_cast : goal.decreases-put_cast
decreases-put_cast l = ranked (max (goal.size-put_cast l) (max (declarator.the_size l.declarator.now) (expression.the_size l.operand.now))) 3

abbrev pub decreases-put_type_name : goal.decreases-put_type_name
decreases-put_type_name l = ranked (max (goal.size-put_type_name l) (declarator.the_size l.declarator.now)) 2

abbrev pub decreases-put_conditional : goal.decreases-put_conditional
decreases-put_conditional l = ranked (max (goal.size-put_conditional l) (max (expression.the_size l.yes.now) (expression.the_size l.no.now))) 2

abbrev pub decreases-put_before : goal.decreases-put_before
decreases-put_before l = ranked (goal.size-put_before l) 1

abbrev pub decreases-put_around : goal.decreases-put_around
decreases-put_around l = ranked (max (goal.size-put_around l) (expression.the_size l.right.now)) 2

abbrev pub decreases-put_behind : goal.decreases-put_behind
decreases-put_behind l = ranked (goal.size-put_behind l) 1

abbrev pub decreases-put_enclosed : goal.decreases-put_enclosed
decreases-put_enclosed l = ranked (goal.size-put_enclosed l) 1

abbrev pub decreases-put_list : goal.decreases-put_list
decreases-put_list l = ranked (goal.size-put_list l) 2

abbrev pub decreases-put_specs : goal.decreases-put_specs
decreases-put_specs l = ranked (goal.size-put_specs l) 1

abbrev pub decreases-put_spec : goal.decreases-put_spec
decreases-put_spec l = ranked (goal.size-put_spec l) 0

abbrev pub decreases-put_members : goal.decreases-put_members
decreases-put_members l = ranked (goal.size-put_members l) 0

abbrev pub decreases-put_declarators : goal.decreases-put_declarators
decreases-put_declarators l = ranked (goal.size-put_declarators l) 1

abbrev pub decreases-put_enumerators : goal.decreases-put_enumerators
decreases-put_enumerators l = ranked (goal.size-put_enumerators l) 1

abbrev pub decreases-put_enumerator : goal.decreases-put_enumerator
decreases-put_enumerator l = ranked (goal.size-put_enumerator l) 0

abbrev pub decreases-put_declarator : goal.decreases-put_declarator
decreases-put_declarator l = ranked (goal.size-put_declarator l) 0

abbrev pub decreases-put_size : goal.decreases-put_size
decreases-put_size l = ranked (goal.size-put_size l) 1

abbrev pub decreases-put_parameters : goal.decreases-put_parameters
decreases-put_parameters l = ranked (goal.size-put_parameters l) 1

abbrev pub decreases-put_parameter : goal.decreases-put_parameter
decreases-put_parameter l = ranked (goal.size-put_parameter l) 0
